use Rattle.std.proofs.Common.{◌≡◌, ◌∙◌, Err, List, Option, ℕ, subst, sym}
use Rattle.std.specs.Option.{option_map}
use Rattle.model_reads.specs.Parts.{value_part}
use Rattle.model_reads.specs.Told.{Telling}
use Rattle.record_save.specs.upsert.Finding.{FindsKey, IsKey}
use Rattle.api_read.specs.Tells.{TellsSo}
use Rattle.api_read.proofs.RecordsValued.{key_told, keyless_told}
use Rattle.api_read.proofs.records.by_value.tell_with.Goals as goal

pub returns-in-Ok-found_key-clause-tells : goal.returns-in-Ok-found_key-clause-tells
returns-in-Ok-found_key-clause-tells g c told q a o s hers of =
    let l = c.args.layout.now in
    let field = c.args.field.now in
    let text : option_map (λ t. t.now) c.as_ref.result ≡ value_part c.args.part.now = c.as_ref.ensures.value ∙ c.in-Ok.ensures in
    subst (λ (telling : Telling). TellsSo telling c.tell_key.result)
    (sym (key_told q a o l of field c.args.part.now c.args.pairs.now c.in-Ok-found_key.key (subst (λ (x : Option (List ℕ)). IsKey l field x c.in-Ok-found_key.key) text c.in-Ok-found_key.ensures.finds)))
    (c.tell_key.ensures.tells told q a o s hers of)

pub returns-clause-tells : goal.returns-clause-tells
returns-clause-tells g c told q a o s hers of =
    let text : option_map (λ t. t.now) c.as_ref.result ≡ value_part c.args.part.now = c.as_ref.ensures.value ∙ c.in-Ok.ensures in
    keyless_told q a o c.args.layout.now of c.args.field.now c.args.part.now c.args.pairs.now c.in-Err.fail (subst (λ (x : Option (List ℕ)). FindsKey c.args.layout.now c.args.field.now x (Err c.in-Err.fail)) text c.in-Err.ensures.finds)
