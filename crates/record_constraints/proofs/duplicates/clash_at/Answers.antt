use Rattle.std.proofs.Common.{◌≡◌, ◌∙◌, List, Option, Some, ap, subst, ℕ}
use Rattle.std.specs.Prelude.{Result, Ok}
use Rattle.base_lemmas.proofs.Lists.{slice_get_as_read as read_there}
use Rattle.store_kv.specs.Draft.{tables_of}
use Rattle.store_kv.specs.Tables.{Tables}
use Rattle.store_rows.specs.declared.fail.StoreFail.{StoreFail}
use Rattle.access_traits.specs.Rights.{Whose}
use Rattle.store_abstraction.specs.Layouts.{FindsOf}
use Rattle.record_constraints.specs.Judged.{FindsRule}
use Rattle.record_constraints.specs.inner.Clashes.{clashing_id, told_clash}
use Rattle.record_constraints.proofs.Clashing.{one_clashes}
use Rattle.record_constraints.proofs.duplicates.clash_at.Goals as goal

pub returns-in-Ok-Some-clause-finds : goal.returns-in-Ok-Some-clause-finds
returns-in-Ok-Some-clause-finds g c told =
    let a = c.args.draft.now in
    let l = c.args.layout.now in
    let whose : Whose = g.R.Rights.whose c.args.rights.now in
    let new = c.args.new.now in
    let number = c.args.number in
    let m = tables_of g.K.Keeper.state a in
    let f = c.index-fields-number.result in
    let id = c.in-Ok-Some.other in
    let at = read_there l.fields c.as_slice-fields.result.now number f c.as_slice-fields.ensures c.requires.field c.index-fields-number.is in
    let tell = c.draft_laws.ensures.both 0 4 a c.clashing_id.new.draft c.told_clash.new.draft c.clashing_id.ensures.calls.reads c.told_clash.ensures.calls.reads told in
    let some : c.clashing_id.result ≡ Ok (Some id) = c.in-Ok-Some.is ∙ ap Ok (c.in-Ok-Some.field-0-is) in
    let found = subst (λ (x : Result (Option (List ℕ)) StoreFail). FindsOf l (clashing_id l new number) m x) some (c.clashing_id.ensures.finds tell.0) in
    one_clashes l whose m new number c.requires.field f at id found c.told_clash.result
    (subst (λ (x : Tables). FindsRule l whose (told_clash l.object f.name id) x c.told_clash.result) tell.2 (c.told_clash.ensures.finds tell.1))
