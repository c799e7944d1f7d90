use Rattle.std.proofs.Common.{◌+◌, List, ℕ, Option, Some, subst, sym}
use Rattle.std.specs.Prelude.{Ok}
use Rattle.std.specs.Option.{option_map}
use Rattle.store_kv.specs.Draft.{tables_of}
use Rattle.store_kv.specs.Tables.{Tables}
use Rattle.model.specs.Given.{record_by_value}
use Rattle.store_abstraction.specs.Layouts.{FindsOf}
use Rattle.store_abstraction.specs.Local.{StandsIn}
use Rattle.record_save.proofs.There.{finds_kept}
use Rattle.record_save.specs.upsert.Finding.{FindsKept}
use Rattle.record_save.proofs.upsert.finding.found_record.Goals as goal

pub returns-in-Some-clause-finds : goal.returns-in-Some-clause-finds
returns-in-Some-clause-finds g c told q t s its =
    let state = g.K.Keeper.state in
    let l = c.args.layout.now in
    let k = c.args.key.now in
    let a = c.args.draft.now in
    let tells = c.draft_laws.ensures.both 0 1 a c.unique_find.new.draft c.kept_record.new.draft c.unique_find.ensures.calls.reads c.kept_record.ensures.calls.reads told in
    let found = subst (λ (x : Option (List ℕ)). FindsOf l (λ t. option_map (λ r. r.id) (record_by_value t l.object (k.number + 1) k.value)) (tables_of state a) (Ok x)) c.in-Some.is (c.in_ok-unique_find.ensures.finds tells.0) in
    let kept = c.kept_record.ensures.keeps tells.1 q t (subst (λ (m : Tables). StandsIn l.org q m (Some t)) (sym tells.2) s) its in
    subst (FindsKept q t l k.number k.value) (sym c.there.ensures) (finds_kept q t l k.number k.value s.sound c.in-Some.id c.kept_record.result (found q t s its) kept)
