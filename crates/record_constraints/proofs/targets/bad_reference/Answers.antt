use Rattle.std.proofs.Common.{List, ℕ, arith, refl, subst}
use Rattle.store_kv.specs.Draft.{tables_of}
use Rattle.store_rows.specs.declared.fail.StoreFail.TheVariants.{Memory}
use Rattle.store_abstraction.specs.Calls.{done}
use Rattle.base_value.specs.Causes.{GivesOr}
use Rattle.record_read.proofs.Ended.{made_calls}
use Rattle.record_constraints.specs.inner.Targets.{refused_unless}
use Rattle.record_constraints.proofs.References.{nothing_found, reference_found, refused_is_made, wider}
use Rattle.record_constraints.proofs.targets.bad_reference.Goals as goal

pub returns-in-None-clause-finds : goal.returns-in-None-clause-finds
returns-in-None-clause-finds g c told =
    nothing_found c.args.layout.now (g.R.Rights.whose c.args.rights.now) (tables_of g.K.Keeper.state c.args.draft.now) c.args.position c.args.field.now c.args.old.now c.args.new.now c.looked_for.result c.looked_for.ensures c.in-None.is

pub returns-in-None-clause-calls : goal.returns-in-None-clause-calls
returns-in-None-clause-calls g c =
    let a = c.args.draft.now in
    wider g.K.Keeper.state c.draft_laws.ensures.reads_most 0 4 (omega arith) done a a (c.call_laws.ensures.none done a refl)

pub returns-in-Some-clause-finds : goal.returns-in-Some-clause-finds
returns-in-Some-clause-finds g c told =
    let there = c.is_readable-there.result in
    reference_found c.args.layout.now (g.R.Rights.whose c.args.rights.now) (tables_of g.K.Keeper.state c.args.draft.now) c.args.position c.args.field.now c.args.old.now c.args.new.now c.looked_for.result c.looked_for.ensures
    c.in-Some.object c.in-Some.id c.in-Some.is there (c.is_readable-there.ensures.finds told) c.refused_unless.result
    (subst (λ (name : List ℕ). GivesOr Memory (refused_unless name there) c.refused_unless.result) c.as_str.ensures.characters c.refused_unless.ensures.refused)

pub returns-in-Some-clause-calls : goal.returns-in-Some-clause-calls
returns-in-Some-clause-calls g c =
    let there = c.is_readable-there.result in
    made_calls g.K.Keeper.state 4 c.args.draft.now c.is_readable-there.new.draft there _ c.refused_unless.result (refused_is_made _ there) c.refused_unless.ensures.refused c.refused_unless.ensures.failed c.is_readable-there.ensures.calls
