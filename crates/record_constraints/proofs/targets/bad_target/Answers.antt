use Rattle.std.proofs.Common.{◌≡◌, List, ap, arith, length, subst, ◌∙◌}
use Rattle.std.specs.Prelude.{◌*◌, Result, Ok, Err}
use Rattle.store_kv.specs.Draft.{tables_of}
use Rattle.store_rows.specs.declared.fail.StoreFail.{StoreFail}
use Rattle.model.specs.Edits.{bad_owner, bad_target}
use Rattle.model.specs.Paths.{Asked}
use Rattle.model.specs.Rules.{Rule}
use Rattle.access_traits.specs.Rights.{Whose}
use Rattle.schema_rules.specs.Objects.{numbered_in}
use Rattle.store_abstraction.specs.Calls.{Calls, done, ended, ended_by}
use Rattle.store_abstraction.specs.declared.layout.FieldPlace.{FieldPlace}
use Rattle.record_constraints.specs.Judged.{FindsRule}
use Rattle.record_constraints.specs.inner.Targets.{bad_from}
use Rattle.record_constraints.proofs.References.{both_called, both_found, failed_first, found_by_all, found_first, wider}
use Rattle.record_constraints.proofs.targets.bad_target.Goals as goal

pub returns-in-Ok-None-clause-finds : goal.returns-in-Ok-None-clause-finds
returns-in-Ok-None-clause-finds g c told =
    let state = g.K.Keeper.state in
    let a = c.args.draft.now in
    let b = c.bad_owner.new.draft in
    let l = c.args.layout.now in
    let old = c.args.old.now in
    let new = c.args.new.now in
    let r = c.bad_references.result in
    let owner : Asked → Rule = λ a. bad_owner a.tenant old new in
    both_found state l (g.R.Rights.whose c.args.rights.now) owner (bad_from l.object l.fields 1 old new) 0 (4 * length c.as_slice.result.now) a b c.bad_references.new.draft c.bad_owner.result r
    (c.in-Ok-None.is ∙ ap Ok c.in-Ok-None.field-0-is) c.bad_owner.ensures.calls c.bad_references.ensures.calls c.draft_laws.ensures.both told (λ told. found_by_all l (g.R.Rights.whose c.args.rights.now) (tables_of state a) (λ t. bad_owner t old new) c.bad_owner.result (c.bad_owner.ensures.finds told))
    (λ told. subst (λ (fs : List FieldPlace). FindsRule l (g.R.Rights.whose c.args.rights.now) (bad_from l.object fs 1 old new) (tables_of state b) r) c.as_slice.ensures (c.bad_references.ensures.finds told))

pub returns-in-Ok-None-clause-calls : goal.returns-in-Ok-None-clause-calls
returns-in-Ok-None-clause-calls g c =
    let l = c.args.layout.now in
    let one : Asked → Rule = λ a. bad_owner a.tenant c.args.old.now c.args.new.now in
    both_called g.K.Keeper.state l (g.R.Rights.whose c.args.rights.now) one one 0 (4 * length c.as_slice.result.now) c.args.draft.now c.bad_owner.new.draft c.bad_references.new.draft c.bad_owner.result c.bad_references.result
    (c.in-Ok-None.is ∙ ap Ok c.in-Ok-None.field-0-is) c.bad_owner.ensures.calls c.bad_references.ensures.calls c.call_laws.ensures.then c.draft_laws.ensures.reads_most (4 * length l.fields)
    (let same : length c.as_slice.result.now ≡ length l.fields = ap length c.as_slice.ensures in omega arith)

pub returns-in-Ok-Some-clause-finds : goal.returns-in-Ok-Some-clause-finds
returns-in-Ok-Some-clause-finds g c told =
    let m = tables_of g.K.Keeper.state c.args.draft.now in
    let l = c.args.layout.now in
    let old = c.args.old.now in
    let new = c.args.new.now in
    let owner : Asked → Rule = λ a. bad_owner a.tenant old new in
    let whose : Whose = g.R.Rights.whose c.args.rights.now in
    found_first l whose m owner (bad_from l.object l.fields 1 old new) c.in-Ok-Some.refusal
    (subst (λ (r : Result Rule StoreFail). FindsRule l whose owner m r) (c.in-Ok-Some.is ∙ ap Ok c.in-Ok-Some.field-0-is)
    (found_by_all l whose m (λ t. bad_owner t old new) c.bad_owner.result (c.bad_owner.ensures.finds told)))

pub returns-in-Ok-Some-clause-calls : goal.returns-in-Ok-Some-clause-calls
returns-in-Ok-Some-clause-calls g c =
    let state = g.K.Keeper.state in
    let a = c.args.draft.now in
    let b = c.bad_owner.new.draft in
    wider state c.draft_laws.ensures.reads_most 0 (4 * length c.args.layout.now.fields) (omega arith) done a b
    (subst (λ (r : Result Rule StoreFail). Calls state 0 (ended r) a b) (c.in-Ok-Some.is ∙ ap Ok c.in-Ok-Some.field-0-is) c.bad_owner.ensures.calls)

pub returns-in-Err-clause-finds : goal.returns-in-Err-clause-finds
returns-in-Err-clause-finds g c told =
    let l = c.args.layout.now in
    let old = c.args.old.now in
    let new = c.args.new.now in
    let whose : Whose = g.R.Rights.whose c.args.rights.now in
    let m = tables_of g.K.Keeper.state c.args.draft.now in
    failed_first l whose m (λ a. bad_owner a.tenant old new) (λ a. bad_target a (numbered_in l) old new) c.in-Err.fail
    (found_by_all l whose m (λ t. bad_owner t old new) (Err c.in-Err.fail) (c.in-Err.ensures.finds told))

pub returns-in-Err-clause-calls : goal.returns-in-Err-clause-calls
returns-in-Err-clause-calls g c =
    wider g.K.Keeper.state c.draft_laws.ensures.reads_most 0 (4 * length c.args.layout.now.fields) (omega arith) (ended_by c.in-Err.fail) c.args.draft.now c.bad_owner.new.draft c.in-Err.ensures.calls
