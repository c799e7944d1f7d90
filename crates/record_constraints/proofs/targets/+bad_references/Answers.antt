use Rattle.std.proofs.Common.{◌*◌, ◌+◌, Some, ap, arith, length, subst, ◌∙◌}
use Rattle.std.specs.Prelude.{Result, Ok}
use Rattle.store_kv.specs.Draft.{tables_of}
use Rattle.store_rows.specs.declared.fail.StoreFail.{StoreFail}
use Rattle.model.specs.Rules.{Rule}
use Rattle.access_traits.specs.Rights.{Whose}
use Rattle.store_abstraction.specs.Calls.{Calls, done, ended, ended_by}
use Rattle.record_constraints.specs.Judged.{FindsRule}
use Rattle.record_constraints.specs.inner.Targets.{bad_at, bad_from}
use Rattle.record_constraints.proofs.References.{both_called, both_found, failed_first, found_first, next_found, wider}
use Rattle.record_constraints.proofs.targets.+bad_references.Goals as goal

pub returns-in-Ok-None-clause-finds : goal.returns-in-Ok-None-clause-finds
returns-in-Ok-None-clause-finds g t c told =
    let a = c.args.draft.now in
    let l = c.args.layout.now in
    let p = c.args.position in
    let old = c.args.old.now in
    let new = c.args.new.now in
    let f = c.in-Some.field.now in
    let fs = c.in-Some.rest.now in
    let r = c.bad_references.result in
    next_found l (g.R.Rights.whose c.args.rights.now) (tables_of g.K.Keeper.state a) p c.args.fields.now f fs old new r c.in-Some.ensures.cases.0
    (both_found g.K.Keeper.state l (g.R.Rights.whose c.args.rights.now) (bad_at l.object f p old new) (bad_from l.object fs (p + 1) old new) 4 (4 * length fs) a c.bad_reference.new.draft c.bad_references.new.draft c.bad_reference.result r
    (c.in-Ok-None.is ∙ ap Ok c.in-Ok-None.field-0-is) c.bad_reference.ensures.calls c.bad_references.ensures.calls c.draft_laws.ensures.both told c.bad_reference.ensures.finds c.bad_references.ensures.finds)

pub returns-in-Ok-None-clause-calls : goal.returns-in-Ok-None-clause-calls
returns-in-Ok-None-clause-calls g t c =
    let l = c.args.layout.now in
    let one = bad_at l.object c.in-Some.field.now c.args.position c.args.old.now c.args.new.now in
    both_called g.K.Keeper.state l (g.R.Rights.whose c.args.rights.now) one one 4 (4 * length c.in-Some.rest.now) c.args.draft.now c.bad_reference.new.draft c.bad_references.new.draft c.bad_reference.result c.bad_references.result
    (c.in-Ok-None.is ∙ ap Ok c.in-Ok-None.field-0-is) c.bad_reference.ensures.calls c.bad_references.ensures.calls c.call_laws.ensures.then c.draft_laws.ensures.reads_most (4 * length c.args.fields.now)
    (omega (arith, c.in-Some.ensures.cases.1))

pub returns-in-Ok-Some-clause-finds : goal.returns-in-Ok-Some-clause-finds
returns-in-Ok-Some-clause-finds g t c told =
    let m = tables_of g.K.Keeper.state c.args.draft.now in
    let l = c.args.layout.now in
    let p = c.args.position in
    let old = c.args.old.now in
    let new = c.args.new.now in
    let f = c.in-Some.field.now in
    let fs = c.in-Some.rest.now in
    let refusal = c.in-Ok-Some.refusal in
    let one = bad_at l.object f p old new in
    let whose : Whose = g.R.Rights.whose c.args.rights.now in
    next_found l whose m p c.args.fields.now f fs old new (Ok (Some refusal)) c.in-Some.ensures.cases.0
    (found_first l whose m one (bad_from l.object fs (p + 1) old new) refusal
    (subst (λ (r : Result Rule StoreFail). FindsRule l whose one m r) (c.in-Ok-Some.is ∙ ap Ok c.in-Ok-Some.field-0-is) (c.bad_reference.ensures.finds told)))

pub returns-in-Ok-Some-clause-calls : goal.returns-in-Ok-Some-clause-calls
returns-in-Ok-Some-clause-calls g t c =
    let state = g.K.Keeper.state in
    let a = c.args.draft.now in
    let b = c.bad_reference.new.draft in
    wider state c.draft_laws.ensures.reads_most 4 (4 * length c.args.fields.now) (omega (arith, c.in-Some.ensures.cases.1)) done a b
    (subst (λ (r : Result Rule StoreFail). Calls state 4 (ended r) a b) (c.in-Ok-Some.is ∙ ap Ok c.in-Ok-Some.field-0-is) c.bad_reference.ensures.calls)

pub returns-in-Err-clause-finds : goal.returns-in-Err-clause-finds
returns-in-Err-clause-finds g t c told =
    let l = c.args.layout.now in
    let p = c.args.position in
    let old = c.args.old.now in
    let new = c.args.new.now in
    failed_first l (g.R.Rights.whose c.args.rights.now) (tables_of g.K.Keeper.state c.args.draft.now) (bad_at l.object c.in-Some.field.now p old new) (bad_from l.object c.args.fields.now p old new) c.in-Err.fail (c.in-Err.ensures.finds told)

pub returns-in-Err-clause-calls : goal.returns-in-Err-clause-calls
returns-in-Err-clause-calls g t c =
    wider g.K.Keeper.state c.draft_laws.ensures.reads_most 4 (4 * length c.args.fields.now) (omega (arith, c.in-Some.ensures.cases.1)) (ended_by c.in-Err.fail) c.args.draft.now c.bad_reference.new.draft c.in-Err.ensures.calls
