use Rattle.std.proofs.Common.{sym, subst}
use Rattle.std.specs.Prelude.{IfOk, Result}
use Rattle.store_rows.specs.declared.fail.StoreFail.{StoreFail}
use Rattle.record_target.specs.declared.kept.KeptRecord.{KeptRecord}
use Rattle.record_target.specs.Kept.{FitsKept}
use Rattle.store_abstraction.specs.Calls.{Calls, ended}
use Rattle.record_delete.specs.inner.There.{FindsKept}
use Rattle.record_delete.proofs.There.{calls_there, finds_there, holds_there}
use Rattle.record_delete.proofs.object.record_there.Goals as goal

pub returns-clause-finds : goal.returns-clause-finds
returns-clause-finds g c told q t s its =
    subst (FindsKept q t c.args.layout.now c.args.id.now) (sym c.found_there.ensures)
    (finds_there q t c.args.layout.now c.args.id.now c.kept_record.result (c.kept_record.ensures.keeps told q t s its))

pub returns-clause-form : goal.returns-clause-form
returns-clause-form g c =
    let fits = FitsKept c.args.layout.now in
    subst (λ (r : Result KeptRecord StoreFail). IfOk r fits) (sym c.found_there.ensures)
    (holds_there fits c.kept_record.result c.kept_record.ensures.form)

pub returns-clause-calls : goal.returns-clause-calls
returns-clause-calls g c =
    let state = g.K.Keeper.state in
    subst (λ (r : Result KeptRecord StoreFail). Calls state 1 (ended r) c.args.draft.now c.kept_record.new.draft) (sym c.found_there.ensures)
    (calls_there state c.call_laws.ensures.weaker 1 c.args.draft.now c.kept_record.new.draft c.kept_record.result c.kept_record.ensures.calls)
