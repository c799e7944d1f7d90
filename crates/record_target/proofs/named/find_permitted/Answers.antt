use Rattle.std.proofs.Common.{Some, subst, sym}
use Rattle.std.specs.Prelude.{IfOk, Result}
use Rattle.store_kv.specs.Draft.{tables_of}
use Rattle.store_kv.specs.Tables.{Tables}
use Rattle.record_target.specs.Named.{FindsNamed, FindsPermitted, FitsNamed}
use Rattle.record_target.specs.declared.named.Named.{Named}
use Rattle.store_abstraction.specs.Calls.{Calls, Ending, ended, ended_edit}
use Rattle.store_abstraction.specs.declared.fail.EditFail.{EditFail}
use Rattle.store_abstraction.specs.Local.{StandsIn}
use Rattle.record_target.proofs.Naming.{permit_ends, permit_fits, permitted, permitted_passed}
use Rattle.record_target.proofs.named.find_permitted.Goals as goal

pub returns-in_err-named-clause-finds : goal.returns-in_err-named-clause-finds
returns-in_err-named-clause-finds g c told q a s hers =
    let org = c.args.org in
    let name = c.args.name.now in
    let key = c.args.key.now in
    permitted_passed org q a name key c.args.least c.in_err-named.field-0.0 c.from_residual.result c.from_residual.ensures.1
    (subst (FindsNamed org q a name key) c.in_err-named.was (c.find_named.ensures.finds told q a s))

pub returns-clause-finds : goal.returns-clause-finds
returns-clause-finds g c told q a s hers =
    let state = g.K.Keeper.state in
    let org = c.args.org in
    let name = c.args.name.now in
    let key = c.args.key.now in
    let x = c.in_ok-named.named in
    let b = c.find_named.new.draft in
    let tells = c.draft_laws.ensures.both 1 4 c.args.draft.now b c.level_at-level.new.draft c.find_named.ensures.calls.reads c.level_at-level.ensures.calls.reads told in
    let is = subst (FindsNamed org q a name key) c.in_ok-named.was (c.find_named.ensures.finds tells.0 q a s) in
    let stands = subst (λ (m : Tables). StandsIn org q m (Some a.tenant)) (sym tells.2) s in
    subst (FindsPermitted org q a name key c.args.least) (sym c.permit.ensures)
    (permitted org q a name key x is c.args.least (g.R.Rights.whose c.args.rights.now) (tables_of state b) stands hers c.level_at-level.result (c.level_at-level.ensures.finds tells.1))

pub returns-clause-form : goal.returns-clause-form
returns-clause-form g c =
    subst (λ (r : Result Named EditFail). IfOk r (FitsNamed c.args.org)) (sym c.permit.ensures) (permit_fits c.args.org c.in_ok-named.named c.args.least c.level_at-level.result c.in_ok-named.ensures.form)

pub returns-clause-calls : goal.returns-clause-calls
returns-clause-calls g c =
    let state = g.K.Keeper.state in
    let a = c.args.draft.now in
    let b = c.find_named.new.draft in
    let d = c.level_at-level.new.draft in
    let read = c.level_at-level.result in
    subst (λ (r : Result Named EditFail). Calls state 5 (ended_edit r) a d) (sym c.permit.ensures)
    (subst (λ (e : Ending). Calls state 5 e a d) (sym (permit_ends c.in_ok-named.named c.args.least read))
    (c.call_laws.ensures.then 1 4 (ended read) a b d c.in_ok-named.ensures.calls c.level_at-level.ensures.calls))
