use Rattle.std.proofs.Common.{◌∙◌, Ok, Some, ap, subst, sym}
use Rattle.store_kv.specs.Draft.{tables_of}
use Rattle.store_kv.specs.Tables.{Tables}
use Rattle.model.specs.Callers.{named_by}
use Rattle.people_edit.specs.People.{FindsCaller}
use Rattle.store_abstraction.specs.Local.{StandsIn}
use Rattle.cmd_load.proofs.Owned.{called_target, failed_target, uncalled_target}
use Rattle.cmd_load.proofs.target.find_target.Goals as goal

pub returns-in-Ok-Some-clause-finds : goal.returns-in-Ok-Some-clause-finds
returns-in-Ok-Some-clause-finds g c told =
    let state = g.K.Keeper.state in
    let a = c.args.draft.now in
    let tell = c.draft_laws.ensures.both 0 0 a c.caller_named.new.draft c.target_named.new.draft c.caller_named.ensures.calls.reads c.target_named.ensures.calls.reads told in
    let m = tables_of state a in
    let key = named_by c.args.org.now c.args.user.now c.args.secret.now in
    called_target c.args.object.now m key c.in-Ok-Some.caller c.target_named.result
    (subst (FindsCaller key m) (c.in-Ok-Some.is ∙ ap Ok c.in-Ok-Some.field-0-is) (c.caller_named.ensures.finds tell.0))
    (λ q t its. c.target_named.ensures.finds tell.1 q t (subst (λ (n : Tables). StandsIn c.in-Ok-Some.caller.org q n (Some t)) (sym tell.2) its))

pub returns-in-Ok-None-clause-finds : goal.returns-in-Ok-None-clause-finds
returns-in-Ok-None-clause-finds g c told =
    let m = tables_of g.K.Keeper.state c.args.draft.now in
    let key = named_by c.args.org.now c.args.user.now c.args.secret.now in
    uncalled_target c.args.object.now m key (subst (FindsCaller key m) (c.in-Ok-None.is ∙ ap Ok c.in-Ok-None.field-0-is) (c.caller_named.ensures.finds told))

pub returns-in-Err-clause-finds : goal.returns-in-Err-clause-finds
returns-in-Err-clause-finds g c told =
    let m = tables_of g.K.Keeper.state c.args.draft.now in
    let key = named_by c.args.org.now c.args.user.now c.args.secret.now in
    failed_target c.args.object.now m key c.in-Err.fail (subst (FindsCaller key m) c.in-Err.is (c.caller_named.ensures.finds told))
