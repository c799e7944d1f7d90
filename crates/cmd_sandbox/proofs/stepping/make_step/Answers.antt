use Rattle.std.proofs.Common.{Ok, ap, refl}
use Rattle.cmd_sandbox.proofs.Keeping.{step_owned}
use Rattle.cmd_sandbox.proofs.Sure.{made_sure, only_memory}
use Rattle.cmd_sandbox.proofs.stepping.make_step.Goals as goal

pub returns-in-Ok : goal.returns-in-Ok
returns-in-Ok c now a made =
    step_owned now c.args.draft.now c.step.new.draft a (c.tenant_laws.ensures.users a.tenant) made
    (made_sure _ _ c.args.draft.now c.step.new.draft _ _ c.in-Ok.ensures.drafts.makes made.sure) c.in-Ok._made
    ((c.in-Ok.ensures.what (tt, refl)).stepped made.plan a.tenant made.stands)
    (λ none. c.draft_laws.ensures.tables 0 c.args.draft.now c.step.new.draft (c.in-Ok.ensures.drafts.same (ap Ok none)) (tt, refl))

pub returns-in-Err : goal.returns-in-Err
returns-in-Err c now a made =
    only_memory c.in-Err.fail (c.in-Err.ensures.drafts.makes.cause.never made.sure) ((c.in-Err.ensures.what (tt, refl)).stepped made.plan a.tenant made.stands)
