use Rattle.std.proofs.Common.{Some, refl}
use Rattle.std.specs.Option.{option_and_then, option_map}
use Rattle.retype_request.specs.States.{state_in}
use Rattle.cmd_sandbox.proofs.Sure.{found_so, read_owned, read_same}
use Rattle.cmd_sandbox.proofs.stepping.change.Goals as goal

pub returns-clause-is : goal.returns-clause-is
returns-clause-is c now a made =
    found_so (λ q t. option_and_then (λ u. option_map (state_in u) u.job) t) 1 _ made.plan (Some a.tenant) c.change_state.result (c.change_state.ensures.calls.cause.never made.sure) (c.change_state.ensures.finds (tt, refl)) made.stands

pub returns-clause-kept : goal.returns-clause-kept
returns-clause-kept c now a made = read_owned _ _ c.args.draft.now c.change_state.new.draft now a c.change_state.ensures.calls made

pub returns-clause-same : goal.returns-clause-same
returns-clause-same c = read_same _ _ c.args.draft.now c.change_state.new.draft c.change_state.ensures.calls
