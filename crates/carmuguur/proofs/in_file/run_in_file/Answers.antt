use Rattle.carmuguur.proofs.Unopened.{if_some_left, if_some_map, if_some_right, status_unopened}
use Rattle.std.proofs.Common.{map, refl}
use Rattle.std.specs.Prelude.{string_bytes}
use Rattle.commands.specs.Commands.{command_of}
use Rattle.carmuguur.proofs.in_file.run_in_file.Goals as goal

pub returns-in-Ok-clause-promise : goal.returns-in-Ok-clause-promise
returns-in-Ok-clause-promise g c =
    if_some_right (command_of (map string_bytes c.args.words.now)) _ _
    (if_some_map (command_of (map string_bytes c.args.words.now)) _ _
    (λ command it. record { opened = c.in-Ok.keeper; ended = c.run-status.new.keeper; found = c.in-Ok.ensures; promise = it; left = c.close_file.ensures })
    c.run-status.ensures.promise)

pub returns-in-Err-clause-status : goal.returns-in-Err-clause-status
returns-in-Err-clause-status g c =
    status_unopened (command_of (map string_bytes c.args.words.now)) c.ended_unopened.result.status c.requires c.ended_unopened.ensures.status

pub returns-in-Err-clause-promise : goal.returns-in-Err-clause-promise
returns-in-Err-clause-promise g c =
    if_some_left (command_of (map string_bytes c.args.words.now)) _ _
    (λ command. record { status_is = c.ended_unopened.ensures.status; door_same = refl; source_same = refl; sink_same = refl; clock_same = refl })
