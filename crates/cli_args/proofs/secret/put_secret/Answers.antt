use Rattle.std.proofs.Common.{refl, set}
use Rattle.std.specs.Prelude.{string_bytes}
use Rattle.cli_args.proofs.Places.{put_before, put_command, put_line}
use Rattle.cli_args.proofs.secret.put_secret.Goals as goal

pub returns-in-Some-clause-line : goal.returns-in-Some-clause-line
returns-in-Some-clause-line c =
    put_line string_bytes c.args.words.now (set c.args.words.now c.in-Some.place c.args.secret) c.in-Some.place c.args.secret c.in-Some.ensures refl

pub returns-in-Some-clause-command : goal.returns-in-Some-clause-command
returns-in-Some-clause-command c =
    put_command string_bytes c.args.words.now (set c.args.words.now c.in-Some.place c.args.secret) c.in-Some.place c.args.secret c.in-Some.ensures refl

pub returns-in-Some-clause-before : goal.returns-in-Some-clause-before
returns-in-Some-clause-before c =
    put_before string_bytes c.args.words.now (set c.args.words.now c.in-Some.place c.args.secret) c.in-Some.place c.args.secret c.in-Some.ensures refl
