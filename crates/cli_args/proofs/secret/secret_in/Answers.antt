use Rattle.std.proofs.Common.{◌≡◌, ℕ, List, Option, Some, map, subst, sym}
use Rattle.std.specs.Prelude.{IfSome, string_bytes}
use Rattle.cli_args.specs.Secrets.{line_command, secret_of}
use Rattle.cli_args.proofs.Places.{read_at}
use Rattle.cli_args.proofs.secret.secret_in.Goals as goal

pub returns-in-Some : goal.returns-in-Some
returns-in-Some c =
    subst (λ (text : List ℕ). IfSome (line_command (map string_bytes c.args.words.now)) (λ command. ◌≡◌ {A = Option (List ℕ)} (Some text) (secret_of command))) (sym c.as_str.ensures.value)
    (read_at string_bytes c.args.words.now c.in-Some.place c.index-words-place.result c.in-Some.ensures c.index-words-place.is)
