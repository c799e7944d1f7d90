use Rattle.std.proofs.Common.{◌++◌, sym, ◌∙◌, ap}
use Rattle.std.specs.Char.{encode_utf8}
use Rattle.std.proofs.lemmas.Str.{chars_past_char}
use Rattle.base_json.proofs.Fails.{no_chars}
use Rattle.base_json.proofs.scan.first.Goals as goal

pub returns-in-Some : goal.returns-in-Some
returns-in-Some c =
    chars_past_char c.args.text.now c.as_str.result.now c.in-Some.c c.utf8.text
    (sym c.chars-rest.ensures.rest ∙ c.in-Some.ensures.steps.0 ∙ ap (λ bs. encode_utf8 c.in-Some.c ++ bs) (sym c.as_str.ensures))

pub returns-in-None : goal.returns-in-None
returns-in-None c = no_chars c.args.text.now _ (sym c.chars-rest.ensures.rest) c.in-None.ensures.steps.0.0
