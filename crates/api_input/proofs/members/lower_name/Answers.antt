use Rattle.std.proofs.Common.{List, ℕ, ◌∙◌, ◌++◌, ap, sym}
use Rattle.std.specs.Char.{encode_utf8}
use Rattle.std.specs.Str.{encode_utf8_all}
use Rattle.std.specs.String.{string_bytes}
use Rattle.std.proofs.lemmas.Iterator.{YieldsList-from_chars}
use Rattle.std.proofs.lemmas.Iterator.Consumers.{YieldsList-end}
use Rattle.std.proofs.lemmas.List.{map-id}
use Rattle.base_value.specs.Texts.{lower}
use Rattle.api_input.proofs.Folded.{lower_more}
use Rattle.api_input.proofs.members.lower_name.Goals as goal

pub characters-preserved : goal.characters-preserved
characters-preserved c =
    c.in_ok-push.ensures.bytes
    ∙ ap (λ (x : ℕ). string_bytes c.characters.string ++ encode_utf8 x) c.to_ascii_lowercase.ensures.value
    ∙ lower_more (string_bytes c.characters.string) c.characters.yielded c.in-Some.c c.characters.invariant

pub returns : goal.returns
returns c =
    let t = YieldsList-end (YieldsList-from_chars c.as_str.result.now c.as_str.utf8 cc) c.characters.yielded _ c.characters.yielded_by _ _ c.in-None.is c.next.ensures.steps in
    c.characters.invariant ∙ ap (λ (cs : List ℕ). encode_utf8_all (lower cs)) (sym (map-id c.characters.yielded) ∙ t.0 ∙ c.as_str.ensures.characters)
