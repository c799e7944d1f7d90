use Rattle.std.proofs.Common.{◌∙◌}
use Rattle.std.specs.String.{string_bytes}
use Rattle.api_input.proofs.Identities.{character_more}
use Rattle.api_input.proofs.principals.append_characters.Goals as goal

pub loop-character-preserved : goal.loop-character-preserved
loop-character-preserved c =
    c.in_ok-push.ensures.bytes
    ∙ character_more (string_bytes c.args.string.now) (string_bytes c.loop-character.string) c.args.characters.now c.loop-character.character-index c.from.result
    c.loop-character.invariant c.from.ensures c.loop-character-test.true
