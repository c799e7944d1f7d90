use Rattle.std.proofs.Common.{◌∙◌, ap}
use Rattle.base_value.specs.Id.{id_in}
use Rattle.api_input.proofs.Identities.{id_appended, text_appended}
use Rattle.api_input.proofs.principals.append_id_or_text.Goals as goal

pub returns-in-Some : goal.returns-in-Some
returns-in-Some c =
    id_appended c.append_characters.result _ _ _ c.in-Some.id c.args.text.now (id_in c.args.text.now) c.append_characters.ensures c.as_bytes.ensures.characters
    (c.in-Some.ensures.characters ∙ ap id_in c.as_str.ensures.characters)

pub returns-in-None : goal.returns-in-None
returns-in-None c =
    text_appended c.push_str.result _ _ _ c.args.text.now (id_in c.args.text.now) c.push_str.ensures.bytes c.as_str-in-None.ensures.bytes
    (c.in-None.ensures.characters ∙ ap id_in c.as_str.ensures.characters)
