use Rattle.std.proofs.Common.{◌∙◌}
use Rattle.base_lemmas.proofs.Texts.{bytes_eq-chars as same_member}
use Rattle.schema_edit.proofs.members.is_member.Goals as goal

pub returns : goal.returns
returns c =
    c.eq.ensures ∙ same_member c.args.member.now c.as_str.result.now c.args.name.now c.as_str.ensures.bytes c.as_str.ensures.characters c.utf8.name
