use Rattle.std.proofs.Common.{◌∙◌, ap}
use Rattle.std.specs.Prelude.{codes}
use Rattle.model.specs.Names.{is_stem_with}
use Rattle.model.proofs.NameForms.{child_of_text}
use Rattle.model.proofs.name_forms.is_child_name.Goals as goal

pub returns : goal.returns
returns c = c.is_stem_with.ensures ∙ ap (is_stem_with (codes "__r")) c.as_bytes.ensures.value ∙ child_of_text c.args.name.now c.utf8.name
