use Rattle.std.proofs.Common.{◌∙◌, ap}
use Rattle.std.specs.Prelude.{codes}
use Rattle.model.specs.Names.{is_stem_with}
use Rattle.model.proofs.NameForms.{custom_of_text}
use Rattle.model.proofs.name_forms.is_custom_name.Goals as goal

pub returns : goal.returns
returns c = c.is_stem_with.ensures ∙ ap (is_stem_with (codes "__c")) c.as_bytes.ensures.value ∙ custom_of_text c.args.name.now c.utf8.name
