use Rattle.std.proofs.Common.{◌∙◌, ap}
use Rattle.model.specs.Names.{is_stem}
use Rattle.model.proofs.NameForms.{stem_of_text}
use Rattle.model.proofs.name_forms.is_stem.Goals as goal

pub returns : goal.returns
returns c = c.is_stem_of.ensures ∙ ap (is_stem) c.as_bytes.ensures.value ∙ stem_of_text c.args.name.now c.utf8.name
