use Rattle.std.specs.Prelude.{◌∷◌, [], codes}
use Rattle.std.specs.Str.{chars}
use Rattle.model.specs.Members.{text_in}
use Rattle.api_input.specs.declared.types.TypeForm.TheVariants as form
use Rattle.api_input.specs.inner.Kinds.{form_of}
use Rattle.api_input.specs.inner.Said.{said}
use Rattle.api_input.proofs.Binds.{gives_by_table}
use Rattle.api_input.proofs.types.type_form.Goals as goal

pub returns : goal.returns
unfolding chars
returns c =
    gives_by_table form_of
    ((codes "Text", form.Text)
    ∷ (codes "Number", form.Number)
    ∷ (codes "Checkbox", form.Checkbox)
    ∷ (codes "Day", form.Day)
    ∷ (codes "Moment", form.Moment)
    ∷ (codes "Picklist", form.Picklist)
    ∷ (codes "Lookup", form.Lookup)
    ∷ [])
    c.table_entry.result (text_in (said c.args.body.now) (codes "kind")) c.table_entry.ensures
