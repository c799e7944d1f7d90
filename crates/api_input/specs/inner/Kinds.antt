-- The forms of types in the code as those of the definitions.
use Rattle.std.specs.Prelude.{Option}
use Rattle.base_value.specs.declared.value.FieldType.TheVariants as type
use Rattle.model.specs.Members.{Body}
use Rattle.model.specs.TypeForms.{lookup_type, number_type, picklist_type, simple_type, text_type}
use Rattle.model.specs.declared.metadata_bodies.SpelledType.{SpelledType}
use Rattle.api_input.specs.declared.types.TypeForm.{TypeForm}
use Rattle.api_input.specs.declared.types.TypeForm.TheVariants as form

abbrev pub form_of : TypeForm → Body → Option SpelledType
form_of form.Text = text_type
form_of form.Number = number_type
form_of form.Checkbox = simple_type type.Checkbox
form_of form.Day = simple_type type.Day
form_of form.Moment = simple_type type.Moment
form_of form.Picklist = picklist_type
form_of form.Lookup = lookup_type
