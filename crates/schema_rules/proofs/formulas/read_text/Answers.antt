use Rattle.std.proofs.Common.{◌∙◌, List, ap, map}
use Rattle.model.specs.FormulaTexts.{formula_fields}
use Rattle.store_abstraction.specs.declared.layout.FieldPlace.{FieldPlace}
use Rattle.schema_rules.specs.Objects.{field_of_place, object_of_layout}
use Rattle.schema_rules.proofs.Texts.{reads_so}
use Rattle.schema_rules.proofs.formulas.read_text.Goals as goal

pub returns-in-Ok : goal.returns-in-Ok
returns-in-Ok c =
    reads_so c.args.criteria (object_of_layout c.args.layout.now) c.in-Ok.fields.items c.args.text.now c.parse.result c.utf8.text
    (c.in-Ok.ensures ∙ ap (λ (fs : List FieldPlace). formula_fields (map field_of_place fs)) c.as_slice.ensures) c.parse.ensures.reads
