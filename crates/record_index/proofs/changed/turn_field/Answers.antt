use Rattle.std.proofs.Common.{◌≡◌, ◌<◌, ◌++◌, OnOk, List, length, map, ap, subst, sym, ◌∙◌}
use Rattle.std.specs.Prelude.{slice_get}
use Rattle.std.specs.List.{AllByRecursion}
use Rattle.store_edit.specs.Rows.{spelled}
use Rattle.store_rows.specs.Keys.{FitsKey}
use Rattle.record_index.proofs.TurnedValues.{field_turns}
use Rattle.record_index.proofs.Values.{at_is}
use Rattle.record_index.proofs.changed.turn_field.Goals as goal
use Rattle.store_abstraction.specs.Changes.{Change}
use Rattle.store_abstraction.specs.declared.layout.FieldPlace.{FieldPlace}

pub returns-clause-changes : goal.returns-clause-changes
returns-clause-changes c =
    subst (λ (cs : List Change). OnOk c.turn_value.result (c.turn_value.new.changes.items ≡ c.args.changes.now.items ++ map spelled cs))
    (field_turns c.args.layout.now c.args.old.now c.args.new.now c.args.slot c.args.number c.index-fields-number.result c.get-before.result c.get-after.result c.requires.place
    (ap (λ fs. slice_get fs c.args.number) (sym c.as_slice-fields.ensures) ∙ at_is c.as_slice-fields.result.now c.args.number c.index-fields-number.result (subst (λ (fs : List FieldPlace). c.args.number < length fs) (sym c.as_slice-fields.ensures) c.requires.below) c.index-fields-number.is)
    c.get-before.ensures.value c.get-after.ensures.value)
    c.turn_value.ensures.changes

pub returns-clause-fits : goal.returns-clause-fits
returns-clause-fits c =
    subst (λ (cs : List Change). OnOk c.turn_value.result (AllByRecursion (λ x. FitsKey x.0) cs))
    (field_turns c.args.layout.now c.args.old.now c.args.new.now c.args.slot c.args.number c.index-fields-number.result c.get-before.result c.get-after.result c.requires.place
    (ap (λ fs. slice_get fs c.args.number) (sym c.as_slice-fields.ensures) ∙ at_is c.as_slice-fields.result.now c.args.number c.index-fields-number.result (subst (λ (fs : List FieldPlace). c.args.number < length fs) (sym c.as_slice-fields.ensures) c.requires.below) c.index-fields-number.is)
    c.get-before.ensures.value c.get-after.ensures.value)
    c.turn_value.ensures.fits
