use Rattle.std.proofs.Common.{◌≡◌, ◌+◌, ◌++◌, OnOk, None, Option, map, sym, ap, subst, ◌∙◌}
use Rattle.std.specs.Prelude.{slice_get}
use Rattle.std.specs.List.{AllByRecursion}
use Rattle.record_read.specs.Encoding.{field_of_slot}
use Rattle.store_edit.specs.Rows.{spelled}
use Rattle.formula.specs.Meaning.{value_at}
use Rattle.store_rows.specs.Keys.{FitsKey}
use Rattle.record_index.specs.Changed.{slot_changes}
use Rattle.record_index.proofs.Values.{at_is, entry_is}
use Rattle.record_index.proofs.made.put_value.Goals as goal
use Rattle.store_abstraction.specs.Entries.{Entry}
use Rattle.base_value.specs.declared.value.Value.TheVariants as value

pub returns-clause-changes : goal.returns-clause-changes
returns-clause-changes c =
    subst (λ (e : Option Entry). OnOk c.turn_value.result (c.turn_value.new.changes.items ≡ c.args.changes.now.items ++ map spelled (slot_changes c.args.layout.now.org c.args.layout.now.object c.args.item.now.id None e c.args.slot)))
    (sym (entry_is c.args.layout.now c.args.item.now c.args.slot c.in-Some.number c.index-fields-number.result c.in-Some-get.value.now
    (ap (λ fs. field_of_slot fs c.args.slot) (sym c.as_slice-fields.ensures) ∙ sym c.in-Some.ensures.place)
    (ap (λ fs. slice_get fs c.in-Some.number) (sym c.as_slice-fields.ensures) ∙ at_is c.as_slice-fields.result.now c.in-Some.number c.index-fields-number.result c.in-Some.ensures.below c.index-fields-number.is)
    (ap (λ vs. value_at vs (c.in-Some.number + 1)) (sym c.as_slice.ensures) ∙ sym (c.in-Some-get.ensures.lookup.3.1 value.Null))))
    c.turn_value.ensures.changes

pub returns-clause-fits : goal.returns-clause-fits
returns-clause-fits c =
    subst (λ (e : Option Entry). OnOk c.turn_value.result (AllByRecursion (λ x. FitsKey x.0) (slot_changes c.args.layout.now.org c.args.layout.now.object c.args.item.now.id None e c.args.slot)))
    (sym (entry_is c.args.layout.now c.args.item.now c.args.slot c.in-Some.number c.index-fields-number.result c.in-Some-get.value.now
    (ap (λ fs. field_of_slot fs c.args.slot) (sym c.as_slice-fields.ensures) ∙ sym c.in-Some.ensures.place)
    (ap (λ fs. slice_get fs c.in-Some.number) (sym c.as_slice-fields.ensures) ∙ at_is c.as_slice-fields.result.now c.in-Some.number c.index-fields-number.result c.in-Some.ensures.below c.index-fields-number.is)
    (ap (λ vs. value_at vs (c.in-Some.number + 1)) (sym c.as_slice.ensures) ∙ sym (c.in-Some-get.ensures.lookup.3.1 value.Null))))
    c.turn_value.ensures.fits
