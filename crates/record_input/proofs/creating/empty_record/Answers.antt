use Rattle.std.proofs.Common.{◌∙◌, ◌∷◌, IsTrue, List, ap, map, subst, sym, w64}
use Rattle.std.specs.Prelude.{ℤ}
use Rattle.std.proofs.lemmas.Int.{to_z-of_z}
use Rattle.record_input.specs.inner.Fields.{new_record}
use Rattle.base_value.specs.Reading.{empty_value}
use Rattle.base_value.specs.declared.value.Value.{Value}
use Rattle.base_value.specs.declared.value.Value.TheVariants.{Null}
use Rattle.model.specs.declared.record.Record.{Record}
use Rattle.model.specs.SoundRecords.{all_valid, kinds_of}
use Rattle.schema_rules.specs.Objects.{field_of_place, object_of_layout}
use Rattle.store_abstraction.specs.declared.layout.FieldPlace.{FieldPlace}
use Rattle.record_input.proofs.Made.{empty_made}
use Rattle.record_input.proofs.Valid.{empty_valid}
use Rattle.record_input.proofs.creating.empty_record.Goals as goal

pub returns-clause-same : goal.returns-clause-same
returns-clause-same c a user now id =
    c.new_record.ensures
    ∙ ap (λ (x : ℤ). new_record c.args.id c.new_owner.result x c.in_ok-values.values.items) (to_z-of_z w64 c.args.now c.ranges.now)
    ∙ empty_made a c.args.layout.now c.args.id c.args.user c.args.now c.new_owner.result c.in_ok-values.values.items c.as_slice.result.now
    user now id c.new_owner.ensures c.as_slice.ensures c.in_ok-values.ensures

pub returns-clause-valid : goal.returns-clause-valid
returns-clause-valid c =
    subst (λ (r : Record). IsTrue (all_valid (kinds_of (object_of_layout c.args.layout.now)) r.values)) (sym c.new_record.ensures)
    (subst (λ (vs : List Value). IsTrue (all_valid (kinds_of (object_of_layout c.args.layout.now)) vs))
    (sym (c.in_ok-values.ensures ∙ ap (λ (fs : List FieldPlace). Null ∷ map (λ f. empty_value f.kind) (map field_of_place fs)) c.as_slice.ensures))
    (empty_valid c.args.layout.now.fields))
