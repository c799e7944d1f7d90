use Rattle.std.proofs.Common.{◌≡◌, inl, refl, List, ◌∷◌, map, IsTrue, None, ap, subst, sym, ◌∙◌}
use Rattle.std.specs.List.{list_all}
use Rattle.model.specs.Fields.{custom_columns, name_column}
use Rattle.model.specs.Membership.{Has}
use Rattle.model.specs.Tenant.{Tenant}
use Rattle.store_abstraction.specs.declared.layout.Layout.{Layout}
use Rattle.store_abstraction.specs.declared.layout.FieldPlace.{FieldPlace}
use Rattle.base_value.specs.declared.value.Value.{Value}
use Rattle.base_value.specs.Types.{is_type}
use Rattle.schema_rules.specs.Objects.{object_of_layout}
use Rattle.record_input.specs.declared.key.AllGiven.{AllGiven}
use Rattle.record_input.specs.Given.{FindsAll, FindsFor, all_given, key_of}
use Rattle.record_input.specs.inner.Fields.{columns_from}
use Rattle.record_input.specs.inner.Found.{FindsAmong}
use Rattle.record_input.specs.inner.Read.{refused_among, value_over}
use Rattle.record_input.proofs.Judging.{error_of_fields, fields_judged, name_stops, owner_stops}
use Rattle.record_input.proofs.Known.{custom_there, of_object}
use Rattle.record_input.proofs.given.read_all.Goals as goal

-- the name, and the custom fields, are columns of the object
module _ (l : Layout) (x : AllGiven) where
  named : (t : Tenant) → FindsAll t (object_of_layout l) x → FindsFor t x.found.now x.body.now name_column
  named t finds = finds name_column (of_object (object_of_layout l) (key_of x) name_column (inl refl))

  custom : (fields : List FieldPlace) → fields ≡ l.fields → (t : Tenant) → FindsAll t (object_of_layout l) x
      → FindsAmong t x.found.now x.body.now (columns_from 1 fields)
  custom fields same t finds c has =
      finds c (of_object (object_of_layout l) (key_of x) c (custom_there (object_of_layout l) c (subst (λ (fs : List FieldPlace). Has (columns_from 1 fs) c) same has)))

pub returns-in-Err : goal.returns-in-Err
returns-in-Err c types t finds =
    name_stops t (object_of_layout c.args.layout.now) (all_given c.args.given.now) c.in-Err.unread (c.in-Err.ensures t (named c.args.layout.now c.args.given.now t finds))

pub returns-in-Err-owner_given : goal.returns-in-Err-owner_given
returns-in-Err-owner_given c types t finds =
    owner_stops t (object_of_layout c.args.layout.now) (all_given c.args.given.now) c.in-Err-owner_given.unread
    (c.in-Ok.ensures t (named c.args.layout.now c.args.given.now t finds)).0 (c.in-Err-owner_given.ensures t finds)

pub returns-in-Ok-values_over : goal.returns-in-Ok-values_over
returns-in-Ok-values_over c types t finds =
    let o = object_of_layout c.args.layout.now in
    let given = all_given c.args.given.now in
    let old = c.args.old.now in
    let name = c.in-Ok.ensures t (named c.args.layout.now c.args.given.now t finds) in
    let owner = c.in-Ok-owner_given.ensures t finds in
    let typed = subst (λ (fs : List FieldPlace). IsTrue (list_all (λ f. is_type f.kind) fs)) (sym c.as_slice.ensures) types in
    let read = c.in-Ok-values_over.ensures typed t (custom c.args.layout.now c.args.given.now c.as_slice.result.now c.as_slice.ensures t finds) in
    let rules = subst (λ (fs : List FieldPlace). refused_among t given (columns_from 1 fs) ≡ None) c.as_slice.ensures read.0 in
    let items : c.from_vec.result ≡ c.in-Ok-values_over.values.items = search in (
      fields_judged t o given name.0 owner.0 ∙ rules,
      record {
        values = items ∙ read.1
            ∙ ap (λ (fs : List FieldPlace). c.in-Ok.name ∷ map (value_over t given old) (columns_from 1 fs)) c.as_slice.ensures
            ∙ ap (λ (v : Value). v ∷ map (value_over t given old) (custom_columns o)) name.1;
        owner = owner.1;
      },
    )

pub returns-in-Err-values_over : goal.returns-in-Err-values_over
returns-in-Err-values_over c types t finds =
    let o = object_of_layout c.args.layout.now in
    let given = all_given c.args.given.now in
    let typed = subst (λ (fs : List FieldPlace). IsTrue (list_all (λ f. is_type f.kind) fs)) (sym c.as_slice.ensures) types in
    error_of_fields t o given c.as_slice.result.now c.in-Err-values_over.unread (ap (λ (fs : List FieldPlace). columns_from 1 fs) c.as_slice.ensures)
    (c.in-Ok.ensures t (named c.args.layout.now c.args.given.now t finds)).0 (c.in-Ok-owner_given.ensures t finds).0
    (c.in-Err-values_over.ensures typed t (custom c.args.layout.now c.args.given.now c.as_slice.result.now c.as_slice.ensures t finds))
