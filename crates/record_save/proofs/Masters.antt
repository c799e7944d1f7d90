-- What is asked of a new detail's master by the layout of its object is what the definition of a create says, once the record refers
-- to what is there.
use Rattle.std.proofs.Common.{◌≡◌, ◌∙◌, ℕ, zero, suc, ◌+◌, Bool, true, false, not, ◌&&◌, cond, List, [], ◌∷◌, ◌++◌, map, find, Option, Some, None, refl, sym, ap, arith}
use Rattle.std.specs.List.{enumerate_from, flat_map}
use Rattle.std.specs.Option.{option_and_then}
use Rattle.base_lemmas.proofs.Numbers.{eqb-self as eqb_same}
use Rattle.base_lemmas.proofs.Bools.{by_answer as pick}
use Rattle.record_read.proofs.Standing.{of_object}
use Rattle.formula.specs.Meaning.{value_at}
use Rattle.model.specs.Cases.{in_case}
use Rattle.model.specs.Creates.{empty_record, master_denied}
use Rattle.model.specs.Edits.{bad_owner, bad_reference, bad_target, is_target}
use Rattle.model.specs.Fields.{is_master, ref_of}
use Rattle.model.specs.Levels.{at_least, can_read, level}
use Rattle.model.specs.Objects.{Numbered, is_of, object_numbered, record_at}
use Rattle.model.specs.Paths.{Asked}
use Rattle.model.specs.Relationships.{Reference, named_record, reference_at, references_of}
use Rattle.model.specs.Rights.{denied}
use Rattle.model.specs.Rules.{Rule, first_of, refuse_if}
use Rattle.model.specs.Tenant.{Field}
use Rattle.model.specs.declared.record.Record.{Record}
use Rattle.model.specs.declared.refusal.Refusal.{Refusal}
use Rattle.model.specs.declared.refusal.Refusal.TheVariants.{InsufficientAccess, InvalidReference}
use Rattle.record_constraints.specs.References.{named_at}
use Rattle.store_abstraction.specs.Layouts.{layout_of, place_of}
use Rattle.store_abstraction.specs.Plan.{OrgPlan}
use Rattle.store_abstraction.specs.declared.layout.FieldPlace.{FieldPlace}
use Rattle.base_value.specs.Reading.{empty_value}
use Rattle.base_value.specs.Values.{same_value}
use Rattle.base_value.specs.declared.sharing.Level.TheVariants.{Edit, Nothing}
use Rattle.base_value.specs.declared.value.FieldType.{FieldType}
use Rattle.base_value.specs.declared.value.FieldType.TheVariants as type
use Rattle.base_value.specs.declared.value.Value.TheVariants as value
use Rattle.record_save.specs.inner.Levels.{below_master, below_there}
use Rattle.record_save.proofs.FirstRules.{none_behind, none_first}
use Rattle.record_save.proofs.Stays.{among_own, masters}

-- ---- a record to which nothing is given refers to nothing

abbrev pub RefersToNone : Record → Type 0
RefersToNone r = (position : ℕ) (id : List ℕ) → same_value (value_at r.values position) (value.Ref id) ≡ false

empty_refers : (kind : FieldType) (id : List ℕ) → same_value (empty_value kind) (value.Ref id) ≡ false
empty_refers (type.Text x) id = refl
empty_refers (type.Number d x) id = refl
empty_refers type.Checkbox id = refl
empty_refers type.Day id = refl
empty_refers type.Moment id = refl
empty_refers (type.Picklist vs) id = refl
empty_refers (type.Lookup o d) id = refl
empty_refers (type.Master o) id = refl

empty_at : (fs : List Field) (position : ℕ) (id : List ℕ) → same_value (value_at (map (λ f. empty_value f.kind) fs) position) (value.Ref id) ≡ false
empty_at [] position id = refl
empty_at (f ∷ fs) zero id = empty_refers f.kind id
empty_at (f ∷ fs) (suc position) id = empty_at fs position id

pub none_given : (a : Asked) (o : Numbered) → RefersToNone (empty_record a o)
none_given a o zero id = refl
none_given a o (suc position) id = empty_at o.object.fields position id

-- ---- the master

is_allowed : (stays target : Bool) (r : Refusal) → stays ≡ false → None ≡ refuse_if (not stays && not target) r → target ≡ true
is_allowed true target r e h = absurd cc
is_allowed false true r e h = refl
is_allowed false false r e h = absurd cc

module _ (a : Asked) (old new : Record) (none : RefersToNone old) where
  abbrev on_master : Reference → Rule
  on_master f = in_case (named_record a.tenant f new) None (denied a Edit)

  abbrev asked_below : Option (ℕ × List ℕ) → Rule
  asked_below x = in_case x None (λ m. below_there Edit m.0 m.1 a.tenant a.user)

  -- the level on a record that can be read
  target_level : (object : ℕ) (id : List ℕ) → is_target a object id ≡ true → in_case (record_at a.tenant id) None (denied a Edit) ≡ below_there Edit object id a.tenant a.user
  target_level object id h = by (record_at a.tenant id) h
    where
      by : (x : Option Record) → in_case (of_object object x) false (can_read a.tenant a.user) ≡ true
          → in_case x None (denied a Edit) ≡ refuse_if (not (at_least Edit (in_case (of_object object x) Nothing (level a.tenant a.user)))) InsufficientAccess
      by None h = absurd cc
      by (Some m) h =
          pick (is_of object m)
          (λ b. in_case (cond b (Some m) None) false (can_read a.tenant a.user) ≡ true
          → denied a Edit m ≡ refuse_if (not (at_least Edit (in_case (cond b (Some m) None) Nothing (level a.tenant a.user)))) InsufficientAccess)
          (λ _ _. refl) (λ _ h. absurd cc) h

  one_master : (f : Reference) → None ≡ bad_reference a old new f → on_master f ≡ asked_below (in_case (ref_of (value_at new.values f.position)) None (λ id. Some (f.target, id)))
  one_master f free = by (ref_of (value_at new.values f.position)) free
    where
      by : (id : Option (List ℕ)) → None ≡ in_case id None (λ i. refuse_if (not (same_value (value_at old.values f.position) (value.Ref i)) && not (is_target a f.target i)) (InvalidReference f.field.name))
          → in_case (option_and_then (record_at a.tenant) id) None (denied a Edit) ≡ asked_below (in_case id None (λ i. Some (f.target, i)))
      by None h = refl
      by (Some id) h =
          target_level f.target id
          (is_allowed (same_value (value_at old.values f.position) (value.Ref id)) (is_target a f.target id) (InvalidReference f.field.name) (none f.position id) h)

  -- of the first field that refers to one
  module _ (n : ℕ) (p : OrgPlan) where
    abbrev by_reference : List Reference → Rule
    by_reference fs = in_case (find (masters n) fs) None on_master

    abbrev by_place : List (ℕ × FieldPlace) → Rule
    by_place fs = in_case (find (λ f. is_master f.1.kind) fs) None (λ f. asked_below (named_at f.1.kind f.0 new))

    in_fields : (k j : ℕ) (fs : List Field) → None ≡ first_of (bad_reference a old new) (flat_map (reference_at n) (enumerate_from k fs))
        → by_reference (flat_map (reference_at n) (enumerate_from k fs)) ≡ by_place (enumerate_from k (map (place_of p n) (enumerate_from j fs)))
    in_fields k j [] h = refl
    in_fields k j (f ∷ fs) h = by f.kind h (in_fields (k + 1) (j + 1) fs)
      where
        rest_at : List Reference
        rest_at = flat_map (reference_at n) (enumerate_from (k + 1) fs)

        places : List (ℕ × FieldPlace)
        places = enumerate_from (k + 1) (map (place_of p n) (enumerate_from (j + 1) fs))

        refers : FieldType → ℕ → Reference
        refers kind target = record { object = n; position = k; field = record f { kind = kind }; target = target }

        by : (kind : FieldType) → None ≡ first_of (bad_reference a old new) (reference_at n (k, record f { kind = kind }) ++ rest_at)
            → (None ≡ first_of (bad_reference a old new) rest_at → by_reference rest_at ≡ by_place places)
            → by_reference (reference_at n (k, record f { kind = kind }) ++ rest_at) ≡ by_place ((k, place_of p n (j, record f { kind = kind })) ∷ places)
        by (type.Lookup o d) h rest = rw (eqb_same n) (rest (none_behind (bad_reference a old new (refers (type.Lookup o d) o)) (map (bad_reference a old new) rest_at) h))
        by (type.Master o) h rest = rw (eqb_same n) (one_master (refers (type.Master o) o) (none_first (bad_reference a old new (refers (type.Master o) o)) (map (bad_reference a old new) rest_at) h))
        by (type.Text x) h rest = rest h
        by (type.Number d x) h rest = rest h
        by type.Checkbox h rest = rest h
        by type.Day h rest = rest h
        by type.Moment h rest = rest h
        by (type.Picklist vs) h rest = rest h

  nested : (found : Option (ℕ × FieldPlace)) → asked_below (in_case found None (λ f. named_at f.1.kind f.0 new)) ≡ in_case found None (λ f. asked_below (named_at f.1.kind f.0 new))
  nested None = refl
  nested (Some f) = refl

  -- and so it is as the definition says
  pub master_same : (org : ℕ) (q : OrgPlan) (o : Numbered) → object_numbered a.tenant o.number ≡ Some o.object → None ≡ bad_target a o old new
      → below_master (layout_of org q a.tenant o) new a.tenant a.user ≡ master_denied a o new
  master_same org q o there free =
      let references = first_of (bad_reference a old new) (references_of o) in
      nested (find (λ f. is_master f.1.kind) (enumerate_from 1 (map (place_of q o.number) (enumerate_from 0 o.object.fields))))
      ∙ sym (in_fields o.number q 1 0 o.object.fields (none_first references [] (none_behind (bad_owner a.tenant old new) (references ∷ []) free)))
      ∙ sym (ap (λ (f : Option Reference). in_case f None on_master) (among_own o.number 0 o.number a.tenant.objects o.object (omega arith) there))
