-- The rows of a new field take those of the organisation to those of the tenant with it.
use Rattle.std.proofs.Common.{◌≡◌, ◌∙◌, ℕ, zero, suc, ◌+◌, ◌<◌, ◌≤◌, ◌^◌, true, false, IsTrue, List, [], ◌∷◌, ◌++◌, length, map, Option, Some, None, refl, sym, ap, subst, arith, length-append}
use Rattle.std.specs.Prelude.{Err, Ok, Result, is_some, slice_get}
use Rattle.std.specs.List.{AllByRecursion, enumerate_from}
use Rattle.std.specs.Option.{option_and_then, option_map}
use Rattle.std.proofs.lemmas.Bool.{and_from as both_so}
use Rattle.base_lemmas.proofs.Numbers.{eqb-self as eqb_same}
use Rattle.std.proofs.lemmas.Option.{same_Some as some_is}
use Rattle.store_edit.proofs.Reading.{not_missed}
use Rattle.store_edit.specs.Edits.{FailsBy, Takes}
use Rattle.store_edit.specs.Rows.{change_to}
use Rattle.store_kv.specs.Tables.{Tables}
use Rattle.store_rows.specs.declared.fail.StoreFail.{StoreFail}
use Rattle.store_rows.specs.declared.field.FieldRow.{FieldRow}
use Rattle.store_rows.specs.declared.object.ObjectRow.{ObjectRow}
use Rattle.store_rows.specs.Forms.{FitsForm, row_bytes}
use Rattle.store_rows.specs.Keys as key
use Rattle.store_rows.specs.Keys.{Key}
use Rattle.store_rows.specs.Rows.{field_form, object_form}
use Rattle.model.specs.declared.limit.Limit.TheVariants as limit
use Rattle.model.specs.declared.metadata_bodies.NewField.{NewField}
use Rattle.model.specs.declared.metadata_bodies.SpelledType.{SpelledType}
use Rattle.model.specs.declared.metadata_bodies.SpelledType.TheVariants.{Plain, LookupTo}
use Rattle.model.specs.declared.refusal.Refusal.TheVariants.{InvalidType}
use Rattle.model.specs.Cases.{in_case}
use Rattle.model.specs.Limits.{limit_number}
use Rattle.model.specs.NewFields.{add_field, field_rules, new_field, on_target, with_field}
use Rattle.model.specs.Objects.{Numbered, change_at, object_named, object_numbered, records_of}
use Rattle.model.specs.Rules.{first_refusal}
use Rattle.model.specs.Sound.{IsSound}
use Rattle.model.specs.SoundMetadata.{IsSoundField, IsSoundObject, implies}
use Rattle.model.specs.Tenant.{Field, Job, Object, Tenant}
use Rattle.model.specs.Verdict.{Verdict, accept, done, on_object, refuse}
use Rattle.model_invariant.specs.Fit.{is_fit_field}
use Rattle.store_abstraction.specs.Changes.{IsOf}
use Rattle.store_abstraction.specs.Fails.{of_store}
use Rattle.store_abstraction.specs.Layouts.{layout_of, own_object_row}
use Rattle.store_abstraction.specs.Local.{FindsThere, IsIn, StandsIn}
use Rattle.store_abstraction.specs.Metadata.{field_of, row_of_object}
use Rattle.store_abstraction.specs.Plan.{FitsPlan, OrgPlan, slot_count}
use Rattle.store_abstraction.specs.Records.{has_free, is_field_key, is_free, is_object_key, suits_flags, with_slot}
use Rattle.store_abstraction.specs.Stands.{row_in}
use Rattle.store_abstraction.specs.declared.layout.Layout.{Layout}
use Rattle.base_value.specs.Types.{suits_indexed, suits_unique}
use Rattle.schema_edit.specs.Judging.{layouts_in, verdict_refusal}
use Rattle.schema_edit.specs.Slots.{FieldPlanned, IsLeastFree, IsLeastUnused}
use Rattle.schema_edit.specs.declared.edits.fields.NewFieldRows.{NewFieldRows}
use Rattle.schema_edit.specs.inner.FieldRows.{AreOfOrg, AreRowsFor, FitFieldRows, HasTarget, IsSpelled, changes_of, rows_in}
use Rattle.schema_edit.specs.inner.Relations.{layout_by_name, target_in}
use Rattle.schema_edit.specs.inner.Rows.{field_row}
use Rattle.schema_edit.proofs.Editing.{beside, named_at, other_field, other_object, unrefused}
use Rattle.schema_edit.proofs.JudgedFields.{field_verdict, unnamed}
use Rattle.schema_edit.proofs.Layouts.{named_is}
use Rattle.store_edit.proofs.Putting.{put_is_in, put_is_of}

-- ---- what the layers below say of rows, plans and sound organisations

abbrev pub RowsElsewhere : Type 0
RowsElsewhere = (p : OrgPlan) (t : Tenant) (n : ℕ) (o : Object) (f : Field) (s : ℕ) (k : Key) → IsSound t → object_numbered t n ≡ Some o → IsTrue (is_free p t.job n o s) → IsTrue (suits_flags f)
    → is_object_key n k ≡ false → is_field_key n (length o.fields) k ≡ false → row_in (with_slot n (length o.fields) s p) (with_field n f t) k ≡ row_in p t k

abbrev pub ObjectFits : Type 0
ObjectFits = (org : ℕ) (t : Tenant) (n : ℕ) (o : Object) → org < 2 ^ 32 → IsSound t → object_numbered t n ≡ Some o → FitsForm object_form (row_of_object org t n o)

abbrev pub FieldFits : Type 0
FieldFits = (org : ℕ) (p : OrgPlan) (t : Tenant) (n i : ℕ) (o : Object) (f : Field) → org < 2 ^ 32 → IsSound t → FitsPlan p t → object_numbered t n ≡ Some o → slice_get o.fields i ≡ Some f → FitsForm field_form (field_of org p n i f)

abbrev pub SameCount : Type 0
SameCount = (t : Tenant) (n m : ℕ) (f : Field) → length (records_of (with_field n f t) m) ≡ length (records_of t m)

abbrev pub HasFree : Type 0
HasFree = (p : OrgPlan) (job : Option Job) (n : ℕ) (o : Object) → length o.fields ≤ limit_number limit.FieldsPerObject → (s : ℕ) × (s < slot_count) × IsTrue (is_free p job n o s)

abbrev pub SeesFree : Type 0
SeesFree = (p : OrgPlan) (t : Tenant) (org n : ℕ) (o : Object) (s : ℕ) → has_free (layout_of org p t (record { number = n; object = o })) s ≡ is_free p t.job n o s

abbrev pub PlanFits : Type 0
PlanFits = (p : OrgPlan) (t : Tenant) (n : ℕ) (o : Object) (f : Field) (s : ℕ) → IsSound t → FitsPlan p t → object_numbered t n ≡ Some o → s < slot_count → IsTrue (is_free p t.job n o s) → FitsPlan (with_slot n (length o.fields) s p) (with_field n f t)

abbrev pub FieldSound : Type 0
FieldSound = (t : Tenant) (b : NewField) → IsTrue (is_fit_field b) → IsSound t → IsSound (add_field t b).tenant

-- ---- lists

all_last : {X : Type 0} (P : X → Type 0) (xs : List X) (x : X) → AllByRecursion P (xs ++ x ∷ []) → P x
all_last P [] x h = h.0
all_last P (y ∷ xs) x h = all_last P xs x h.1

get_last : {X : Type 0} (xs : List X) (x : X) → slice_get (xs ++ x ∷ []) (length xs) ≡ Some x
get_last [] x = refl
get_last (y ∷ xs) x = get_last xs x

get_changed : {X : Type 0} (n : ℕ) (change : X → X) (xs : List X) (x : X) → slice_get xs n ≡ Some x → slice_get (change_at n change xs) n ≡ Some (change x)
get_changed n change [] x e = absurd cc
get_changed zero change (y ∷ xs) x e = ap (λ (z : _). Some (change z)) (some_is y x e)
get_changed (suc n) change (y ∷ xs) x e = get_changed n change xs x e

abbrev pair : ℕ × Object → Numbered
pair o = record { number = o.0; object = o.1 }

numbered_all : (P : Numbered → Type 0) (k : ℕ) (os : List Object) (i : ℕ) (o : Object) → AllByRecursion P (map pair (enumerate_from k os)) → slice_get os i ≡ Some o → P (record { number = k + i; object = o })
numbered_all P k [] i o h e = absurd cc
numbered_all P k (x ∷ os) zero o h e =
    subst (λ (n : ℕ). P (record { number = n; object = o })) (omega arith) (subst (λ (y : Object). P (record { number = k; object = y })) (some_is x o e) h.0)
numbered_all P k (x ∷ os) (suc i) o h e =
    subst (λ (n : ℕ). P (record { number = n; object = o })) (omega arith) (numbered_all P (k + 1) os i o h.1 e)

pub sound_object : (t : Tenant) (n : ℕ) (o : Object) → IsSound t → object_numbered t n ≡ Some o → IsSoundObject t.objects (record { number = n; object = o })
sound_object t n o s e =
    subst (λ (k : ℕ). IsSoundObject t.objects (record { number = k; object = o })) (omega arith) (numbered_all (IsSoundObject t.objects) 0 t.objects n o s.metadata.objects e)

-- ---- the organisation with the field

module _ (t : Tenant) (n : ℕ) (o : Object) (f : Field) (there : object_numbered t n ≡ Some o) where
  abbrev next : Tenant
  next = with_field n f t

  abbrev widen : Object → Object
  widen x = record x { fields = x.fields ++ f ∷ [] }

  there_then : object_numbered next n ≡ Some (widen o)
  there_then = get_changed n widen t.objects o there

  module _ (sound : IsSound next) where
    field_sound : IsSoundField (length next.objects) f
    field_sound = all_last (IsSoundField (length next.objects)) o.fields f (sound_object next n (widen o) sound there_then).fields

    few_before : length o.fields < 40
    few_before = omega (arith, (sound_object next n (widen o) sound there_then).few_fields, length-append o.fields (f ∷ []))

    suits : IsTrue (suits_flags f)
    suits = both_so (implies f.unique (suits_unique f.kind)) (implies f.indexed (suits_indexed f.kind)) field_sound.unique field_sound.indexed

    -- ---- the rows that change

    module _ (org : ℕ) (p : OrgPlan) (s : ℕ) (low : org < 2 ^ 32) where
      abbrev place : ℕ
      place = length o.fields

      abbrev plan : OrgPlan
      plan = with_slot n place s p

      abbrev old_row : ObjectRow
      old_row = row_of_object org t n o

      abbrev new_row : ObjectRow
      new_row = record old_row { fields = old_row.fields + 1 }

      counted_row : SameCount → row_of_object org next n (widen o) ≡ new_row
      counted_row same =
          ap (λ (c : ℕ). record (row_of_object org next n (widen o)) { records = c }) (same t n n f)
          ∙ ap (λ (c : ℕ). record old_row { fields = c }) (length-append o.fields (f ∷ []))

      object_there : SameCount → row_in plan next (key.Object org n) ≡ Some (row_bytes object_form new_row)
      unfolding row_in
      object_there same =
          ap (option_map (λ (x : Object). row_bytes object_form (row_of_object org next n x))) there_then
          ∙ ap (λ (r : ObjectRow). Some (row_bytes object_form r)) (counted_row same)

      object_is : SameCount → ObjectFits → IsOf org plan next (change_to object_form new_row)
      object_is same fits = put_is_of object_form org plan next new_row (subst (FitsForm object_form) (counted_row same) (fits org next n (widen o) low sound there_then)) refl (object_there same)

      slot_is : plan.slot n place ≡ s
      slot_is = rw (eqb_same n, eqb_same place) refl

      row_is : field_of org plan n place f ≡ field_row org n place s f
      row_is = ap (λ (q : ℕ). field_row org n place q f) slot_is

      last_field : slice_get (widen o).fields place ≡ Some f
      last_field = get_last o.fields f

      field_there : row_in plan next (key.Field org n place) ≡ Some (row_bytes field_form (field_row org n place s f))
      unfolding row_in
      field_there =
          ap (λ (x : Option Object). option_map (λ (g : Field). row_bytes field_form (field_of org plan n place g)) (option_and_then (λ (y : Object). slice_get y.fields place) x)) there_then
          ∙ ap (option_map (λ (g : Field). row_bytes field_form (field_of org plan n place g))) last_field
          ∙ ap (λ (r : FieldRow). Some (row_bytes field_form r)) row_is

      field_is : FieldFits → FitsPlan plan next → IsOf org plan next (change_to field_form (field_row org n place s f))
      field_is fits good =
          put_is_of field_form org plan next (field_row org n place s f) (subst (FitsForm field_form) row_is (fits org plan next n place (widen o) f low sound good there_then last_field)) refl field_there

      spelled : FieldFits → FitsPlan plan next → IsSpelled f
      spelled fits good =
          let h = (fits org plan next n place (widen o) f low sound good there_then last_field).1 in
          record { name = h.0; kind = h.1.0; child = h.1.1.1.1 }

-- ---- a request that isn't refused

-- its object, the object of its lookup, and what it leaves
pub record IsAccepted (org : ℕ) (p : OrgPlan) (t : Tenant) (b : NewField) (ls : List Layout) : Type 0 where
  pub on : Numbered
  pub target : Option ℕ
  pub is_on : object_named t b.object ≡ Some on
  pub there : object_numbered t on.number ≡ Some on.object
  pub named : layout_by_name ls b.object ≡ Some (layout_of org p t on)
  pub targets : target_in ls b.kind ≡ Ok target
  pub has : HasTarget target b.kind
  pub verdict : add_field t b ≡ accept done (with_field on.number (new_field target b) t)

module _ (org : ℕ) (p : OrgPlan) (t : Tenant) (b : NewField) (ls : List Layout) (are : ls ≡ layouts_in org p t) where
  abbrev left : Numbered → Option ℕ → Verdict
  left o target = accept done (with_field o.number (new_field target b) t)

  to_object : (o : Numbered) (object : List ℕ) (x : Option Numbered) → object_named t object ≡ x → None ≡ verdict_refusal (in_case x (refuse t (InvalidType object)) (λ q. field_verdict t o b (Some q.number)))
      → (target : Option ℕ) × (in_case (layout_by_name ls object) (unnamed object) (λ (l : Layout). Ok (Some l.object)) ≡ Ok target) × IsTrue (is_some target) × (on_object t object (λ q. field_verdict t o b (Some q.number)) ≡ left o target)
  to_object o object None here none = absurd cc
  to_object o object (Some q) here none = (
    Some q.number,
    ap (λ (x : Option Layout). in_case x (unnamed object) (λ (l : Layout). Ok (Some l.object))) (named_is org p t ls are object ∙ ap (option_map (layout_of org p t)) here),
    refl,
    ap (λ (x : Option Numbered). in_case x (refuse t (InvalidType object)) (λ q. field_verdict t o b (Some q.number))) here
        ∙ unrefused (first_refusal (field_rules t o (Some q.number) b)) t (with_field o.number (new_field (Some q.number) b) t) none,
  )

  with_kind : (o : Numbered) (kind : SpelledType) → None ≡ verdict_refusal (on_target t kind (field_verdict t o b))
      → (target : Option ℕ) × (target_in ls kind ≡ Ok target) × HasTarget target kind × (on_target t kind (field_verdict t o b) ≡ left o target)
  with_kind o (Plain kind) none = (None, refl, tt, unrefused (first_refusal (field_rules t o None b)) t (with_field o.number (new_field None b) t) none)
  with_kind o (LookupTo object on_delete child) none = to_object o object (object_named t object) refl none

  of_object : (x : Option Numbered) → object_named t b.object ≡ x → None ≡ verdict_refusal (in_case x (refuse t (InvalidType b.object)) (λ o. on_target t b.kind (field_verdict t o b))) → IsAccepted org p t b ls
  of_object None here none = absurd cc
  of_object (Some o) here none =
      let k = with_kind o b.kind none in
      record {
        on = o;
        target = k.0;
        is_on = here;
        there = named_at t b.object o here;
        named = named_is org p t ls are b.object ∙ ap (option_map (layout_of org p t)) here;
        targets = k.1;
        has = k.2;
        verdict = ap (λ (x : Option Numbered). in_case x (refuse t (InvalidType b.object)) (λ o. on_target t b.kind (field_verdict t o b))) here ∙ k.3;
      }

  accepted : None ≡ verdict_refusal (add_field t b) → IsAccepted org p t b ls
  accepted none = of_object (object_named t b.object) refl none

-- ---- the edit

module _ (fields : FieldSound) (org : ℕ) (q : OrgPlan) (t : Tenant) (b : NewField) (ls : List Layout) (sound : IsSound t) (plan : FitsPlan q t) (fit : IsTrue (is_fit_field b)) (are : ls ≡ layouts_in org q t) (none : None ≡ verdict_refusal (add_field t b)) where
  pub it : IsAccepted org q t b ls
  it = accepted org q t b ls are none

  abbrev n : ℕ
  n = it.on.number

  abbrev o : Object
  o = it.on.object

  abbrev f : Field
  f = new_field it.target b

  sound_next : IsSound (with_field n f t)
  sound_next = subst IsSound (ap (λ (v : Verdict). v.tenant) it.verdict) (fields t b fit sound)

  -- ---- what was read

  abbrev old : ObjectRow
  old = row_of_object org t n o

  layout_is : (l : Layout) → layout_by_name ls b.object ≡ Some l → l ≡ layout_of org q t it.on
  layout_is l named = some_is l (layout_of org q t it.on) (sym named ∙ it.named)

  -- the row by the number in the layout of the object with the name
  its_row : (l : Layout) → layout_by_name ls b.object ≡ Some l → own_object_row org l.object q (Some t) ≡ Some old
  its_row l named = ap (λ (x : Layout). own_object_row org x.object q (Some t)) (layout_is l named) ∙ ap (option_map (row_of_object org t n)) it.there

  pub no_layout : layout_by_name ls b.object ≡ None → ⊥
  no_layout named = absent (sym named ∙ it.named)
    where
      absent : ◌≡◌ {A = Option Layout} None (Some (layout_of org q t it.on)) → ⊥
      absent e = cc

  pub row_read : (m : Tables) (l : Layout) (r : Result ObjectRow StoreFail) (row : ObjectRow) → StandsIn org q m (Some t) → layout_by_name ls b.object ≡ Some l → FindsThere org (own_object_row org l.object) m r → r ≡ Ok row → row ≡ old
  row_read m l r row s named h was = some_is row old (subst (FindsThere org (own_object_row org l.object) m) was h q (Some t) s ∙ its_row l named)

  pub row_missed : (m : Tables) (l : Layout) (v : Verdict) (r : Result ObjectRow StoreFail) (e : StoreFail) → StandsIn org q m (Some t) → layout_by_name ls b.object ≡ Some l → FindsThere org (own_object_row org l.object) m r → r ≡ Err e
      → FailsBy v (of_store e)
  row_missed m l v r e s named h was = not_missed org q m t v r e was s (own_object_row org l.object) old (its_row l named) h

  -- ---- what is changed

  pub field_takes : RowsElsewhere → ObjectFits → FieldFits → SameCount → HasFree → SeesFree → PlanFits → org < 2 ^ 32
      → (l : Layout) (row : ObjectRow) (rows : NewFieldRows) → layout_by_name ls b.object ≡ Some l → row ≡ old
      → ((target : Option ℕ) → target_in ls b.kind ≡ Ok target → AreRowsFor l row (new_field target b) rows)
      → Takes org q t (add_field t b) done (FieldPlanned b) (changes_of rows)
  field_takes elsewhere object_fits field_fits same has sees plans low l row rows named is_old makes =
      let of_row : AreRowsFor l old f rows = subst (λ (x : ObjectRow). AreRowsFor l x f rows) is_old (makes it.target it.targets) in
      let r : AreRowsFor (layout_of org q t it.on) old f rows = subst (λ (x : Layout). AreRowsFor x old f rows) (layout_is l named) of_row in
      let slot = rows.field.slot in
      let few = few_before t n o f it.there sound_next in
      let some = has q t.job n o (omega (arith, few)) in
      let least : IsLeastFree (layout_of org q t it.on) slot = r.least some.0 some.1 (sees q t org n o some.0 ∙ some.2) in
      let free : is_free q t.job n o slot ≡ true = sym (sees q t org n o slot) ∙ least.free in
      let good = plans q t n o f slot sound plan it.there r.below free in
      let counted = change_to object_form (rows_in slot old f).object in
      let field = change_to field_form (rows_in slot old f).field in
      let unused : IsLeastUnused q t it.on slot = record { unused = free; least = λ s below. sym (sees q t org n o s) ∙ least.least s below } in
      let takes : Takes org q t (accept done (with_field n f t)) done (FieldPlanned b) (changes_of (rows_in slot old f)) = record {
        answer = refl;
        sound = sound_next;
        plan = with_slot n (length o.fields) slot q;
        kept = λ on named_on. subst (λ (x : Numbered). (s : ℕ) × IsLeastUnused q t x s × (with_slot n (length o.fields) slot q ≡ with_slot x.number (length x.object.fields) s q)) (some_is it.on on (sym it.is_on ∙ named_on)) (slot, unused, refl);
        fits = good;
        are = (object_is t n o f it.there sound_next org q slot low same object_fits, (field_is t n o f it.there sound_next org q slot low field_fits good, tt));
        rest = λ k of unchanged.
            let first = beside counted (field ∷ []) k unchanged in
            let second = beside field [] k first.1 in
            elsewhere q t n o f slot k sound it.there free (suits t n o f it.there sound_next) (other_object org n k of first.0) (other_field org n (length o.fields) k of second.0);
      } in
      subst (λ (x : NewFieldRows). Takes org q t (add_field t b) done (FieldPlanned b) (changes_of x)) (sym r.made)
      (subst (λ (v : Verdict). Takes org q t v done (FieldPlanned b) (changes_of (rows_in slot old f))) (sym it.verdict) takes)

  -- ---- failures

  abbrev pub field_targets : (target : Option ℕ) × (target_in ls b.kind ≡ Ok target) × HasTarget target b.kind
  field_targets = (it.target, it.targets, it.has)

  pub field_spelled : FieldFits → HasFree → PlanFits → org < 2 ^ 32 → IsSpelled f
  field_spelled field_fits has plans low =
      let some = has q t.job n o (omega (arith, few_before t n o f it.there sound_next)) in
      let good = plans q t n o f some.0 sound plan it.there some.1 some.2 in
      spelled t n o f it.there sound_next org q some.0 low field_fits good

  pub few_counted : (row : ObjectRow) → row ≡ old → row.fields < 255
  few_counted row is = subst (λ (x : ObjectRow). x.fields < 255) (sym is) (omega (arith, few_before t n o f it.there sound_next))

-- whatever the organisation has, the rows are at its keys
pub field_own : (org n : ℕ) (row : ObjectRow) (rows : NewFieldRows) → FitFieldRows rows → AreOfOrg row.org rows → object_form.keyed row ≡ (org, n) → AllByRecursion (IsIn org) (changes_of rows)
field_own org n row rows fits of own = (
  put_is_in object_form org rows.object fits.object (ap Some of.object ∙ ap (λ (k : ℕ × ℕ). Some k.0) own),
  (put_is_in field_form org rows.field fits.field (ap Some of.field ∙ ap (λ (k : ℕ × ℕ). Some k.0) own), tt),
)
