-- A new object: the rows that it changes are those of the tenant after it, and tables with them stand for the world with it.
use Rattle.std.proofs.Common.{◌≡◌, ◌∙◌, ℕ, ◌+◌, ◌<◌, ◌≤◌, ◌^◌, Bool, true, false, cond, eqb, IsTrue, List, [], ◌∷◌, ◌++◌, length, Option, Some, None, refl, sym, ap, subst, arith, length-append}
use Rattle.std.specs.Prelude.{IfSome, codes, filter, is_some, map, slice_get}
use Rattle.std.specs.List.{AllByRecursion}
use Rattle.std.specs.Option.{option_and_then, option_map}
use Rattle.std.proofs.lemmas.Bool.{eqb-true, and_parts as both}
use Rattle.std.proofs.lemmas.Option.{same_Some as some_is, none-some as none_is}
use Rattle.base_lemmas.proofs.Numbers.{eqb-self as eqb_same}
use Rattle.base_lemmas.proofs.Lists.{slice_get-length as get_past}
use Rattle.base_lemmas.proofs.Bools.{by_answer as pick}
use Rattle.store_edit.specs.Edits.{Planned, Takes}
use Rattle.store_edit.specs.Rows.{change_to}
use Rattle.store_rows.specs.declared.field.FieldRow.{FieldRow}
use Rattle.store_rows.specs.declared.org.OrgRow.{OrgRow}
use Rattle.store_rows.specs.Forms.{FitsForm, row_bytes}
use Rattle.store_rows.specs.Keys as key
use Rattle.store_rows.specs.Keys.{Key, key_eq}
use Rattle.store_rows.specs.Rows.{field_form, object_form, org_form}
use Rattle.model.specs.declared.limit.Limit.TheVariants as limit
use Rattle.model.specs.declared.metadata_bodies.NewMaster.{NewMaster}
use Rattle.model.specs.declared.metadata_bodies.NewObject.{NewObject}
use Rattle.model.specs.declared.record.Record.{Record}
use Rattle.model.specs.declared.refusal.Refusal.TheVariants.{InvalidType}
use Rattle.model.specs.Cases.{in_case}
use Rattle.model.specs.Known.{Known, known}
use Rattle.model.specs.Metadata.{add_object, child_name_taken, master_field, master_names, new_fields, new_object, no_parent, object_rules, too_deep}
use Rattle.model.specs.Names.{bad_name, is_custom_name, taken}
use Rattle.model.specs.Objects.{Numbered, is_of, object_named, object_number, object_numbered, records_of}
use Rattle.model.specs.Rules.{Rule, first_refusal, in_body_order, over_limit}
use Rattle.model.specs.Sound.{IsSound}
use Rattle.model.specs.SoundRecords.{IsSoundRecord}
use Rattle.model.specs.Tenant.{Field, Object, Tenant}
use Rattle.model.specs.Verdict.{Verdict, accept, done}
use Rattle.model_invariant.specs.Fit.{is_fit_object}
use Rattle.store_abstraction.specs.Changes.{Change, IsOf, is_changed}
use Rattle.store_abstraction.specs.Layouts.{layout_of}
use Rattle.store_abstraction.specs.Local.{IsIn}
use Rattle.store_abstraction.specs.Metadata.{field_of, org_of, row_of_object}
use Rattle.store_abstraction.specs.Plan.{FitsPlan, OrgPlan, slot_count}
use Rattle.store_abstraction.specs.Records.{is_field_key, is_object_key, is_org_key, with_slot}
use Rattle.store_abstraction.specs.Stands.{org_of_key, row_in}
use Rattle.store_abstraction.specs.declared.layout.Layout.{Layout}
use Rattle.schema_edit.specs.Judging.{layouts_in}
use Rattle.schema_edit.specs.declared.edits.objects.NewRows.{NewRows}
use Rattle.schema_edit.specs.inner.NewRows.{FitRows, IsSpelledMaster, IsSpelledObject, changes_of, field_row_changes, first_field, master_row, new_object_row, rows_by}
use Rattle.schema_edit.specs.inner.Relations.{layout_by_name}
use Rattle.schema_edit.proofs.AccessEdits.{own_hierarchy}
use Rattle.schema_edit.proofs.Editing.{beside, other_field, other_object, other_org, unless_none}
use Rattle.schema_edit.proofs.Layouts.{length_is, named_is}
use Rattle.store_edit.proofs.Putting.{put_is_in}

get_last : {X : Type 0} (xs : List X) (x : X) → slice_get (xs ++ x ∷ []) (length xs) ≡ Some x
get_last [] x = refl
get_last (y ∷ xs) x = get_last xs x

-- ---- the verdict

abbrev with_new : Tenant → NewObject → Tenant
with_new t b = record t { objects = t.objects ++ new_object t b ∷ [] }

-- no rule refuses it
abbrev pub IsUnrefused : Tenant → NewObject → Type 0
IsUnrefused t b = None ≡ first_refusal (object_rules t b)

accepted : (t : Tenant) (b : NewObject) → IsUnrefused t b → add_object t b ≡ accept done (with_new t b)
accepted t b e = unless_none (first_refusal (object_rules t b)) t (accept done (with_new t b)) e

third_none : (a b c : Rule) (more : List Rule) → None ≡ first_refusal (a ∷ b ∷ c ∷ more) → c ≡ None
third_none None None None more e = refl
third_none None None (Some x) more e = absurd cc
third_none None (Some x) c more e = absurd cc
third_none (Some x) b c more e = absurd cc

-- a detail's parent is there
parent_there : (t : Tenant) (b : NewObject) (m : NewMaster) → IsUnrefused t b → b.master ≡ Some m → (o : Numbered) × (object_named t m.parent ≡ Some o)
parent_there t b m e is =
    let forms : Rule = in_body_order b.members ((codes "name", bad_name is_custom_name b.name) ∷ in_case b.master [] master_names) in
    let names : Rule = in_body_order b.members ((codes "name", taken (map (λ (o : Object). o.name) t.objects) b.name) ∷ (codes "child", in_case b.master None (child_name_taken t)) ∷ []) in
    let parent : Rule = in_case b.master None (no_parent t) in
    let more : List Rule = over_limit ((limit.Objects, length t.objects + 1) ∷ []) ∷ in_case b.master None (too_deep t) ∷ [] in
    by (object_named t m.parent) refl (sym (ap (λ (x : Option NewMaster). in_case x None (no_parent t)) is) ∙ third_none forms names parent more e)
  where
    by : (x : Option Numbered) → object_named t m.parent ≡ x → ◌≡◌ {A = Rule} (in_case x (Some (InvalidType m.parent)) (λ o. None)) None → (o : Numbered) × (object_named t m.parent ≡ Some o)
    by None there e = absurd cc
    by (Some o) there e = (o, there)

few_fields : (t : Tenant) (master : Option NewMaster) → length (new_fields t master) ≤ 1
few_fields t None = omega arith
few_fields t (Some m) = by (object_named t m.parent)
  where
    by : (x : Option Numbered) → length {A = Field} (in_case x [] (λ o. master_field m o ∷ [])) ≤ 1
    by None = omega arith
    by (Some o) = omega arith

-- ---- what holds of soundness, plans and rows elsewhere

pub record Laws : Type 0 where
  pub sound : (t : Tenant) (b : NewObject) → IsTrue (is_fit_object b) → IsSound t → IsSound (add_object t b).tenant
  pub slots : (p : OrgPlan) (t : Tenant) (o : Object) (s : ℕ) → IsSound t → FitsPlan p t → s < slot_count → length o.fields ≤ 1
      → FitsPlan (with_slot (length t.objects) 0 s p) (record t { objects = t.objects ++ o ∷ [] })
  pub rows : (p : OrgPlan) (t : Tenant) (o : Object) (s : ℕ) (k : Key) → IsSound t → length o.fields ≤ 1 → o.validation_rules ≡ []
      → is_org_key k ≡ false → is_object_key (length t.objects) k ≡ false → is_field_key (length t.objects) 0 k ≡ false
      → row_in (with_slot (length t.objects) 0 s p) (record t { objects = t.objects ++ o ∷ [] }) k ≡ row_in p t k
  pub object_fits : (org : ℕ) (t : Tenant) (n : ℕ) (o : Object) → org < 2 ^ 32 → IsSound t → object_numbered t n ≡ Some o
      → FitsForm object_form (row_of_object org t n o)
  pub field_fits : (org : ℕ) (p : OrgPlan) (t : Tenant) (n i : ℕ) (o : Object) (f : Field) → org < 2 ^ 32 → IsSound t → FitsPlan p t
      → object_numbered t n ≡ Some o → slice_get o.fields i ≡ Some f → FitsForm field_form (field_of org p n i f)

-- ---- the rows

-- no record is of an object that isn't there
none_of : (k : Known) (os : List Object) (rs : List Record) → AllByRecursion (IsSoundRecord k os) rs → filter (is_of (length os)) rs ≡ []
none_of k os [] h = refl
none_of k os (r ∷ rs) h = ap (λ (b : Bool). cond b (r ∷ filter (is_of (length os)) rs) (filter (is_of (length os)) rs)) (other r h.0) ∙ none_of k os rs h.1
  where
    other : (r : Record) → IsSoundRecord k os r → is_of (length os) r ≡ false
    other r h =
        pick (eqb (object_number r.id) (length os)) (λ b. b ≡ false)
        (λ e. absurd (none_is h.object (sym (get_past os) ∙ ap (slice_get os) (sym (eqb-true (object_number r.id) (length os) e)) ∙ h.there)))
        (λ _. refl)

count_is : (f : Field → FieldRow) (fs : List Field) → length fs ≤ 1 → cond (is_some (option_map f (slice_get fs 0))) 1 0 ≡ length fs
count_is f [] h = refl
count_is f (x ∷ []) h = refl
count_is f (x ∷ y ∷ fs) h = absurd (omega (arith, h))

module _ (laws : Laws) (org : ℕ) (small : org < 2 ^ 32) (p : OrgPlan) (t : Tenant) (b : NewObject) (ls : List Layout) (is : ls ≡ layouts_in org p t) (fits : FitsPlan p t) (sound : IsSound t) (fit : IsTrue (is_fit_object b)) (unrefused : IsUnrefused t b) where
  abbrev n : ℕ
  n = length t.objects

  abbrev o : Object
  o = new_object t b

  abbrev u : Tenant
  u = with_new t b

  abbrev q : OrgPlan
  q = with_slot n 0 0 p

  counted : length ls ≡ n
  counted = length_is t ls (org, p, is)

  next_sound : IsSound u
  next_sound = subst IsSound (ap (λ (v : Verdict). v.tenant) (accepted t b unrefused)) (laws.sound t b fit sound)

  few : length o.fields ≤ 1
  few = few_fields t b.master

  next_fits : FitsPlan q u
  next_fits = laws.slots p t o 0 sound fits (omega arith) few

  at_n : object_numbered u n ≡ Some o
  at_n = get_last t.objects o

  few_objects : n + 1 ≤ 100
  few_objects = omega (arith, next_sound.metadata.few, length-append t.objects (o ∷ []))

  slot_is : q.slot n 0 ≡ 0
  slot_is = rw (eqb_same n) refl

  abbrev first_row : Option FieldRow
  first_row = option_map (field_of org q n 0) (slice_get o.fields 0)

  -- the rows of the tenant after it
  abbrev rows_after : NewRows
  rows_after = record { org = org_of org u; field = first_row; object = row_of_object org u n o }

  first_by : (master : Option NewMaster) → first_field org n ls master ≡ option_map (field_of org q n 0) (slice_get (new_fields t master) 0)
  first_by None = refl
  first_by (Some m) =
      ap (option_map (λ (l : Layout). master_row org n l.object m)) (named_is org p t ls is m.parent)
      ∙ by_name (object_named t m.parent)
    where
      by_name : (x : Option Numbered) → option_map (λ (l : Layout). master_row org n l.object m) (option_map (layout_of org p t) x)
          ≡ option_map (field_of org q n 0) (slice_get (in_case x [] (λ o. master_field m o ∷ [])) 0)
      by_name None = refl
      by_name (Some x) = ap (λ (s : ℕ). Some (record (master_row org n x.number m) { slot = s })) (sym slot_is)

  rows_are : rows_by ls (org_of org t) b ≡ rows_after
  rows_are =
      ap (λ (k : ℕ). with_number k (first_field org k ls b.master)) counted
      ∙ ap (with_number n) (first_by b.master)
      ∙ ap (λ (x : ℕ). with_counts x 0 (cond (is_some first_row) 1 0)) (sym (length-append t.objects (o ∷ [])))
      ∙ ap (λ (x : ℕ). with_counts (length u.objects) x (cond (is_some first_row) 1 0)) (sym (ap length (none_of (known t) t.objects t.records sound.records.each)))
      ∙ ap (with_counts (length u.objects) (length (records_of u n))) (count_is (field_of org q n 0) o.fields few)
      ∙ ap with_hierarchy (own_hierarchy b.access b.hierarchy (laws.object_fits org u n o small next_sound at_n).1.1.0)
    where
      with_hierarchy : Bool → NewRows
      with_hierarchy h =
          record {
            org = org_of org u;
            field = first_row;
            object = record (row_of_object org u n o) { access = record { access = b.access; hierarchy = h } };
          }

      with_number : ℕ → Option FieldRow → NewRows
      with_number k f = record { org = record (org_of org t) { objects = k + 1 }; field = f; object = new_object_row org k f b }

      with_counts : (objects records fields : ℕ) → NewRows
      with_counts x y z =
          record {
            org = record (org_of org t) { objects = x };
            field = first_row;
            object = record (new_object_row org n first_row b) { records = y; fields = z };
          }

  -- ---- that they have spellings

  pub spelled : IsSpelledObject ls b
  spelled = record {
    few = omega (arith, counted, few_objects);
    name = (laws.object_fits org u n o small next_sound at_n).1.0;
    master = of_master b.master refl;
  }
    where
      of_master : (x : Option NewMaster) → b.master ≡ x → IfSome x (IsSpelledMaster ls)
      of_master None e = tt
      of_master (Some m) e =
          let (x, there) = parent_there t b m unrefused e in
          let f = master_field m x in
          let at_0 : slice_get o.fields 0 ≡ Some f =
          ap (λ (y : Option NewMaster). slice_get (new_fields t y) 0) e
          ∙ ap (λ (y : Option Numbered). slice_get {X = Field} (in_case y [] (λ o. master_field m o ∷ [])) 0) there in
          let fits_so = laws.field_fits org q u n 0 o f small next_sound next_fits at_n at_0 in
          record {
            field = fits_so.1.0;
            child = fits_so.1.1.1.1.1;
            parent = ap is_some (named_is org p t ls is m.parent) ∙ ap (λ (y : Option Numbered). is_some (option_map (layout_of org p t) y)) there;
          }

  -- ---- that they are the tenant's

  org_row_is : row_in q u (key.Org org) ≡ Some (row_bytes org_form (org_of org u))
  unfolding row_in
  org_row_is = refl

  object_row_is : row_in q u (key.Object org n) ≡ Some (row_bytes object_form (row_of_object org u n o))
  unfolding row_in
  object_row_is = ap (option_map (λ (o : Object). row_bytes object_form (row_of_object org u n o))) at_n

  field_row_is : (f : Field) → slice_get o.fields 0 ≡ Some f → row_in q u (key.Field org n 0) ≡ Some (row_bytes field_form (field_of org q n 0 f))
  unfolding row_in
  field_row_is f e =
      ap (λ (x : Option Object). option_map (λ (f : Field). row_bytes field_form (field_of org q n 0 f)) (option_and_then (λ o. slice_get o.fields 0) x)) at_n
      ∙ ap (option_map (λ (f : Field). row_bytes field_form (field_of org q n 0 f))) e

  own : AllByRecursion (IsOf org q u) (changes_of rows_after)
  own = ((small, refl, org_row_is), of_field (slice_get o.fields 0) refl)
    where
      low : n < 2 ^ 16
      low = omega (arith, few_objects)

      object_own : IsOf org q u (change_to object_form (row_of_object org u n o))
      object_own = ((small, low), refl, object_row_is)

      of_field : (x : Option Field) → slice_get o.fields 0 ≡ x
          → AllByRecursion (IsOf org q u) (field_row_changes (option_map (field_of org q n 0) x) ++ change_to object_form (row_of_object org u n o) ∷ [])
      of_field None e = (object_own, tt)
      of_field (Some f) e = (((small, (low, omega arith)), refl, field_row_is f e), (object_own, tt))

  -- ---- rows elsewhere

  -- where there is no field, neither tenant has a row of it
  no_field : (k : Key) → is_field_key n 0 k ≡ true → slice_get o.fields 0 ≡ None → row_in q u k ≡ row_in p t k
  unfolding row_in
  no_field (key.Field a m g) h e =
      let (is_n, is_0) = both (eqb m n) (eqb g 0) h in
      let field = λ (x : Object). slice_get x.fields g in
      let after : option_and_then field (object_numbered u m) ≡ None =
      ap (λ (i : ℕ). option_and_then field (object_numbered u i)) (eqb-true m n is_n) ∙ ap (option_and_then field) at_n ∙ ap (slice_get o.fields) (eqb-true g 0 is_0) ∙ e in
      let before : option_and_then field (object_numbered t m) ≡ None =
      ap (λ (i : ℕ). option_and_then field (object_numbered t i)) (eqb-true m n is_n) ∙ ap (option_and_then field) (get_past t.objects) in
      ap (option_map (λ (f : Field). row_bytes field_form (field_of a q m g f))) after
      ∙ sym (ap (option_map (λ (f : Field). row_bytes field_form (field_of a p m g f))) before)
  no_field k h e = absurd cc

  elsewhere : (k : Key) → org_of_key k ≡ Some org → is_changed (changes_of rows_after) k ≡ false → row_in q u k ≡ row_in p t k
  elsewhere k of h = by (slice_get o.fields 0) refl h
    where
      last : List Change
      last = change_to object_form (row_of_object org u n o) ∷ []

      same : key_eq k (key.Org org) ≡ false → key_eq k (key.Object org n) ≡ false → is_field_key n 0 k ≡ false → row_in q u k ≡ row_in p t k
      same a b c = laws.rows p t o 0 k sound few refl (other_org org k of a) (other_object org n k of b) c

      by : (x : Option Field) → slice_get o.fields 0 ≡ x
          → is_changed (change_to org_form (org_of org u) ∷ (field_row_changes (option_map (field_of org q n 0) x) ++ last)) k ≡ false → row_in q u k ≡ row_in p t k
      by None e h =
          let (a, h2) = beside (change_to org_form (org_of org u)) last k h in
          let (b, _) = beside (change_to object_form (row_of_object org u n o)) [] k h2 in
          pick (is_field_key n 0 k) (λ _. row_in q u k ≡ row_in p t k) (λ c. no_field k c e) (λ c. same a b c)
      by (Some f) e h =
          let (a, h2) = beside (change_to org_form (org_of org u)) (change_to field_form (field_of org q n 0 f) ∷ last) k h in
          let (c, h3) = beside (change_to field_form (field_of org q n 0 f)) last k h2 in
          let (b, _) = beside (change_to object_form (row_of_object org u n o)) [] k h3 in
          same a b (other_field org n 0 k of c)

-- ---- the edit

-- how the rows are kept with the object: a first field of it is in slot 0
abbrev pub ObjectPlanned : Planned
ObjectPlanned q t next = next ≡ with_slot (length t.objects) 0 0 q

-- these rows take the organisation's to those of the tenant with the object
pub object_takes : Laws → (org : ℕ) → org < 2 ^ 32 → (q : OrgPlan) (t : Tenant) (b : NewObject) (ls : List Layout) (row : OrgRow) (rows : NewRows)
    → FitsPlan q t → IsSound t → IsTrue (is_fit_object b) → IsUnrefused t b → ls ≡ layouts_in org q t → row ≡ org_of org t → rows ≡ rows_by ls row b
    → Takes org q t (add_object t b) done ObjectPlanned (changes_of rows)
object_takes laws org small q t b ls row rows fits sound fit unrefused is row_is rows_is =
    let same : rows ≡ rows_after laws org small q t b ls is fits sound fit unrefused =
    rows_is ∙ ap (λ (r : OrgRow). rows_by ls r b) row_is ∙ rows_are laws org small q t b ls is fits sound fit unrefused in
    let takes : Takes org q t (accept done (with_new t b)) done ObjectPlanned (changes_of (rows_after laws org small q t b ls is fits sound fit unrefused)) = record {
      answer = refl;
      sound = subst IsSound (ap (λ (v : Verdict). v.tenant) (accepted t b unrefused)) (laws.sound t b fit sound);
      plan = with_slot (length t.objects) 0 0 q;
      kept = refl;
      fits = next_fits laws org small q t b ls is fits sound fit unrefused;
      are = own laws org small q t b ls is fits sound fit unrefused;
      rest = elsewhere laws org small q t b ls is fits sound fit unrefused;
    } in
    subst (λ (r : NewRows). Takes org q t (add_object t b) done ObjectPlanned (changes_of r)) (sym same)
    (subst (λ (v : Verdict). Takes org q t v done ObjectPlanned (changes_of (rows_after laws org small q t b ls is fits sound fit unrefused))) (sym (accepted t b unrefused)) takes)

-- whatever the organisation has, they are at its keys
pub object_own : (org : ℕ) (ls : List Layout) (row : OrgRow) (b : NewObject) (rows : NewRows) → FitRows rows → rows ≡ rows_by ls row b → row.org ≡ org → AllByRecursion (IsIn org) (changes_of rows)
object_own org ls row b rows fits is own =
    (put_is_in org_form org rows.org fits.org (ap (λ (r : NewRows). Some r.org.org) is ∙ ap Some own), of_field rows.field fits.field (ap (λ (r : NewRows). r.field) is))
  where
    object_in : IsIn org (change_to object_form rows.object)
    object_in = put_is_in object_form org rows.object fits.object (ap (λ (r : NewRows). Some r.object.org) is ∙ ap Some own)

    number_of : (n : ℕ) (m : Option NewMaster) (f : FieldRow) → first_field row.org n ls m ≡ Some f → f.org ≡ row.org
    number_of n None f e = absurd (none_is f e)
    number_of n (Some m) f e = by (layout_by_name ls m.parent) e
      where
        by : (l : Option Layout) → option_map (λ (l : Layout). master_row row.org n l.object m) l ≡ Some f → f.org ≡ row.org
        by None e = absurd (none_is f e)
        by (Some l) e = ap (λ (x : FieldRow). x.org) (sym (some_is (master_row row.org n l.object m) f e))

    of_field : (f : Option FieldRow) → IfSome f (FitsForm field_form) → f ≡ first_field row.org (length ls) ls b.master → AllByRecursion (IsIn org) (field_row_changes f ++ change_to object_form rows.object ∷ [])
    of_field None h e = (object_in, tt)
    of_field (Some f) h e = (put_is_in field_form org f h (ap Some (number_of (length ls) b.master f (sym e) ∙ own)), (object_in, tt))
