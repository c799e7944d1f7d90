-- The rows of an organisation's objects, and of an object's fields, are the lists of its tenant.
use Rattle.std.proofs.Common.{◌≡◌, ℕ, ◌-◌, ◌<◌, ◌^◌, Bool, true, cond, IsTrue, Option, Some, None, List, [], ◌++◌, length, refl, sym, ap, ◌∙◌, arith, map, Less, Ordering}
use Rattle.std.specs.Prelude.{◌↔◌, IsSome, nat_eq, slice_get}
use Rattle.std.specs.List.{enumerate_from}
use Rattle.std.specs.Option.{option_and_then, option_eq, option_map}
use Rattle.std.specs.Ordering.{is_lt, nat_cmp, ordering_then}
use Rattle.std.proofs.lemmas.List.{append-nil}
use Rattle.std.proofs.lemmas.Option.{slice_get_within, none-some as none_is}
use Rattle.base_lemmas.proofs.Orders.{nat_cmp-self as tied, nat_cmp-less as less}
use Rattle.base_lemmas.proofs.Options.{option_map_some as map_some}
use Rattle.base_lemmas.proofs.Numbers.{eqb-self as eqb_same}
use Rattle.store_kv.specs.Prefixes.{StartsWith, raised}
use Rattle.store_kv.specs.Tables.{Tables, bytes_cmp, is_between}
use Rattle.store_rows.specs.declared.field.FieldRow.{FieldRow}
use Rattle.store_rows.specs.Forms.{Form, row_bytes}
use Rattle.store_rows.specs.Keys.{FitsKey, Key, Field, Object, spell}
use Rattle.store_rows.specs.Listings.{ListsBetween, ListsTo}
use Rattle.store_rows.specs.Rows.{field_form, object_form}
use Rattle.store_codec.specs.Plain.{number16, number32}
use Rattle.store_codec.specs.Shapes.{Both, FitsIn, Number16, Number32, Number8, Shape, Val, front, front_of, in_order, is_key_shape, spelled}
use Rattle.model.specs.Cases.{in_case}
use Rattle.model.specs.Objects.{object_numbered}
use Rattle.model.specs.Sound.{IsSound}
use Rattle.model.specs.Tenant as model
use Rattle.model.specs.Tenant.{Tenant}
use Rattle.store_abstraction.specs.inner.LayoutRows.{field_rows, object_rows}
use Rattle.store_abstraction.specs.Local.{StandsIn, rows_alone}
use Rattle.store_abstraction.specs.Metadata.{field_of, row_of_object}
use Rattle.store_abstraction.specs.Plan.{FitsPlan, OrgPlan}
use Rattle.store_abstraction.specs.Stands.{org_of_key, row_in}
use Rattle.store_abstraction.proofs.MetadataRows.{field_fits, object_fits, sound_object}
use Rattle.store_abstraction.proofs.Numbered.{AreNumbered, numbered_lists}

-- the laws of keys, as `store_rows` and `store_codec` say
abbrev pub UnderPrefix : Type 0
UnderPrefix = (k : Key) (prefix above : List ℕ) → FitsKey k → raised prefix ≡ Some above → (IsTrue (is_between prefix above (spell k).1) ↔ StartsWith prefix (spell k).1)

abbrev pub PrefixEnds : Type 0
PrefixEnds = (org : ℕ) (rest : List ℕ) → org < 2 ^ 32 - 1 → IsSome (raised (number32 org ++ rest))

abbrev pub ComparesKeys : Type 0
ComparesKeys = (s : Shape) → IsTrue (is_key_shape s) → (a b : Val s) → FitsIn s a → FitsIn s b → bytes_cmp (spelled s a) (spelled s b) ≡ in_order s a b

abbrev pub BeginsSo : Type 0
BeginsSo = (n : ℕ) (s : Shape) (v : Val s) (p : Val (front n s)) → FitsIn s v → FitsIn (front n s) p → (StartsWith (spelled (front n s) p) (spelled s v) ↔ (front_of n s v ≡ p))

pub record KeyLaws : Type 0 where
  pub under : UnderPrefix
  pub ends : PrefixEnds
  pub compares : ComparesKeys
  pub begins : BeginsSo

-- ---- orders of numbers

then_less : (a : ℕ) (o : Ordering) → o ≡ Less → is_lt (ordering_then (nat_cmp a a) o) ≡ true
then_less a o e = ap (λ (x : Ordering). is_lt (ordering_then x o)) (tied a) ∙ ap is_lt e

-- ---- lists

-- where no key of an interval has a row
none_listed : {U : Type 0} (f : Form U) (rows : Key → Option (List ℕ)) (from below : List ℕ)
    → ((k : Key) (row : List ℕ) → FitsKey k → (spell k).0 ≡ f.table → IsTrue (is_between from below (spell k).1) → rows k ≡ Some row → ⊥) → ListsBetween f rows from below []
none_listed f rows from below h = record {
  rises = tt;
  sound = λ u has. absurd has;
  complete = λ k row fits table inside e. absurd (h k row fits table inside e);
}

no_row : {X : Type 0} (o : Option X) (x : X) → o ≡ None → o ≡ Some x → ⊥
no_row o x e g = none_is x (sym e ∙ g)

module _ (laws : KeyLaws) (q : OrgPlan) (m : Tables) (org : ℕ) (lo : org < 2 ^ 32) where
  -- the row at a key of the organisation
  at_own : (t : Option Tenant) (k : Key) → org_of_key k ≡ Some org → rows_alone org q t k ≡ option_and_then (λ u. row_in q u k) t
  at_own t k e = ap (λ (o : Option ℕ). cond (option_eq nat_eq o (Some org)) (option_and_then (λ u. row_in q u k) t) None) e ∙ ap (λ (b : Bool). cond b (option_and_then (λ u. row_in q u k) t) None) (eqb_same org)

  not_none : (rest : List ℕ) → org < 2 ^ 32 - 1 → raised (number32 org ++ rest) ≡ None → ⊥
  not_none rest known none = apart (raised (number32 org ++ rest)) (laws.ends org rest known) none
    where
      apart : (o : Option (List ℕ)) → IsSome o → o ≡ None → ⊥
      apart None h n = absurd cc
      apart (Some x) h n = absurd cc

  -- ---- objects

  object_row : (n : ℕ) (t : Option Tenant) → rows_alone org q t (Object org n) ≡ option_and_then (λ u. row_in q u (Object org n)) t
  object_row n t = at_own t (Object org n) refl

  -- a key in the interval is that of an object of the organisation
  object_under : (above : List ℕ) → raised (number32 org) ≡ Some above → (k : Key) → FitsKey k → (spell k).0 ≡ 2 → IsTrue (is_between (number32 org) above (spell k).1) → (n : ℕ) × (k ≡ Object org n)
  object_under above e (Object o n) fits table inside =
      let starts = (laws.under (Object o n) (number32 org) above fits e).0 inside in
      let same : o ≡ org = (laws.begins 1 (Both Number32 Number16) (o, n) org fits lo).0 starts in
      (n, ap (λ (x : ℕ). Object x n) same)
  object_under above e k fits table inside = absurd (omega (arith, table))

  object_inside : (above : List ℕ) → raised (number32 org) ≡ Some above → (n : ℕ) → n < 2 ^ 16 → is_between (number32 org) above (spelled (Both Number32 Number16) (org, n)) ≡ true
  object_inside above e n small =
      (laws.under (Object org n) (number32 org) above (lo, small) e).1 ((laws.begins 1 (Both Number32 Number16) (org, n) org (lo, small) lo).1 refl)

  -- what a tenant has at the key of an object
  object_there_at : (t : Tenant) (i : ℕ) (o : model.Object) → slice_get t.objects i ≡ Some o → row_in q t (Object org i) ≡ Some (row_bytes object_form (row_of_object org t i o))
  unfolding row_in
  object_there_at t i o there = ap (option_map (λ o. row_bytes object_form (row_of_object org t i o))) there

  object_found_at : (t : Tenant) (i : ℕ) (row : List ℕ) → row_in q t (Object org i) ≡ Some row → (o : model.Object) × (slice_get t.objects i ≡ Some o)
  unfolding row_in
  object_found_at t i row here = map_some (λ o. row_bytes object_form (row_of_object org t i o)) (object_numbered t i) row here

  objects_numbered : (t : Tenant) → IsSound t → (above : List ℕ) → raised (number32 org) ≡ Some above
      → AreNumbered object_form (rows_alone org q (Some t)) (number32 org) above (λ i. (org, i)) (row_of_object org t) t.objects
  objects_numbered t sound above e =
      record {
        keyed = λ i o. refl;
        rises = λ i j lt within.
            let small : j < 2 ^ 16 = omega (arith, within, sound.metadata.few) in
            let smaller : i < 2 ^ 16 = omega (arith, lt, small) in
            ap is_lt (laws.compares (Both Number32 Number16) refl (org, i) (org, j) (lo, smaller) (lo, small)) ∙ then_less org (nat_cmp i j) (less i j lt);
        fits = λ i o there. object_fits org t i o lo sound there;
        inside = λ i o there.
            let within : i < length t.objects = slice_get_within t.objects i o there in
            object_inside above e i (omega (arith, within, sound.metadata.few));
        there = λ i o there. object_row i (Some t) ∙ object_there_at t i o there;
        only = λ k row fits table inside has.
            let it = object_under above e k fits table inside in
            let n = it.0 in
            let here : row_in q t (Object org n) ≡ Some row = sym (object_row n (Some t)) ∙ ap (rows_alone org q (Some t)) (sym it.1) ∙ has in
            let found = object_found_at t n row here in
            (n, found.0, found.1, sym it.1);
      }

  pub objects_listed : (t : Option Tenant) → StandsIn org q m t → ListsTo object_form (rows_alone org q t) (number32 org) (raised (number32 org)) (object_rows org q t)
  unfolding object_rows
  objects_listed t s = by t s (raised (number32 org)) refl
    where
      by : (t : Option Tenant) → StandsIn org q m t → (a : Option (List ℕ)) → raised (number32 org) ≡ a
          → ListsTo object_form (rows_alone org q t) (number32 org) a (in_case t [] (λ u. map (λ (x : ℕ × model.Object). row_of_object org u x.0 x.1) (enumerate_from 0 u.objects)))
      by None s None g = refl
      by None s (Some above) g = none_listed object_form (rows_alone org q None) (number32 org) above (λ k row fits table inside has.
          let it = object_under above g k fits table inside in
          no_row (rows_alone org q None (Object org it.0)) row (object_row it.0 None) (ap (rows_alone org q None) (sym it.1) ∙ has))
      by (Some t) s None g = absurd (not_none [] s.number (ap raised (append-nil (number32 org)) ∙ g))
      by (Some t) s (Some above) g =
          numbered_lists object_form (λ i. (org, i)) (row_of_object org t) (rows_alone org q (Some t)) (number32 org) above t.objects (objects_numbered t s.sound above g)

  -- ---- fields

  module _ (n : ℕ) (small : n < 2 ^ 16) where
    field_row : (i : ℕ) (t : Option Tenant) → rows_alone org q t (Field org n i) ≡ option_and_then (λ u. row_in q u (Field org n i)) t
    field_row i t = at_own t (Field org n i) refl

    -- a key in the interval is that of a field of the object
    field_under : (above : List ℕ) → raised (number32 org ++ number16 n) ≡ Some above → (k : Key) → FitsKey k → (spell k).0 ≡ 3 → IsTrue (is_between (number32 org ++ number16 n) above (spell k).1) → (i : ℕ) × (i < 256) × (k ≡ Field org n i)
    field_under above e (Field o m i) fits table inside =
        let starts = (laws.under (Field o m i) (number32 org ++ number16 n) above fits e).0 inside in
        let same : ◌≡◌ {A = ℕ × ℕ} (o, m) (org, n) = (laws.begins 2 (Both Number32 (Both Number16 Number8)) (o, (m, i)) (org, n) fits (lo, small)).0 starts in
        (i, fits.1.1, ap (λ (x : ℕ × ℕ). Field x.0 x.1 i) same)
    field_under above e k fits table inside = absurd (omega (arith, table))

    field_inside : (above : List ℕ) → raised (number32 org ++ number16 n) ≡ Some above → (i : ℕ) → i < 256 → is_between (number32 org ++ number16 n) above (spelled (Both Number32 (Both Number16 Number8)) (org, (n, i))) ≡ true
    field_inside above e i low =
        (laws.under (Field org n i) (number32 org ++ number16 n) above (lo, (small, low)) e).1 ((laws.begins 2 (Both Number32 (Both Number16 Number8)) (org, (n, i)) (org, n) (lo, (small, low)) (lo, small)).1 refl)

    -- what a tenant has at the key of a field
    field_there_at : (t : Tenant) (i : ℕ) (f : model.Field) → option_and_then (λ o. slice_get o.fields i) (object_numbered t n) ≡ Some f → row_in q t (Field org n i) ≡ Some (row_bytes field_form (field_of org q n i f))
    unfolding row_in
    field_there_at t i f e = ap (option_map (λ f. row_bytes field_form (field_of org q n i f))) e

    field_found_at : (t : Tenant) (i : ℕ) (row : List ℕ) → row_in q t (Field org n i) ≡ Some row → (f : model.Field) × (option_and_then (λ o. slice_get o.fields i) (object_numbered t n) ≡ Some f)
    unfolding row_in
    field_found_at t i row here = map_some (λ f. row_bytes field_form (field_of org q n i f)) (option_and_then (λ o. slice_get o.fields i) (object_numbered t n)) row here

    fields_numbered : (t : Tenant) → IsSound t → FitsPlan q t → (o : model.Object) → object_numbered t n ≡ Some o → (above : List ℕ) → raised (number32 org ++ number16 n) ≡ Some above
        → AreNumbered field_form (rows_alone org q (Some t)) (number32 org ++ number16 n) above (λ i. (org, (n, i))) (field_of org q n) o.fields
    fields_numbered t sound plan o here above e =
        let few = (sound_object t n o sound here).few_fields in
        record {
          keyed = λ i f. refl;
          rises = λ i j lt within.
              let low : j < 256 = omega (arith, within, few) in
              let lower : i < 256 = omega (arith, lt, low) in
              ap is_lt (laws.compares (Both Number32 (Both Number16 Number8)) refl (org, (n, i)) (org, (n, j)) (lo, (small, lower)) (lo, (small, low))) ∙ then_less org (ordering_then (nat_cmp n n) (nat_cmp i j)) (ap (λ (x : Ordering). ordering_then x (nat_cmp i j)) (tied n) ∙ less i j lt);
          fits = λ i f there. field_fits org q t n i o f lo sound plan here there;
          inside = λ i f there.
              let within : i < length o.fields = slice_get_within o.fields i f there in
              field_inside above e i (omega (arith, within, few));
          there = λ i f there. field_row i (Some t) ∙ field_there_at t i f (ap (option_and_then (λ o. slice_get o.fields i)) here ∙ there);
          only = λ k row fits table inside has.
              let it = field_under above e k fits table inside in
              let i = it.0 in
              let there : row_in q t (Field org n i) ≡ Some row = sym (field_row i (Some t)) ∙ ap (rows_alone org q (Some t)) (sym it.2) ∙ has in
              let found = field_found_at t i row there in
              (i, found.0, sym (ap (option_and_then (λ o. slice_get o.fields i)) here) ∙ found.1, sym it.2);
        }

    abbrev rows_in_object : Option model.Object → List FieldRow
    rows_in_object o = in_case o [] (λ o. map (λ (f : ℕ × model.Field). field_of org q n f.0 f.1) (enumerate_from 0 o.fields))

    pub fields_listed : (t : Option Tenant) → StandsIn org q m t → ListsTo field_form (rows_alone org q t) (number32 org ++ number16 n) (raised (number32 org ++ number16 n)) (field_rows org n q t)
    unfolding field_rows
    fields_listed t s = by t s (raised (number32 org ++ number16 n)) refl
      where
        of_object : (t : Tenant) → IsSound t → FitsPlan q t → (above : List ℕ) → raised (number32 org ++ number16 n) ≡ Some above → (o : Option model.Object) → object_numbered t n ≡ o
            → ListsBetween field_form (rows_alone org q (Some t)) (number32 org ++ number16 n) above (rows_in_object o)
        of_object t sound plan above g None here = none_listed field_form (rows_alone org q (Some t)) (number32 org ++ number16 n) above (λ k row fits table inside has.
            let it = field_under above g k fits table inside in
            let there : row_in q t (Field org n it.0) ≡ Some row = sym (field_row it.0 (Some t)) ∙ ap (rows_alone org q (Some t)) (sym it.2) ∙ has in
            let found = field_found_at t it.0 row there in
            no_row (option_and_then (λ o. slice_get o.fields it.0) (object_numbered t n)) found.0 (ap (option_and_then (λ o. slice_get o.fields it.0)) here) found.1)
        of_object t sound plan above g (Some o) here =
            numbered_lists field_form (λ i. (org, (n, i))) (field_of org q n) (rows_alone org q (Some t)) (number32 org ++ number16 n) above o.fields (fields_numbered t sound plan o here above g)

        by : (t : Option Tenant) → StandsIn org q m t → (a : Option (List ℕ)) → raised (number32 org ++ number16 n) ≡ a
            → ListsTo field_form (rows_alone org q t) (number32 org ++ number16 n) a (in_case t [] (λ u. rows_in_object (object_numbered u n)))
        by None s None g = refl
        by None s (Some above) g = none_listed field_form (rows_alone org q None) (number32 org ++ number16 n) above (λ k row fits table inside has.
            let it = field_under above g k fits table inside in
            no_row (rows_alone org q None (Field org n it.0)) row (field_row it.0 None) (ap (rows_alone org q None) (sym it.2) ∙ has))
        by (Some t) s None g = absurd (not_none (number16 n) s.number g)
        by (Some t) s (Some above) g = of_object t s.sound s.plan above g (object_numbered t n) refl
