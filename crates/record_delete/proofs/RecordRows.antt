-- The changes of one record that goes or loses lookups are those of all rows that differ at its id.
use Rattle.std.proofs.Common.{◌≡◌, ◌∙◌, ℕ, cond, IsTrue, List, Option, Some, None, refl, sym, ap, subst}
use Rattle.std.specs.Prelude.{◌==◌}
use Rattle.std.specs.List.{list_all}
use Rattle.std.specs.Option.{option_and_then}
use Rattle.std.proofs.lemmas.Bool.{eqb-true}
use Rattle.base_lemmas.proofs.Bools.{by_answer as pick}
use Rattle.std.proofs.lemmas.Option.{same_Some as some_is}
use Rattle.record_read.proofs.Standing.{Found, IsOf, found_of, layout_is}
use Rattle.store_rows.specs.declared.data.DataRow.{DataRow}
use Rattle.model.specs.declared.record.Record.{Record}
use Rattle.model.specs.Objects.{is_of, object_number, object_numbered, record_at}
use Rattle.model.specs.Sound.{IsSound}
use Rattle.model.specs.Tenant.{Object, Tenant}
use Rattle.record_target.specs.declared.kept.KeptRecord.{KeptRecord}
use Rattle.record_target.specs.Kept.{IsKept}
use Rattle.record_index.specs.Changed.{record_changes}
use Rattle.record_index.specs.Removed.{removed_changes}
use Rattle.record_index.specs.Turned.{turned_changes}
use Rattle.store_abstraction.specs.declared.layout.Layout.{Layout}
use Rattle.store_abstraction.specs.Entries.{data_of, slot_entry}
use Rattle.store_abstraction.specs.Layouts.{IsLayout, layout_of}
use Rattle.store_abstraction.specs.Plan.{FitsPlan, OrgPlan}
use Rattle.store_abstraction.specs.Stands.{kept_at}
use Rattle.record_index.specs.diff.Touched.{changes_at}
use Rattle.base_value.specs.Printing.{is_printable}

-- ---- what record_index says

abbrev pub RowsRemoved : Type 0
RowsRemoved = (org n : ℕ) (p : OrgPlan) (t u : Tenant) (o : Object) (old : Record) → IsSound t → FitsPlan p t
    → IsTrue (is_of n old) → record_at t old.id ≡ Some old → record_at u old.id ≡ None → object_numbered t n ≡ Some o
    → removed_changes (layout_of org p t (record { number = n; object = o })) (data_of org n old (slot_entry p t.job n o old)) old
    ≡ record_changes org n old.id (kept_at p t n old.id) (kept_at p u n old.id)

abbrev pub RowsTurned : Type 0
RowsTurned = (org n : ℕ) (p : OrgPlan) (t u : Tenant) (o : Object) (old new : Record) → u.objects ≡ t.objects → u.job ≡ t.job → new.id ≡ old.id
    → IsTrue (list_all is_printable new.values) → IsTrue (is_of n new) → record_at t old.id ≡ Some old → record_at u new.id ≡ Some new → object_numbered t n ≡ Some o
    → turned_changes (layout_of org p t (record { number = n; object = o })) (data_of org n old (slot_entry p t.job n o old)) old new
    ≡ record_changes org n new.id (kept_at p t n new.id) (kept_at p u n new.id)

-- ---- the record

at_found : (n : ℕ) (x : Option Record) (r : Record) → option_and_then (λ (y : Record). cond (is_of n y) (Some y) None) x ≡ Some r → x ≡ Some r
at_found n None r e = absurd cc
at_found n (Some s) r e = pick (is_of n s) (λ b. cond b (Some s) None ≡ Some r → ◌≡◌ {A = Option Record} (Some s) (Some r)) (λ _ h. h) (λ _ h. absurd cc) e

module _ (q : OrgPlan) (t : Tenant) (l : Layout) (id : List ℕ) (k : KeptRecord) (its : IsLayout q t l) (kept : IsKept q t l id k) where
  abbrev old : Record
  old = k.item

  one : IsOf q t l
  one = layout_is q t l its

  found : Found t l.object id old
  found = found_of t l.object id old (record_at t id) refl kept.is

  before : record_at t old.id ≡ Some old
  before = ap (record_at t) found.same ∙ at_found l.object (record_at t id) old kept.is

  same_object : kept.object ≡ one.object
  same_object = some_is kept.object one.object (sym kept.there ∙ one.there)

  abbrev row : DataRow
  row = data_of l.org l.object old (slot_entry q t.job l.object one.object old)

  row_is : k.row ≡ row
  row_is = kept.row ∙ ap (λ (o : Object). data_of l.org l.object old (slot_entry q t.job l.object o old)) same_object

  number : l.object ≡ object_number id
  number = sym (eqb-true (object_number old.id) l.object found.of) ∙ ap object_number found.same

  -- all rows that differ at the id
  differ : (u : Tenant) → record_changes l.org l.object old.id (kept_at q t l.object old.id) (kept_at q u l.object old.id) ≡ changes_at l.org q q t u id
  differ u =
      ap (λ (i : List ℕ). record_changes l.org l.object i (kept_at q t l.object i) (kept_at q u l.object i)) found.same
      ∙ ap (λ (n : ℕ). record_changes l.org n id (kept_at q t n id) (kept_at q u n id)) number

  pub removed_are : RowsRemoved → IsSound t → FitsPlan q t → (u : Tenant) → record_at u id ≡ None → removed_changes l k.row old ≡ changes_at l.org q q t u id
  removed_are removed sound plan u gone =
      ap (λ (row : DataRow). removed_changes l row old) row_is
      ∙ (ap (λ (x : Layout). removed_changes x row old) (sym one.made)
      ∙ (removed l.org l.object q t u one.object old sound plan found.of before (ap (record_at u) found.same ∙ gone) one.there
      ∙ differ u))

  pub turned_are : RowsTurned → (u : Tenant) (new : Record) → u.objects ≡ t.objects → u.job ≡ t.job → new.id ≡ old.id → IsTrue (list_all is_printable new.values) → record_at u id ≡ Some new
      → turned_changes l k.row old new ≡ changes_at l.org q q t u id
  turned_are turned u new objects job same printable there =
      let of : IsTrue (is_of l.object new) = subst (λ (i : List ℕ). IsTrue (object_number i == l.object)) (sym same) found.of in
      ap (λ (row : DataRow). turned_changes l row old new) row_is
      ∙ (ap (λ (x : Layout). turned_changes x row old new) (sym one.made)
      ∙ (turned l.org l.object q t u one.object old new objects job same printable of before (ap (record_at u) (same ∙ found.same) ∙ there) one.there
      ∙ (ap (λ (i : List ℕ). record_changes l.org l.object i (kept_at q t l.object i) (kept_at q u l.object i)) same
      ∙ differ u)))
