-- The rows of a record that goes, one slot after the other.
use Rattle.std.proofs.Common.{◌≡◌, ◌≢◌, ℕ, suc, ◌+◌, Bool, true, false, cond, eqb, List, [], ◌∷◌, ◌++◌, Option, Some, None, Bor, refl, sym, ap, subst, ◌∙◌, map}
use Rattle.std.specs.Prelude.{slice_get}
use Rattle.std.specs.List.{AllByRecursion, enumerate_from, find}
use Rattle.std.specs.Option.{option_and_then, option_copied, option_map}
use Rattle.std.proofs.lemmas.Bool.{eq-eqb, eqb-true}
use Rattle.std.proofs.lemmas.List.{append-nil as append_nothing}
use Rattle.record_read.specs.Encoding.{field_of_slot}
use Rattle.store_edit.specs.Rows.{spelled}
use Rattle.formula.specs.Meaning.{value_at}
use Rattle.store_kv.specs.declared.keeper.Change.{Change as Spelled}
use Rattle.store_rows.specs.declared.data.DataRow.{DataRow}
use Rattle.store_rows.specs.Keys.{Data, FitsKey}
use Rattle.model.specs.Cases.{in_case}
use Rattle.model.specs.declared.record.Record.{Record}
use Rattle.record_index.specs.Changed.{SameKeys, slot_changes}
use Rattle.record_index.specs.Made.{entry_of, layout_entry}
use Rattle.record_index.specs.Removed.{beside_entry, beside_of, beside_there, beside_value, removed_changes, removed_entry, values_removed}
use Rattle.record_index.proofs.Turned.{all_both, then_these}
use Rattle.record_index.proofs.TurnedValues.{copied_keys, given, given_keys, keys_turn}
use Rattle.record_index.proofs.Values.{AllFit, entry_is, slots_more}
use Rattle.store_abstraction.specs.Changes.{Change}
use Rattle.store_abstraction.specs.Entries.{Entry}
use Rattle.store_abstraction.specs.declared.layout.FieldPlace.{FieldPlace}
use Rattle.store_abstraction.specs.declared.layout.JobPlace.{JobPlace}
use Rattle.store_abstraction.specs.declared.layout.Layout.{Layout}
use Rattle.base_value.specs.declared.value.Value.{Value}

-- ---- what goes is found by the same

no_keys : SameKeys None None
no_keys = record { index = refl; unique = refl; reference = refl }

pub keys_go : (org n : ℕ) (id : List ℕ) (e f : Option Entry) (s : ℕ) → SameKeys e f → slot_changes org n id e None s ≡ slot_changes org n id f None s
keys_go org n id e f s same = keys_turn org n id e f None None s same no_keys

pub field_goes : (l : Layout) (old : Record) (s number : ℕ) (f : FieldPlace) (x : Option (Bor Value))
    → field_of_slot l.fields s ≡ Some number → slice_get l.fields number ≡ Some f → option_copied x ≡ slice_get old.values (number + 1)
    → slot_changes l.org l.object old.id (given f x) None s ≡ slot_changes l.org l.object old.id (layout_entry l old s) None s
field_goes l old s number f x place at is =
    keys_go l.org l.object old.id (given f x) (Some (entry_of f (value_at old.values (number + 1)))) s (given_keys f old.values (number + 1) x is)
    ∙ sym (ap (λ (e : Option Entry). slot_changes l.org l.object old.id e None s) (entry_is l old s number f (value_at old.values (number + 1)) place at refl))

pub beside_goes : (l : Layout) (kept : DataRow) (old : Record) (s : ℕ) (j : JobPlace) (f : FieldPlace) (x : Option (Bor Value))
    → l.job ≡ Some j → j.twin ≡ s → slice_get l.fields j.field ≡ Some f → option_copied x ≡ beside_value j kept old
    → slot_changes l.org l.object old.id (given f x) None s ≡ slot_changes l.org l.object old.id (beside_entry l kept old s) None s
beside_goes l kept old s j f x job twin at is =
    keys_go l.org l.object old.id (given f x) (beside_of j kept old f) s (copied_keys j f x (beside_value j kept old) is)
    ∙ sym (ap (λ (e : Option Entry). slot_changes l.org l.object old.id e None s) here)
  where
    here : beside_entry l kept old s ≡ beside_of j kept old f
    here =
        ap (λ (x : Option JobPlace). in_case x None (λ j. cond (eqb j.twin s) (beside_there l j kept old) None)) job
        ∙ ap (λ b. cond b (beside_there l j kept old) None) (eq-eqb j.twin s twin)
        ∙ ap (option_and_then (beside_of j kept old)) at

-- ---- nothing goes where no change has a value

pub none_goes : (l : Layout) (kept : DataRow) (old : Record) (s : ℕ) → beside_entry l kept old s ≡ None → slot_changes l.org l.object old.id (beside_entry l kept old s) None s ≡ []
none_goes l kept old s none = ap (λ (e : Option Entry). slot_changes l.org l.object old.id e None s) none

pub no_job : (l : Layout) (kept : DataRow) (old : Record) (s : ℕ) → l.job ≡ None → beside_entry l kept old s ≡ None
no_job l kept old s e = ap (λ (x : Option JobPlace). in_case x None (λ j. cond (eqb j.twin s) (beside_there l j kept old) None)) e

pub other_slot : (l : Layout) (kept : DataRow) (old : Record) (s : ℕ) (j : JobPlace) → l.job ≡ Some j → j.twin ≢ s → beside_entry l kept old s ≡ None
other_slot l kept old s j e apart =
    ap (λ (x : Option JobPlace). in_case x None (λ j. cond (eqb j.twin s) (beside_there l j kept old) None)) e
    ∙ ap (λ b. cond b (beside_there l j kept old) None) (differ (eqb j.twin s) refl)
  where
    differ : (b : Bool) → eqb j.twin s ≡ b → eqb j.twin s ≡ false
    differ true h = absurd (apart (eqb-true j.twin s h))
    differ false h = h

pub no_field : (l : Layout) (kept : DataRow) (old : Record) (s : ℕ) (j : JobPlace) → l.job ≡ Some j → slice_get l.fields j.field ≡ None → beside_entry l kept old s ≡ None
no_field l kept old s j e none =
    ap (λ (x : Option JobPlace). in_case x None (λ j. cond (eqb j.twin s) (beside_there l j kept old) None)) e
    ∙ ap (λ (x : Option FieldPlace). cond (eqb j.twin s) (option_and_then (beside_of j kept old) x) None) none
    ∙ nothing (eqb j.twin s)
  where
    nothing : (b : Bool) → cond {A = Option Entry} b None None ≡ None
    nothing true = refl
    nothing false = refl

-- ---- which entry it is

abbrev found_in : Layout → ℕ → Option (ℕ × FieldPlace)
found_in l s = find (λ (f : ℕ × FieldPlace). eqb f.1.slot s) (enumerate_from 0 l.fields)

abbrev entry_in : Record → ℕ × FieldPlace → Entry
entry_in r f = entry_of f.1 (value_at r.values (suc f.0))

is_field : (l : Layout) (kept : DataRow) (r : Record) (s number : ℕ) → field_of_slot l.fields s ≡ Some number → removed_entry l kept r s ≡ layout_entry l r s
is_field l kept r s number e = by (found_in l s) e
  where
    by : (x : Option (ℕ × FieldPlace)) → option_map (λ (f : ℕ × FieldPlace). f.0) x ≡ Some number → in_case (option_map (entry_in r) x) (beside_entry l kept r s) Some ≡ option_map (entry_in r) x
    by None h = absurd cc
    by (Some f) h = refl

is_beside : (l : Layout) (kept : DataRow) (r : Record) (s : ℕ) → field_of_slot l.fields s ≡ None → removed_entry l kept r s ≡ beside_entry l kept r s
is_beside l kept r s e = by (found_in l s) e
  where
    by : (x : Option (ℕ × FieldPlace)) → option_map (λ (f : ℕ × FieldPlace). f.0) x ≡ None → in_case (option_map (entry_in r) x) (beside_entry l kept r s) Some ≡ beside_entry l kept r s
    by None h = refl
    by (Some f) h = absurd cc

pub go_is_field : (l : Layout) (kept : DataRow) (old : Record) (s number : ℕ) → field_of_slot l.fields s ≡ Some number
    → slot_changes l.org l.object old.id (layout_entry l old s) None s ≡ slot_changes l.org l.object old.id (removed_entry l kept old s) None s
go_is_field l kept old s number e = sym (ap (λ (x : Option Entry). slot_changes l.org l.object old.id x None s) (is_field l kept old s number e))

pub go_is_beside : (l : Layout) (kept : DataRow) (old : Record) (s : ℕ) → field_of_slot l.fields s ≡ None
    → slot_changes l.org l.object old.id (beside_entry l kept old s) None s ≡ slot_changes l.org l.object old.id (removed_entry l kept old s) None s
go_is_beside l kept old s e = sym (ap (λ (x : Option Entry). slot_changes l.org l.object old.id x None s) (is_beside l kept old s e))

-- ---- one slot after the other

abbrev of_slot : Layout → DataRow → Record → ℕ → List Change
of_slot l kept old s = slot_changes l.org l.object old.id (removed_entry l kept old s) None s

pub removed_more : (l : Layout) (kept : DataRow) (old : Record) (slots : ℕ)
    → values_removed l kept old (slots + 1) ≡ values_removed l kept old slots ++ slot_changes l.org l.object old.id (removed_entry l kept old slots) None slots
unfolding values_removed
removed_more l kept old slots = slots_more (of_slot l kept old) slots

pub removed_go_on : (l : Layout) (kept : DataRow) (old : Record) (slot : ℕ) (start before after : List Spelled) → before ≡ start ++ map spelled (values_removed l kept old slot)
    → after ≡ before ++ map spelled (slot_changes l.org l.object old.id (removed_entry l kept old slot) None slot) → after ≡ start ++ map spelled (values_removed l kept old (slot + 1))
removed_go_on l kept old slot start before after b a =
    then_these (values_removed l kept old slot) (of_slot l kept old slot) start before after b a
    ∙ ap (λ (cs : List Change). start ++ map spelled cs) (sym (removed_more l kept old slot))

pub removed_fits_on : (l : Layout) (kept : DataRow) (old : Record) (slot : ℕ) → AllByRecursion (λ c. FitsKey c.0) (values_removed l kept old slot)
    → AllByRecursion (λ c. FitsKey c.0) (slot_changes l.org l.object old.id (removed_entry l kept old slot) None slot) → AllByRecursion (λ c. FitsKey c.0) (values_removed l kept old (slot + 1))
removed_fits_on l kept old slot a b = subst AllFit (sym (removed_more l kept old slot)) (all_both (values_removed l kept old slot) (of_slot l kept old slot) a b)

pub removed_begin : (l : Layout) (kept : DataRow) (old : Record) (start : List Spelled) → start ≡ start ++ map spelled (values_removed l kept old 0)
unfolding values_removed
removed_begin l kept old start = sym (append_nothing start)

pub removed_fits_begin : (l : Layout) (kept : DataRow) (old : Record) → AllByRecursion (λ c. FitsKey c.0) (values_removed l kept old 0)
unfolding values_removed
removed_fits_begin l kept old = tt

-- ---- the whole record

pub gone_go_on : (l : Layout) (kept : DataRow) (old : Record) (start middle after : List Spelled)
    → middle ≡ start ++ spelled (Data l.org l.object old.id, None) ∷ [] → after ≡ middle ++ map spelled (values_removed l kept old 48) → after ≡ start ++ map spelled (removed_changes l kept old)
unfolding removed_changes
gone_go_on l kept old start middle after m a =
    then_these ((Data l.org l.object old.id, None) ∷ []) (values_removed l kept old 48) start middle after m a

pub gone_fits : (l : Layout) (kept : DataRow) (old : Record) → FitsKey (Data l.org l.object old.id) → AllByRecursion (λ c. FitsKey c.0) (values_removed l kept old 48)
    → AllByRecursion (λ c. FitsKey c.0) (removed_changes l kept old)
unfolding removed_changes
gone_fits l kept old f all = (f, all)
