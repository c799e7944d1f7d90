-- The rows of a record whose values change, one slot after the other.
use Rattle.std.proofs.Common.{◌≡◌, ◌≢◌, ℕ, zero, suc, ◌+◌, Bool, true, false, cond, eqb, List, [], ◌∷◌, ◌++◌, Option, Some, None, Bor, refl, sym, ap, ap₂, subst, ◌∙◌, map}
use Rattle.std.specs.Prelude.{slice_get}
use Rattle.std.specs.List.{AllByRecursion, enumerate_from, find}
use Rattle.std.specs.Option.{option_and_then, option_copied, option_map}
use Rattle.std.proofs.lemmas.Bool.{eq-eqb, eqb-true}
use Rattle.base_lemmas.proofs.Bools.{and_second as and_right}
use Rattle.std.proofs.lemmas.Option.{same_Some as some_is}
use Rattle.std.proofs.lemmas.List.{append-nil as append_nothing}
use Rattle.record_read.specs.Decoding.{has_types, kinds_in}
use Rattle.record_read.specs.Encoding.{field_of_slot}
use Rattle.record_read.proofs.RowFits.{typed_at, valid_at}
use Rattle.store_edit.specs.Rows.{change_to, spelled}
use Rattle.formula.specs.Meaning.{value_at}
use Rattle.store_kv.specs.declared.keeper.Change.{Change as Spelled}
use Rattle.store_rows.specs.declared.data.DataRow.{DataRow}
use Rattle.store_rows.specs.Forms.{FitsForm}
use Rattle.store_rows.specs.Keys.{FitsKey, Index, Relation, Unique}
use Rattle.store_rows.specs.Rows.{data_form}
use Rattle.model.specs.Cases.{in_case}
use Rattle.model.specs.SoundRecords.{all_valid}
use Rattle.model.specs.declared.record.Record.{Record}
use Rattle.record_index.specs.Changed.{SameKeys, index_key, reference_key, row_turned, slot_changes, unique_key}
use Rattle.record_index.specs.Made.{entry_of, layout_entry}
use Rattle.record_index.specs.Turned.{converts, converts_to, copied_entry, copied_of, copied_there, copied_value, turned_changes, turned_entry, turned_row, values_turned}
use Rattle.record_index.proofs.Turned.{all_both, then_these}
use Rattle.record_index.proofs.Values.{AllFit, entry_is, slots_more}
use Rattle.store_abstraction.specs.Changes.{Change}
use Rattle.store_abstraction.specs.Entries.{Entry}
use Rattle.store_abstraction.specs.declared.layout.FieldPlace.{FieldPlace}
use Rattle.store_abstraction.specs.declared.layout.JobPlace.{JobPlace}
use Rattle.store_abstraction.specs.declared.layout.Layout.{Layout}
use Rattle.base_value.specs.Types.{is_type}
use Rattle.base_value.specs.Values.{valid}
use Rattle.base_value.specs.declared.value.FieldType.{FieldType}
use Rattle.base_value.specs.declared.value.FieldType.TheVariants as type
use Rattle.base_value.specs.declared.value.Value.{Value}
use Rattle.base_value.specs.declared.value.Value.TheVariants as value

-- ---- no value is null, which has no rows

abbrev entry_at : FieldPlace → List Value → ℕ → Option Entry
entry_at f vs i = option_map (entry_of f) (slice_get vs i)

pub value_there : (vs : List Value) (i : ℕ) (v : Value) → slice_get vs i ≡ Some v → value_at vs i ≡ v
value_there [] i v e = absurd cc
value_there (x ∷ vs) zero v e = some_is x v e
value_there (x ∷ vs) (suc i) v e = value_there vs i v e

pub value_missing : (vs : List Value) (i : ℕ) → slice_get vs i ≡ None → value_at vs i ≡ value.Null
value_missing [] i e = refl
value_missing (x ∷ vs) zero e = absurd cc
value_missing (x ∷ vs) (suc i) e = value_missing vs i e

-- what an entry is found by
pub null_keys : (kind : FieldType) (indexed unique : Bool) → SameKeys None (Some (record { kind = kind; value = value.Null; indexed = indexed; unique = unique }))
null_keys kind true true = record { index = refl; unique = refl; reference = refl }
null_keys kind true false = record { index = refl; unique = refl; reference = refl }
null_keys kind false true = record { index = refl; unique = refl; reference = refl }
null_keys kind false false = record { index = refl; unique = refl; reference = refl }

-- ---- the entry of a field by what `get` gives of the values

abbrev pub given : FieldPlace → Option (Bor Value) → Option Entry
given f x = option_map {T = Bor Value} {U = Entry} (λ v. entry_of f v.now) x

pub given_keys : (f : FieldPlace) (vs : List Value) (i : ℕ) (x : Option (Bor Value)) → option_copied x ≡ slice_get vs i → SameKeys (given f x) (Some (entry_of f (value_at vs i)))
given_keys f vs i None e = subst (λ (v : Value). SameKeys None (Some (entry_of f v))) (sym (value_missing vs i (sym e))) (null_keys f.kind f.indexed f.unique)
given_keys f vs i (Some v) e =
    let same = value_there vs i v.now (sym e) in
    record {
      index = ap (λ (v : Value). index_key (Some (entry_of f v))) (sym same);
      unique = ap (λ (v : Value). unique_key (Some (entry_of f v))) (sym same);
      reference = ap (λ (v : Value). reference_key (Some (entry_of f v))) (sym same);
    }

-- rows are turned by what entries are found by
pub keys_turn : (org n : ℕ) (id : List ℕ) (e f g h : Option Entry) (s : ℕ) → SameKeys e f → SameKeys g h → slot_changes org n id e g s ≡ slot_changes org n id f h s
keys_turn org n id e f g h s a b =
    ap₂ (λ (x y : List Change). x ++ y)
    (ap₂ (row_turned (λ k. Index org n s k id) []) a.index b.index)
    (ap₂ (λ (x y : List Change). x ++ y)
    (ap₂ (row_turned (λ k. Unique org n s k) id) a.unique b.unique)
    (ap₂ (row_turned (λ k. Relation org n s k id) []) a.reference b.reference))

pub field_turns : (l : Layout) (old new : Record) (s number : ℕ) (f : FieldPlace) (x y : Option (Bor Value))
    → field_of_slot l.fields s ≡ Some number → slice_get l.fields number ≡ Some f
    → option_copied x ≡ slice_get old.values (number + 1) → option_copied y ≡ slice_get new.values (number + 1)
    → slot_changes l.org l.object new.id (given f x) (given f y) s ≡ slot_changes l.org l.object new.id (layout_entry l old s) (layout_entry l new s) s
field_turns l old new s number f x y place at before after =
    keys_turn l.org l.object new.id (given f x) (Some (entry_of f (value_at old.values (number + 1)))) (given f y) (Some (entry_of f (value_at new.values (number + 1)))) s
    (given_keys f old.values (number + 1) x before) (given_keys f new.values (number + 1) y after)
    ∙ sym (ap₂ (λ (e g : Option Entry). slot_changes l.org l.object new.id e g s)
    (entry_is l old s number f (value_at old.values (number + 1)) place at refl)
    (entry_is l new s number f (value_at new.values (number + 1)) place at refl))

-- a copied value is of the change's type, by which no row is found
pub copied_keys : (j : JobPlace) (f : FieldPlace) (x : Option (Bor Value)) (v : Option Value) → option_copied x ≡ v
    → SameKeys (given f x) (option_map {U = Entry} (λ (v : Value). record { kind = j.kind; value = v; indexed = f.indexed; unique = f.unique }) v)
copied_keys j f None v e = subst (λ (v : Option Value). SameKeys None (option_map {U = Entry} (λ (v : Value). record { kind = j.kind; value = v; indexed = f.indexed; unique = f.unique }) v)) e (record { index = refl; unique = refl; reference = refl })
copied_keys j f (Some w) v e =
    subst (λ (v : Option Value). SameKeys (Some (entry_of f w.now)) (option_map {U = Entry} (λ (v : Value). record { kind = j.kind; value = v; indexed = f.indexed; unique = f.unique }) v)) e
    (record { index = refl; unique = refl; reference = refl })

pub copies_turn : (l : Layout) (old new : Record) (s : ℕ) (j : JobPlace) (f : FieldPlace) (x y : Option (Bor Value))
    → l.job ≡ Some j → j.twin ≡ s → slice_get l.fields j.field ≡ Some f
    → option_copied x ≡ copied_value j old → option_copied y ≡ copied_value j new
    → slot_changes l.org l.object new.id (given f x) (given f y) s ≡ slot_changes l.org l.object new.id (copied_entry l old s) (copied_entry l new s) s
copies_turn l old new s j f x y job twin at before after =
    keys_turn l.org l.object new.id (given f x) (copied_of j old f) (given f y) (copied_of j new f) s (copied_keys j f x (copied_value j old) before) (copied_keys j f y (copied_value j new) after)
    ∙ sym (ap₂ (λ (e g : Option Entry). slot_changes l.org l.object new.id e g s) (is old) (is new))
  where
    is : (r : Record) → copied_entry l r s ≡ copied_of j r f
    is r =
        ap (λ (x : Option JobPlace). in_case x None (λ j. cond (eqb j.twin s) (copied_there l j r) None)) job
        ∙ ap (λ b. cond b (copied_there l j r) None) (eq-eqb j.twin s twin)
        ∙ ap (option_and_then (copied_of j r)) at

-- nothing is turned where no change has a value
pub none_turn : (l : Layout) (old new : Record) (s : ℕ) → ((r : Record) → copied_entry l r s ≡ None) → slot_changes l.org l.object new.id (copied_entry l old s) (copied_entry l new s) s ≡ []
none_turn l old new s none = ap₂ (λ (e g : Option Entry). slot_changes l.org l.object new.id e g s) (none old) (none new)

pub no_job : (l : Layout) (s : ℕ) → l.job ≡ None → (r : Record) → copied_entry l r s ≡ None
no_job l s e r = ap (λ (x : Option JobPlace). in_case x None (λ j. cond (eqb j.twin s) (copied_there l j r) None)) e

pub other_slot : (l : Layout) (s : ℕ) (j : JobPlace) → l.job ≡ Some j → j.twin ≢ s → (r : Record) → copied_entry l r s ≡ None
other_slot l s j e apart r =
    ap (λ (x : Option JobPlace). in_case x None (λ j. cond (eqb j.twin s) (copied_there l j r) None)) e
    ∙ ap (λ b. cond b (copied_there l j r) None) (differ (eqb j.twin s) refl)
  where
    differ : (b : Bool) → eqb j.twin s ≡ b → eqb j.twin s ≡ false
    differ true h = absurd (apart (eqb-true j.twin s h))
    differ false h = h

pub no_field : (l : Layout) (s : ℕ) (j : JobPlace) → l.job ≡ Some j → slice_get l.fields j.field ≡ None → (r : Record) → copied_entry l r s ≡ None
no_field l s j e none r =
    ap (λ (x : Option JobPlace). in_case x None (λ j. cond (eqb j.twin s) (copied_there l j r) None)) e
    ∙ ap (λ (x : Option FieldPlace). cond (eqb j.twin s) (option_and_then (copied_of j r) x) None) none
    ∙ nothing (eqb j.twin s)
  where
    nothing : (b : Bool) → cond {A = Option Entry} b None None ≡ None
    nothing true = refl
    nothing false = refl

-- ---- which entry it is

abbrev found_in : Layout → ℕ → Option (ℕ × FieldPlace)
found_in l s = find (λ (f : ℕ × FieldPlace). eqb f.1.slot s) (enumerate_from 0 l.fields)

is_field : (l : Layout) (r : Record) (s number : ℕ) → field_of_slot l.fields s ≡ Some number → turned_entry l r s ≡ layout_entry l r s
is_field l r s number e = by (found_in l s) e
  where
    by : (x : Option (ℕ × FieldPlace)) → option_map (λ (f : ℕ × FieldPlace). f.0) x ≡ Some number
        → in_case (option_map (λ (f : ℕ × FieldPlace). entry_of f.1 (value_at r.values (suc f.0))) x) (copied_entry l r s) Some ≡ option_map (λ (f : ℕ × FieldPlace). entry_of f.1 (value_at r.values (suc f.0))) x
    by None h = absurd cc
    by (Some f) h = refl

is_copied : (l : Layout) (r : Record) (s : ℕ) → field_of_slot l.fields s ≡ None → turned_entry l r s ≡ copied_entry l r s
is_copied l r s e = by (found_in l s) e
  where
    by : (x : Option (ℕ × FieldPlace)) → option_map (λ (f : ℕ × FieldPlace). f.0) x ≡ None
        → in_case (option_map (λ (f : ℕ × FieldPlace). entry_of f.1 (value_at r.values (suc f.0))) x) (copied_entry l r s) Some ≡ copied_entry l r s
    by None h = refl
    by (Some f) h = absurd cc

pub turn_is_field : (l : Layout) (old new : Record) (s number : ℕ) → field_of_slot l.fields s ≡ Some number
    → slot_changes l.org l.object new.id (layout_entry l old s) (layout_entry l new s) s ≡ slot_changes l.org l.object new.id (turned_entry l old s) (turned_entry l new s) s
turn_is_field l old new s number e = sym (ap₂ (λ (x y : Option Entry). slot_changes l.org l.object new.id x y s) (is_field l old s number e) (is_field l new s number e))

pub turn_is_copied : (l : Layout) (old new : Record) (s : ℕ) → field_of_slot l.fields s ≡ None
    → slot_changes l.org l.object new.id (copied_entry l old s) (copied_entry l new s) s ≡ slot_changes l.org l.object new.id (turned_entry l old s) (turned_entry l new s) s
turn_is_copied l old new s e = sym (ap₂ (λ (x y : Option Entry). slot_changes l.org l.object new.id x y s) (is_copied l old s e) (is_copied l new s e))

-- ---- one slot after the other

abbrev of_slot : Layout → Record → Record → ℕ → List Change
of_slot l old new s = slot_changes l.org l.object new.id (turned_entry l old s) (turned_entry l new s) s

pub turned_more : (l : Layout) (old new : Record) (slots : ℕ) → values_turned l old new (slots + 1) ≡ values_turned l old new slots ++ slot_changes l.org l.object new.id (turned_entry l old slots) (turned_entry l new slots) slots
unfolding values_turned
turned_more l old new slots = slots_more (of_slot l old new) slots

pub turned_go_on : (l : Layout) (old new : Record) (slot : ℕ) (start before after : List Spelled) → before ≡ start ++ map spelled (values_turned l old new slot)
    → after ≡ before ++ map spelled (slot_changes l.org l.object new.id (turned_entry l old slot) (turned_entry l new slot) slot) → after ≡ start ++ map spelled (values_turned l old new (slot + 1))
turned_go_on l old new slot start before after b a =
    then_these (values_turned l old new slot) (of_slot l old new slot) start before after b a
    ∙ ap (λ (cs : List Change). start ++ map spelled cs) (sym (turned_more l old new slot))

pub turned_fits_on : (l : Layout) (old new : Record) (slot : ℕ) → AllByRecursion (λ c. FitsKey c.0) (values_turned l old new slot)
    → AllByRecursion (λ c. FitsKey c.0) (slot_changes l.org l.object new.id (turned_entry l old slot) (turned_entry l new slot) slot) → AllByRecursion (λ c. FitsKey c.0) (values_turned l old new (slot + 1))
turned_fits_on l old new slot a b = subst AllFit (sym (turned_more l old new slot)) (all_both (values_turned l old new slot) (of_slot l old new slot) a b)

pub turned_begin : (l : Layout) (old new : Record) (start : List Spelled) → start ≡ start ++ map spelled (values_turned l old new 0)
unfolding values_turned
turned_begin l old new start = sym (append_nothing start)

pub turned_fits_begin : (l : Layout) (old new : Record) → AllByRecursion (λ c. FitsKey c.0) (values_turned l old new 0)
unfolding values_turned
turned_fits_begin l old new = tt

-- ---- the whole record

pub changed_go_on : (l : Layout) (kept : DataRow) (old new : Record) (row : DataRow) (start middle after : List Spelled) → row ≡ turned_row l kept new
    → middle ≡ start ++ spelled (change_to data_form row) ∷ [] → after ≡ middle ++ map spelled (values_turned l old new 48) → after ≡ start ++ map spelled (turned_changes l kept old new)
unfolding turned_changes
changed_go_on l kept old new row start middle after e m a =
    then_these (change_to data_form (turned_row l kept new) ∷ []) (values_turned l old new 48) start middle after (m ∙ ap (λ (d : DataRow). start ++ spelled (change_to data_form d) ∷ []) e) a

pub changed_fits : (l : Layout) (kept : DataRow) (old new : Record) (row : DataRow) → row ≡ turned_row l kept new → FitsForm data_form row → AllByRecursion (λ c. FitsKey c.0) (values_turned l old new 48)
    → AllByRecursion (λ c. FitsKey c.0) (turned_changes l kept old new)
unfolding turned_changes
changed_fits l kept old new row e f all = ((subst (λ (d : DataRow). FitsForm data_form d) e f).0, all)

-- ---- a change's field, in a layout whose types fit

pub field_typed : (l : Layout) (i : ℕ) (f : FieldPlace) → has_types l ≡ true → slice_get l.fields i ≡ Some f → is_type f.kind ≡ true
field_typed l i f types at = typed_at (λ (x : FieldPlace). x.kind) l.fields i f types at

pub field_valid : (l : Layout) (values : List Value) (i : ℕ) (f : FieldPlace) → all_valid (kinds_in l.fields) values ≡ true → slice_get l.fields i ≡ Some f → valid f.kind (value_at values (suc i)) ≡ true
field_valid l [] i f valids at = absurd cc
field_valid l (v ∷ vs) i f valids at =
    valid_at (λ (x : FieldPlace). x.kind) l.fields vs i f (and_right (valid (type.Text 80) v) (all_valid (map (λ f. f.kind) l.fields) vs) valids) at

pub field_converts : (l : Layout) (j : JobPlace) (f : FieldPlace) → converts l ≡ true → l.job ≡ Some j → slice_get l.fields j.field ≡ Some f → converts_to j f ≡ true
field_converts l j f h job at =
    sym (ap (λ (x : Option JobPlace). in_case x true (λ j. in_case (slice_get l.fields j.field) true (converts_to j))) job ∙ ap (λ (x : Option FieldPlace). in_case x true (converts_to j)) at) ∙ h
