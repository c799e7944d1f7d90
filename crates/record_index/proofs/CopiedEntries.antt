-- What a change of a field's type has copied of a record is what the plan says is in the change's slot, while values are copied. Else
-- nothing changes there.
use Rattle.std.proofs.Common.{◌≡◌, ℕ, zero, suc, ◌+◌, Bool, true, false, not, ◌&&◌, cond, eqb, List, [], ◌∷◌, ◌++◌, map, Option, Some, None, refl, sym, ap, ap₂, subst, ◌∙◌, nat_cmp, Less, Equal, Greater, Ordering, is_lt, is_le}
use Rattle.std.specs.Prelude.{bytes_eq, slice_get}
use Rattle.std.specs.Cmp.Lexicographic.{slice_cmp}
use Rattle.std.specs.List.{enumerate_from}
use Rattle.std.specs.Option.{option_and_then, option_eq, option_map}
use Rattle.std.specs.Ordering.{ordering_reverse}
use Rattle.std.proofs.lemmas.Cmp.{nat_list_cmp_total}
use Rattle.std.proofs.lemmas.Slice.Eq.{bytes_eq-Decides}
use Rattle.base_lemmas.proofs.Bools.{by_answer as pick}
use Rattle.formula.specs.Meaning.{value_at}
use Rattle.store_rows.specs.Keys.{Index, Relation, Unique}
use Rattle.model.specs.declared.record.Record.{Record}
use Rattle.model.specs.Cases.{in_case}
use Rattle.model.specs.Jobs.{is_past}
use Rattle.model.specs.Tenant.{Field, Job, Object, Tenant}
use Rattle.model.specs.Updates.{is_copied}
use Rattle.record_index.specs.Changed.{index_key, reference_key, slot_changes, unique_key}
use Rattle.record_index.specs.Turned.{copied_entry, copied_of, copied_there, copied_value}
use Rattle.record_index.proofs.Turned.{turned_nothing}
use Rattle.store_abstraction.specs.Changes.{Change}
use Rattle.store_abstraction.specs.Entries.{Entry, job_entry, job_value, other_entry}
use Rattle.store_abstraction.specs.Layouts.{job_place, layout_of, place_of}
use Rattle.store_abstraction.specs.Plan.{OrgPlan, slot_type, type_there}
use Rattle.store_abstraction.specs.declared.layout.FieldPlace.{FieldPlace}
use Rattle.store_abstraction.specs.declared.layout.Layout.{Layout}
use Rattle.base_value.specs.Conversion.{convert}
use Rattle.base_value.specs.declared.job.Phase.{Phase}
use Rattle.base_value.specs.declared.job.Phase.TheVariants as phase
use Rattle.base_value.specs.declared.value.Value.{Value}

-- ---- the cursor

-- either a record was copied, or it is past the cursor
pub past_is : (cursor : Option (List ℕ)) (id : List ℕ) → is_past cursor id ≡ not (is_copied phase.Copy cursor id)
past_is None id = refl
past_is (Some c) id = ap is_lt (nat_list_cmp_total.antisymm c id) ∙ by (slice_cmp nat_cmp id c)
  where
    by : (o : Ordering) → is_lt (ordering_reverse o) ≡ not (is_le o)
    by Less = refl
    by Equal = refl
    by Greater = refl

turned_about : {A : Type 0} (b c : Bool) (x y : A) → c ≡ not b → cond b x y ≡ cond c y x
turned_about true c x y e = rw e refl
turned_about false c x y e = rw e refl

-- ---- the value in a change's slot

abbrev value_in : OrgPlan → Job → Record → Phase → Option Value
value_in p j r ph = cond (is_copied ph j.cursor r.id) (convert (slot_type p j ph j.outcome) (value_at r.values (suc j.field))) None

pub copied_is : (p : OrgPlan) (j : Job) (r : Record) → j.phase ≡ phase.Copy → copied_value (job_place p j) r ≡ job_value p j j.phase r
copied_is p j r e =
    subst (λ (ph : Phase). value_in p j r ph ≡ job_value p j ph r) (sym e)
    (turned_about (is_copied phase.Copy j.cursor r.id) (is_past j.cursor r.id) (convert j.to (value_at r.values (suc j.field))) None (past_is j.cursor r.id))

-- where nothing was copied of a record, the change has the same for it whatever its values are
pub value_stays : (p : OrgPlan) (j : Job) (q r : Record) → r.id ≡ q.id → is_copied j.phase j.cursor r.id ≡ false → job_value p j j.phase q ≡ job_value p j j.phase r
value_stays p j q r same none = by j.phase none
  where
    past : is_copied phase.Copy j.cursor r.id ≡ false → (i : List ℕ) → r.id ≡ i → is_past j.cursor i ≡ true
    past e i at = subst (λ (i : List ℕ). is_past j.cursor i ≡ true) at (past_is j.cursor r.id ∙ ap not e)

    by : (ph : Phase) → is_copied ph j.cursor r.id ≡ false → job_value p j ph q ≡ job_value p j ph r
    by phase.Copy e =
        ap (λ b. cond b None (convert j.to (value_at q.values (suc j.field)))) (past e q.id same) ∙ sym (ap (λ b. cond b None (convert j.to (value_at r.values (suc j.field)))) (past e r.id refl))
    by phase.Clear e = sym (ap (λ (i : List ℕ). cond (is_past j.cursor i) (p.left i) None) same)
    by phase.Done e = refl

-- nothing is copied but while values are
pub copies : (ph : Phase) (cursor : Option (List ℕ)) (id : List ℕ) → is_copied ph cursor id ≡ true → ph ≡ phase.Copy
copies phase.Copy cursor id e = refl
copies phase.Clear cursor id e = absurd cc
copies phase.Done cursor id e = absurd cc

-- ---- as entries

pub field_there : (p : OrgPlan) (n : ℕ) (f : FieldPlace → Option Entry) (g : Field → Option Entry) → ((i : ℕ) (x : Field) → f (place_of p n (i, x)) ≡ g x)
    → (k i : ℕ) (fs : List Field) → option_and_then f (slice_get (map (place_of p n) (enumerate_from k fs)) i) ≡ option_and_then g (slice_get fs i)
field_there p n f g h k i [] = refl
field_there p n f g h k zero (x ∷ fs) = h k x
field_there p n f g h k (suc i) (x ∷ fs) = field_there p n f g h (k + 1) i fs

abbrev layout : (org n : ℕ) → OrgPlan → Tenant → Object → Layout
layout org n p t o = layout_of org p t (record { number = n; object = o })

abbrev pub job_there : OrgPlan → Job → Object → Record → Option Entry
job_there p j o r = option_and_then (job_entry p j r) (slice_get o.fields j.field)

pub there_is : (org n : ℕ) (p : OrgPlan) (t : Tenant) (o : Object) (j : Job) (r : Record) → j.phase ≡ phase.Copy → copied_there (layout_of org p t (record { number = n; object = o })) (job_place p j) r ≡ option_and_then (job_entry p j r) (slice_get o.fields j.field)
there_is org n p t o j r e =
    field_there p n (copied_of (job_place p j) r) (job_entry p j r)
    (λ i x. ap (option_map {U = Entry} (λ (v : Value). record { kind = type_there p j; value = v; indexed = x.indexed; unique = x.unique })) (copied_is p j r e))
    0 j.field o.fields

nothing_there : (l : Layout) (p : OrgPlan) (j : Job) (r : Record) → is_copied j.phase j.cursor r.id ≡ false → copied_there l (job_place p j) r ≡ None
nothing_there l p j r e = by (slice_get l.fields j.field)
  where
    none : copied_value (job_place p j) r ≡ None
    none = ap (λ b. cond b (convert (type_there p j) (value_at r.values (suc j.field))) None) e

    by : (x : Option FieldPlace) → option_and_then (copied_of (job_place p j) r) x ≡ None
    by None = refl
    by (Some f) = ap (option_map {U = Entry} (λ (v : Value). record { kind = type_there p j; value = v; indexed = f.indexed; unique = f.unique })) none

entries_stay : (p : OrgPlan) (j : Job) (o : Object) (q r : Record) → job_value p j j.phase q ≡ job_value p j j.phase r → job_there p j o q ≡ job_there p j o r
entries_stay p j o q r e = by (slice_get o.fields j.field)
  where
    by : (x : Option Field) → option_and_then (job_entry p j q) x ≡ option_and_then (job_entry p j r) x
    by None = refl
    by (Some f) = ap (option_map {U = Entry} (λ (v : Value). record { kind = type_there p j; value = v; indexed = f.indexed; unique = f.unique })) e

-- ---- what stays has no rows that differ

pub same_key : (k : Option (List ℕ)) → option_eq bytes_eq k k ≡ true
same_key None = refl
same_key (Some k) = (bytes_eq-Decides k k).1 refl

pub stays : (org n : ℕ) (id : List ℕ) (e : Option Entry) (s : ℕ) → slot_changes org n id e e s ≡ []
stays org n id e s =
    ap₂ (λ (x y : List Change). x ++ y)
    (turned_nothing (λ k. Index org n s k id) [] (index_key e) (index_key e) (same_key (index_key e)))
    (ap₂ (λ (x y : List Change). x ++ y)
    (turned_nothing (λ k. Unique org n s k) id (unique_key e) (unique_key e) (same_key (unique_key e)))
    (turned_nothing (λ k. Relation org n s k id) [] (reference_key e) (reference_key e) (same_key (reference_key e))))

module _ (org n : ℕ) (p : OrgPlan) (t : Tenant) (o : Object) (q r : Record) (same : r.id ≡ q.id) (s : ℕ) where
  abbrev l : Layout
  l = layout org n p t o

  abbrev turn : Option Entry → Option Entry → List Change
  turn e f = slot_changes org n r.id e f s

  slot_of_job : (j : Job) → turn (copied_there l (job_place p j) q) (copied_there l (job_place p j) r) ≡ turn (job_there p j o q) (job_there p j o r)
  slot_of_job j =
      pick (is_copied j.phase j.cursor r.id)
      (λ b. is_copied j.phase j.cursor r.id ≡ b → turn (copied_there l (job_place p j) q) (copied_there l (job_place p j) r) ≡ turn (job_there p j o q) (job_there p j o r))
      (λ _ is. let copy = copies j.phase j.cursor r.id is in ap₂ turn (there_is org n p t o j q copy) (there_is org n p t o j r copy))
      (λ _ none.
      ap₂ turn (nothing_there l p j q (ap (is_copied j.phase j.cursor) (sym same) ∙ none)) (nothing_there l p j r none)
      ∙ sym (ap (λ (e : Option Entry). turn e (job_there p j o r)) (entries_stay p j o q r (value_stays p j q r same none)) ∙ stays org n r.id (job_there p j o r) s))
      refl

  -- the rows that are turned in a slot of no field
  pub others_turn : turn (copied_entry l q s) (copied_entry l r s) ≡ turn (other_entry p t.job n o q s) (other_entry p t.job n o r s)
  others_turn = by t.job
    where
      by : (job : Option Job)
          → turn (in_case (option_and_then (λ (j : Job). cond (eqb j.object n) (Some (job_place p j)) None) job) None (λ j. cond (eqb j.twin s) (copied_there l j q) None))
          (in_case (option_and_then (λ (j : Job). cond (eqb j.object n) (Some (job_place p j)) None) job) None (λ j. cond (eqb j.twin s) (copied_there l j r) None))
          ≡ turn (other_entry p job n o q s) (other_entry p job n o r s)
      by None = refl
      by (Some j) =
          pick (eqb j.object n)
          (λ b. turn (in_case (cond b (Some (job_place p j)) None) None (λ j. cond (eqb j.twin s) (copied_there l j q) None)) (in_case (cond b (Some (job_place p j)) None) None (λ j. cond (eqb j.twin s) (copied_there l j r) None))
          ≡ turn (cond (b && eqb p.other s) (job_there p j o q) None) (cond (b && eqb p.other s) (job_there p j o r) None))
          (λ _.
          pick (eqb p.other s)
          (λ b. turn (cond b (copied_there l (job_place p j) q) None) (cond b (copied_there l (job_place p j) r) None) ≡ turn (cond b (job_there p j o q) None) (cond b (job_there p j o r) None))
          (λ _. slot_of_job j)
          (λ _. refl))
          (λ _. refl)
