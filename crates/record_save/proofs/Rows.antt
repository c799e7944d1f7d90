-- The rows of a new record are those of all that differ where it comes.
use Rattle.std.proofs.Common.{◌≡◌, ◌∙◌, ℕ, ◌≤◌, true, cond, eqb, IsTrue, List, [], ◌∷◌, ◌++◌, length, map, Option, Some, None, refl, sym, ap, subst, arith, bytes_eq}
use Rattle.std.specs.Prelude.{Result, Ok, Err, IfOk}
use Rattle.std.specs.List.{AllByRecursion, flat_map, list_all, range_with_len}
use Rattle.std.specs.Option.{option_and_then, option_map}
use Rattle.std.proofs.lemmas.Bool.{eqb-true}
use Rattle.std.proofs.lemmas.List.{append-nil}
use Rattle.base_lemmas.proofs.Bools.{by_answer as pick}
use Rattle.store_edit.specs.Rows.{AreFew, AreSpelled, change_to, gone_of}
use Rattle.store_edit.specs.Rows as rows
use Rattle.store_edit.specs.declared.decided.Decided.{Decided}
use Rattle.store_kv.specs.declared.keeper.Change.{Change as Spelled}
use Rattle.store_rows.specs.Keys.{Index, Key, Relation, Unique}
use Rattle.store_rows.specs.declared.data.DataRow.{DataRow}
use Rattle.store_rows.specs.declared.share.ShareRow.{ShareRow}
use Rattle.model.specs.Creates.{with_record}
use Rattle.model.specs.declared.record.Record.{Record}
use Rattle.model.specs.Objects.{Numbered, is_of, object_number, object_numbered, record_at}
use Rattle.model.specs.Tenant.{Job, Object, Tenant}
use Rattle.record_index.specs.Changed.{index_key, record_changes, reference_key, row_turned, slot_changes, unique_key}
use Rattle.record_index.specs.Made.{layout_entry, made_changes, values_made}
use Rattle.record_index.specs.Turned.{turned_changes, turned_entry, values_turned}
use Rattle.store_abstraction.specs.Changes.{Change}
use Rattle.store_abstraction.specs.declared.fail.EditFail.{EditFail}
use Rattle.store_abstraction.specs.Entries.{Entry, job_value}
use Rattle.store_abstraction.specs.Layouts.{job_place, layout_of}
use Rattle.store_abstraction.specs.Local.{IsIn}
use Rattle.store_abstraction.specs.Plan.{OrgPlan, slot_count, slot_type}
use Rattle.store_abstraction.specs.Stands.{Kept, kept_at, kept_in, org_of_key}
use Rattle.store_abstraction.specs.declared.layout.JobPlace.{JobPlace}
use Rattle.store_abstraction.specs.declared.layout.Layout.{Layout}
use Rattle.record_index.specs.diff.Touched.{fresh_plan, touched_changes}
use Rattle.base_value.specs.declared.job.Outcome.{Outcome}
use Rattle.base_value.specs.declared.job.Outcome.TheVariants as outcome
use Rattle.base_value.specs.declared.job.Phase.{Phase}
use Rattle.base_value.specs.declared.job.Phase.TheVariants as phase
use Rattle.base_value.specs.declared.value.FieldType.{FieldType}
use Rattle.base_value.specs.Printing.{is_printable}
use Rattle.record_save.specs.declared.creating.Accepted.{Accepted}
use Rattle.record_save.specs.declared.updating.Altered.{Altered}
use Rattle.record_target.specs.declared.kept.KeptRecord.{KeptRecord}
use Rattle.record_target.specs.Shares.{shares_removed}
use Rattle.record_save.specs.inner.Judged.{HaveKeys, changes_of}
use Rattle.record_save.specs.inner.Updated.{altered_changes}
use Rattle.record_save.specs.inner.Object.{FitsCounts}

-- ---- the layout stays

type_same : (q : OrgPlan) (id : List ℕ) (j : Job) (p : Phase) (o : Outcome) → slot_type (fresh_plan id q) j p o ≡ slot_type q j p o
type_same q id j phase.Copy o = refl
type_same q id j phase.Clear outcome.Open = refl
type_same q id j phase.Clear outcome.Switched = refl
type_same q id j phase.Clear outcome.Failed = refl
type_same q id j phase.Clear outcome.Cancelled = refl
type_same q id j phase.Done o = refl

pub layout_same : (org : ℕ) (q : OrgPlan) (t : Tenant) (o : Numbered) (r : Record) → layout_of org (fresh_plan r.id q) (with_record r t) o ≡ layout_of org q t o
layout_same org q t o r = ap (λ (j : Option JobPlace). with_job j) (by t.job)
  where
    with_job : Option JobPlace → Layout
    with_job j = record (layout_of org q t o) { job = j }

    at : (j : Job) → job_place (fresh_plan r.id q) j ≡ job_place q j
    at j = ap (λ (k : FieldType). of_type k) (type_same q r.id j j.phase j.outcome)
      where
        of_type : FieldType → JobPlace
        of_type k = record (job_place q j) { kind = k }

    by : (job : Option Job)
        → option_and_then (λ (j : Job). cond (eqb j.object o.number) (Some (job_place (fresh_plan r.id q) j)) None) job
        ≡ option_and_then (λ (j : Job). cond (eqb j.object o.number) (Some (job_place q j)) None) job
    by None = refl
    by (Some j) = ap (λ (x : JobPlace). cond (eqb j.object o.number) (Some x) None) (at j)

-- ---- all that differ

-- what `record_index` says of a new record's rows
abbrev pub RowsMade : Type 0
RowsMade = (org n : ℕ) (p : OrgPlan) (t : Tenant) (o : Object) (r : Record) → ((j : Job) → t.job ≡ Some j → j.object ≡ n → job_value p j j.phase r ≡ None)
    → IsTrue (list_all is_printable r.values) → IsTrue (is_of n r) → record_at t r.id ≡ Some r → object_numbered t n ≡ Some o
    → made_changes (layout_of org p t (record { number = n; object = o })) r ≡ record_changes org n r.id None (kept_at p t n r.id)

none_kept : (p : OrgPlan) (t : Tenant) (n : ℕ) (i : List ℕ) → record_at t i ≡ None → kept_at p t n i ≡ None
unfolding kept_at
none_kept p t n i e = ap (option_and_then (λ (r : Record). cond (is_of n r) (option_map (λ o. kept_in p t n o r) (object_numbered t n)) None)) e

pub touched_is : RowsMade → (org : ℕ) (q : OrgPlan) (t : Tenant) (o : Numbered) (r : Record) → ((j : Job) → t.job ≡ Some j → j.object ≡ o.number → job_value (fresh_plan r.id q) j j.phase r ≡ None)
    → IsTrue (list_all is_printable r.values) → is_of o.number r ≡ true → record_at t r.id ≡ None → record_at (with_record r t) r.id ≡ Some r → object_numbered t o.number ≡ Some o.object
    → made_changes (layout_of org q t o) r ≡ touched_changes org q (fresh_plan r.id q) t (with_record r t) (r.id ∷ [])
touched_is made org q t o r none printable of absent present there =
    let p = fresh_plan r.id q in
    let u = with_record r t in
    let n : o.number ≡ object_number r.id = sym (eqb-true (object_number r.id) o.number of) in
    ap (λ (l : Layout). made_changes l r) (sym (layout_same org q t o r))
    ∙ made org o.number p u o.object r none printable of present there
    ∙ ap (λ (k : Option Kept). record_changes org o.number r.id k (kept_at p u o.number r.id)) (sym (none_kept q t o.number r.id absent))
    ∙ ap (λ (m : ℕ). record_changes org m r.id (kept_at q t m r.id) (kept_at p u m r.id)) n
    ∙ sym (append-nil (record_changes org (object_number r.id) r.id (kept_at q t (object_number r.id) r.id) (kept_at p u (object_number r.id) r.id)))

-- ---- all are at keys of the organisation

module _ (org : ℕ) where
  abbrev AreOwn : List Change → Type 0
  AreOwn cs = AllByRecursion (λ (c : Change). org_of_key c.0 ≡ Some org) cs

  own_both : (xs ys : List Change) → AreOwn xs → AreOwn ys → AreOwn (xs ++ ys)
  own_both [] ys a b = b
  own_both (x ∷ xs) ys a b = (a.0, own_both xs ys a.1 b)

  own_turned : (make : List ℕ → Key) (row : List ℕ) (old new : Option (List ℕ)) → ((k : List ℕ) → org_of_key (make k) ≡ Some org) → AreOwn (row_turned make row old new)
  own_turned make row None None h = tt
  own_turned make row (Some a) None h = (h a, tt)
  own_turned make row None (Some b) h = (h b, tt)
  own_turned make row (Some a) (Some b) h = pick (bytes_eq a b) (λ x. AreOwn (cond x [] ((make a, None) ∷ (make b, Some row) ∷ []))) (λ _. tt) (λ _. (h a, (h b, tt)))

  own_slot : (n : ℕ) (id : List ℕ) (old new : Option Entry) (s : ℕ) → AreOwn (slot_changes org n id old new s)
  own_slot n id old new s =
      own_both (row_turned (λ k. Index org n s k id) [] (index_key old) (index_key new))
      (row_turned (λ k. Unique org n s k) id (unique_key old) (unique_key new) ++ row_turned (λ target. Relation org n s target id) [] (reference_key old) (reference_key new))
      (own_turned (λ k. Index org n s k id) [] (index_key old) (index_key new) (λ k. refl))
      (own_both (row_turned (λ k. Unique org n s k) id (unique_key old) (unique_key new)) (row_turned (λ target. Relation org n s target id) [] (reference_key old) (reference_key new))
      (own_turned (λ k. Unique org n s k) id (unique_key old) (unique_key new) (λ k. refl))
      (own_turned (λ target. Relation org n s target id) [] (reference_key old) (reference_key new) (λ k. refl)))

  own_flat : (f : ℕ → List Change) (ss : List ℕ) → ((s : ℕ) → AreOwn (f s)) → AreOwn (flat_map f ss)
  own_flat f [] h = tt
  own_flat f (s ∷ ss) h = own_both (f s) (flat_map f ss) (h s) (own_flat f ss h)

  all_in : (cs : List Change) → HaveKeys cs → AreOwn cs → AllByRecursion (IsIn org) cs
  all_in [] keys own = tt
  all_in (c ∷ cs) keys own = ((keys.0, own.0), all_in cs keys.1 own.1)

own_made : (l : Layout) (r : Record) → AreOwn l.org (made_changes l r)
unfolding made_changes values_made
own_made l r = (refl, own_flat l.org (λ s. slot_changes l.org l.object r.id None (layout_entry l r s) s) (range_with_len 0 slot_count) (λ s. own_slot l.org l.object r.id None (layout_entry l r s) s))

abbrev some_org : ℕ → Option ℕ
some_org n = Some n

pub are_in : (l : Layout) (x : Accepted) → FitsCounts l.org x.counts → HaveKeys (changes_of l x) → AllByRecursion (IsIn l.org) (changes_of l x)
are_in l x own keys = all_in l.org (changes_of l x) keys (ap some_org own.row, (ap some_org own.object, own_made l x.new))

own_turned_changes : (l : Layout) (kept : DataRow) (old new : Record) → AreOwn l.org (turned_changes l kept old new)
unfolding turned_changes values_turned
own_turned_changes l kept old new =
    (refl, own_flat l.org (λ s. slot_changes l.org l.object new.id (turned_entry l old s) (turned_entry l new s) s) (range_with_len 0 slot_count) (λ s. own_slot l.org l.object new.id (turned_entry l old s) (turned_entry l new s) s))

own_removed : (org : ℕ) (id : List ℕ) (us : List ShareRow) → AreOwn org (shares_removed org id us)
own_removed org id [] = tt
own_removed org id (u ∷ us) = (refl, own_removed org id us)

pub altered_in : (l : Layout) (kept : KeptRecord) (x : Altered) → HaveKeys (altered_changes l kept x) → AllByRecursion (IsIn l.org) (altered_changes l kept x)
altered_in l kept x keys =
    all_in l.org (altered_changes l kept x) keys
    (own_both l.org (shares_removed l.org x.new.id x.shares) (turned_changes l kept.row kept.item x.new) (own_removed l.org x.new.id x.shares) (own_turned_changes l kept.row kept.item x.new))

-- ---- they are few

module _ (few : (l : Layout) (r : Record) → length (made_changes l r) ≤ 145) (gone : (l : Layout) (r : Record) → gone_of (map rows.spelled (made_changes l r)) ≡ 0) where
  length_map : (cs : List Change) → length (map rows.spelled cs) ≡ length cs
  length_map [] = refl
  length_map (c ∷ cs) = let e = length_map cs in omega (arith, e)

  are_few : (l : Layout) (x : Accepted) (items : List Spelled) → AreSpelled (changes_of l x) items → AreFew 147 0 items
  are_few l x items is =
      let many = length_map (made_changes l x.new) in
      let most = few l x.new in
      let none = gone l x.new in
      subst (AreFew 147 0) (sym is) (record { some = omega arith; most = omega (arith, many, most); gone = omega (arith, none) })

  pub decided_few : (l : Layout) (x : Accepted) (result : Result (Decided (List ℕ)) EditFail) → IfOk result (λ y. AreSpelled (changes_of l x) y.changes.items) → IfOk result (λ y. AreFew 147 0 y.changes.items)
  decided_few l x (Ok y) made = are_few l x y.changes.items made
  decided_few l x (Err e) made = tt
