-- Of a long input as many rows are enough as an organisation may have records, and one more.
use Rattle.std.proofs.Common.{◌≡◌, ◌∙◌, ◌≤◌, arith, ℕ, zero, suc, ◌+◌, Bool, true, false, cond, List, [], ◌∷◌, length, take, Option, Some, None, Result, Ok, Err, refl, sym, ap, ℤ}
use Rattle.std.proofs.lemmas.Bool.Decides.{nat_tests}
use Rattle.std.specs.Prelude.{nat_lt}
use Rattle.std.specs.Cmp.Lexicographic.{slice_cmp}
use Rattle.std.specs.Ordering.{is_lt, nat_cmp}
use Rattle.std.specs.declared.cmp.Ordering.{Ordering}
use Rattle.soql.specs.declared.query.Query.{Query}
use Rattle.model.specs.Cases.{in_case}
use Rattle.model.specs.Creates.{create, create_on, create_rules, empty_record, master_denied, with_record}
use Rattle.model.specs.Edits.{bad_target, bad_value, duplicate, required_missing, validation_failed, with_given}
use Rattle.model.specs.Keys.{bad_fields, with_key}
use Rattle.model.specs.Limits.{limit_number}
use Rattle.model.specs.Metadata.{add_object}
use Rattle.model.specs.Objects.{Numbered, object_named, records_of}
use Rattle.model.specs.Ordered.{put_in}
use Rattle.model.specs.Paths.{Asked}
use Rattle.model.specs.Rules.{Rule, first_refusal, over_limit, refuse_if}
use Rattle.model.specs.Verdict.{Verdict, accept, judged, made_new, refuse, unless}
use Rattle.model.specs.declared.limit.Limit.TheVariants as limit
use Rattle.model.specs.declared.record.Record.{Record}
use Rattle.model.specs.declared.record_bodies.Assignment.{Assignment}
use Rattle.model.specs.declared.refusal.Refusal.{Refusal}
use Rattle.model.specs.declared.refusal.Refusal.TheVariants.{InvalidType, LimitExceeded}
use Rattle.cmd_sandbox.specs.Own.{asker, past, refusal_of}
use Rattle.cmd_csvq.specs.Organisation.{given_of, new_rows, object_name, with_columns, with_rows}
use Rattle.cmd_csvq.specs.Outcomes.{columns_outcome, rows_outcome, table_outcome}
use Rattle.cmd_csvq.specs.declared.outcome.Outcome.{Outcome}
use Rattle.cmd_csvq.specs.declared.outcome.Outcome.TheVariants.{Refused}
use Rattle.cmd_csvq.proofs.Making.{row_comes}

-- ---- a record more

put_length : (f : Record → Record → Ordering) (r : Record) (rs : List Record) → length (put_in f r rs) ≡ suc (length rs)
put_length f r [] = refl
put_length f r (s ∷ rs) = by (is_lt (f r s)) (put_length f r rs)
  where
    by : (b : Bool) → length (put_in f r rs) ≡ suc (length rs) → length (cond b (r ∷ s ∷ rs) (s ∷ put_in f r rs)) ≡ suc (suc (length rs))
    by true more = refl
    by false more = ap suc more

abbrev Refuses : Rule → Type 0
Refuses x = (why : Refusal) × (x ≡ Some why)

later : (x : Rule) (rules : List Rule) → Refuses (first_refusal rules) → Refuses (first_refusal (x ∷ rules))
later None rules h = h
later (Some why) rules h = (why, refl)

alone : (x : Rule) → Refuses x → Refuses (first_refusal (x ∷ []))
alone None h = absurd (apart h.0 h.1)
  where
    apart : (why : Refusal) → None ≡ Some why → ⊥
    apart why e = cc
alone (Some why) h = (why, refl)

eighth : (a b c d e f g x : Rule) → Refuses x → Refuses (first_refusal (a ∷ b ∷ c ∷ d ∷ e ∷ f ∷ g ∷ x ∷ []))
eighth a b c d e f g x h =
    later a (b ∷ c ∷ d ∷ e ∷ f ∷ g ∷ x ∷ []) (later b (c ∷ d ∷ e ∷ f ∷ g ∷ x ∷ []) (later c (d ∷ e ∷ f ∷ g ∷ x ∷ [])
    (later d (e ∷ f ∷ g ∷ x ∷ []) (later e (f ∷ g ∷ x ∷ []) (later f (g ∷ x ∷ []) (later g (x ∷ []) (alone x h)))))))

past_limit : (n : ℕ) → 50000 ≤ n → nat_lt 50000 (n + 1) ≡ true
past_limit n h = grind (arith, nat_tests)

there : (x : Rule) (rules : List Rule) (why : Refusal) → x ≡ Some why → Refuses (first_refusal (x ∷ rules))
there x rules why e = (why, ap (λ (y : Rule). first_refusal (y ∷ rules)) e)

-- LIMIT_EXCEEDED, by the object's records or by all
over : (m n k : ℕ) → 50000 ≤ n → Refuses (over_limit ((limit.RecordsPerObject, m) ∷ (limit.Records, n + 1) ∷ (limit.Ids, k) ∷ []))
over m n k h =
    let ids = refuse_if (nat_lt (limit_number limit.Ids) k) (LimitExceeded limit.Ids) in
    later (refuse_if (nat_lt 20000 m) (LimitExceeded limit.RecordsPerObject)) (refuse_if (nat_lt 50000 (n + 1)) (LimitExceeded limit.Records) ∷ ids ∷ [])
    (there (refuse_if (nat_lt 50000 (n + 1)) (LimitExceeded limit.Records)) (ids ∷ []) (LimitExceeded limit.Records) (ap (λ (b : Bool). refuse_if b (LimitExceeded limit.Records)) (past_limit n h)))

module _ (a : Asked) (given : List Assignment) where
  abbrev new : Numbered → Record
  new o = with_given a o.object (with_key None given) (empty_record a o)

  abbrev rules : Numbered → List Rule
  rules o = create_rules a o None given (new o)

  abbrev accepted : Numbered → Verdict
  accepted o = accept (made_new (new o).id) (with_record (new o) a.tenant)

  rules_full : (o : Numbered) → 50000 ≤ length a.tenant.records → Refuses (first_refusal (rules o))
  rules_full o h =
      eighth (bad_fields a.tenant o.object None given) (bad_value a.tenant o.object (with_key None given)) (required_missing o.object (new o))
      (bad_target a o (empty_record a o) (new o)) (master_denied a o (new o)) (validation_failed a o.object (new o) None) (duplicate a o (new o))
      (over_limit ((limit.RecordsPerObject, length (records_of a.tenant o.number) + 1) ∷ (limit.Records, length a.tenant.records + 1) ∷ (limit.Ids, a.tenant.counter + 1) ∷ []))
      (over (length (records_of a.tenant o.number) + 1) (length a.tenant.records) (a.tenant.counter + 1) h)

  -- where there are as many records as there may be, none comes
  full : 50000 ≤ length a.tenant.records → Refuses (refusal_of (create a object_name given).answer)
  full h = by (object_named a.tenant object_name) (λ (o : Numbered). rules_full o h)
    where
      judged_so : (o : Numbered) → Refuses (first_refusal (rules o)) → Refuses (refusal_of (judged a.tenant (rules o) (accepted o)).answer)
      judged_so o r = (r.0, ap (λ (x : Rule). refusal_of (unless x a.tenant (accepted o)).answer) r.1)

      by : (x : Option Numbered) → ((o : Numbered) → Refuses (first_refusal (rules o)))
          → Refuses (refusal_of (in_case x (refuse a.tenant (InvalidType object_name)) (λ o. create_on a o None given)).answer)
      by None each = (InvalidType object_name, refl)
      by (Some o) each = judged_so o (each o)

  -- a record that comes is one more
  grows : refusal_of (create a object_name given).answer ≡ None → length (create a object_name given).tenant.records ≡ suc (length a.tenant.records)
  grows e = by (object_named a.tenant object_name) e
    where
      judged_so : (o : Numbered) (x : Rule) → refusal_of (unless x a.tenant (accepted o)).answer ≡ None
          → length (unless x a.tenant (accepted o)).tenant.records ≡ suc (length a.tenant.records)
      judged_so o None e = put_length (λ r s. slice_cmp nat_cmp r.id s.id) (new o) a.tenant.records
      judged_so o (Some why) e = absurd cc

      by : (x : Option Numbered) → refusal_of (in_case x (refuse a.tenant (InvalidType object_name)) (λ o. create_on a o None given)).answer ≡ None
          → length (in_case x (refuse a.tenant (InvalidType object_name)) (λ o. create_on a o None given)).tenant.records ≡ suc (length a.tenant.records)
      by None e = absurd cc
      by (Some o) e = judged_so o (first_refusal (rules o)) e

-- ---- rows

-- what is cut off behind a row that has its record is nothing that is looked at
behind_row : (heading : List (List ℕ)) (n : ℕ) (a : Asked) (given : List Assignment) (rows : List (List (List ℕ)))
    → ((b : Asked) (j : ℕ) → 50000 ≤ length b.tenant.records + j → with_rows heading n b (take (suc j) rows) ≡ with_rows heading n b rows)
    → refusal_of (create a object_name given).answer ≡ None → (k : ℕ) → 50000 ≤ length a.tenant.records + k
    → with_rows heading n (past a (create a object_name given)) (take k rows) ≡ with_rows heading n (past a (create a object_name given)) rows
behind_row heading n a given rows more e zero h =
    let r = full a given (omega arith) in
    absurd (apart r.0 (sym e ∙ r.1))
  where
    apart : (why : Refusal) → None ≡ Some why → ⊥
    apart why e = cc
behind_row heading n a given rows more e (suc j) h =
    let g : length (create a object_name given).tenant.records ≡ suc (length a.tenant.records) = grows a given e in
    more (past a (create a object_name given)) j (omega (arith, g))

cut_rows : (heading : List (List ℕ)) (n : ℕ) (a : Asked) (k : ℕ) (rows : List (List (List ℕ))) → 50000 ≤ length a.tenant.records + k
    → with_rows heading n a (take (suc k) rows) ≡ with_rows heading n a rows
cut_rows heading n a k [] h = refl
cut_rows heading n a k (row ∷ rows) h =
    by (refusal_of (create a object_name (given_of heading row)).answer) refl (λ (b : Asked) (j : ℕ) (g : 50000 ≤ length b.tenant.records + j). cut_rows heading (n + 1) b j rows g)
  where
    by : (x : Option Refusal) → refusal_of (create a object_name (given_of heading row)).answer ≡ x
        → ((b : Asked) (j : ℕ) → 50000 ≤ length b.tenant.records + j → with_rows heading (n + 1) b (take (suc j) rows) ≡ with_rows heading (n + 1) b rows)
        → with_rows heading n a (row ∷ take k rows) ≡ with_rows heading n a (row ∷ rows)
    by (Some why) e more = row_comes heading n a row (take k rows) (Some why) e ∙ sym (row_comes heading n a row rows (Some why) e)
    by None e more =
        row_comes heading n a row (take k rows) None e
        ∙ behind_row heading (n + 1) a (given_of heading row) rows more e k h
        ∙ sym (row_comes heading n a row rows None e)

cut_columns : (q : Query) (heading : List (List ℕ)) (rows : List (List (List ℕ))) (made : Result Asked (List ℕ))
    → columns_outcome q heading (take 50001 rows) made ≡ columns_outcome q heading rows made
cut_columns q heading rows (Ok a) = ap (rows_outcome q) (cut_rows heading 1 a 50000 rows (omega arith))
cut_columns q heading rows (Err cell) = refl

pub cut_table : (q : Query) (now : ℤ) (records : List (List (List ℕ))) → table_outcome q now (take 50002 records) ≡ table_outcome q now records
cut_table q now [] = refl
cut_table q now (heading ∷ rows) =
    let v = add_object (asker now).tenant new_rows in
    ap (λ (x : Outcome). in_case (refusal_of v.answer) x Refused) (cut_columns q heading rows (with_columns false (past (asker now) v) heading))
