-- Which rows count a record that comes.
use Rattle.std.proofs.Common.{◌≡◌, ◌∙◌, ℕ, suc, ◌<◌, ◌^◌, Bool, true, false, ◌&&◌, cond, eqb, is_lt, List, [], ◌∷◌, length, Option, Some, None, refl, sym, ap, subst, arith}
use Rattle.std.specs.Prelude.{filter}
use Rattle.std.specs.Option.{option_map}
use Rattle.std.specs.Ordering.{nat_cmp}
use Rattle.std.specs.Cmp.Lexicographic.{slice_cmp}
use Rattle.std.proofs.lemmas.Bool.{eqb-false, eqb-true, or_parts as or_false, true≢false as true_false}
use Rattle.std.proofs.lemmas.Option.{slice_get_within, same_Some as some_is}
use Rattle.base_lemmas.proofs.Bools.{and_second_false as both_false, by_answer as pick}
use Rattle.base_lemmas.proofs.Numbers.{eqb-self as eqb_same}
use Rattle.store_rows.specs.Forms.{row_bytes}
use Rattle.store_rows.specs.Keys as key
use Rattle.store_rows.specs.Keys.{FitsKey, Key, key_eq}
use Rattle.store_rows.specs.Rows.{object_form}
use Rattle.model.specs.Creates.{with_record}
use Rattle.model.specs.Objects.{Numbered, is_of, object_numbered, records_of}
use Rattle.model.specs.Ordered.{put_in}
use Rattle.model.specs.Sound.{IsSound}
use Rattle.model.specs.Tenant.{Object, Tenant}
use Rattle.model.specs.declared.record.Record.{Record}
use Rattle.record_save.specs.Creating.{counts_with}
use Rattle.store_abstraction.specs.Changes.{is_changed}
use Rattle.store_abstraction.specs.Metadata.{row_of_object}
use Rattle.store_abstraction.specs.Plan.{OrgPlan}
use Rattle.store_abstraction.specs.Stands.{org_of_key, row_in}
use Rattle.record_index.specs.diff.Touched.{AreCounts, fresh_plan, is_counted}

-- ---- the records of other objects

-- one record more doesn't count where it doesn't belong
others_same : (is : Record → Bool) (r : Record) (rs : List Record) → is r ≡ false → length (filter is (put_in (λ a b. slice_cmp nat_cmp a.id b.id) r rs)) ≡ length (filter is rs)
others_same is r [] out = rw out refl
others_same is r (x ∷ rs) out = by (is_lt (slice_cmp nat_cmp r.id x.id)) (others_same is r rs out)
  where
    by : (b : Bool) → length (filter is (put_in (λ a b. slice_cmp nat_cmp a.id b.id) r rs)) ≡ length (filter is rs)
        → length (filter is (cond b (r ∷ x ∷ rs) (x ∷ put_in (λ a b. slice_cmp nat_cmp a.id b.id) r rs))) ≡ length (filter is (x ∷ rs))
    by true e = rw out refl
    by false e = pick (is x) (λ b. length (cond b (x ∷ filter is (put_in (λ a b. slice_cmp nat_cmp a.id b.id) r rs)) (filter is (put_in (λ a b. slice_cmp nat_cmp a.id b.id) r rs))) ≡ length (cond b (x ∷ filter is rs) (filter is rs))) (λ h. ap suc e) (λ h. e)

-- the record is of no other object
not_other : (n m : ℕ) (r : Record) → is_of n r ≡ true → eqb m n ≡ false → is_of m r ≡ false
not_other n m r of other = pick (is_of m r) (λ b. b ≡ false) (λ h. absurd (eqb-false m n other (sym (eqb-true _ m h) ∙ eqb-true _ n of))) (λ h. refl)

same_row : (org : ℕ) (q : OrgPlan) (t : Tenant) (n m : ℕ) (r : Record) → is_of n r ≡ true → eqb m n ≡ false
    → row_in (fresh_plan r.id q) (with_record r t) (key.Object org m) ≡ row_in q t (key.Object org m)
unfolding row_in
same_row org q t n m r of other =
    by (object_numbered t m) (others_same (is_of m) r t.records (not_other n m r of other))
  where
    by : (o : Option Object) → length (records_of (with_record r t) m) ≡ length (records_of t m)
        → option_map (λ o. row_bytes object_form (row_of_object org (with_record r t) m o)) o ≡ option_map (λ o. row_bytes object_form (row_of_object org t m o)) o
    by None e = refl
    by (Some o) e = rw e refl

-- ---- the rows that count

module _ (org : ℕ) (q : OrgPlan) (t : Tenant) (o : Numbered) (r : Record) (of : is_of o.number r ≡ true) where
  rest : (k : Key) → org_of_key k ≡ Some org → is_counted k ≡ true → is_changed (counts_with org t o r) k ≡ false
      → row_in (fresh_plan r.id q) (with_record r t) k ≡ row_in q t k
  unfolding row_in
  rest (key.Org m) own c e = absurd (true_false (sym (ap (λ (x : ℕ). eqb x org) (some_is m org own) ∙ eqb_same org) ∙ (or_false (eqb m org) _ e).0))
  rest (key.Object m n) own c e =
      let same : m ≡ org = some_is m org own in
      subst (λ (x : ℕ). row_in (fresh_plan r.id q) (with_record r t) (key.Object x n) ≡ row_in q t (key.Object x n)) (sym same)
      (same_row org q t o.number n r of (both_false (eqb m org) (eqb n o.number) (ap (λ (x : ℕ). eqb x org) same ∙ eqb_same org) (or_false (eqb m org && eqb n o.number) _ e).0))
  rest (key.Share m i to) own c e = refl
  rest key.Version own c e = absurd cc
  rest (key.Field m i f) own c e = absurd cc
  rest (key.Job m) own c e = absurd cc
  rest (key.User m i) own c e = absurd cc
  rest (key.Role m i) own c e = absurd cc
  rest (key.Group m i) own c e = absurd cc
  rest (key.Validation m i name) own c e = absurd cc
  rest (key.Sharing m name) own c e = absurd cc
  rest (key.Data m i id) own c e = absurd cc
  rest (key.Index m i s v id) own c e = absurd cc
  rest (key.Unique m i s v) own c e = absurd cc
  rest (key.Relation m i s v id) own c e = absurd cc
  rest (key.Owner m i w id) own c e = absurd cc
  rest (key.Grant m to i id cause) own c e = absurd cc

  pub counted : org < 2 ^ 32 → IsSound t → object_numbered t o.number ≡ Some o.object → AreCounts org q (fresh_plan r.id q) t (with_record r t) (counts_with org t o r)
  unfolding row_in
  counted lo s there =
      let few : o.number < length t.objects = slice_get_within t.objects o.number o.object there in
      record {
        of = ((lo, refl, refl), (((lo, omega (arith, few, s.metadata.few)), refl, ap (option_map (λ x. row_bytes object_form (row_of_object org (with_record r t) o.number x))) there), tt));
        rest = rest;
      }
