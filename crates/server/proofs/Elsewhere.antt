-- The rows of one organisation stay where only rows of another change.
use Rattle.std.proofs.Common.{◌≡◌, ◌≢◌, ◌∙◌, ◌<◌, ◌^◌, ◌&&◌, ℕ, Bool, true, false, cond, eqb, List, Option, Some, None, Ordering, Less, Equal, Greater, refl, sym, ap, subst}
use Rattle.std.proofs.lemmas.Bool.{eqb-true, and_parts as both}
use Rattle.std.specs.Cmp.Lexicographic.{nat_list_cmp_total}
use Rattle.std.specs.FinMap as map
use Rattle.std.specs.FinMap.{IsAntisymmetric}
use Rattle.std.specs.Cmp.{IsTotalOrder}
use Rattle.std.specs.Ordering.{is_ge, is_lt, ordering_reverse}
use Rattle.std.specs.Prelude.{not}
use Rattle.base_lemmas.proofs.Bools.{by_answer as pick}
use Rattle.store_kv.specs.Prefixes.{raised}
use Rattle.store_kv.specs.Tables.{Place, Tables, bytes_cmp, is_between, place_cmp}
use Rattle.store_rows.specs.Holds.{Holds}
use Rattle.store_rows.specs.Keys.{FitsKey, Key, Org, spell}
use Rattle.model.specs.Cases.{in_case}
use Rattle.model.specs.Tenant.{Tenant}
use Rattle.store_abstraction.specs.Local.{KeepsOthers, StandsIn, is_own, is_place_of, is_under, part_of, rows_alone}
use Rattle.store_abstraction.specs.Plan.{OrgPlan}
use Rattle.store_abstraction.specs.Stands.{all_tables}
use Rattle.store_abstraction.proofs.Places.{part_at}

-- places and keys are in a total order, and a key is at a place of the organisation whose key it is
pub record PlaceLaws : Type 0 where
  pub total : IsTotalOrder place_cmp
  pub exact : IsAntisymmetric place_cmp
  pub bytes_exact : IsAntisymmetric bytes_cmp
  pub own : (n : ℕ) (k : Key) → n < 2 ^ 32 → FitsKey k → is_place_of n (spell k) ≡ is_own n k

-- the first key of an organisation
abbrev first : ℕ → List ℕ
first n = (spell (Org n)).1

-- below what the other isn't below
never : IsAntisymmetric bytes_cmp → (key above other : List ℕ) → is_lt (bytes_cmp key above) ≡ true → is_lt (bytes_cmp other above) ≡ false → is_ge (bytes_cmp key other) ≡ true → ⊥
never exact key above other lower not_lower ge = by (bytes_cmp key other) refl
  where
    less : (o : Ordering) → is_lt o ≡ true → o ≡ Less
    less Less e = refl
    less Equal e = absurd cc
    less Greater e = absurd cc

    by : (o : Ordering) → bytes_cmp key other ≡ o → ⊥
    by Less e = let ge2 : is_ge Less ≡ true = ap is_ge (sym e) ∙ ge in absurd cc
    by Equal e = let same : key ≡ other = exact key other e in let lower2 : is_lt (bytes_cmp other above) ≡ true = ap (λ (k : List ℕ). is_lt (bytes_cmp k above)) (sym same) ∙ lower in absurd (cc (lower2, not_lower))
    by Greater e =
        let under : bytes_cmp other key ≡ Less = nat_list_cmp_total.antisymm other key ∙ ap ordering_reverse e in
        let lower2 : is_lt (bytes_cmp other above) ≡ true = ap is_lt (nat_list_cmp_total.trans other key above under (less (bytes_cmp key above) lower)) in
        absurd (cc (lower2, not_lower))

-- a key at or above another's first key, and below its end, isn't under a prefix below
apart_above : IsAntisymmetric bytes_cmp → (prefix other key : List ℕ) → is_under prefix other ≡ false → is_ge (bytes_cmp other prefix) ≡ true → is_ge (bytes_cmp key other) ≡ true → is_under prefix key ≡ true → ⊥
apart_above exact prefix other key out ge at under = by (raised prefix) out under
  where
    by : (o : Option (List ℕ)) → in_case o (is_ge (bytes_cmp other prefix)) (λ above. is_between prefix above other) ≡ false → in_case o (is_ge (bytes_cmp key prefix)) (λ above. is_between prefix above key) ≡ true → ⊥
    by None out under = absurd (cc (out, ge))
    by (Some above) out under =
        let lower = (both (is_ge (bytes_cmp key prefix)) (is_lt (bytes_cmp key above)) under).1 in
        let not_lower : is_lt (bytes_cmp other above) ≡ false = ap (λ b. b && is_lt (bytes_cmp other above)) (sym ge) ∙ out in
        never exact key above other lower not_lower at

at_or_above : (prefix key : List ℕ) → is_under prefix key ≡ true → is_ge (bytes_cmp key prefix) ≡ true
at_or_above prefix key under = by (raised prefix) under
  where
    by : (o : Option (List ℕ)) → in_case o (is_ge (bytes_cmp key prefix)) (λ above. is_between prefix above key) ≡ true → is_ge (bytes_cmp key prefix) ≡ true
    by None e = e
    by (Some above) e = (both (is_ge (bytes_cmp key prefix)) (is_lt (bytes_cmp key above)) e).0

either : (a b : List ℕ) → is_ge (bytes_cmp a b) ≡ false → is_ge (bytes_cmp b a) ≡ true
either a b h = by (bytes_cmp a b) refl
  where
    by : (o : Ordering) → bytes_cmp a b ≡ o → is_ge (bytes_cmp b a) ≡ true
    by Less e = ap is_ge (nat_list_cmp_total.antisymm b a ∙ ap ordering_reverse e)
    by Equal e = let h2 : is_ge Equal ≡ false = ap is_ge (sym e) ∙ h in absurd cc
    by Greater e = let h2 : is_ge Greater ≡ false = ap is_ge (sym e) ∙ h in absurd cc

module _ (laws : PlaceLaws) where
  out_of : (n k : ℕ) → n < 2 ^ 32 → k < 2 ^ 32 → k ≢ n → is_under (first n) (first k) ≡ false
  out_of n k ln lk ne = laws.own n (Org k) ln lk ∙ pick (eqb k n) (λ b. b ≡ false) (λ e. absurd (ne (eqb-true k n e))) (λ _. refl)

  -- no key is under two numbers
  not_both : (n k : ℕ) (key : List ℕ) → n < 2 ^ 32 → k < 2 ^ 32 → k ≢ n → is_under (first k) key ≡ true → is_under (first n) key ≡ true → ⊥
  not_both n k key ln lk ne mine other =
      pick (is_ge (bytes_cmp (first k) (first n))) (λ b. is_ge (bytes_cmp (first k) (first n)) ≡ b → ⊥)
      (λ ge _. apart_above laws.bytes_exact (first n) (first k) key (out_of n k ln lk ne) ge (at_or_above (first k) key mine) other)
      (λ less _. apart_above laws.bytes_exact (first k) (first n) key (out_of k n lk ln (λ e. ne (sym e))) (either (first k) (first n) less) (at_or_above (first n) key other) mine)
      refl

  no_place : (n k : ℕ) (place : Place) → n < 2 ^ 32 → k < 2 ^ 32 → k ≢ n → is_place_of k place ≡ true → is_place_of n place ≡ false
  no_place n k place ln lk ne mine = by (not (eqb place.0 0)) (is_under (first k) place.1) (is_under (first n) place.1) (not_both n k place.1 ln lk ne) mine
    where
      by : (a b c : Bool) → (b ≡ true → c ≡ true → ⊥) → (a && b) ≡ true → (a && c) ≡ false
      by true true true never e = absurd (never refl refl)
      by true true false never e = refl
      by true false c never e = absurd cc
      by false b c never e = refl

  pub elsewhere : (n k : ℕ) (q : OrgPlan) (t : Option Tenant) (m after : Tables) → n < 2 ^ 32 → k < 2 ^ 32 → k ≢ n → StandsIn k q m t → KeepsOthers n m after → StandsIn k q after t
  elsewhere n k q t m after ln lk ne s others = record {
    number = s.number;
    sound = s.sound;
    plan = s.plan;
    rows = subst (λ (x : Tables). Holds all_tables x (rows_alone k q t)) (sym same) s.rows;
  }
    where
      here : (place : Place) → cond (is_place_of k place) (map.get after place) None ≡ cond (is_place_of k place) (map.get m place) None
      here place =
          pick (is_place_of k place) (λ b. cond b (map.get after place) None ≡ cond b (map.get m place) None)
          (λ mine. others place (no_place n k place ln lk ne mine)) (λ _. refl)

      same : part_of k after ≡ part_of k m
      same = map.same_map laws.total laws.exact (part_of k after) (part_of k m) (λ place. part_at laws.exact k after place ∙ here place ∙ sym (part_at laws.exact k m place))
