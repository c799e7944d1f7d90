-- All changes of a deletion, one list behind another.
use Rattle.std.proofs.Common.{◌≡◌, ◌∙◌, ℕ, ◌+◌, ◌*◌, ◌<◌, ◌≤◌, Bool, true, cond, IsTrue, List, [], ◌∷◌, ◌++◌, length, map, Option, Some, refl, sym, ap, subst, arith, ℤ, inl, inr}
use Rattle.std.specs.Prelude.{Result, Ok, filter, is_some}
use Rattle.std.specs.List.{AllByRecursion}
use Rattle.std.proofs.lemmas.List.{append_assoc as append_thrice}
use Rattle.std.proofs.lemmas.Grind.{flat_map-append as flat_both}
use Rattle.base_lemmas.proofs.Bools.{by_answer as pick}
use Rattle.record_cascade.specs.Deletion.{cleared_ids, gone_ids}
use Rattle.store_kv.specs.declared.keeper.Change.{Change as Spelled}
use Rattle.store_rows.specs.declared.fail.StoreFail.{StoreFail}
use Rattle.store_rows.specs.Keys.{FitsKey}
use Rattle.model.specs.declared.record.Record.{Record}
use Rattle.model.specs.Deletes.{has_id, loses_lookup, without}
use Rattle.model.specs.Membership.{Has}
use Rattle.model.specs.Objects.{record_at}
use Rattle.model.specs.Tenant.{Tenant}
use Rattle.store_abstraction.specs.Changes.{Change}
use Rattle.store_abstraction.specs.Plan.{OrgPlan}
use Rattle.record_index.specs.diff.Touched.{HasEach, changes_at, touched_changes}
use Rattle.record_delete.specs.Deleting.{counts_less, deleted_changes, shares_ended}
use Rattle.record_delete.specs.inner.Adding.{Adds, AddsThese, Clears}
use Rattle.record_delete.proofs.Adding.{adds_then, adds_wider, longer, these_then}

-- ---- lists

pub keys_first : (xs ys : List Change) → AllByRecursion (λ (c : Change). FitsKey c.0) (xs ++ ys) → AllByRecursion (λ (c : Change). FitsKey c.0) xs
keys_first [] ys h = tt
keys_first (x ∷ xs) ys h = (h.0, keys_first xs ys h.1)

pub keys_second : (xs ys : List Change) → AllByRecursion (λ (c : Change). FitsKey c.0) (xs ++ ys) → AllByRecursion (λ (c : Change). FitsKey c.0) ys
keys_second [] ys h = h
keys_second (x ∷ xs) ys h = keys_second xs ys h.1

-- ---- the ids

ids_all : (P : List ℕ → Type 0) (p : Record → Bool) (xs : List Record) → ((r : Record) → Has xs r → p r ≡ true → P r.id) → AllByRecursion P (map (λ (r : Record). r.id) (filter p xs))
ids_all P p [] h = tt
ids_all P p (x ∷ xs) h =
    let rest = ids_all P p xs (λ r has so. h r (inr has) so) in
    pick (p x) (λ b. AllByRecursion P (map (λ (r : Record). r.id) (cond b (x ∷ filter p xs) (filter p xs))))
    (λ so. (h x (inl refl) so, rest))
    (λ so. rest)

module _ (t : Tenant) (rs : List Record) (each : HasEach t) where
  pub all_gone : AllByRecursion (λ i. (has_id rs i ≡ true) × IsTrue (is_some (record_at t i))) (gone_ids t rs)
  all_gone =
      ids_all (λ i. (has_id rs i ≡ true) × IsTrue (is_some (record_at t i))) (λ r. has_id rs r.id) t.records
      (λ r has so. (so, ap (λ (x : Option Record). is_some x) (each r has)))

  pub all_cleared : AllByRecursion (λ i. (r : Record) × (record_at t i ≡ Some r) × (loses_lookup t rs r ≡ true)) (cleared_ids t rs)
  all_cleared =
      ids_all (λ i. (r : Record) × (record_at t i ≡ Some r) × (loses_lookup t rs r ≡ true)) (loses_lookup t rs) t.records
      (λ r has so. (r, each r has, so))

-- ---- what goes, and what is cleared

module _ (org : ℕ) (q : OrgPlan) (now : ℤ) (t : Tenant) (rs : List Record) where
  abbrev u : Tenant
  u = without now rs t

  abbrev counts : List (List ℕ) → List Change
  counts ids = counts_less org t ids ++ shares_ended org t ids

  abbrev touched : List (List ℕ) → List Change
  touched ids = touched_changes org q q t u ids

  pub taken_so : {X : Type 0} (ids : List (List ℕ)) (old one two new : List Spelled) (r : Result X StoreFail) → ids ≡ gone_ids t rs
      → AddsThese {X = Unit {0}} (counts_less org t ids) old one (Ok tt) → AddsThese {X = Unit {0}} (shares_ended org t ids) one two (Ok tt) → AddsThese (touched ids) two new r
      → AddsThese ((counts_less org t (gone_ids t rs) ++ shares_ended org t (gone_ids t rs)) ++ touched_changes org q q t (without now rs t) (gone_ids t rs)) old new r
  taken_so ids old one two new r same a b d =
      subst (λ (is : List (List ℕ)). AddsThese (counts is ++ touched is) old new r) same
      (these_then (counts ids) (touched ids) old two new r (these_then {X = Unit {0}} (counts_less org t ids) (shares_ended org t ids) old one two (Ok tt) a b) d)

  pub deleted_so : {X : Type 0} (ids : List (List ℕ)) (old mid new : List Spelled) (r : Result X StoreFail) → ids ≡ cleared_ids t rs
      → AddsThese {X = Unit {0}} ((counts_less org t (gone_ids t rs) ++ shares_ended org t (gone_ids t rs)) ++ touched_changes org q q t (without now rs t) (gone_ids t rs)) old mid (Ok tt)
      → AddsThese (touched_changes org q q t (without now rs t) ids) mid new r
      → AddsThese (deleted_changes org q now t rs) old new r
  deleted_so ids old mid new r same a b =
      let gone = gone_ids t rs in
      let is : (counts gone ++ touched gone) ++ touched (cleared_ids t rs) ≡ deleted_changes org q now t rs =
      append_thrice (counts gone) (touched gone) (touched (cleared_ids t rs))
      ∙ ap (λ (cs : List Change). counts gone ++ cs) (sym (flat_both (changes_at org q q t u) gone (cleared_ids t rs))) in
      subst (λ (cs : List Change). AddsThese cs old new r) is
      (these_then (counts gone ++ touched gone) (touched (cleared_ids t rs)) old mid new r a (subst (λ (is : List (List ℕ)). AddsThese (touched is) mid new r) same b))

-- ---- they are few

module _ (org : ℕ) where
  pub taken_few : (objects gone : ℕ) (old one two new : List Spelled) → objects ≤ 100 → Adds org (objects + 1) 0 old one → 0 < length one → Adds org (100 * gone) 0 one two → Adds org (145 * gone) gone two new
      → (0 < length new) × Adds org (101 + 245 * gone) gone old new
  taken_few objects gone old one two new few a some b d =
      let all = adds_then org (objects + 1 + 100 * gone) 0 (145 * gone) gone old two new (adds_then org (objects + 1) 0 (100 * gone) 0 old one two a b) d in (
        longer org (145 * gone) gone two new d (longer org (100 * gone) 0 one two b some),
        adds_wider org (objects + 1 + 100 * gone + 145 * gone) (0 + gone) (101 + 245 * gone) gone old new (omega (arith, few)) (omega arith) all,
      )

  pub deleted_few : (gone cleared : ℕ) (old mid new : List Spelled) → gone + cleared ≤ 1000 → (0 < length mid) × Adds org (101 + 245 * gone) gone old mid → Clears org cleared mid new
      → (0 < length new) × Adds org 245101 gone old new
  deleted_few gone cleared old mid new few a b = (
    longer org (245 * cleared) 0 mid new b.adds a.0,
    adds_wider org (101 + 245 * gone + 245 * cleared) (gone + 0) 245101 gone old new (omega (arith, few)) (omega arith) (adds_then org (101 + 245 * gone) gone (245 * cleared) 0 old mid new a.1 b.adds),
  )
