-- Changes that are added to a list, one call after another.
use Rattle.std.proofs.Common.{◌≡◌, ◌∙◌, ℕ, ◌+◌, ◌*◌, ◌<◌, ◌≤◌, List, [], ◌∷◌, ◌++◌, length, map, refl, sym, ap, subst, arith, length-append as length_both}
use Rattle.std.specs.Prelude.{OnOk, Result, Ok, Err}
use Rattle.std.specs.List.{AllByRecursion}
use Rattle.std.proofs.lemmas.List.{append-nil, append_assoc as append_thrice}
use Rattle.store_edit.specs.Rows.{gone_of}
use Rattle.store_edit.specs.Rows as rows
use Rattle.store_kv.specs.declared.keeper.Change.{Change as Spelled}
use Rattle.store_rows.specs.declared.fail.StoreFail.{StoreFail}
use Rattle.store_rows.specs.Keys.{FitsKey}
use Rattle.store_abstraction.specs.Changes.{Change}
use Rattle.store_abstraction.specs.Local.{IsIn}
use Rattle.record_delete.specs.inner.Adding.{Adds, AddsThese, Clears}

-- ---- lists

pub spelled_both : (xs ys : List Change) → map rows.spelled (xs ++ ys) ≡ map rows.spelled xs ++ map rows.spelled ys
spelled_both [] ys = refl
spelled_both (x ∷ xs) ys = ap (λ (cs : List Spelled). rows.spelled x ∷ cs) (spelled_both xs ys)

gone_both : (xs ys : List Change) → gone_of (map rows.spelled (xs ++ ys)) ≡ gone_of (map rows.spelled xs) + gone_of (map rows.spelled ys)
gone_both [] ys = omega arith
gone_both (x ∷ xs) ys = let e = gone_both xs ys in omega (arith, e)

pub all_both : (P : Change → Type 0) (xs ys : List Change) → AllByRecursion P xs → AllByRecursion P ys → AllByRecursion P (xs ++ ys)
all_both P [] ys a b = b
all_both P (x ∷ xs) ys a b = (a.0, all_both P xs ys a.1 b)

pub keys_of : (org : ℕ) (xs : List Change) → AllByRecursion (IsIn org) xs → AllByRecursion (λ (c : Change). FitsKey c.0) xs
keys_of org [] h = tt
keys_of org (x ∷ xs) h = (h.0.0, keys_of org xs h.1)

-- a list grows by what is behind it
pub longer_by : (old : List Spelled) (cs : List Change) → length (old ++ map rows.spelled cs) ≡ length old + length cs
longer_by [] [] = refl
longer_by [] (c ∷ cs) = let e = longer_by [] cs in omega (arith, e)
longer_by (x ∷ old) cs = let e = longer_by old cs in omega (arith, e)

-- one list behind another
pub added_both : (old mid new : List Spelled) (xs ys : List Change) → mid ≡ old ++ map rows.spelled xs → new ≡ mid ++ map rows.spelled ys → new ≡ old ++ map rows.spelled (xs ++ ys)
added_both old mid new xs ys first second =
    second
    ∙ (ap (λ (cs : List Spelled). cs ++ map rows.spelled ys) first
    ∙ (append_thrice old (map rows.spelled xs) (map rows.spelled ys)
    ∙ ap (λ (cs : List Spelled). old ++ cs) (sym (spelled_both xs ys))))

-- ---- some of the organisation's

module _ (org : ℕ) where
  pub adds_none : (xs : List Spelled) → Adds org 0 0 xs xs
  adds_none xs = record { changes = []; are = sym (append-nil xs); own = tt; few = omega arith; gone = omega arith }

  pub adds_then : (most taken more lost : ℕ) (old mid new : List Spelled) → Adds org most taken old mid → Adds org more lost mid new → Adds org (most + more) (taken + lost) old new
  adds_then most taken more lost old mid new a b =
      let many = length_both a.changes b.changes in
      let gone = gone_both a.changes b.changes in
      let few_a = a.few in
      let few_b = b.few in
      let gone_a = a.gone in
      let gone_b = b.gone in
      record {
        changes = a.changes ++ b.changes;
        are = added_both old mid new a.changes b.changes a.are b.are;
        own = all_both (IsIn org) a.changes b.changes a.own b.own;
        few = omega (arith, many, few_a, few_b);
        gone = omega (arith, gone, gone_a, gone_b);
      }

  pub adds_wider : (most taken more lost : ℕ) (old new : List Spelled) → most ≤ more → taken ≡ lost → Adds org most taken old new → Adds org more lost old new
  adds_wider most taken more lost old new wide same a =
      let few_a = a.few in
      let gone_a = a.gone in
      record { changes = a.changes; are = a.are; own = a.own; few = omega (arith, wide, few_a); gone = omega (arith, same, gone_a) }

  -- ---- of records that lose a lookup

  pub clears_none : (xs : List Spelled) → Clears org 0 xs xs
  clears_none xs = record { adds = adds_none xs; each = omega arith }

  pub clears_more : (n : ℕ) (old mid new : List Spelled) → Clears org n old mid → Clears org 1 mid new → Clears org (n + 1) old new
  clears_more n old mid new a b =
      let first = a.each in
      let then = b.each in
      record {
        adds = adds_wider (245 * n + 245) (0 + 0) (245 * (n + 1)) 0 old new (omega arith) (omega arith) (adds_then (245 * n) 0 245 0 old mid new a.adds b.adds);
        each = omega (arith, first, then);
      }

-- ---- these

pub these_none : (xs : List Spelled) → AddsThese {X = Unit {0}} [] xs xs (Ok tt)
these_none xs = (sym (append-nil xs), tt)

-- what is added then fails, or is added too
pub these_then : {X : Type 0} (cs ds : List Change) (old mid new : List Spelled) (r : Result X StoreFail) → AddsThese {X = Unit {0}} cs old mid (Ok tt) → AddsThese ds mid new r → AddsThese (cs ++ ds) old new r
these_then cs ds old mid new (Ok x) a b = (added_both old mid new cs ds a.0 b.0, all_both (λ (c : Change). FitsKey c.0) cs ds a.1 b.1)
these_then cs ds old mid new (Err e) a b = b

-- ---- what holds where it is done

pub on_done : {X : Type 0} (P Q : Type 0) (r : Result X StoreFail) → OnOk r P → (P → Q) → OnOk r Q
on_done P Q (Ok x) h f = f h
on_done P Q (Err e) h f = tt

-- ---- there are some

pub some_behind : (xs : List Spelled) (y : Spelled) → 0 < length (xs ++ y ∷ [])
some_behind [] y = omega arith
some_behind (x ∷ xs) y = omega arith

some_first : (xs ys : List Spelled) → 0 < length xs → 0 < length (xs ++ ys)
some_first [] ys h = absurd (omega (arith, h))
some_first (x ∷ xs) ys h = omega arith

pub longer : (org most taken : ℕ) (old new : List Spelled) → Adds org most taken old new → 0 < length old → 0 < length new
longer org most taken old new a h = subst (λ (cs : List Spelled). 0 < length cs) (sym a.are) (some_first old (map rows.spelled a.changes) h)
