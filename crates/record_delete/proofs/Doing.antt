-- The changes of records that go or lose lookups, of one after another.
use Rattle.std.proofs.Common.{◌≡◌, ◌∙◌, ℕ, zero, suc, ◌+◌, ◌<◌, ◌≤◌, ◌≢◌, true, IsTrue, List, [], ◌∷◌, ◌++◌, length, map, take, None, Some, refl, sym, ap, subst, arith, get_or, ℤ}
use Rattle.std.specs.Prelude.{Result, Ok, Err, is_some}
use Rattle.std.specs.List.{AllByRecursion, flat_map}
use Rattle.std.proofs.lemmas.List.{append-nil, take_more}
use Rattle.record_delete.proofs.Adding.{longer_by, these_then}
use Rattle.record_delete.proofs.Without.{gone_at}
use Rattle.record_delete.proofs.OwnRows.{HaveKeys, removed_in, turned_in}
use Rattle.record_delete.specs.inner.Adding.{Adds, AddsThese, Clears}
use Rattle.record_index.specs.Removed.{removed_changes}
use Rattle.store_edit.specs.Rows.{gone_of}
use Rattle.store_edit.specs.Rows as rows
use Rattle.store_kv.specs.declared.keeper.Change.{Change as Spelled}
use Rattle.store_rows.specs.declared.data.DataRow.{DataRow}
use Rattle.store_rows.specs.declared.fail.StoreFail.{StoreFail}
use Rattle.store_rows.specs.declared.fail.StoreFail.TheVariants.{Damaged}
use Rattle.model.specs.declared.record.Record.{Record}
use Rattle.model.specs.Deletes.{has_id, loses_lookup, without}
use Rattle.model.specs.Objects.{record_at}
use Rattle.model.specs.Tenant.{Tenant}
use Rattle.record_index.specs.Turned.{turned_changes}
use Rattle.store_abstraction.specs.Changes.{Change}
use Rattle.store_abstraction.specs.declared.layout.Layout.{Layout}

-- ---- what is known of the ids

-- one tenant has a record with this id, and the other has none
abbrev pub IsGone : Tenant → Tenant → List ℕ → Type 0
IsGone t u i = IsTrue (is_some (record_at t i)) × (record_at u i ≡ None)

-- the tenant has a record with this id that loses a lookup
abbrev pub LosesOne : Tenant → List Record → List ℕ → Type 0
LosesOne t rs i = (r : Record) × (record_at t i ≡ Some r) × (loses_lookup t rs r ≡ true)

pub all_gone : (now : ℤ) (t : Tenant) (gone : List Record) (ids : List (List ℕ)) → AllByRecursion (λ i. (has_id gone i ≡ true) × IsTrue (is_some (record_at t i))) ids → AllByRecursion (IsGone t (without now gone t)) ids
all_gone now t gone [] h = tt
all_gone now t gone (i ∷ ids) h = ((h.0.1, gone_at now t gone i h.0.0), all_gone now t gone ids h.1)

-- ---- one more of a list

pub at_place : {X : Type 0} (P : X → Type 0) (xs : List X) (n : ℕ) (d : X) → n < length xs → AllByRecursion P xs → P (get_or xs n d)
at_place P [] n d lt h = absurd (omega (arith, lt))
at_place P (x ∷ xs) zero d lt h = h.0
at_place P (x ∷ xs) (suc n) d lt h = at_place P xs n d (omega (arith, lt)) h.1

flat_both : {X Y : Type 0} (f : X → List Y) (xs : List X) (x : X) → flat_map f (xs ++ x ∷ []) ≡ flat_map f xs ++ f x
flat_both f [] x = append-nil (f x)
flat_both {Y = Y} f (y ∷ xs) x = ap (λ (ys : List Y). f y ++ ys) (flat_both f xs x) ∙ together (f y) (flat_map f xs) (f x)
  where
    together : {Y : Type 0} (xs ys zs : List Y) → xs ++ (ys ++ zs) ≡ (xs ++ ys) ++ zs
    together [] ys zs = refl
    together {Y = Y} (x ∷ xs) ys zs = ap (λ (ws : List Y). x ∷ ws) (together xs ys zs)

-- ---- one record's

-- the row of the record itself goes, and no other data row
just_one : (l : Layout) (kept : DataRow) (r : Record) → gone_of (map rows.spelled (removed_changes l kept r)) ≤ 1 → gone_of (map rows.spelled (removed_changes l kept r)) ≡ 1
unfolding removed_changes
just_one l kept r few = omega (arith, few)

pub removed_adds : ((l : Layout) (kept : DataRow) (old : Record) → length (removed_changes l kept old) ≤ 145) → ((l : Layout) (kept : DataRow) (old : Record) → gone_of (map rows.spelled (removed_changes l kept old)) ≤ 1)
    → (l : Layout) (kept : DataRow) (r : Record) (old new : List Spelled) → new ≡ old ++ map rows.spelled (removed_changes l kept r) → HaveKeys (removed_changes l kept r) → Adds l.org 145 1 old new
removed_adds few gone l kept r old new are keys = record { changes = removed_changes l kept r; are = are; own = removed_in l kept r keys; few = few l kept r; gone = just_one l kept r (gone l kept r) }

-- the row of the record itself is written
some_turned : (l : Layout) (kept : DataRow) (r s : Record) → 1 ≤ length (turned_changes l kept r s)
unfolding turned_changes
some_turned l kept r s = omega arith

pub turned_clears : (l : Layout) (kept : DataRow) (r s : Record) → length (turned_changes l kept r s) ≤ 245 → gone_of (map rows.spelled (turned_changes l kept r s)) ≡ 0
    → (old new : List Spelled) → new ≡ old ++ map rows.spelled (turned_changes l kept r s) → HaveKeys (turned_changes l kept r s) → Clears l.org 1 old new
turned_clears l kept r s few gone old new are keys =
    let many = longer_by old (turned_changes l kept r s) in
    let some = some_turned l kept r s in
    record {
      adds = record { changes = turned_changes l kept r s; are = are; own = turned_in l kept r s keys; few = few; gone = omega (arith, gone) };
      each = subst (λ (xs : List Spelled). length old + 1 ≤ length xs) (sym are) (omega (arith, many, some));
    }

-- ---- one more of a list

abbrev Outcome : Type 0
Outcome = Result (Unit {0}) StoreFail

-- a failure that isn't damage
pub failed_so : (cs : List Change) (old new : List Spelled) (out : Outcome) (e : StoreFail) → out ≡ Err e → e ≢ Damaged → AddsThese cs old new out
failed_so cs old new out e is other = subst (AddsThese cs old new) (sym is) other

-- what is added for one id more
pub one_more : (f : List ℕ → List Change) (ids : List (List ℕ)) (n : ℕ) (i : List ℕ) → n < length ids → i ≡ get_or ids n i → (old mid new : List Spelled)
    → AddsThese {X = Unit {0}} (flat_map f (take n ids)) old mid (Ok tt) → AddsThese {X = Unit {0}} (f i) mid new (Ok tt) → AddsThese {X = Unit {0}} (flat_map f (take (n + 1) ids)) old new (Ok tt)
one_more f ids n i lt is old mid new first then =
    let same : flat_map f (take (n + 1) ids) ≡ flat_map f (take n ids) ++ f i
    = ap (flat_map f) (take_more ids n i lt) ∙ flat_both f (take n ids) (get_or ids n i) ∙ ap (λ (j : List ℕ). flat_map f (take n ids) ++ f j) (sym is) in
    subst (λ (cs : List Change). AddsThese {X = Unit {0}} cs old new (Ok tt)) (sym same) (these_then {X = Unit {0}} (flat_map f (take n ids)) (f i) old mid new (Ok tt) first then)
