-- One organisation's rows after changes of its own, and those of others, which stay.
use Rattle.std.proofs.Common.{◌≡◌, ◌↔◌, ◌∙◌, ◌<◌, ◌^◌, ℕ, Bool, IsTrue, true, false, ◌||◌, cond, List, [], ◌∷◌, Option, Some, None, refl, sym, ap, subst}
use Rattle.std.specs.Prelude.{nat_eq}
use Rattle.std.specs.List.{AllByRecursion}
use Rattle.std.specs.Cmp.{IsTotalOrder}
use Rattle.std.specs.FinMap as map
use Rattle.std.specs.FinMap.{IsAntisymmetric}
use Rattle.std.specs.Option.{option_eq}
use Rattle.std.specs.Ordering.{eq_by_cmp}
use Rattle.std.proofs.lemmas.Bool.{eqb-true}
use Rattle.base_lemmas.proofs.Orders.{equal_from_is_eq as tie}
use Rattle.base_lemmas.proofs.Numbers.{eqb-self as eqb_same}
use Rattle.base_lemmas.proofs.Bools.{by_answer as pick}
use Rattle.store_kv.specs.Tables.{Place, Tables, place_cmp}
use Rattle.store_rows.specs.Holds.{Holds, with_row}
use Rattle.store_rows.specs.Keys.{FitsKey, Key, key_eq, spell}
use Rattle.model.specs.Sound.{IsSound}
use Rattle.model.specs.Tenant.{Tenant}
use Rattle.store_abstraction.specs.Changes.{Change, IsOf, is_changed, with_change, with_changes}
use Rattle.store_abstraction.specs.Plan.{FitsPlan, OrgPlan}
use Rattle.store_abstraction.specs.Stands.{all_tables, org_of_key, row_in}
use Rattle.store_abstraction.proofs.Parts.{SameRows}
use Rattle.store_abstraction.specs.Local.{IsIn, KeepsOthers, StandsIn, is_own, is_place_of, part_of, rows_alone}
use Rattle.store_abstraction.proofs.Places.{PrefixLaws, part_at, place_is}

-- what `store_rows` says of keys, and of one row put and one taken away
abbrev pub EqualKeys : Type 0
EqualKeys = (a b : Key) → IsTrue (key_eq a b) ↔ (a ≡ b)

abbrev pub PutsRows : Type 0
PutsRows = (reach : ℕ → Bool) (m : Tables) (rows : Key → Option (List ℕ)) (k : Key) (row : List ℕ) → FitsKey k → Holds reach m rows → Holds reach (map.insert m (spell k) row) (with_row k (Some row) rows)

abbrev pub RemovesRows : Type 0
RemovesRows = (reach : ℕ → Bool) (m : Tables) (rows : Key → Option (List ℕ)) (k : Key) → FitsKey k → Holds reach m rows → Holds reach (map.remove m (spell k)) (with_row k None rows)

pub own_is : (n : ℕ) (k : Key) → org_of_key k ≡ Some n → is_own n k ≡ true
own_is n k e = rw e (eqb_same n)

owned_so : (n : ℕ) (o : Option ℕ) → option_eq nat_eq o (Some n) ≡ true → o ≡ Some n
owned_so n None e = absurd cc
owned_so n (Some m) e = ap Some (eqb-true m n e)

module _ (laws : PrefixLaws) (total : IsTotalOrder place_cmp) (exact : IsAntisymmetric place_cmp) where
  -- what is at a place after a change
  abbrev put_there : Place → Option (List ℕ) → Tables → Place → Option (List ℕ)
  put_there k row m place = cond (eq_by_cmp place_cmp place k) row (map.get m place)

  changed_at : (c : Change) (m : Tables) (place : Place) → map.get (with_change c m) place ≡ put_there (spell c.0) c.1 m place
  changed_at (k, Some row) m place = map.get-insert total m (spell k) row place
  changed_at (k, None) m place = map.get-remove total m (spell k) place

  here : (a b : Place) → eq_by_cmp place_cmp a b ≡ true → a ≡ b
  here a b e = exact a b (tie (place_cmp a b) e)

  part_changed : (n : ℕ) (c : Change) (m : Tables) → is_place_of n (spell c.0) ≡ true → part_of n (with_change c m) ≡ with_change c (part_of n m)
  part_changed n c m mine = map.same_map total exact (part_of n (with_change c m)) (with_change c (part_of n m)) (λ place.
      part_at exact n (with_change c m) place
      ∙ ap (λ x. cond (is_place_of n place) x None) (changed_at c m place)
      ∙ pick (eq_by_cmp place_cmp place (spell c.0)) (λ b. cond (is_place_of n place) (cond b c.1 (map.get m place)) None ≡ cond b c.1 (map.get (part_of n m) place))
      (λ e. ap (λ b. cond b c.1 None) (ap (is_place_of n) (here place (spell c.0) e) ∙ mine))
      (λ _. sym (part_at exact n m place))
      ∙ sym (changed_at c (part_of n m) place))

  parts_changed : (n : ℕ) (cs : List Change) (m : Tables) → n < 2 ^ 32 → AllByRecursion (IsIn n) cs → part_of n (with_changes cs m) ≡ with_changes cs (part_of n m)
  parts_changed n [] m ln are = refl
  parts_changed n (c ∷ cs) m ln are = parts_changed n cs (with_change c m) ln are.1 ∙ ap (with_changes cs) (part_changed n c m (place_is laws n c.0 ln are.0.0 ∙ own_is n c.0 are.0.1))

  -- the rows of others stay
  pub kept : (n : ℕ) (cs : List Change) (m : Tables) → n < 2 ^ 32 → AllByRecursion (IsIn n) cs → KeepsOthers n m (with_changes cs m)
  kept n [] m ln are place other = refl
  kept n (c ∷ cs) m ln are place other =
      kept n cs (with_change c m) ln are.1 place other
      ∙ changed_at c m place
      ∙ pick (eq_by_cmp place_cmp place (spell c.0)) (λ b. cond b c.1 (map.get m place) ≡ map.get m place)
      (λ e. absurd (apart (sym (ap (is_place_of n) (here place (spell c.0) e) ∙ place_is laws n c.0 ln are.0.0 ∙ own_is n c.0 are.0.1) ∙ other)))
      (λ _. refl)
    where
      apart : true ≡ false → ⊥
      apart e = cc

-- ---- rows after changes

abbrev rows_after : List Change → (Key → Option (List ℕ)) → Key → Option (List ℕ)
rows_after [] rows = rows
rows_after (c ∷ cs) rows = rows_after cs (with_row c.0 c.1 rows)

module _ (puts : PutsRows) (removes : RemovesRows) where
  holds_one : (c : Change) (m : Tables) (rows : Key → Option (List ℕ)) → FitsKey c.0 → Holds all_tables m rows → Holds all_tables (with_change c m) (with_row c.0 c.1 rows)
  holds_one (k, Some row) m rows fits h = puts all_tables m rows k row fits h
  holds_one (k, None) m rows fits h = removes all_tables m rows k fits h

  holds_after : (n : ℕ) (cs : List Change) (m : Tables) (rows : Key → Option (List ℕ)) → AllByRecursion (IsIn n) cs → Holds all_tables m rows → Holds all_tables (with_changes cs m) (rows_after cs rows)
  holds_after n [] m rows are h = h
  holds_after n (c ∷ cs) m rows are h = holds_after n cs (with_change c m) (with_row c.0 c.1 rows) are.1 (holds_one c m rows are.0.0 h)

after_is : EqualKeys → (target : Key → Option (List ℕ)) (cs : List Change) (rows : Key → Option (List ℕ)) (k : Key) → AllByRecursion (λ c. target c.0 ≡ c.1) cs
    → rows_after cs rows k ≡ cond (is_changed cs k) (target k) (rows k)
after_is equal target [] rows k are = refl
after_is equal target (c ∷ cs) rows k are =
    after_is equal target cs (with_row c.0 c.1 rows) k are.1
    ∙ pick (key_eq k c.0) (λ b. cond (is_changed cs k) (target k) (cond b c.1 (rows k)) ≡ cond (b || is_changed cs k) (target k) (rows k))
    (λ same. pick (is_changed cs k) (λ d. cond d (target k) c.1 ≡ target k) (λ _. refl) (λ _. sym (ap target ((equal k c.0).0 same) ∙ are.0)))
    (λ _. refl)

-- the organisation's rows after its changes are another tenant's
pub edited : PrefixLaws → IsTotalOrder place_cmp → IsAntisymmetric place_cmp → EqualKeys → PutsRows → RemovesRows → SameRows
    → (m : Tables) (n : ℕ) (t u : Tenant) (p q : OrgPlan) (changes : List Change) → n < 2 ^ 32 → StandsIn n p m (Some t) → IsSound u → FitsPlan q u
    → AllByRecursion (IsOf n q u) changes → ((k : Key) → org_of_key k ≡ Some n → is_changed changes k ≡ false → row_in q u k ≡ row_in p t k)
    → StandsIn n q (with_changes changes m) (Some u)
edited laws total exact equal puts removes same m n t u p q changes ln s sound fits are rest = record {
  number = s.number;
  sound = sound;
  plan = fits;
  rows = subst (λ (x : Tables). Holds all_tables x target) (sym (parts_changed laws total exact n changes m ln (all_in changes are)))
      (same all_tables (with_changes changes (part_of n m)) (rows_after changes (rows_alone n p (Some t))) target (λ k f. rows_are k) (holds_after puts removes n changes (part_of n m) (rows_alone n p (Some t)) (all_in changes are) s.rows));
}
  where
    target : Key → Option (List ℕ)
    target = rows_alone n q (Some u)

    all_in : (cs : List Change) → AllByRecursion (IsOf n q u) cs → AllByRecursion (IsIn n) cs
    all_in [] h = tt
    all_in (c ∷ cs) h = ((h.0.0, h.0.1), all_in cs h.1)

    targets : (cs : List Change) → AllByRecursion (IsOf n q u) cs → AllByRecursion (λ c. target c.0 ≡ c.1) cs
    targets [] h = tt
    targets (c ∷ cs) h = (ap (λ b. cond b (row_in q u c.0) None) (own_is n c.0 h.0.1) ∙ h.0.2, targets cs h.1)

    unchanged : (k : Key) → is_changed changes k ≡ false → rows_alone n p (Some t) k ≡ target k
    unchanged k apart =
        pick (is_own n k) (λ b. is_own n k ≡ b → cond b (row_in p t k) None ≡ cond b (row_in q u k) None) (λ mine _. sym (rest k (owned_so n (org_of_key k) mine) apart)) (λ _ _. refl) refl

    rows_are : (k : Key) → rows_after changes (rows_alone n p (Some t)) k ≡ target k
    rows_are k =
        after_is equal target changes (rows_alone n p (Some t)) k (targets changes are)
        ∙ pick (is_changed changes k) (λ b. is_changed changes k ≡ b → cond b (target k) (rows_alone n p (Some t) k) ≡ target k) (λ _ _. refl) (λ apart _. unchanged k apart) refl
