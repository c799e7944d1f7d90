-- The rows of an organisation that stay where an edit touches some records.
use Rattle.std.proofs.Common.{◌≡◌, ℕ, Bool, true, false, List, ◌++◌, Option, Some, refl, sym, subst}
use Rattle.std.proofs.lemmas.Option.{same_Some as some_is}
use Rattle.store_rows.specs.Keys.{Key, Version, Org, Object, Field, Job, User, Role, Group, Validation, Sharing, Data, Index, Unique, Relation, Owner, Share, Grant}
use Rattle.model.specs.Tenant.{Tenant}
use Rattle.store_abstraction.specs.Changes.{Change, is_changed}
use Rattle.store_abstraction.specs.Plan.{OrgPlan}
use Rattle.store_abstraction.specs.Stands.{org_of_key, row_in}
use Rattle.record_index.proofs.Same.{alike, steady}
use Rattle.record_index.proofs.Touching.{data_rest, index_rest, relation_rest}
use Rattle.record_index.proofs.DiffTurned.{EqualKeys, left_unchanged, right_unchanged}
use Rattle.record_index.proofs.Uniques.{unique_rest}
use Rattle.record_index.specs.diff.Touched.{AreCounts, HasSoundRows, IsAlike, IsTouched, is_valued, touched_changes}

module _ (equal : EqualKeys) (org : ℕ) (p q : OrgPlan) (t u : Tenant) (ids : List (List ℕ))
    (is : IsAlike p q t u ids) (kept_t : HasSoundRows p t) (kept_u : HasSoundRows q u) where
  abbrev touched : List Change
  touched = touched_changes org p q t u ids

  -- the number of the key is the organisation's
  own : (make : ℕ → Key) (a : ℕ) → ◌≡◌ {A = Option ℕ} (Some a) (Some org) → (is_changed touched (make org) ≡ false → row_in q u (make org) ≡ row_in p t (make org))
      → is_changed touched (make a) ≡ false → row_in q u (make a) ≡ row_in p t (make a)
  own make a w same e =
      let is_org = some_is a org w in
      subst (λ (b : ℕ). row_in q u (make b) ≡ row_in p t (make b)) (sym is_org)
      (same (subst (λ (b : ℕ). is_changed touched (make b) ≡ false) is_org e))

  -- the rows of records and of values
  pub valued_rest : (k : Key) → org_of_key k ≡ Some org → is_valued k ≡ true → is_changed touched k ≡ false → row_in q u k ≡ row_in p t k
  valued_rest Version w v e = absurd cc
  valued_rest (Org a) w v e = absurd cc
  valued_rest (Object a m) w v e = absurd cc
  valued_rest (Field a m f) w v e = absurd cc
  valued_rest (Job a) w v e = absurd cc
  valued_rest (User a i) w v e = absurd cc
  valued_rest (Role a i) w v e = absurd cc
  valued_rest (Group a i) w v e = absurd cc
  valued_rest (Validation a m name) w v e = absurd cc
  valued_rest (Sharing a name) w v e = absurd cc
  valued_rest (Data a m i) w v e = own (λ b. Data b m i) a w (data_rest equal org p q t u ids is kept_t.low kept_u.low m i) e
  valued_rest (Index a m s key i) w v e = own (λ b. Index b m s key i) a w (index_rest equal org p q t u ids is kept_t.low kept_u.low m s key i) e
  valued_rest (Unique a m s key) w v e = own (λ b. Unique b m s key) a w (unique_rest equal org p q t u ids is kept_t kept_u m s key) e
  valued_rest (Relation a m s target i) w v e = own (λ b. Relation b m s target i) a w (relation_rest equal org p q t u ids is kept_t.low kept_u.low m s target i) e
  valued_rest (Owner a m i j) w v e = absurd cc
  valued_rest (Share a i to) w v e = absurd cc
  valued_rest (Grant a to m i c) w v e = absurd cc

module _ (equal : EqualKeys) (org : ℕ) (p q : OrgPlan) (t u : Tenant) (ids : List (List ℕ)) (counts : List Change)
    (is : IsTouched p q t u ids) (kept_t : HasSoundRows p t) (kept_u : HasSoundRows q u) (counted : AreCounts org p q t u counts) where
  abbrev all_touched : List Change
  all_touched = touched_changes org p q t u ids

  of_value : (k : Key) → org_of_key k ≡ Some org → is_valued k ≡ true → is_changed all_touched k ≡ false → row_in q u k ≡ row_in p t k
  of_value = valued_rest equal org p q t u ids (alike p q t u ids is) kept_t kept_u

  by_key : (k : Key) → org_of_key k ≡ Some org → is_changed counts k ≡ false → is_changed all_touched k ≡ false → row_in q u k ≡ row_in p t k
  by_key Version w c e = absurd cc
  by_key (Org a) w c e = counted.rest (Org a) w refl c
  by_key (Object a m) w c e = counted.rest (Object a m) w refl c
  by_key (Field a m f) w c e = steady p q t u ids is (Field a m f) refl
  by_key (Job a) w c e = steady p q t u ids is (Job a) refl
  by_key (User a i) w c e = steady p q t u ids is (User a i) refl
  by_key (Role a i) w c e = steady p q t u ids is (Role a i) refl
  by_key (Group a i) w c e = steady p q t u ids is (Group a i) refl
  by_key (Validation a m name) w c e = steady p q t u ids is (Validation a m name) refl
  by_key (Sharing a name) w c e = steady p q t u ids is (Sharing a name) refl
  by_key (Data a m i) w c e = of_value (Data a m i) w refl e
  by_key (Index a m s key i) w c e = of_value (Index a m s key i) w refl e
  by_key (Unique a m s key) w c e = of_value (Unique a m s key) w refl e
  by_key (Relation a m s target i) w c e = of_value (Relation a m s target i) w refl e
  by_key (Owner a m i j) w c e = steady p q t u ids is (Owner a m i j) refl
  by_key (Share a i to) w c e = counted.rest (Share a i to) w refl c
  by_key (Grant a to m i c) w d e = steady p q t u ids is (Grant a to m i c) refl

  pub rest : (k : Key) → org_of_key k ≡ Some org → is_changed (counts ++ all_touched) k ≡ false → row_in q u k ≡ row_in p t k
  rest k w e = by_key k w (left_unchanged counts all_touched k e) (right_unchanged counts all_touched k e)
