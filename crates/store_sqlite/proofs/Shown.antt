-- What a keeper shows of its connection after a call.
use Rattle.std.proofs.lemmas.Bool.{cases_Bool}
use Rattle.std.specs.Cmp.{unsigned_Decides}
use Rattle.sqlite.specs.declared.types.Value.TheVariants.{Blob}
use Rattle.sqlite.specs.Order.{Row, column}
use Rattle.std.proofs.Common.{◌≡◌, ◌≢◌, ◌⊎◌, inl, inr, ℕ, zero, suc, ◌+◌, ◌-◌, ◌^◌, ◌<◌, ◌≤◌, ◌==◌, Bool, true, false, cond, Option, Some, None, List, [], ◌∷◌, length, set, slice_index, get_or-set_same, get_or-set_other, IsTrue, refl, sym, ap, ◌∙◌, true≢false, arith}
use Rattle.sqlite.specs.Tree.{Trees}
use Rattle.sqlite.specs.Effect.{Database}
use Rattle.sqlite.specs.Store.{Ghosts}
use Rattle.sqlite.specs.State.{HasCleanDisk, Survives}
use Rattle.sqlite.specs.Held.{Held, state}
use Rattle.sqlite_trees.specs.View.{doubt}
use Rattle.sqlite_trees.proofs.Doubt.{no_doubt}
use Rattle.store_kv.specs.Tables.{Tables}
use Rattle.base_value.specs.Causes.{Rose, up_to_last}
use Rattle.store_kv.specs.State.{Steps, Reads, Tells, Shows, more_shown}
use Rattle.store_sqlite.specs.Laws.{nothing_pends}
use Rattle.store_sqlite.specs.Kept.{IsReady, keeper_state, map_in}
use Rattle.store_sqlite.specs.inner.Steps.{Keeps, Stays, WasOpen, blob_row}

pub doubt_free : (b : Bool) → doubt b ≡ 0 → IsTrue b
unfolding doubt
doubt_free true h = refl
doubt_free false h = absurd (omega arith)

module _ {S : Type 0} (g : Ghosts S) (dirty : (s : S) → (g.view s).is_clean ≡ false → (g.view s).is_open ≡ false) where
  pub clean_if_open : (c : Held S) → IsTrue (state g c).is_open → HasCleanDisk (state g c)
  clean_if_open c shown = go (g.view c.store).is_clean refl
    where
      go : (b : Bool) → (g.view c.store).is_clean ≡ b → HasCleanDisk (state g c)
      go true is = no_doubt _ is
      go false is = absurd (true≢false (sym shown ∙ dirty c.store is))

  module _ (old new : Held S) (r q : ℕ) (shown more : List ℕ) (w v : ℕ) where
    pub steps : Keeps (state g old) (state g new) → (HasCleanDisk (state g new) → WasOpen (state g old) (state g new)) → r ≤ q → (HasCleanDisk (state g new) → IsTrue (state g new).is_open ⊎ Rose r q)
        → ((state g old).is_open ≡ false → Survives (state g old) (state g new) (λ _. ⊥)) → Steps (keeper_state g old r shown w) (keeper_state g new q more v)
    steps keeps was rise seen shut = record {
      counts = rise;
      stood = λ h. was (clean_if_open new h) h;
      was_clean = λ h. let now = no_doubt _ h in doubt_free _ (omega (arith, keeps.clean));
      closes = λ _ clean. seen (no_doubt _ clean);
      sure = λ h. absurd (true≢false (sym h));
      shut = λ fell clean m left. elim ((shut fell).crash (no_doubt _ clean) left.0 left.1) [ inl was ↦ (left.0, was, left.2) | inr none ↦ absurd none ];
    }

    pub stays_told : (HasCleanDisk (state g new) → Stays (state g old) (state g new)) → Tells (keeper_state g old r shown w) (keeper_state g new q more v) → Shows (keeper_state g new q more v) (map_in (state g old).now.trees)
    stays_told stays told =
        let k = stays (clean_if_open new told.1) told.0.1 told.1 in
        ((told.1, k.0), ap (λ (d : Database). map_in d.trees) k.1)

    pub reads : Keeps (state g old) (state g new) → (HasCleanDisk (state g new) → WasOpen (state g old) (state g new)) → r ≤ q → (HasCleanDisk (state g new) → IsTrue (state g new).is_open ⊎ Rose r q) → (HasCleanDisk (state g new) → Stays (state g old) (state g new))
        → Survives (state g old) (state g new) (λ _. ⊥) → v ≡ w → Reads (keeper_state g old r shown w) (keeper_state g new q more v)
    reads keeps was rise seen stays survives same = record {
      steps = steps keeps was rise seen (λ _. survives);
      same = stays_told stays;
      crash = λ clean m left. elim (survives.crash (no_doubt _ clean) left.0 left.1) [ inl was ↦ (left.0, was, left.2) | inr none ↦ absurd none ];
      written = same;
    }

    pub crashes : (n : Tables) → (IsReady (state g old) → Survives (state g old) (state g new) (λ db. map_in db ≡ n)) → (keeper_state g old r shown w).tells → IsTrue (keeper_state g new q more v).is_clean → (m : Tables)
        → (keeper_state g new q more v).may_leave m → (keeper_state g old r shown w).may_leave m ⊎ (m ≡ n)
    crashes n survives told clean m left = elim ((survives told.1).crash (no_doubt _ clean) left.0 left.1) [ inl was ↦ inl (left.0, was, left.2) | inr made ↦ inr (left.2 ∙ made) ]

-- making the table: the map stays, and the last commit was one that a crash might leave
pub made_leaves : {S : Type 0} (g : Ghosts S) (stays : (s : S) → IsTrue (g.view s).is_open → g.recovers s (g.view s).committed) (old new : Held S) → IsTrue (state g old).is_open → IsReady (state g old)
    → Survives (state g old) (state g new) (λ db. map_in db ≡ map_in (state g old).now.trees)
    → IsTrue (state g new).is_clean → (m : Tables) → ((db : Trees) × (state g new).may_leave db × (m ≡ map_in db)) → (db : Trees) × (state g old).may_leave db × (m ≡ map_in db)
made_leaves g stays old new shown it survives clean m left = elim (survives.crash (no_doubt _ clean) left.0 left.1) [
  | inl was ↦ (left.0, was, left.2)
  | inr made ↦ ((g.view old.store).committed, stays old.store shown, left.2 ∙ made ∙ ap (λ (d : Database). map_in d.trees) (nothing_pends (state g old) it))
]

pub made_told : {S : Type 0} (g : Ghosts S) (dirty : (s : S) → (g.view s).is_clean ≡ false → (g.view s).is_open ≡ false) (old new : Held S) (r q : ℕ) (shown more : List ℕ) (w v : ℕ)
    → (IsReady (state g old) → HasCleanDisk (state g new) → IsTrue (state g new).is_open → IsReady (state g new) × (map_in (state g new).now.trees ≡ map_in (state g old).now.trees))
    → Tells (keeper_state g old r shown w) (keeper_state g new q more v) → Shows (keeper_state g new q more v) (map_in (state g old).now.trees)
made_told g dirty old new r q shown more w v kept told = let k = kept told.0.1 (clean_if_open g dirty new told.1) told.1 in ((told.1, k.0), k.1)

pub no_blob : (o : Option (List ℕ)) → None ≡ blob_row o → None ≡ o
no_blob None h = refl
no_blob (Some v) h = absurd cc

pub one_blob : (o : Option (List ℕ)) (r : Row) (b : List ℕ) → Some r ≡ blob_row o → column r 0 ≡ Blob b → Some b ≡ o
one_blob None r b h is = absurd cc
one_blob (Some v) r b h is =
    let row : r ≡ Blob v ∷ [] = cc in
    let same : Blob b ≡ Blob v = sym is ∙ ap (λ (x : Row). column x 0) row in
    let value : b ≡ v = cc in ap Some value

pub counted : (xs : List ℕ) (k v : ℕ) → k < length xs → v ≡ up_to_last (slice_index xs k + 1) → ◌≡◌ {A = ℕ → ℕ} (λ t. slice_index (set xs k v) t) (more_shown k 1 (λ t. slice_index xs t))
counted xs k v low is = λ i t. at t (cases_Bool (t == k)) i
  where
    at : (t : ℕ) → ((t == k) ≡ true) ⊎ ((t == k) ≡ false) → slice_index (set xs k v) t ≡ cond (t == k) (up_to_last (slice_index xs t + 1)) (slice_index xs t)
    at t (inl here) =
        let same : t ≡ k = (unsigned_Decides t k).0 here in
        rw here (ap (λ u. slice_index (set xs k v) u) same ∙ get_or-set_same xs k v 0 low ∙ is ∙ ap (λ u. up_to_last (slice_index xs u + 1)) (sym same))
    at t (inr other) =
        let apart : t ≢ k = λ e. true≢false (sym ((unsigned_Decides t k).1 e) ∙ other) in
        rw other (rw get_or-set_other)

pub counted_by : (xs : List ℕ) (k v n : ℕ) → k < length xs → slice_index xs k ≤ 2 ^ 64 - 1 → v ≡ up_to_last (slice_index xs k + n) → ◌≡◌ {A = ℕ → ℕ} (λ t. slice_index (set xs k v) t) (more_shown k n (λ t. slice_index xs t))
counted_by xs k v zero low fits is = λ i t. at t (cases_Bool (t == k)) i
  where
    at : (t : ℕ) → ((t == k) ≡ true) ⊎ ((t == k) ≡ false) → slice_index (set xs k v) t ≡ slice_index xs t
    at t (inl here) =
        let same : t ≡ k = (unsigned_Decides t k).0 here in
        let value : v ≡ slice_index xs k = omega arith in
        ap (λ u. slice_index (set xs k v) u) same ∙ get_or-set_same xs k v 0 low ∙ value ∙ ap (λ u. slice_index xs u) (sym same)
    at t (inr other) = let apart : t ≢ k = λ e. true≢false (sym ((unsigned_Decides t k).1 e) ∙ other) in rw get_or-set_other
counted_by xs k v (suc n) low fits is = λ i t. at t (cases_Bool (t == k)) i
  where
    at : (t : ℕ) → ((t == k) ≡ true) ⊎ ((t == k) ≡ false) → slice_index (set xs k v) t ≡ cond (t == k) (up_to_last (slice_index xs t + suc n)) (slice_index xs t)
    at t (inl here) =
        let same : t ≡ k = (unsigned_Decides t k).0 here in
        rw here (ap (λ u. slice_index (set xs k v) u) same ∙ get_or-set_same xs k v 0 low ∙ is ∙ ap (λ u. up_to_last (slice_index xs u + suc n)) (sym same))
    at t (inr other) = let apart : t ≢ k = λ e. true≢false (sym ((unsigned_Decides t k).1 e) ∙ other) in rw other (rw get_or-set_other)
