-- Keys whose paths are bound.
use Rattle.std.proofs.Common.{◌≡◌, ℕ, ◌+◌, ◌<◌, ◌≤◌, List, [], ◌∷◌, ◌++◌, drop, length, get_or, ap, sym, subst, ◌∙◌, append_assoc, append-nil}
use Rattle.std.proofs.lemmas.List.{at_drop_all, at_drop_more}
use Rattle.base_value.specs.declared.value.Value.{Value}
use Rattle.soql.specs.declared.query.OrderKey.{OrderKey}
use Rattle.model.specs.Paths.{path_value}
use Rattle.store_abstraction.specs.declared.layout.Layout.{Layout}
use Rattle.query_plan.specs.declared.paths.branches.Branch.{Branch}
use Rattle.query_plan.specs.declared.plan.SortKey.{SortKey}
use Rattle.query_bind.specs.declared.spots.Bound.{Bound}
use Rattle.query_plan.specs.Checks.{spot_value}
use Rattle.query_plan.specs.Plans.{values_by}
use Rattle.model.specs.Ordered.{key_cmp}
use Rattle.query_plan.specs.paths.Branches.{AddsBranches, AreBranches}
use Rattle.query_plan.proofs.Branching.{added_twice}
use Rattle.query_bind.proofs.Placing.{unchanged}
use Rattle.query_bind.proofs.Tested.{behind_both}
use Rattle.query_bind.specs.inner.Ends.{BindsKey, Each}
use Rattle.query_bind.specs.inner.Spots.{Binds, far_of}

pub key_bound : (ls : List Layout) (l : Layout) (branches : List Branch) (key : OrderKey) (b : Bound) → Binds ls l branches key.path.names b
    → BindsKey ls l branches key (record { spot = b.spot; descending = key.descending; nulls_last = key.nulls_last })
key_bound ls l branches key b binds = record {
  order = λ s c r t serve there one other more.
      let k : SortKey = record { spot = b.spot; descending = key.descending; nulls_last = key.nulls_last } in
      ap (λ (v : Value). values_by k v (spot_value (far_of s t (branches ++ more)) t b.spot)) ((binds s c r serve there one).value more)
      ∙ ap (λ (v : Value). values_by k (path_value s.asked r key.path.names) v) ((binds s c t serve there other).value more);
}

pub key_later : (ls : List Layout) (l : Layout) (old new : List Branch) → AddsBranches old new → (key : OrderKey) (k : SortKey) → BindsKey ls l old key k → BindsKey ls l new key k
key_later ls l old new adds key k binds = record {
  order = λ s c r t serve there one other more.
      subst (λ (bs : List Branch). values_by k (spot_value (far_of s r bs) r k.spot) (spot_value (far_of s t bs) t k.spot) ≡ key_cmp key (path_value s.asked r key.path.names) (path_value s.asked t key.path.names))
      (sym (behind_both old new more adds)) (binds.order s c r t serve there one other (adds.more ++ more));
}

-- ---- one after the other, while branches are added

module _ {X Y : Type 0} (P : List Branch → X → Y → Type 0) where
  -- whatever branches follow, if the rest is bound, all are
  abbrev pub SoFar : List Branch → List X → ℕ → List Y → Type 0
  SoFar bs xs i ys = (new : List Branch) → AddsBranches bs new → (zs : List Y) → Each (P new) (drop i xs) zs → Each (P new) xs (ys ++ zs)

  pub each_more : ((old new : List Branch) → AddsBranches old new → (x : X) (y : Y) → P old x y → P new x y)
      → (old mid : List Branch) → AddsBranches old mid → (xs : List X) (i : ℕ) (x : X) (ys pushed : List Y) (y : Y) → i < length xs → x ≡ get_or xs i x → pushed ≡ ys ++ y ∷ []
      → P mid x y → SoFar old xs i ys → SoFar mid xs (i + 1) pushed
  each_more later old mid adds xs i x ys pushed y lt is grown bound so_far new more zs rest =
      let at : drop i xs ≡ x ∷ drop (i + 1) xs = at_drop_more (λ (rest : List X). rest) xs i x lt ∙ ap (λ (z : X). z ∷ drop (i + 1) xs) (sym is) in
      let all : Each (P new) (drop i xs) (y ∷ zs) = subst (λ (ws : List X). Each (P new) ws (y ∷ zs)) (sym at) (later mid new more x y bound, rest) in
      subst (λ (ws : List Y). Each (P new) xs ws) (sym (ap (λ (ws : List Y). ws ++ zs) grown ∙ append_assoc ys (y ∷ []) zs)) (so_far new (added_twice old mid new adds more) (y ∷ zs) all)

  pub each_end : (bs : List Branch) → AreBranches bs → (xs : List X) (i : ℕ) (ys : List Y) → length xs ≤ i → SoFar bs xs i ys → Each (P bs) xs ys
  each_end bs order xs i ys le so_far =
      let none : drop i xs ≡ [] = at_drop_all (λ (rest : List X). rest) xs i le in
      subst (λ (ws : List Y). Each (P bs) xs ws) (append-nil ys) (so_far bs (unchanged bs order) [] (subst (λ (ws : List X). Each (P bs) ws []) (sym none) tt))
