-- The rows of shares: those that stay where one comes or ends, and its own.
use Rattle.std.proofs.Common.{◌≡◌, ◌∙◌, ℕ, Bool, true, false, not, cond, List, [], ◌∷◌, Option, Some, None, refl, sym, ap, subst, filter, find}
use Rattle.std.specs.Option.{option_map}
use Rattle.std.specs.declared.cmp.Ordering.{Ordering}
use Rattle.std.specs.declared.cmp.Ordering.TheVariants.{Less, Equal, Greater}
use Rattle.std.specs.Ordering.{is_eq, is_lt, nat_cmp, ordering_then}
use Rattle.std.specs.Cmp.Lexicographic.{slice_cmp}
use Rattle.base_lemmas.proofs.Lists.{is_eq-slice_cmp_self as ids_same}
use Rattle.std.proofs.lemmas.Bool.{true≢false as true_false}
use Rattle.base_value.specs.Principals.{principal_cmp}
use Rattle.base_value.specs.declared.sharing.Level.TheVariants.{Read}
use Rattle.base_value.specs.declared.sharing.Principal.{Principal}
use Rattle.store_rows.specs.Forms.{row_bytes}
use Rattle.store_rows.specs.Keys as key
use Rattle.store_rows.specs.Keys.{Key}
use Rattle.store_rows.specs.Rows.{share_form}
use Rattle.model.specs.Ordered.{put_in}
use Rattle.model.specs.Shares.{same_share, share_cmp, with_share, without_share}
use Rattle.model.specs.Tenant.{Share, Tenant}
use Rattle.store_abstraction.specs.Metadata.{row_of_share}
use Rattle.store_abstraction.specs.Plan.{OrgPlan}
use Rattle.store_abstraction.specs.Stands.{kept_at, row_in}
use Rattle.record_target.proofs.SharePlaces.{SamePrincipals, one_place}
use Rattle.access_shares.specs.Shares.{is_share_key}

-- ---- what is looked for in a list

-- one that doesn't pass changes nothing
find_put : {X : Type 0} (order : X → X → Ordering) (q : X → Bool) (s : X) (xs : List X) → q s ≡ false → find q (put_in order s xs) ≡ find q xs
find_put order q s [] e = ap (λ (b : Bool). cond b (Some s) None) e
find_put {X} order q s (y ∷ ys) e = by (find_put order q s ys e) (is_lt (order s y))
  where
    by : find q (put_in order s ys) ≡ find q ys → (b : Bool) → find q (cond b (s ∷ y ∷ ys) (y ∷ put_in order s ys)) ≡ find q (y ∷ ys)
    by rest true = ap (λ (b : Bool). cond b (Some s) (find q (y ∷ ys))) e
    by rest false = ap (cond (q y) (Some y)) rest

-- one that passes is found where no other does
find_new : {X : Type 0} (order : X → X → Ordering) (q : X → Bool) (s : X) (xs : List X) → q s ≡ true → find q xs ≡ None → find q (put_in order s xs) ≡ Some s
find_new order q s [] e none = ap (λ (b : Bool). cond b (Some s) None) e
find_new {X} order q s (y ∷ ys) e none = by (q y) refl (find_new order q s ys e) (is_lt (order s y))
  where
    gone : ◌≡◌ {A = Option X} (Some y) None → ⊥
    gone e = cc

    by : (c : Bool) → q y ≡ c → (find q ys ≡ None → find q (put_in order s ys) ≡ Some s) → (b : Bool) → find q (cond b (s ∷ y ∷ ys) (y ∷ put_in order s ys)) ≡ Some s
    by true h rest b = absurd (gone (sym (ap (λ (c : Bool). cond c (Some y) (find q ys)) h) ∙ none))
    by false h rest true = ap (λ (b : Bool). cond b (Some s) (find q (y ∷ ys))) e
    by false h rest false = ap (λ (b : Bool). cond b (Some y) (find q (put_in order s ys))) h ∙ rest (sym (ap (λ (c : Bool). cond c (Some y) (find q ys)) h) ∙ none)

-- what passes is kept
find_kept : {X : Type 0} (q keep : X → Bool) (xs : List X) → ((x : X) → q x ≡ true → keep x ≡ true) → find q (filter keep xs) ≡ find q xs
find_kept q keep [] kept = refl
find_kept {X} q keep (x ∷ xs) kept = by (find_kept q keep xs kept) (keep x) refl (q x) refl
  where
    by : find q (filter keep xs) ≡ find q xs → (b : Bool) → keep x ≡ b → (c : Bool) → q x ≡ c → find q (cond b (x ∷ filter keep xs) (filter keep xs)) ≡ find q (x ∷ xs)
    by rest true k c is = ap (cond (q x) (Some x)) rest
    by rest false k true is = absurd (true_false (sym (kept x is) ∙ k))
    by rest false k false is = rest ∙ sym (ap (λ (b : Bool). cond b (Some x) (find q xs)) is)

-- what passes isn't kept
find_none : {X : Type 0} (q keep : X → Bool) (xs : List X) → ((x : X) → q x ≡ true → keep x ≡ false) → find q (filter keep xs) ≡ None
find_none q keep [] kept = refl
find_none {X} q keep (x ∷ xs) kept = by (find_none q keep xs kept) (keep x) refl (q x) refl
  where
    by : find q (filter keep xs) ≡ None → (b : Bool) → keep x ≡ b → (c : Bool) → q x ≡ c → find q (cond b (x ∷ filter keep xs) (filter keep xs)) ≡ None
    by rest false k c is = rest
    by rest true k true is = absurd (true_false (sym k ∙ kept x is))
    by rest true k false is = ap (λ (b : Bool). cond b (Some x) (find q (filter keep xs))) is ∙ rest

-- ---- shares of one record with one principal

then_same : (a b : Ordering) → is_eq a ≡ true → is_eq b ≡ true → is_eq (ordering_then a b) ≡ true
then_same Less b e f = absurd cc
then_same Equal b e f = f
then_same Greater b e f = absurd cc

module _ (same : SamePrincipals) where
  pub is_same : (a b : Share) → a.item ≡ b.item → a.to ≡ b.to → same_share a b ≡ true
  is_same a b e f =
      then_same (slice_cmp nat_cmp a.item b.item) (principal_cmp a.to b.to)
      (subst (λ (i : List ℕ). is_eq (slice_cmp nat_cmp a.item i) ≡ true) e (ids_same a.item))
      ((same a.to b.to).1 f)

  abbrev at_key : List ℕ → Principal → Share
  at_key id p = record { item = id; to = p; level = Read }

  -- another share than this one is kept
  kept_beside : (s a x : Share) → same_share a s ≡ false → same_share a x ≡ true → not (same_share x s) ≡ true
  kept_beside s a x apart is = by (same_share x s) refl
    where
      by : (b : Bool) → same_share x s ≡ b → not b ≡ true
      by false e = refl
      by true e = let p = one_place same a x is in let q = one_place same x s e in absurd (true_false (sym (is_same a s (p.0 ∙ q.0) (p.1 ∙ q.1)) ∙ apart))

  gone_at : (s x : Share) → same_share (at_key s.item s.to) x ≡ true → not (same_share x s) ≡ false
  gone_at s x is = let p = one_place same (at_key s.item s.to) x is in ap not (is_same x s (sym p.0) (sym p.1))

  -- ---- rows

  module _ (p : OrgPlan) (t : Tenant) where
    pub no_share_rest : (s : Share) (k : Key) → is_share_key s k ≡ false → row_in p (record t { shares = without_share s t.shares }) k ≡ row_in p t k
    unfolding row_in kept_at
    no_share_rest s (key.Share org id to) e =
        ap (option_map (λ s. row_bytes share_form (row_of_share org s))) (find_kept (same_share (at_key id to)) (λ x. not (same_share x s)) t.shares (λ x is. kept_beside s (at_key id to) x e is))
    no_share_rest s k e = refl

    pub share_rest : (s : Share) (k : Key) → is_share_key s k ≡ false → row_in p (record t { shares = with_share s t.shares }) k ≡ row_in p t k
    unfolding row_in kept_at
    share_rest s (key.Share org id to) e =
        ap (option_map (λ s. row_bytes share_form (row_of_share org s)))
        (find_put share_cmp (same_share (at_key id to)) s (without_share s t.shares) e
        ∙ find_kept (same_share (at_key id to)) (λ x. not (same_share x s)) t.shares (λ x is. kept_beside s (at_key id to) x e is))
    share_rest s k e = refl

    pub unshared : (org : ℕ) (s : Share) → row_in p (record t { shares = without_share s t.shares }) (key.Share org s.item s.to) ≡ None
    unfolding row_in
    unshared org s = ap (option_map (λ s. row_bytes share_form (row_of_share org s))) (find_none (same_share (at_key s.item s.to)) (λ x. not (same_share x s)) t.shares (gone_at s))

    pub shared : (org : ℕ) (s : Share) → row_in p (record t { shares = with_share s t.shares }) (key.Share org s.item s.to) ≡ Some (row_bytes share_form (row_of_share org s))
    unfolding row_in
    shared org s =
        ap (option_map (λ s. row_bytes share_form (row_of_share org s)))
        (find_new share_cmp (same_share (at_key s.item s.to)) s (without_share s t.shares) (is_same (at_key s.item s.to) s refl refl)
        (find_none (same_share (at_key s.item s.to)) (λ x. not (same_share x s)) t.shares (gone_at s)))
