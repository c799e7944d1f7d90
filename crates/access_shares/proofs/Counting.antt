-- The shares of a record, counted and looked through by their rows.
use Rattle.std.proofs.Common.{◌≡◌, ◌∙◌, ◌+◌, ℕ, suc, Bool, true, false, not, ◌||◌, cond, List, [], ◌∷◌, length, map, filter, add-one, refl, sym, ap, arith, bytes_eq}
use Rattle.std.specs.List.{list_any}
use Rattle.std.specs.declared.cmp.Ordering.{Ordering}
use Rattle.std.specs.Ordering.{eq_by_cmp, is_eq, is_lt, nat_cmp, ordering_then}
use Rattle.std.specs.Cmp.Lexicographic.{slice_cmp}
use Rattle.std.proofs.lemmas.Map.Text.{is_eq-slice_cmp}
use Rattle.std.proofs.lemmas.Slice.Eq.{bytes_eq-Decides}
use Rattle.base_lemmas.proofs.Orders.{equal_from_is_eq as is_equal}
use Rattle.std.proofs.lemmas.Bool.{true≢false as true_false}
use Rattle.store_rows.specs.declared.share.ShareRow.{ShareRow}
use Rattle.model.specs.Ordered.{put_in}
use Rattle.model.specs.Shares.{same_share, share_cmp, shares_of, with_share, without_share}
use Rattle.model.specs.Tenant.{Share}
use Rattle.record_target.proofs.SharePlaces.{SamePrincipals, one_place}
use Rattle.store_abstraction.specs.Metadata.{row_of_share}
use Rattle.base_value.specs.Principals.{principal_cmp}
use Rattle.base_value.specs.declared.sharing.Principal.{Principal}
use Rattle.access_shares.proofs.ShareRows.{is_same}

-- one more that passes
put_count : {X : Type 0} (order : X → X → Ordering) (q : X → Bool) (s : X) (xs : List X) → q s ≡ true → length (filter q (put_in order s xs)) ≡ length (filter q xs) + 1
put_count order q s [] e = ap (λ (b : Bool). length (cond b (s ∷ []) [])) e
put_count {X} order q s (y ∷ ys) e = by (put_count order q s ys e) (is_lt (order s y))
  where
    later : length (filter q (put_in order s ys)) ≡ length (filter q ys) + 1 → (c : Bool)
        → length (cond c (y ∷ filter q (put_in order s ys)) (filter q (put_in order s ys))) ≡ length (cond c (y ∷ filter q ys) (filter q ys)) + 1
    later rest true = omega (arith, rest)
    later rest false = rest

    by : length (filter q (put_in order s ys)) ≡ length (filter q ys) + 1 → (b : Bool)
        → length (filter q (cond b (s ∷ y ∷ ys) (y ∷ put_in order s ys))) ≡ length (filter q (y ∷ ys)) + 1
    by rest true = ap (λ (c : Bool). length (cond c (s ∷ filter q (y ∷ ys)) (filter q (y ∷ ys)))) e ∙ sym (add-one (length (filter q (y ∷ ys))))
    by rest false = later rest (q y)

module _ (same : SamePrincipals) (org : ℕ) (s : Share) where
  abbrev of_it : Share → Bool
  of_it x = bytes_eq x.item s.item

  abbrev stays : Share → Bool
  stays x = not (same_share x s)

  abbrev with_it : ShareRow → Bool
  with_it row = eq_by_cmp principal_cmp row.to s.to

  -- of the record, a share is the same where it is with the same principal
  same_to : (x : Share) → of_it x ≡ true → same_share x s ≡ eq_by_cmp principal_cmp x.to s.to
  same_to x e = ap (λ (o : Ordering). is_eq (ordering_then o (principal_cmp x.to s.to))) (is_equal (slice_cmp nat_cmp x.item s.item) (is_eq-slice_cmp x.item s.item ∙ e))

  not_same : (x : Share) → of_it x ≡ false → same_share x s ≡ false
  not_same x e = by (same_share x s) refl
    where
      by : (b : Bool) → same_share x s ≡ b → b ≡ false
      by false f = refl
      by true f = absurd (true_false (sym ((bytes_eq-Decides x.item s.item).1 (one_place same x s f).0) ∙ e))

  same_sym : (x : Share) → same_share s x ≡ same_share x s
  same_sym x = by (same_share s x) refl (same_share x s) refl
    where
      by : (b : Bool) → same_share s x ≡ b → (c : Bool) → same_share x s ≡ c → b ≡ c
      by true e true f = refl
      by false e false f = refl
      by true e false f = let p = one_place same s x e in absurd (true_false (sym (is_same same x s (sym p.0) (sym p.1)) ∙ f))
      by false e true f = let p = one_place same x s f in absurd (true_false (sym (is_same same s x (sym p.0) (sym p.1)) ∙ e))

  rows_count : (xs : List Share) → length (filter of_it (filter stays xs)) ≡ length (filter (λ row. not (with_it row)) (map (row_of_share org) (filter of_it xs)))
  rows_count [] = refl
  rows_count (x ∷ xs) = by (rows_count xs) (of_it x) refl (stays x) refl
    where
      by : length (filter of_it (filter stays xs)) ≡ length (filter (λ row. not (with_it row)) (map (row_of_share org) (filter of_it xs)))
          → (b : Bool) → of_it x ≡ b → (c : Bool) → stays x ≡ c
          → length (filter of_it (cond c (x ∷ filter stays xs) (filter stays xs))) ≡ length (filter (λ row. not (with_it row)) (map (row_of_share org) (cond b (x ∷ filter of_it xs) (filter of_it xs))))
      by rest true of true kept =
          let rows = filter (λ (row : ShareRow). not (with_it row)) (map (row_of_share org) (filter of_it xs)) in
          ap (λ (b : Bool). length (cond b (x ∷ filter of_it (filter stays xs)) (filter of_it (filter stays xs)))) of
          ∙ ap suc rest
          ∙ sym (ap (λ (b : Bool). length (cond b (row_of_share org x ∷ rows) rows)) (sym (ap not (same_to x of)) ∙ kept))
      by rest true of false gone =
          let rows = filter (λ (row : ShareRow). not (with_it row)) (map (row_of_share org) (filter of_it xs)) in
          rest ∙ sym (ap (λ (b : Bool). length (cond b (row_of_share org x ∷ rows) rows)) (sym (ap not (same_to x of)) ∙ gone))
      by rest false of true kept = ap (λ (b : Bool). length (cond b (x ∷ filter of_it (filter stays xs)) (filter of_it (filter stays xs)))) of ∙ rest
      by rest false of false gone = rest

  shared_rows : (xs : List Share) → list_any (same_share s) xs ≡ list_any with_it (map (row_of_share org) (filter of_it xs))
  shared_rows [] = refl
  shared_rows (x ∷ xs) = by (shared_rows xs) (of_it x) refl
    where
      by : list_any (same_share s) xs ≡ list_any with_it (map (row_of_share org) (filter of_it xs)) → (b : Bool) → of_it x ≡ b
          → (same_share s x || list_any (same_share s) xs) ≡ list_any with_it (map (row_of_share org) (cond b (x ∷ filter of_it xs) (filter of_it xs)))
      by rest true of = ap (λ (c : Bool). c || list_any (same_share s) xs) (same_sym x ∙ same_to x of) ∙ ap (λ (c : Bool). eq_by_cmp principal_cmp x.to s.to || c) rest
      by rest false of = ap (λ (c : Bool). c || list_any (same_share s) xs) (same_sym x ∙ not_same x of) ∙ rest

  module _ (id : List ℕ) (to : Principal) (rows items : List ShareRow) (xs : List Share) (item_is : s.item ≡ id) (to_is : s.to ≡ to) (listed : rows ≡ map (row_of_share org) (shares_of id xs)) (all : items ≡ rows) where
    rows_are : items ≡ map (row_of_share org) (shares_of s.item xs)
    rows_are = all ∙ listed ∙ ap (λ (i : List ℕ). map (row_of_share org) (shares_of i xs)) (sym item_is)

    -- how many the record has once this one is put
    pub room_is : (n : ℕ) → n ≡ length (filter (λ row. not (eq_by_cmp principal_cmp row.to to)) items) → n + 1 ≡ length (shares_of s.item (with_share s xs))
    room_is n is =
        ap (λ (m : ℕ). m + 1)
        (is
        ∙ ap (λ (p : Principal). length (filter (λ (row : ShareRow). not (eq_by_cmp principal_cmp row.to p)) items)) (sym to_is)
        ∙ ap (λ (us : List ShareRow). length (filter (λ (row : ShareRow). not (with_it row)) us)) rows_are ∙ sym (rows_count xs))
        ∙ sym (put_count share_cmp of_it s (without_share s xs) ((bytes_eq-Decides s.item s.item).1 refl))

    -- whether it is one of them
    pub shared_is : (b : Bool) → b ≡ list_any (λ row. eq_by_cmp principal_cmp row.to to) items → list_any (same_share s) xs ≡ b
    shared_is b is =
        shared_rows xs ∙ sym (ap (list_any with_it) rows_are)
        ∙ ap (λ (p : Principal). list_any (λ (row : ShareRow). eq_by_cmp principal_cmp row.to p) items) to_is
        ∙ sym is
