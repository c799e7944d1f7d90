-- The rows of all manual shares of an organisation, and whether there are any.
use Rattle.std.proofs.Common.{◌≡◌, ◌∙◌, ℕ, suc, ◌<◌, ◌^◌, ◌==◌, eqb, Bool, true, false, not, cond, T, IsTrue, List, [], ◌∷◌, ◌++◌, length, map, take, Option, Some, None, is_some, refl, sym, ap, subst, inl, inr, arith, is_lt, Ordering, bytes_eq}
use Rattle.std.specs.Prelude.{◌-◌, IsSome, Result, Ok, Err, Vec, slice_index}
use Rattle.std.specs.FinMap.{is_sorted}
use Rattle.std.specs.FinMap.Entries.{below_all}
use Rattle.std.specs.Ordering.{ordering_then}
use Rattle.std.proofs.lemmas.Bool.{eqb-true}
use Rattle.base_lemmas.proofs.Orders.{nat_cmp-self as tied}
use Rattle.base_lemmas.proofs.Options.{some_from_IsSome as some_of}
use Rattle.base_lemmas.proofs.Bools.{T-and_from as t_both, T-and_first as t_left, T-and_second as t_right, by_answer as pick}
use Rattle.base_lemmas.proofs.Texts.{bytes_eq-self as same_text}
use Rattle.record_read.proofs.RecordFits.{record_is_id}
use Rattle.record_read.proofs.Standing.{found_id}
use Rattle.store_kv.specs.Draft.{Held}
use Rattle.store_kv.specs.Prefixes.{raised}
use Rattle.store_kv.specs.State.{KeeperState}
use Rattle.store_kv.specs.Tables.{Has as HasRow, Tables, bytes_cmp, is_between}
use Rattle.store_kv.specs.declared.keeper.KeptRow.{KeptRow}
use Rattle.store_rows.specs.Forms.{FitsForm, key_bytes, row_bytes}
use Rattle.store_rows.specs.Keys as key
use Rattle.store_rows.specs.Keys.{FitsKey, Grant, Key, spell}
use Rattle.store_rows.specs.Listings.{ListsBetween, ListsTo, rows_to, with_key}
use Rattle.store_rows.specs.Reads.{ListsAs}
use Rattle.store_rows.specs.Rows.{share_form}
use Rattle.store_rows.specs.declared.fail.StoreFail.{StoreFail}
use Rattle.store_rows.specs.declared.fail.StoreFail.TheVariants.{Damaged, Keeper, Memory}
use Rattle.store_rows.specs.declared.share.ShareRow.{ShareRow}
use Rattle.model.specs.declared.record.Record.{Record}
use Rattle.model.specs.Cases.{in_case}
use Rattle.model.specs.Known.{known}
use Rattle.model.specs.Membership.{Has}
use Rattle.model.specs.Objects.{record_at}
use Rattle.model.specs.Shares.{share_cmp, shares_of}
use Rattle.model.specs.Sound.{IsSound}
use Rattle.model.specs.SoundSharing.{IsSoundShare}
use Rattle.model.specs.Tenant.{Share, Tenant}
use Rattle.record_target.proofs.Among.{all_at, among_kept, kept_among}
use Rattle.record_target.proofs.ListedShares.{KeyLaws, prefix_of, shares_listed}
use Rattle.record_target.proofs.PagedShares.{ReadLaws}
use Rattle.store_codec.specs.Plain.{number32, number8}
use Rattle.store_codec.specs.Shapes.{Both, Identity, Named, Number16, Number32, spelled}
use Rattle.store_abstraction.specs.Calls.{Calls, ended}
use Rattle.store_abstraction.specs.Local.{FindsIn, StandsIn, is_own, part_of, rows_alone}
use Rattle.store_abstraction.specs.Metadata.{row_of_share}
use Rattle.store_abstraction.specs.Plan.{OrgPlan}
use Rattle.store_abstraction.proofs.MetadataLists.{PrefixEnds}
use Rattle.store_abstraction.proofs.Pages.{GivesRows, page_gives}
use Rattle.base_value.specs.Id.{is_id}
use Rattle.base_value.specs.Principals.{principal_cmp}
use Rattle.access_user.specs.Sights.{has_any, has_shares}
use Rattle.access_user.specs.inner.Judging.{is_some_row}

-- ---- whether there are any

positive : (n : ℕ) → not (suc n == 0) ≡ true
positive n =
    pick (eqb (suc n) 0) (λ b. eqb (suc n) 0 ≡ b → not b ≡ true)
    (λ _ e. let wrong : suc n ≡ 0 = eqb-true (suc n) 0 e in absurd (omega (arith, wrong)))
    (λ _ _. refl)
    refl

pub not_empty : {X : Type 0} (xs : List X) (b : Bool) → b ≡ (length xs == 0) → ◌≡◌ {A = Result Bool StoreFail} (Ok (not b)) (Ok (has_any xs))
not_empty {X = X} xs b e = ap Ok (ap not e ∙ by xs)
  where
    by : (xs : List X) → not (length xs == 0) ≡ has_any xs
    by [] = refl
    by (x ∷ xs) = positive (length xs)

any_first : (f : Share → ShareRow) (shares : List Share) → has_any (take 1 (map f shares)) ≡ has_any shares
any_first f [] = refl
any_first f (s ∷ shares) = refl

-- ---- keys

-- the keys of all shares begin so, and no others do
abbrev pub under_org : (org : ℕ) → List ℕ
under_org org = number32 org ++ 0 ∷ []

abbrev key_at : (org : ℕ) → Share → List ℕ
key_at org s = spelled share_form.key (org, (tt, (s.item, s.to)))

-- the key of a grant doesn't begin so
marks_apart : (org other : ℕ) (rest more : List ℕ) → number32 other ++ (number8 1 ++ more) ≡ (number32 org ++ 0 ∷ []) ++ rest → ⊥
unfolding number32
marks_apart org other rest more e =
    let wrong : 1 ≡ 0 = ap (λ (bytes : List ℕ). slice_index bytes 4) e in
    omega (arith, wrong)

row_has : (org : ℕ) (ss : List Share) (u : ShareRow) → HasRow (map (row_of_share org) ss) u → (s : Share) × Has ss s × (u ≡ row_of_share org s)
row_has org [] u h = absurd h
row_has org (x ∷ ss) u (inl e) = (x, inl refl, e)
row_has org (x ∷ ss) u (inr h) = let (s, has, is) = row_has org ss u h in (s, inr has, is)

has_row : (org : ℕ) (ss : List Share) (s : Share) → Has ss s → HasRow (map (row_of_share org) ss) (row_of_share org s)
has_row org [] s h = absurd h
has_row org (x ∷ ss) s (inl e) = inl (ap (row_of_share org) e)
has_row org (x ∷ ss) s (inr h) = inr (has_row org ss s h)

-- ---- the rows of a tenant

module _ (keys : KeyLaws) (ends : PrefixEnds) (q : OrgPlan) (t : Tenant) (org : ℕ) (small : org < 2 ^ 32 - 1) (sound : IsSound t) where
  lo : org < 2 ^ 32
  lo = omega (arith, small)

  abbrev rows : Key → Option (List ℕ)
  rows = rows_alone org q (Some t)

  -- those of one record
  record OfRecord (id : List ℕ) : Type 0 where
    above : List ℕ
    raise : raised (prefix_of org id) ≡ Some above
    lists : ListsBetween share_form rows (prefix_of org id) above (map (row_of_share org) (shares_of id t.shares))

  of_record : (id : List ℕ) → IsTrue (is_id id) → OfRecord id
  of_record id is =
      let (above, raise) = some_of (raised (prefix_of org id)) (ends org (number8 0 ++ id) small) in
      record { above = above; raise = raise; lists = shares_listed keys q t org lo sound id is above raise }

  item_is_id : (s : Share) → Has t.shares s → IsTrue (is_id s.item)
  item_is_id s has = by (record_at t s.item) refl (all_at (IsSoundShare (known t) t.objects) s t.shares sound.shares.each has).item
    where
      by : (x : Option Record) → record_at t s.item ≡ x → is_some x ≡ true → IsTrue (is_id s.item)
      by None e h = absurd cc
      by (Some r) e h = let (same, has) = found_id t.records s.item r e in subst (λ (j : List ℕ). IsTrue (is_id j)) same (record_is_id keys.makes t r sound has)

  -- the row of a share
  record Kept (s : Share) : Type 0 where
    fits : FitsForm share_form (row_of_share org s)
    there : rows (key.Share org s.item s.to) ≡ Some (row_bytes share_form (row_of_share org s))

  kept : (s : Share) → Has t.shares s → Kept s
  kept s has =
      let among = kept_among (λ (x : Share). bytes_eq x.item s.item) t.shares s has (same_text s.item) in
      let its = (of_record s.item (item_is_id s has)).lists.sound (row_of_share org s) (has_row org (shares_of s.item t.shares) s among) in
      record { fits = its.0; there = its.2 }

  compare : (a b : Share) → Has t.shares a → Has t.shares b → bytes_cmp (key_at org a) (key_at org b) ≡ share_cmp a b
  compare a b ha hb =
      keys.compares share_form.key refl (org, (tt, (a.item, a.to))) (org, (tt, (b.item, b.to))) (kept a ha).fits.0 (kept b hb).fits.0
      ∙ ap (λ (x : Ordering). ordering_then x (ordering_then (bytes_cmp a.item b.item) (principal_cmp a.to b.to))) (tied org)

  abbrev pairs : List Share → List (Share × Share)
  pairs ss = map (λ (s : Share). (s, s)) ss

  abbrev keyed : List Share → List (List ℕ × ShareRow)
  keyed ss = map (with_key share_form) (map (row_of_share org) ss)

  below_keys : (a : Share) (ss : List Share) → Has t.shares a → ((s : Share) → Has ss s → Has t.shares s) → T (below_all share_cmp a (pairs ss)) → T (below_all bytes_cmp (key_at org a) (keyed ss))
  below_keys a [] ha each h = tt
  below_keys a (s ∷ ss) ha each h =
      let less = t_left (is_lt (share_cmp a s)) (below_all share_cmp a (pairs ss)) h in
      t_both (is_lt (bytes_cmp (key_at org a) (key_at org s))) (below_all bytes_cmp (key_at org a) (keyed ss))
      (subst (λ (x : Ordering). T (is_lt x)) (sym (compare a s ha (each s (inl refl)))) less)
      (below_keys a ss ha (λ x has. each x (inr has)) (t_right (is_lt (share_cmp a s)) (below_all share_cmp a (pairs ss)) h))

  keys_rise : (ss : List Share) → ((s : Share) → Has ss s → Has t.shares s) → T (is_sorted share_cmp (pairs ss)) → T (is_sorted bytes_cmp (keyed ss))
  keys_rise [] each h = tt
  keys_rise (s ∷ ss) each h =
      t_both (below_all bytes_cmp (key_at org s) (keyed ss)) (is_sorted bytes_cmp (keyed ss))
      (below_keys s ss (each s (inl refl)) (λ x has. each x (inr has)) (t_left (below_all share_cmp s (pairs ss)) (is_sorted share_cmp (pairs ss)) h))
      (keys_rise ss (λ x has. each x (inr has)) (t_right (below_all share_cmp s (pairs ss)) (is_sorted share_cmp (pairs ss)) h))

  module _ (above : List ℕ) (raise : raised (under_org org) ≡ Some above) where
    inside : (s : Share) → Has t.shares s → is_between (under_org org) above (key_at org s) ≡ true
    inside s has =
        let fits = (kept s has).fits.0 in
        (keys.under (key.Share org s.item s.to) (under_org org) above fits raise).1
        ((keys.begins 2 share_form.key (org, (tt, (s.item, s.to))) (org, tt) fits (lo, tt)).1 refl)

    complete : (k : Key) (bytes : List ℕ) → FitsKey k → (spell k).0 ≡ 12 → IsTrue (is_between (under_org org) above (spell k).1) → rows k ≡ Some bytes
        → (u : ShareRow) × HasRow (map (row_of_share org) t.shares) u × (key.Share u.org u.id u.to ≡ k)
    complete (key.Share a i p) bytes fits table within here =
        let starts = (keys.under (key.Share a i p) (under_org org) above fits raise).0 within in
        let same : ◌≡◌ {A = ℕ × Unit {0}} (a, tt) (org, tt) = (keys.begins 2 share_form.key (a, (tt, (i, p))) (org, tt) fits (lo, tt)).0 starts in
        let at : a ≡ org = ap (λ (x : ℕ × Unit {0}). x.0) same in
        let id : IsTrue (is_id i) = fits.1.1.0 in
        let its = of_record i id in
        let front : ◌≡◌ {A = ℕ × (Unit {0} × List ℕ)} (a, (tt, i)) (org, (tt, i)) = ap (λ (n : ℕ). (n, (tt, i))) at in
        let there = (keys.under (key.Share a i p) (prefix_of org i) its.above fits its.raise).1
        ((keys.begins 3 share_form.key (a, (tt, (i, p))) (org, (tt, i)) fits (lo, (tt, id))).1 front) in
        let (u, has, is) = its.lists.complete (key.Share a i p) bytes fits table there here in
        let (s, among, row) = row_has org (shares_of i t.shares) u has in
        let of : Has t.shares s = (among_kept (λ (x : Share). bytes_eq x.item i) t.shares s among).0 in
        (u, subst (λ (v : ShareRow). HasRow (map (row_of_share org) t.shares) v) (sym row) (has_row org t.shares s of), is)
    complete (Grant a p n i c) bytes fits table within here =
        let (rest, starts) = (keys.under (Grant a p n i c) (under_org org) above fits raise).0 within in
        absurd (marks_apart org a rest (spelled (Both Named (Both Number16 (Both Identity Number32))) (p, (n, (i, c)))) starts)
    complete k bytes fits table within here = absurd (omega (arith, table))

    all_listed : ListsBetween share_form rows (under_org org) above (map (row_of_share org) t.shares)
    all_listed = record {
      rises = keys_rise t.shares (λ s has. has) sound.shares.rise;
      sound = λ u has.
          let (s, there, same) = row_has org t.shares u has in
          subst (λ (v : ShareRow). FitsForm share_form v × IsTrue (is_between (under_org org) above (key_bytes share_form v)) × (rows (key.Share v.org v.id v.to) ≡ Some (row_bytes share_form v))) (sym same)
          ((kept s there).fits, inside s there, (kept s there).there);
      complete = complete;
    }

-- ---- the rows of an organisation

abbrev share_rows : (org : ℕ) → Option Tenant → List ShareRow
share_rows org t = in_case t [] (λ u. map (row_of_share org) u.shares)

-- where there is no organisation there are no rows
none_listed : (org : ℕ) (q : OrgPlan) (from above : List ℕ) → ListsBetween share_form (rows_alone org q None) from above []
none_listed org q from above = record {
  rises = tt;
  sound = λ u has. absurd has;
  complete = λ k row fits table within has. absurd (nothing (is_own org k) row has);
}
  where
    nothing : (b : Bool) (row : List ℕ) → ◌≡◌ {A = Option (List ℕ)} (cond b None None) (Some row) → ⊥
    nothing true row e = cc
    nothing false row e = cc

module _ (laws : ReadLaws) (m : Tables) (org : ℕ) (lo : org < 2 ^ 32) where
  listed_in : (q : OrgPlan) (t : Option Tenant) → StandsIn org q m t → ListsTo share_form (rows_alone org q t) (under_org org) (raised (under_org org)) (share_rows org t)
  listed_in q t s = by t s (raised (under_org org)) refl
    where
      clash : {A : Type 0} (o : Option A) → IsSome o → o ≡ None → ⊥
      clash None h e = absurd cc
      clash (Some x) h e = cc

      by : (t : Option Tenant) → StandsIn org q m t → (a : Option (List ℕ)) → raised (under_org org) ≡ a → ListsTo share_form (rows_alone org q t) (under_org org) a (share_rows org t)
      by None s None g = refl
      by None s (Some above) g = none_listed org q (under_org org) above
      by (Some t) s None g = absurd (clash (raised (under_org org)) (laws.ends org (0 ∷ []) s.number) g)
      by (Some t) s (Some above) g = all_listed laws.keys laws.ends q t org s.number s.sound above g

  -- the rows under the mark are those of the organisation's part
  in_part : rows_to m 12 (under_org org) (raised (under_org org)) ≡ rows_to (part_of org m) 12 (under_org org) (raised (under_org org))
  in_part = by (raised (under_org org)) refl
    where
      by : (a : Option (List ℕ)) → raised (under_org org) ≡ a → rows_to m 12 (under_org org) a ≡ rows_to (part_of org m) 12 (under_org org) a
      by None e = refl
      by (Some above) e = laws.listed m org 12 (under_org org) above (λ key within. laws.under org (0 ∷ []) above key e within)

  first_of : (t : Option Tenant) → has_any (take 1 (share_rows org t)) ≡ has_shares t
  first_of None = refl
  first_of (Some t) = any_first (row_of_share org) t.shares

  module _ {A : Type 0} where
    gives : (q : OrgPlan) (t : Option Tenant) (r : Result (Vec ShareRow A) StoreFail) → ListsAs share_form (take 1 (rows_to m 12 (under_org org) (raised (under_org org)))) r → StandsIn org q m t → GivesRows (take 1 (share_rows org t)) r
    gives q t r e s =
        page_gives share_form laws.pages (part_of org m) (rows_alone org q t) s.rows (under_org org) (raised (under_org org)) (share_rows org t) 1 (listed_in q t s) r
        (subst (λ (kept : List KeptRow). ListsAs share_form (take 1 kept) r) in_part e)

    by_rows : (r : Result (Vec ShareRow A) StoreFail) → ((q : OrgPlan) (t : Option Tenant) → StandsIn org q m t → GivesRows (take 1 (share_rows org t)) r) → FindsIn org (λ q t. has_shares t) m (is_some_row r)
    by_rows (Ok rows) h = λ q t s. ap has_any (h q t s) ∙ first_of t
    by_rows (Err Damaged) h = λ q t s. h q t s
    by_rows (Err Keeper) h = tt
    by_rows (Err Memory) h = tt

    -- whether some row was read is whether there are shares
    pub shares_read : (r : Result (Vec ShareRow A) StoreFail) → ListsAs share_form (take 1 (rows_to m 12 (under_org org) (raised (under_org org)))) r → (x : Result Bool StoreFail) → x ≡ is_some_row r
        → FindsIn org (λ q t. has_shares t) m x
    shares_read r e x is = subst (FindsIn org (λ q t. has_shares t) m) (sym is) (by_rows r (λ q t s. gives q t r e s))

-- ---- how it ended

pub ends_alike : {K U A : Type 0} (state : K → KeeperState) (a b : Held K) (r : Result (Vec U A) StoreFail) (x : Result Bool StoreFail) → x ≡ is_some_row r → Calls state 0 (ended r) a b → Calls state 0 (ended x) a b
ends_alike {K = K} {U = U} {A = A} state a b r x is h = subst (λ (y : Result Bool StoreFail). Calls state 0 (ended y) a b) (sym is) (by r h)
  where
    by : (r : Result (Vec U A) StoreFail) → Calls state 0 (ended r) a b → Calls state 0 (ended (is_some_row r)) a b
    by (Ok rows) h = h
    by (Err e) h = h
