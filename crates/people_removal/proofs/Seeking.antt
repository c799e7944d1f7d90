-- Some row of an organisation's manual shares is sought exactly if some share of its tenant is.
use Rattle.std.proofs.Common.{◌≡◌, ◌∙◌, ℕ, ◌<◌, ◌^◌, Bool, true, false, cond, IsTrue, List, [], ◌∷◌, ◌++◌, map, Option, Some, None, is_some, refl, sym, ap, subst, inl, inr, arith, bytes_eq}
use Rattle.std.specs.Prelude.{◌⊎◌, ◌-◌, Result, Ok, Err, slice_index}
use Rattle.std.specs.FinMap as map
use Rattle.std.specs.List.{list_any}
use Rattle.std.proofs.lemmas.Bool.{or_left, or_right, or_cases as or_either}
use Rattle.std.proofs.lemmas.Option.{same_Some as some_is}
use Rattle.base_lemmas.proofs.Options.{some_from_IsSome as some_of}
use Rattle.base_lemmas.proofs.Bools.{by_answer as pick}
use Rattle.base_lemmas.proofs.Texts.{bytes_eq-self as same_text}
use Rattle.base_value.specs.Id.{is_id}
use Rattle.base_value.specs.declared.sharing.Principal.{Principal}
use Rattle.record_read.proofs.RecordFits.{record_is_id}
use Rattle.record_read.proofs.Standing.{found_id}
use Rattle.record_read.proofs.Walking.{UnderNumber}
use Rattle.record_target.proofs.Among.{all_at, among_kept, kept_among}
use Rattle.record_target.proofs.ListedShares.{KeyLaws, prefix_of, shares_listed}
use Rattle.store_kv.specs.declared.keeper.KeptRow.{KeptRow}
use Rattle.store_kv.specs.Prefixes.{raised}
use Rattle.store_kv.specs.Tables.{Has as HasRow, IsListing, Place, Tables, is_between, rows_between}
use Rattle.store_rows.specs.declared.fail.StoreFail.{StoreFail}
use Rattle.store_rows.specs.declared.fail.StoreFail.TheVariants.{Keeper, Memory, Damaged}
use Rattle.store_rows.specs.declared.share.ShareRow.{ShareRow}
use Rattle.store_rows.specs.Forms.{FitsForm, kept_as, row_bytes}
use Rattle.store_rows.specs.Keys as key
use Rattle.store_rows.specs.Keys.{FitsKey, Grant, Key, spell}
use Rattle.store_rows.specs.Listings.{ListsBetween, rows_to}
use Rattle.store_rows.specs.Rows.{share_form}
use Rattle.store_codec.specs.Plain.{number32, number8}
use Rattle.store_codec.specs.Shapes.{Both, Identity, Named, Number16, Number32, spelled}
use Rattle.model.specs.declared.record.Record.{Record}
use Rattle.model.specs.Known.{known}
use Rattle.model.specs.Membership.{Has}
use Rattle.model.specs.Objects.{record_at}
use Rattle.model.specs.Shares.{shares_of}
use Rattle.model.specs.SoundSharing.{IsSoundShare}
use Rattle.model.specs.Tenant.{Share, Tenant}
use Rattle.store_abstraction.specs.Local.{FindsIn, StandsIn, is_own, part_of, rows_alone}
use Rattle.store_abstraction.specs.Metadata.{row_of_share}
use Rattle.store_abstraction.specs.Plan.{OrgPlan}
use Rattle.store_abstraction.proofs.LayoutReads.{ListedIn}
use Rattle.store_abstraction.proofs.MetadataLists.{PrefixEnds}
use Rattle.people_removal.specs.inner.Scanning.{IsShare, Scans, any_with, kept_after, shares_front}
use Rattle.people_removal.proofs.Scanned.{AreApart, same_to}

-- ---- laws, as lower crates say

abbrev pub ListsRows : Type 0
ListsRows = (m : Tables) (table : ℕ) (from below : List ℕ) → IsListing m table from below (rows_between m table from below)

pub record SeekLaws : Type 0 where
  pub keys : KeyLaws
  pub apart : AreApart
  pub ends : PrefixEnds
  pub lists : ListsRows
  pub under : UnderNumber
  pub listed : ListedIn

-- ---- tests

any_among : (p : Share → Bool) (s : Share) (ss : List Share) → Has ss s → p s ≡ true → list_any p ss ≡ true
any_among p s [] h so = absurd h
any_among p s (x ∷ ss) (inl e) so = or_left (p x) (list_any p ss) (subst (λ (z : Share). p z ≡ true) e so)
any_among p s (x ∷ ss) (inr h) so = or_right (p x) (list_any p ss) (any_among p s ss h so)

among_any : (p : Share → Bool) (ss : List Share) → list_any p ss ≡ true → (s : Share) × Has ss s × (p s ≡ true)
among_any p [] e = absurd cc
among_any p (x ∷ ss) e = by (or_either (p x) (list_any p ss) e) (among_any p ss)
  where
    by : (p x ≡ true) ⊎ (list_any p ss ≡ true) → (list_any p ss ≡ true → (s : Share) × Has ss s × (p s ≡ true)) → (s : Share) × Has (x ∷ ss) s × (p s ≡ true)
    by (inl so) rest = (x, inl refl, so)
    by (inr more) rest = let (s, h, so) = rest more in (s, inr h, so)

row_has : (org : ℕ) (ss : List Share) (u : ShareRow) → HasRow (map (row_of_share org) ss) u → (s : Share) × Has ss s × (u ≡ row_of_share org s)
row_has org [] u h = absurd h
row_has org (x ∷ ss) u (inl e) = (x, inl refl, e)
row_has org (x ∷ ss) u (inr h) = let (s, has, is) = row_has org ss u h in (s, inr has, is)

has_row : (org : ℕ) (ss : List Share) (s : Share) → Has ss s → HasRow (map (row_of_share org) ss) (row_of_share org s)
has_row org [] s h = absurd h
has_row org (x ∷ ss) s (inl e) = inl (ap (row_of_share org) e)
has_row org (x ∷ ss) s (inr h) = inr (has_row org ss s h)

-- the key of a grant doesn't begin as those of shares
marks_apart : (org other : ℕ) (rest more : List ℕ) → number32 other ++ (number8 1 ++ more) ≡ (number32 org ++ number8 0) ++ rest → ⊥
unfolding number32
marks_apart org other rest more e =
    let wrong : 1 ≡ 0 = ap (λ (bytes : List ℕ). slice_index bytes 4) e in
    omega (arith, wrong)

-- ---- the rows of a tenant

module _ (laws : SeekLaws) (m : Tables) (org : ℕ) (q : OrgPlan) (t : Tenant) (s : StandsIn org q m (Some t)) (above : List ℕ) (rises : raised (shares_front org) ≡ Some above) where
  small : org < 2 ^ 32 - 1
  small = s.number

  lo : org < 2 ^ 32
  lo = omega (arith, small)

  abbrev rows : Key → Option (List ℕ)
  rows = rows_alone org q (Some t)

  abbrev own : Tables
  own = part_of org m

  abbrev kept : List KeptRow
  kept = kept_after m org None

  listing : IsListing own 12 (shares_front org) above (rows_between own 12 (shares_front org) above)
  listing = laws.lists own 12 (shares_front org) above

  kept_is : kept ≡ rows_between own 12 (shares_front org) above
  kept_is = ap (rows_to m 12 (shares_front org)) rises ∙ laws.listed m org 12 (shares_front org) above (λ key inside. laws.under org (number8 0) above key rises inside)

  -- ---- those of one record

  record OfRecord (id : List ℕ) : Type 0 where
    end : List ℕ
    raise : raised (prefix_of org id) ≡ Some end
    lists : ListsBetween share_form rows (prefix_of org id) end (map (row_of_share org) (shares_of id t.shares))

  of_record : (id : List ℕ) → IsTrue (is_id id) → OfRecord id
  of_record id is =
      let (end, raise) = some_of (raised (prefix_of org id)) (laws.ends org (number8 0 ++ id) small) in
      record { end = end; raise = raise; lists = shares_listed laws.keys q t org lo s.sound id is end raise }

  item_is_id : (x : Share) → Has t.shares x → IsTrue (is_id x.item)
  item_is_id x has = by (record_at t x.item) refl (all_at (IsSoundShare (known t) t.objects) x t.shares s.sound.shares.each has).item
    where
      by : (o : Option Record) → record_at t x.item ≡ o → is_some o ≡ true → IsTrue (is_id x.item)
      by None e h = absurd cc
      by (Some r) e h = let (same, has) = found_id t.records x.item r e in subst (λ (j : List ℕ). IsTrue (is_id j)) same (record_is_id laws.keys.makes t r s.sound has)

  -- the row of a share
  record Kept (x : Share) : Type 0 where
    fits : FitsForm share_form (row_of_share org x)
    there : rows (key.Share org x.item x.to) ≡ Some (row_bytes share_form (row_of_share org x))

  kept_row : (x : Share) → Has t.shares x → Kept x
  kept_row x has =
      let among = kept_among (λ (y : Share). bytes_eq y.item x.item) t.shares x has (same_text x.item) in
      let its = (of_record x.item (item_is_id x has)).lists.sound (row_of_share org x) (has_row org (shares_of x.item t.shares) x among) in
      record { fits = its.0; there = its.2 }

  -- it is among what is kept
  is_kept : (x : Share) → Has t.shares x → HasRow kept (kept_as share_form (row_of_share org x))
  is_kept x has =
      let its = kept_row x has in
      let k : Key = key.Share org x.item x.to in
      let within = (laws.keys.under k (shares_front org) above its.fits.0 rises).1
      ((laws.keys.begins 2 share_form.key (org, (tt, (x.item, x.to))) (org, tt) its.fits.0 (lo, tt)).1 refl) in
      subst (λ (rows : List KeptRow). HasRow rows (kept_as share_form (row_of_share org x))) (sym kept_is)
      (listing.complete (spell k).1 (row_bytes share_form (row_of_share org x)) within (s.rows.at k its.fits.0 ∙ its.there))

  -- ---- what is kept is of shares

  record IsOf (bytes : List ℕ) (k : Key) : Type 0 where
    item : Share
    has : Has t.shares item
    is : key.Share org item.item item.to ≡ k
    row : row_bytes share_form (row_of_share org item) ≡ bytes

  of_key : (k : Key) (bytes : List ℕ) → FitsKey k → (spell k).0 ≡ 12 → IsTrue (is_between (shares_front org) above (spell k).1) → rows k ≡ Some bytes → IsOf bytes k
  of_key (key.Share a i p) bytes fits table within here =
      let starts = (laws.keys.under (key.Share a i p) (shares_front org) above fits rises).0 within in
      let same : ◌≡◌ {A = ℕ × Unit {0}} (a, tt) (org, tt) = (laws.keys.begins 2 share_form.key (a, (tt, (i, p))) (org, tt) fits (lo, tt)).0 starts in
      let at : a ≡ org = ap (λ (x : ℕ × Unit {0}). x.0) same in
      let id : IsTrue (is_id i) = fits.1.1.0 in
      let its = of_record i id in
      let front : ◌≡◌ {A = ℕ × (Unit {0} × List ℕ)} (a, (tt, i)) (org, (tt, i)) = ap (λ (n : ℕ). (n, (tt, i))) at in
      let there = (laws.keys.under (key.Share a i p) (prefix_of org i) its.end fits its.raise).1
      ((laws.keys.begins 3 share_form.key (a, (tt, (i, p))) (org, (tt, i)) fits (lo, (tt, id))).1 front) in
      let (u, has, is) = its.lists.complete (key.Share a i p) bytes fits table there here in
      let (x, among, row) = row_has org (shares_of i t.shares) u has in
      let of : Has t.shares x = (among_kept (λ (y : Share). bytes_eq y.item i) t.shares x among).0 in
      let one : key.Share org x.item x.to ≡ key.Share a i p = ap (λ (v : ShareRow). key.Share v.org v.id v.to) (sym row) ∙ is in
      record {
        item = x;
        has = of;
        is = one;
        row = some_is (row_bytes share_form (row_of_share org x)) bytes (sym (kept_row x of).there ∙ ap rows one ∙ here);
      }
  of_key (Grant a p n i c) bytes fits table within here =
      let (rest, starts) = (laws.keys.under (Grant a p n i c) (shares_front org) above fits rises).0 within in
      absurd (marks_apart org a rest (spelled (Both Named (Both Number16 (Both Identity Number32))) (p, (n, (i, c)))) starts)
  of_key k bytes fits table within here = absurd (omega (arith, table))

  record IsOfShare (one : KeptRow) : Type 0 where
    item : Share
    has : Has t.shares item
    is : kept_as share_form (row_of_share org item) ≡ one

  of_share : (one : KeptRow) → HasRow kept one → IsOfShare one
  of_share one has =
      let (within, here) = listing.sound one (subst (λ (rows : List KeptRow). HasRow rows one) kept_is has) in
      let (k, fits, place) = s.rows.only (12, one.key) one.row refl here in
      by k fits place within here
    where
      by : (k : Key) → FitsKey k → (12, one.key) ≡ spell k → is_between (shares_front org) above one.key ≡ true → map.get own (12, one.key) ≡ Some one.row → IsOfShare one
      by k fits place within here =
          let bytes : one.key ≡ (spell k).1 = ap (λ (y : Place). y.1) place in
          let its = of_key k one.row fits (ap (λ (y : Place). y.0) (sym place)) (ap (is_between (shares_front org) above) (sym bytes) ∙ within)
          (sym (s.rows.at k fits) ∙ ap (map.get own) (sym place) ∙ here) in
          record {
            item = its.item;
            has = its.has;
            is = λ i. record { key = (ap (λ (x : Key). (spell x).1) its.is ∙ sym bytes) i; row = its.row i };
          }

  is_share : (one : KeptRow) → HasRow kept one → IsShare one
  is_share one has =
      let its = of_share one has in
      (row_of_share org its.item, (kept_row its.item its.has).fits, its.is)

  -- ---- some row is sought, and none is

  any_so : (sought : Principal → Bool) (u : ShareRow) → FitsForm share_form u → HasRow kept (kept_as share_form u) → sought u.to ≡ true → list_any (λ (x : Share). sought x.to) t.shares ≡ true
  any_so sought u fits has so =
      let its = of_share (kept_as share_form u) has in
      let same : its.item.to ≡ u.to = same_to laws.apart (row_of_share org its.item) u (kept_row its.item its.has).fits fits its.is in
      any_among (λ (x : Share). sought x.to) its.item t.shares its.has (ap sought same ∙ so)

  none_so : (sought : Principal → Bool) → ((u : ShareRow) → FitsForm share_form u → HasRow kept (kept_as share_form u) → sought u.to ≡ false) → list_any (λ (x : Share). sought x.to) t.shares ≡ false
  none_so sought none =
      pick (list_any (λ (x : Share). sought x.to) t.shares) (λ b. list_any (λ (x : Share). sought x.to) t.shares ≡ b → b ≡ false) (λ _ any. absurd (against any)) (λ _ _. refl) refl
    where
      differ : true ≡ false → ⊥
      differ e = cc

      against : list_any (λ (x : Share). sought x.to) t.shares ≡ true → ⊥
      against any =
          let (x, has, so) = among_any (λ (x : Share). sought x.to) t.shares any in
          differ (sym so ∙ none (row_of_share org x) (kept_row x has).fits (is_kept x has))

-- ---- where there is no organisation nothing is kept

module _ (laws : SeekLaws) (m : Tables) (org : ℕ) (q : OrgPlan) (s : StandsIn org q m None) where
  nothing : (k : Key) (bytes : List ℕ) → rows_alone org q None k ≡ Some bytes → ⊥
  nothing k bytes e = by (is_own org k) e
    where
      by : (b : Bool) → ◌≡◌ {A = Option (List ℕ)} (cond b None None) (Some bytes) → ⊥
      by true e = cc
      by false e = cc

  none_here : (a : Option (List ℕ)) → raised (shares_front org) ≡ a → (one : KeptRow) → HasRow (rows_to m 12 (shares_front org) a) one → ⊥
  none_here None e one has = absurd has
  none_here (Some above) e one has =
      let part : rows_between m 12 (shares_front org) above ≡ rows_between (part_of org m) 12 (shares_front org) above =
      laws.listed m org 12 (shares_front org) above (λ key inside. laws.under org (number8 0) above key e inside) in
      let (within, here) = (laws.lists (part_of org m) 12 (shares_front org) above).sound one (subst (λ (rows : List KeptRow). HasRow rows one) part has) in
      let (k, fits, place) = s.rows.only (12, one.key) one.row refl here in
      nothing k one.row (sym (s.rows.at k fits) ∙ ap (map.get (part_of org m)) (sym place) ∙ here)

  pub none_kept : (one : KeptRow) → HasRow (kept_after m org None) one → ⊥
  none_kept one has = none_here (raised (shares_front org)) refl one has

-- ---- what is found

module _ (laws : SeekLaws) (m : Tables) (org : ℕ) (sought : Principal → Bool) where
  ends : (q : OrgPlan) (t : Tenant) → StandsIn org q m (Some t) → (above : List ℕ) × (raised (shares_front org) ≡ Some above)
  ends q t s = some_of (raised (shares_front org)) (laws.ends org (number8 0) s.number)

  found : (q : OrgPlan) (t : Option Tenant) → StandsIn org q m t → (u : ShareRow) → FitsForm share_form u → HasRow (kept_after m org None) (kept_as share_form u) → sought u.to ≡ true → any_with sought t ≡ true
  found q None s u fits has so = absurd (none_kept laws m org q s (kept_as share_form u) has)
  found q (Some t) s u fits has so = let (above, rises) = ends q t s in any_so laws m org q t s above rises sought u fits has so

  missed : (q : OrgPlan) (t : Option Tenant) → StandsIn org q m t → ((u : ShareRow) → FitsForm share_form u → HasRow (kept_after m org None) (kept_as share_form u) → sought u.to ≡ false) → any_with sought t ≡ false
  missed q None s none = refl
  missed q (Some t) s none = let (above, rises) = ends q t s in none_so laws m org q t s above rises sought none

  whole : (q : OrgPlan) (t : Option Tenant) → StandsIn org q m t → (one : KeptRow) → HasRow (kept_after m org None) one → IsShare one
  whole q None s one has = absurd (none_kept laws m org q s one has)
  whole q (Some t) s one has = let (above, rises) = ends q t s in is_share laws m org q t s above rises one has

  pub any_finds : (result : Result Bool StoreFail) → Scans (kept_after m org None) sought result → FindsIn org (λ q t. any_with sought t) m result
  any_finds (Ok true) (u, fits, has, so) = λ q t s. sym (found q t s u fits has so)
  any_finds (Ok false) none = λ q t s. sym (missed q t s none)
  any_finds (Err Damaged) not_all = λ q t s. not_all (whole q t s)
  any_finds (Err Keeper) scans = tt
  any_finds (Err Memory) scans = tt
