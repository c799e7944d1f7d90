-- The rows of manual shares of records that go.
use Rattle.std.proofs.Common.{◌≡◌, ◌∙◌, ℕ, Bool, true, false, not, ◌&&◌, cond, is_some, IsTrue, List, [], ◌∷◌, map, Option, Some, None, refl, sym, ap, subst, bytes_eq, ℤ, inl, inr}
use Rattle.std.specs.Prelude.{◌↔◌, filter}
use Rattle.std.specs.List.{AllByRecursion, find}
use Rattle.std.specs.Option.{option_map}
use Rattle.std.specs.Ordering.{eq_by_cmp, nat_cmp}
use Rattle.std.specs.Cmp.Lexicographic.{slice_cmp, texts_ties}
use Rattle.base_lemmas.proofs.Orders.{ordering_then_equal_parts as first_equal}
use Rattle.base_lemmas.proofs.Numbers.{eqb-self as eqb_same}
use Rattle.std.proofs.lemmas.Bool.{true≢false as clash}
use Rattle.base_lemmas.proofs.Bools.{by_answer as pick}
use Rattle.base_lemmas.proofs.Texts.{same_from_bytes_eq as same_exact, bytes_eq-self as same_itself}
use Rattle.record_cascade.proofs.Among.{flat_has, has_any, has_flat}
use Rattle.record_cascade.specs.Deletion.{gone_ids}
use Rattle.record_read.proofs.Lists.{of_each}
use Rattle.record_read.proofs.Rising.{filter_has, has_filter}
use Rattle.record_delete.specs.Deleting.{shares_ended}
use Rattle.record_delete.proofs.Lists.{all_of, has_map, map_has}
use Rattle.record_delete.proofs.Members.{goes, is_gone}
use Rattle.store_rows.specs.Forms.{row_bytes}
use Rattle.store_rows.specs.Keys as key
use Rattle.store_rows.specs.Keys.{FitsKey, key_eq}
use Rattle.store_rows.specs.Rows.{share_form}
use Rattle.model.specs.declared.record.Record.{Record}
use Rattle.model.specs.Deletes.{has_id, without}
use Rattle.model.specs.Known.{known}
use Rattle.model.specs.Membership.{Has}
use Rattle.model.specs.Objects.{record_at}
use Rattle.model.specs.Shares.{same_share, shares_of}
use Rattle.model.specs.Sound.{IsSound}
use Rattle.model.specs.SoundSharing.{IsSoundShare}
use Rattle.model.specs.Tenant.{Share, Tenant}
use Rattle.store_codec.specs.Composed.{principal}
use Rattle.store_abstraction.specs.Changes.{Change, IsOf, is_changed}
use Rattle.store_abstraction.specs.Metadata.{row_of_share}
use Rattle.store_abstraction.specs.Plan.{OrgPlan}
use Rattle.store_abstraction.specs.Stands.{row_in}
use Rattle.record_index.proofs.Records.{named}
use Rattle.base_value.specs.Principals.{principal_cmp}
use Rattle.base_value.specs.declared.sharing.Level.TheVariants.{Read}
use Rattle.base_value.specs.declared.sharing.Principal.{Principal}

-- what `base_value` says of principals
abbrev pub SamePrincipals : Type 0
SamePrincipals = (p q : Principal) → IsTrue (eq_by_cmp principal_cmp p q) ↔ (p ≡ q)

-- ---- what is found among shares

-- a share that isn't there isn't found
not_found : (x : Share) (shares : List Share) → ((s : Share) → Has shares s → same_share x s ≡ true → ⊥) → find (same_share x) shares ≡ None
not_found x [] never = refl
not_found x (s ∷ shares) never =
    pick (same_share x s) (λ b. same_share x s ≡ b → cond b (Some s) (find (same_share x) shares) ≡ None)
    (λ _ is. absurd (never s (inl refl) is))
    (λ _ _. not_found x shares (λ y h. never y (inr h)))
    refl

module _ (same : SamePrincipals) where
  one_place : (x s : Share) → same_share x s ≡ true → (x.item ≡ s.item) × (x.to ≡ s.to)
  one_place x s e =
      let p = first_equal (slice_cmp nat_cmp x.item s.item) (principal_cmp x.to s.to) e in
      (same_exact x.item s.item (texts_ties x.item s.item ∙ p.0), (same x.to s.to).0 p.1)

  -- among shares of records that stay those of a record that goes aren't found
  none_left : (go : List ℕ → Bool) (x : Share) (shares : List Share) → go x.item ≡ true → find (same_share x) (filter (λ s. not (go s.item)) shares) ≡ None
  none_left go x shares goes =
      not_found x (filter (λ s. not (go s.item)) shares) (λ s h is.
      let stays = (has_filter (λ (s : Share). not (go s.item)) shares s h).1 in
      clash (sym stays ∙ ap (λ (i : List ℕ). not (go i)) (sym (one_place x s is).0) ∙ ap not goes))

  -- and those of a record that stays are found as before
  found_still : (go : List ℕ → Bool) (x : Share) (shares : List Share) → go x.item ≡ false
      → find (same_share x) (filter (λ s. not (go s.item)) shares) ≡ find (same_share x) shares
  found_still go x [] stays = refl
  found_still go x (s ∷ shares) stays =
      pick (go s.item)
      (λ b. go s.item ≡ b
      → find (same_share x) (cond (not b) (s ∷ filter (λ (s : Share). not (go s.item)) shares) (filter (λ (s : Share). not (go s.item)) shares))
      ≡ cond (same_share x s) (Some s) (find (same_share x) shares))
      (λ _ g. pick (same_share x s) (λ b. same_share x s ≡ b
      → find (same_share x) (filter (λ (s : Share). not (go s.item)) shares) ≡ cond b (Some s) (find (same_share x) shares))
      (λ _ is. absurd (clash (sym g ∙ ap go (sym (one_place x s is).0) ∙ stays)))
      (λ _ _. found_still go x shares stays)
      refl)
      (λ _ _. ap (λ (o : Option Share). cond (same_share x s) (Some s) o) (found_still go x shares stays))
      refl

  -- two shares of one record with one principal have one key
  one_key : (org : ℕ) (x s : Share) → same_share x s ≡ true → key_eq (key.Share org x.item x.to) (key.Share org s.item s.to) ≡ true
  one_key org x s is =
      let p = one_place x s is in
      subst (λ (i : List ℕ). key_eq (key.Share org x.item x.to) (key.Share org i s.to) ≡ true) p.0
      (subst (λ (to : Principal). key_eq (key.Share org x.item x.to) (key.Share org x.item to) ≡ true) p.1
      (ap (λ (b : Bool). b && (bytes_eq x.item x.item && bytes_eq (principal x.to) (principal x.to))) (eqb_same org)
      ∙ (ap (λ (b : Bool). b && bytes_eq (principal x.to) (principal x.to)) (same_itself x.item) ∙ same_itself (principal x.to))))

  -- ---- the rows of shares

  module _ (org : ℕ) (q : OrgPlan) (now : ℤ) (t : Tenant) (gone : List Record) where
    abbrev u : Tenant
    u = without now gone t

    abbrev ids : List (List ℕ)
    ids = gone_ids t gone

    abbrev ended : Share → Change
    ended s = (key.Share org s.item s.to, None)

    -- none of the shares of what goes is there afterwards
    no_row : (s : Share) → has_id gone s.item ≡ true → row_in q u (key.Share org s.item s.to) ≡ None
    unfolding row_in
    no_row s h = ap (option_map (λ (s : Share). row_bytes share_form (row_of_share org s))) (none_left (has_id gone) (record { item = s.item; to = s.to; level = Read }) t.shares h)

    pub shares_are : AllByRecursion (λ (c : Change). FitsKey c.0) (shares_ended org t ids) → AllByRecursion (IsOf org q u) (shares_ended org t ids)
    shares_are keys =
        all_of (IsOf org q u) (shares_ended org t ids) (λ c h.
        let from = flat_has (λ (i : List ℕ). map ended (shares_of i t.shares)) ids c h in
        let made = map_has ended (shares_of from.0 t.shares) c from.2 in
        let its = has_filter (λ (s : Share). bytes_eq s.item from.0) t.shares made.0 made.1 in
        let key_fits = of_each (λ (c : Change). FitsKey c.0) (shares_ended org t ids) c keys h in
        let so = subst (λ (i : List ℕ). has_id gone i ≡ true) (sym (same_exact made.0.item from.0 its.1)) (goes t gone from.0 from.1) in
        subst (IsOf org q u) (sym made.2) (subst (λ (c : Change). FitsKey c.0) made.2 key_fits, refl, no_row made.0 so))

    -- a share is of a record that is there
    item_there : IsSound t → (s : Share) → Has t.shares s → (r : Record) × Has t.records r × (r.id ≡ s.item)
    item_there sound s h = by (record_at t s.item) refl (of_each (IsSoundShare (known t) t.objects) t.shares s sound.shares.each h).item
      where
        by : (o : Option Record) → record_at t s.item ≡ o → IsTrue (is_some o) → (r : Record) × Has t.records r × (r.id ≡ s.item)
        by None at is = absurd cc
        by (Some r) at is = let found = named t.records s.item r at in (r, found.0, found.1)

    -- so each share of what goes ends
    ends : IsSound t → (x s : Share) → Has t.shares s → same_share x s ≡ true → has_id gone x.item ≡ true → is_changed (shares_ended org t ids) (key.Share org x.item x.to) ≡ true
    ends sound x s h is so =
        let r = item_there sound s h in
        let own : r.0.id ≡ s.item = r.2 in
        let r_goes = subst (λ (i : List ℕ). has_id gone i ≡ true) ((one_place x s is).0 ∙ sym own) so in
        let among : Has ids s.item = subst (λ (i : List ℕ). Has ids i) own (is_gone t gone r.0 r.1 r_goes) in
        let its = filter_has (λ (y : Share). bytes_eq y.item s.item) t.shares s h (same_itself s.item) in
        has_any (λ (c : Change). key_eq (key.Share org x.item x.to) c.0) (shares_ended org t ids) (ended s)
        (has_flat (λ (i : List ℕ). map ended (shares_of i t.shares)) ids s.item (ended s) among (has_map ended (shares_of s.item t.shares) s its))
        (one_key org x s is)

    -- a share whose row isn't among those that go is found as before
    found_same : IsSound t → (x : Share) → is_changed (shares_ended org t ids) (key.Share org x.item x.to) ≡ false → find (same_share x) u.shares ≡ find (same_share x) t.shares
    found_same sound x e =
        pick (has_id gone x.item) (λ b. has_id gone x.item ≡ b → find (same_share x) u.shares ≡ find (same_share x) t.shares)
        (λ _ so. none_left (has_id gone) x t.shares so ∙ sym (not_found x t.shares (λ s h is. clash (sym (ends sound x s h is so) ∙ e))))
        (λ _ stays. found_still (has_id gone) x t.shares stays)
        refl

    pub share_rest : IsSound t → (id : List ℕ) (to : Principal) → is_changed (shares_ended org t ids) (key.Share org id to) ≡ false
        → row_in q u (key.Share org id to) ≡ row_in q t (key.Share org id to)
    unfolding row_in
    share_rest sound id to e =
        ap (option_map (λ (s : Share). row_bytes share_form (row_of_share org s))) (found_same sound (record { item = id; to = to; level = Read }) e)
