-- Which rows count or share a record whose values change.
use Rattle.std.proofs.Common.{◌≡◌, ◌∙◌, ℕ, suc, Bool, true, false, not, ◌&&◌, cond, eqb, List, [], ◌∷◌, length, map, Option, Some, None, refl, sym, ap, subst}
use Rattle.std.specs.Prelude.{bytes_eq, filter}
use Rattle.std.specs.List.{AllByRecursion, find}
use Rattle.std.specs.Option.{option_map}
use Rattle.std.specs.Cmp.Lexicographic.{bytes_decides}
use Rattle.base_lemmas.proofs.Numbers.{eqb-self as eqb_same}
use Rattle.base_lemmas.proofs.Bools.{not_both, by_answer as pick}
use Rattle.std.proofs.lemmas.Bool.{or_parts as or_false}
use Rattle.base_lemmas.proofs.Texts.{bytes_eq-self as same_text}
use Rattle.std.proofs.lemmas.Option.{same_Some as some_is}
use Rattle.store_rows.specs.Forms.{row_bytes}
use Rattle.store_rows.specs.Keys as key
use Rattle.store_rows.specs.Keys.{FitsKey, Key, key_eq}
use Rattle.store_rows.specs.Rows.{object_form, share_form}
use Rattle.store_codec.specs.Composed.{principal}
use Rattle.model.specs.Edits.{same_owner}
use Rattle.model.specs.Objects.{is_of, object_number, object_numbered, records_of}
use Rattle.model.specs.Shares.{same_share, shares_of}
use Rattle.model.specs.Tenant.{Object, Share, Tenant}
use Rattle.model.specs.Updates.{with_changed}
use Rattle.model.specs.declared.record.Record.{Record}
use Rattle.record_target.proofs.SharePlaces.{SamePrincipals, one_place}
use Rattle.record_save.specs.Updating.{shares_gone}
use Rattle.store_abstraction.specs.Changes.{Change, IsOf, is_changed}
use Rattle.store_abstraction.specs.Metadata.{row_of_object, row_of_share}
use Rattle.store_abstraction.specs.Plan.{OrgPlan}
use Rattle.store_abstraction.specs.Stands.{org_of_key, row_in}
use Rattle.record_index.specs.diff.Touched.{AreCounts, is_counted}
use Rattle.base_value.specs.declared.sharing.Level.TheVariants.{Read}
use Rattle.base_value.specs.declared.sharing.Principal.{Principal}

-- ---- records with other values

abbrev changed : (new : Record) → Record → Record
changed new r = cond (bytes_eq r.id new.id) new r

as_many : (new : Record) (rs : List Record) → length (map (changed new) rs) ≡ length rs
as_many new [] = refl
as_many new (r ∷ rs) = ap suc (as_many new rs)

same_id : (new r : Record) → (changed new r).id ≡ r.id
same_id new r = pick (bytes_eq r.id new.id) (λ b. (cond b new r).id ≡ r.id) (λ h. sym ((bytes_decides r.id new.id).0 h)) (λ h. refl)

as_many_of : (n : ℕ) (new : Record) (rs : List Record) → length (filter (is_of n) (map (changed new) rs)) ≡ length (filter (is_of n) rs)
as_many_of n new [] = refl
as_many_of n new (r ∷ rs) =
    let e : is_of n (changed new r) ≡ is_of n r = ap (λ (id : List ℕ). eqb (object_number id) n) (same_id new r) in
    rw e (by (is_of n r) (as_many_of n new rs))
  where
    by : (b : Bool) → length (filter (is_of n) (map (changed new) rs)) ≡ length (filter (is_of n) rs)
        → length (cond b (changed new r ∷ filter (is_of n) (map (changed new) rs)) (filter (is_of n) (map (changed new) rs))) ≡ length (cond b (r ∷ filter (is_of n) rs) (filter (is_of n) rs))
    by true e = ap suc e
    by false e = e

-- ---- shares of a record

module _ (same : SamePrincipals) where
  -- no share of the record is found any more
  none_found : (id : List ℕ) (x : Share) (shares : List Share) → bytes_eq x.item id ≡ true → find (same_share x) (filter (λ (s : Share). not (bytes_eq s.item id)) shares) ≡ None
  none_found id x [] of = refl
  none_found id x (s ∷ shares) of =
      pick (bytes_eq s.item id) (λ b. find (same_share x) (cond (not b) (s ∷ filter (λ (s : Share). not (bytes_eq s.item id)) shares) (filter (λ (s : Share). not (bytes_eq s.item id)) shares)) ≡ None)
      (λ h. none_found id x shares of)
      (λ h. pick (same_share x s) (λ b. cond b (Some s) (find (same_share x) (filter (λ (s : Share). not (bytes_eq s.item id)) shares)) ≡ None)
      (λ e. absurd (not_both (bytes_eq s.item id) (subst (λ (i : List ℕ). bytes_eq i id ≡ true) (one_place same x s e).0 of) h))
      (λ e. none_found id x shares of))

  -- a share whose row isn't among those that go is found as before
  found_still : (org : ℕ) (id : List ℕ) (x : Share) (shares : List Share)
      → is_changed (map (λ (s : Share). (key.Share org s.item s.to, None)) (shares_of id shares)) (key.Share org x.item x.to) ≡ false
      → find (same_share x) (filter (λ (s : Share). not (bytes_eq s.item id)) shares) ≡ find (same_share x) shares
  found_still org id x [] e = refl
  found_still org id x (s ∷ shares) e =
      pick (bytes_eq s.item id) (λ b. is_changed (map (λ (s : Share). (key.Share org s.item s.to, None)) (cond b (s ∷ shares_of id shares) (shares_of id shares))) (key.Share org x.item x.to) ≡ false
      → find (same_share x) (cond (not b) (s ∷ filter (λ (s : Share). not (bytes_eq s.item id)) shares) (filter (λ (s : Share). not (bytes_eq s.item id)) shares)) ≡ cond (same_share x s) (Some s) (find (same_share x) shares))
      (λ h e. let p = or_false (key_eq (key.Share org x.item x.to) (key.Share org s.item s.to)) (is_changed (map (λ (s : Share). (key.Share org s.item s.to, None)) (shares_of id shares)) (key.Share org x.item x.to)) e in
      pick (same_share x s) (λ b. find (same_share x) (filter (λ (s : Share). not (bytes_eq s.item id)) shares) ≡ cond b (Some s) (find (same_share x) shares))
      (λ is. absurd (not_both (key_eq (key.Share org x.item x.to) (key.Share org s.item s.to)) (one_key org x s is) p.0))
      (λ is. found_still org id x shares p.1))
      (λ h e. ap (λ (o : Option Share). cond (same_share x s) (Some s) o) (found_still org id x shares e)) e
    where
      one_key : (org : ℕ) (x s : Share) → same_share x s ≡ true → key_eq (key.Share org x.item x.to) (key.Share org s.item s.to) ≡ true
      one_key org x s is =
          let p = one_place same x s is in
          subst (λ (i : List ℕ). key_eq (key.Share org x.item x.to) (key.Share org i s.to) ≡ true) p.0
          (subst (λ (to : Principal). key_eq (key.Share org x.item x.to) (key.Share org x.item to) ≡ true) p.1
          (ap (λ (b : Bool). b && (bytes_eq x.item x.item && bytes_eq (principal x.to) (principal x.to))) (eqb_same org)
          ∙ (ap (λ (b : Bool). b && bytes_eq (principal x.to) (principal x.to)) (same_text x.item) ∙ same_text (principal x.to))))

  -- ---- the rows that count or share

  module _ (org : ℕ) (q : OrgPlan) (t : Tenant) (old new : Record) where
    -- with which shares
    abbrev left_if : Bool → List Share
    left_if b = cond b t.shares (filter (λ (s : Share). not (bytes_eq s.item new.id)) t.shares)

    abbrev gone_if : Bool → List Change
    gone_if b = cond b [] (map (λ (s : Share). (key.Share org s.item s.to, None)) (shares_of new.id t.shares))

    share_rest : (b : Bool) (id : List ℕ) (to : Principal) → is_changed (gone_if b) (key.Share org id to) ≡ false
        → find (same_share (record { item = id; to = to; level = Read })) (left_if b) ≡ find (same_share (record { item = id; to = to; level = Read })) t.shares
    share_rest true id to e = refl
    share_rest false id to e = found_still org new.id (record { item = id; to = to; level = Read }) t.shares e

    rest : (k : Key) → org_of_key k ≡ Some org → is_counted k ≡ true → is_changed (shares_gone org t old new) k ≡ false
        → row_in q (with_changed old new t) k ≡ row_in q t k
    unfolding row_in
    rest (key.Org m) own c e = rw (as_many new t.records) refl
    rest (key.Object m n) own c e = by (object_numbered t n) (as_many_of n new t.records)
      where
        by : (o : Option Object) → length (records_of (with_changed old new t) n) ≡ length (records_of t n)
            → option_map (λ o. row_bytes object_form (row_of_object m (with_changed old new t) n o)) o ≡ option_map (λ o. row_bytes object_form (row_of_object m t n o)) o
        by None e = refl
        by (Some o) e = rw e refl
    rest (key.Share m id to) own c e =
        let is : m ≡ org = some_is m org own in
        ap (option_map (λ s. row_bytes share_form (row_of_share m s)))
        (share_rest (same_owner old new) id to (subst (λ (x : ℕ). is_changed (shares_gone org t old new) (key.Share x id to) ≡ false) is e))
    rest key.Version own c e = absurd cc
    rest (key.Field m i f) own c e = absurd cc
    rest (key.Job m) own c e = absurd cc
    rest (key.User m i) own c e = absurd cc
    rest (key.Role m i) own c e = absurd cc
    rest (key.Group m i) own c e = absurd cc
    rest (key.Validation m i name) own c e = absurd cc
    rest (key.Sharing m name) own c e = absurd cc
    rest (key.Data m i id) own c e = absurd cc
    rest (key.Index m i s v id) own c e = absurd cc
    rest (key.Unique m i s v) own c e = absurd cc
    rest (key.Relation m i s v id) own c e = absurd cc
    rest (key.Owner m i w id) own c e = absurd cc
    rest (key.Grant m to i id cause) own c e = absurd cc

    -- none of the shares that go is there afterwards
    gone_of : (shares : List Share) → AllByRecursion (λ (c : Change). FitsKey c.0) (map (λ (s : Share). (key.Share org s.item s.to, None)) (shares_of new.id shares))
        → same_owner old new ≡ false → AllByRecursion (IsOf org q (with_changed old new t)) (map (λ (s : Share). (key.Share org s.item s.to, None)) (shares_of new.id shares))
    unfolding row_in
    gone_of [] keys other = tt
    gone_of (s ∷ shares) keys other =
        pick (bytes_eq s.item new.id) (λ b. AllByRecursion (λ (c : Change). FitsKey c.0) (map (λ (s : Share). (key.Share org s.item s.to, None)) (cond b (s ∷ shares_of new.id shares) (shares_of new.id shares)))
        → AllByRecursion (IsOf org q (with_changed old new t)) (map (λ (s : Share). (key.Share org s.item s.to, None)) (cond b (s ∷ shares_of new.id shares) (shares_of new.id shares))))
        (λ h keys. ((keys.0, refl, no_row s h), gone_of shares keys.1 other))
        (λ h keys. gone_of shares keys other) keys
      where
        no_row : (s : Share) → bytes_eq s.item new.id ≡ true → row_in q (with_changed old new t) (key.Share org s.item s.to) ≡ None
        no_row s h = ap (option_map (λ s. row_bytes share_form (row_of_share org s)))
            (subst (λ (b : Bool). find (same_share (record { item = s.item; to = s.to; level = Read })) (left_if b) ≡ None) (sym other)
            (none_found new.id (record { item = s.item; to = s.to; level = Read }) t.shares h))

    pub counted : AllByRecursion (λ (c : Change). FitsKey c.0) (shares_gone org t old new) → AreCounts org q q t (with_changed old new t) (shares_gone org t old new)
    counted keys = record { of = by (same_owner old new) refl keys; rest = rest }
      where
        by : (b : Bool) → same_owner old new ≡ b → AllByRecursion (λ (c : Change). FitsKey c.0) (gone_if b) → AllByRecursion (IsOf org q (with_changed old new t)) (gone_if b)
        by true is keys = tt
        by false is keys = gone_of t.shares keys is
