-- A share that comes or ends takes the organisation's rows to those with it or without it.
use Rattle.std.proofs.Common.{◌≡◌, ◌∙◌, ◌<◌, ◌^◌, ℕ, Bool, true, false, ◌&&◌, eqb, [], ◌∷◌, Some, None, refl, sym, ap, subst, bytes_eq}
use Rattle.std.specs.List.{AllByRecursion}
use Rattle.std.proofs.lemmas.Slice.Eq.{bytes_eq-Decides}
use Rattle.std.proofs.lemmas.Bool.{and_from as both_true, true≢false as true_false}
use Rattle.base_lemmas.proofs.Options.{eqb-same_Some as own_number}
use Rattle.base_lemmas.proofs.Bools.{and_second_false as both_false}
use Rattle.store_edit.specs.Edits.{Takes}
use Rattle.store_edit.specs.Rows.{change_to}
use Rattle.store_rows.specs.declared.share.ShareRow.{ShareRow}
use Rattle.store_rows.specs.Forms.{FitsForm}
use Rattle.store_rows.specs.Keys as key
use Rattle.store_rows.specs.Keys.{FitsKey, Key, key_eq}
use Rattle.store_rows.specs.Rows.{share_form}
use Rattle.model.specs.Sound.{IsSound}
use Rattle.model.specs.Tenant.{Share, Tenant}
use Rattle.model.specs.Verdict.{Verdict, accept, done}
use Rattle.record_target.proofs.SharePlaces.{SamePrincipals, one_place}
use Rattle.store_codec.specs.Composed.{principal}
use Rattle.people_edit.proofs.Changing.{changed_takes}
use Rattle.people_edit.proofs.Joining.{SamePlan}
use Rattle.store_edit.proofs.Putting.{beside}
use Rattle.people_rows.proofs.People.{same_plan}
use Rattle.store_abstraction.specs.Changes.{Change}
use Rattle.store_abstraction.specs.Local.{IsIn}
use Rattle.store_abstraction.specs.Metadata.{row_of_share}
use Rattle.store_abstraction.specs.Plan.{FitsPlan, OrgPlan}
use Rattle.store_abstraction.specs.Stands.{org_of_key}
use Rattle.base_value.specs.declared.sharing.Level.TheVariants.{Read}
use Rattle.access_shares.specs.declared.unsharing.NamedShare.{NamedShare}
use Rattle.access_shares.specs.inner.Accepting.{FitsNamedShare, share_named, shared_in, unshared_in}
use Rattle.access_shares.specs.Shares.{is_share_key}
use Rattle.access_shares.proofs.ShareRows.{no_share_rest, share_rest, shared, unshared}

-- another key of the organisation is that of another share, or of none
other_share : SamePrincipals → (org : ℕ) (s : Share) (k : Key) → org_of_key k ≡ Some org → key_eq k (key.Share org s.item s.to) ≡ false → is_share_key s k ≡ false
other_share same org s (key.Share m i p) of e = by (is_share_key s (key.Share m i p)) refl
  where
    by : (b : Bool) → is_share_key s (key.Share m i p) ≡ b → b ≡ false
    by false f = refl
    by true f =
        let one = one_place same (record { item = i; to = p; level = Read }) s f in
        let parts = both_true (bytes_eq i s.item) (bytes_eq (principal p) (principal s.to)) ((bytes_eq-Decides i s.item).1 one.0) ((bytes_eq-Decides (principal p) (principal s.to)).1 (ap principal one.1)) in
        absurd (true_false (sym parts ∙ both_false (eqb m org) (bytes_eq i s.item && bytes_eq (principal p) (principal s.to)) (own_number m org of) e))
other_share same org s k of e = refl

-- ---- a new share

pub share_takes : SamePrincipals → (org : ℕ) (q : OrgPlan) (t : Tenant) (v : Verdict) (s : Share) (row : ShareRow) → FitsPlan q t → IsSound v.tenant → FitsForm share_form row
    → row ≡ row_of_share org s → v ≡ accept done (shared_in t s) → Takes org q t v done SamePlan (change_to share_form row ∷ [])
share_takes same org q t v s row plan sound fits is taken =
    let next = row_of_share org s in
    let takes : Takes org q t v done SamePlan (change_to share_form next ∷ []) =
    changed_takes same_plan share_form org q t (shared_in t s) v next plan taken sound refl refl
    (record {
      fits = subst (FitsForm share_form) is fits;
      own = refl;
      there = shared same q t org s;
      rest = λ k of e. share_rest same q t s k (other_share same org s k of e);
    }) in
    subst (λ (x : ShareRow). Takes org q t v done SamePlan (change_to share_form x ∷ [])) (sym is) takes

-- ---- the end of one

-- no row at the key of a share
abbrev pub no_row_at : (org : ℕ) → NamedShare → Change
no_row_at org x = (key.Share org x.item x.to, None)

key_fits : (org : ℕ) (x : NamedShare) → org < 2 ^ 32 → FitsNamedShare x → FitsKey (key.Share org x.item x.to)
key_fits org x lo fits = (lo, (tt, (fits.item, fits.to)))

pub end_own : (org : ℕ) (x : NamedShare) → org < 2 ^ 32 → FitsNamedShare x → AllByRecursion (IsIn org) (no_row_at org x ∷ [])
end_own org x lo fits = ((key_fits org x lo fits, refl), tt)

pub end_takes : SamePrincipals → (org : ℕ) (q : OrgPlan) (t : Tenant) (v : Verdict) (x : NamedShare) → org < 2 ^ 32 → FitsNamedShare x → FitsPlan q t → IsSound v.tenant
    → v ≡ accept done (unshared_in t (share_named x)) → Takes org q t v done SamePlan (no_row_at org x ∷ [])
end_takes same org q t v x lo fits plan sound taken =
    let s = share_named x in
    let takes : Takes org q t (accept done (unshared_in t s)) done SamePlan (no_row_at org x ∷ []) = record {
      answer = refl;
      sound = subst IsSound (ap (λ (w : Verdict). w.tenant) taken) sound;
      plan = q;
      kept = refl;
      fits = same_plan q t (unshared_in t s) refl refl plan;
      are = ((key_fits org x lo fits, refl, unshared same q t org s), tt);
      rest = λ k of e. no_share_rest same q t s k (other_share same org s k of (beside (no_row_at org x) [] k e).0);
    } in
    subst (λ (y : Verdict). Takes org q t y done SamePlan (no_row_at org x ∷ [])) (sym taken) takes
