-- The row of the version in tables that stand for a world.
use Rattle.std.proofs.Common.{◌≡◌, ◌≢◌, ℕ, Bool, true, false, List, [], length, Option, Some, None, refl, sym, ap, ◌∙◌, arith, inl, inr}
use Rattle.std.specs.Prelude.{IfOk, Result, Ok, Err, if◌then◌else◌}
use Rattle.std.specs.Option.{option_map}
use Rattle.std.specs.FinMap as map
use Rattle.std.proofs.lemmas.Option.{same_Some as some_is}
use Rattle.store_kv.specs.State.{KeeperCause, KeeperState, TrustedAfter}
use Rattle.store_kv.specs.Tables.{Tables}
use Rattle.store_rows.specs.declared.fail.StoreFail.{StoreFail}
use Rattle.store_rows.specs.declared.fail.StoreFail.TheVariants.{Keeper, Memory, Damaged}
use Rattle.store_rows.specs.declared.version.VersionRow.{VersionRow}
use Rattle.store_rows.specs.Forms.{row_bytes, FitsForm}
use Rattle.store_rows.specs.declared.org.OrgRow.{OrgRow}
use Rattle.store_rows.specs.Keys.{Org, Version, spell}
use Rattle.store_rows.specs.Reads.{FoundAs, MayStandAt, ReadsAs}
use Rattle.store_rows.specs.Rows.{org_form, version_form}
use Rattle.model.specs.Sound.{IsWorld}
use Rattle.model.specs.World.{World}
use Rattle.store_abstraction.specs.Plan.{Plan}
use Rattle.store_abstraction.specs.Opening.{OpensAs}
use Rattle.store_abstraction.specs.Calls.{HasFallen, ended_opening, is_done}
use Rattle.store_abstraction.specs.Fails.{KeeperFailsOpening, of_store_opening, sees_version}
use Rattle.store_abstraction.specs.declared.fail.OpenFail.{OpenFail}
use Rattle.store_abstraction.specs.declared.fail.OpenFail.TheVariants.{UnknownVersion, Store}
use Rattle.store_abstraction.specs.Stands.{HasKnownVersion, HasUnknownVersion, IsVersion, Stands, StandsBy, row_at, version_of}

-- one spelling is of one row, and what is read is what stands there, as `store_rows` says
abbrev pub OneVersion : Type 0
OneVersion = (u v : VersionRow) → FitsForm version_form u → FitsForm version_form v → ◌≡◌ {A = Unit {0}} tt tt → row_bytes version_form u ≡ row_bytes version_form v → u ≡ v

abbrev pub FindsVersion : Type 0
FindsVersion = (k : Unit {0}) (kept : Option (List ℕ)) (there : Option VersionRow) (result : Result (Option VersionRow) StoreFail) → ReadsAs version_form k kept result → kept ≡ option_map (row_bytes version_form) there → MayStandAt version_form k there → FoundAs version_form there result

abbrev pub ReadsVersion : Tables → Result (Option VersionRow) StoreFail → Type 0
ReadsVersion m r = ReadsAs version_form tt (map.get m (spell Version)) r

version_same : OneVersion → (a b : VersionRow) → FitsForm version_form a → FitsForm version_form b → ◌≡◌ {A = Option (List ℕ)} (Some (row_bytes version_form a)) (Some (row_bytes version_form b)) → a ≡ b
version_same one a b fa fb e = one a b fa fb refl (some_is (row_bytes version_form a) (row_bytes version_form b) e)

version_fits : (w : World) → IsWorld w → FitsForm version_form (version_of w)
version_fits w h = (tt, (omega arith, omega (arith, h.few)))

-- the version's row, if it is there
abbrev pub version_in : Plan → World → Option VersionRow
version_in p w = if p.opened then Some (version_of w) else None

kept_when : (b : Bool) (r : VersionRow) → (if b then Some (row_bytes version_form r) else None) ≡ option_map (row_bytes version_form) (if b then Some r else None)
kept_when true r = refl
kept_when false r = refl

-- what stands at the version's key
kept : (p : Plan) (m : Tables) (w : World) → StandsBy p m w → map.get m (spell Version) ≡ option_map (row_bytes version_form) (version_in p w)
unfolding row_at
kept p m w s = s.rows.at Version tt ∙ kept_when p.opened (version_of w)

stands_when : (b : Bool) (w : World) → IsWorld w → MayStandAt version_form tt (if b then Some (version_of w) else None)
stands_when true w h = (refl, version_fits w h)
stands_when false w h = tt

found : FindsVersion → (p : Plan) (m : Tables) (w : World) (r : Result (Option VersionRow) StoreFail) → StandsBy p m w → ReadsVersion m r → FoundAs version_form (version_in p w) r
found finds p m w r s e = finds tt (map.get m (spell Version)) (version_in p w) r e (kept p m w s) (stands_when p.opened w s.world)

abbrev pub count_in : Option VersionRow → ℕ
count_in None = 0
count_in (Some r) = r.organisations

count_when : (b : Bool) (w : World) → (b ≡ false → w ≡ []) → count_in (if b then Some (version_of w) else None) ≡ length w
count_when true w o = refl
count_when false w o = sym (ap length (o refl))

-- what is read there says how many organisations there are
pub count_found : FindsVersion → (m : Tables) (r : Option VersionRow) → ReadsVersion m (Ok r) → (w : World) → Stands m w → count_in r ≡ length w
count_found finds m r e w (p, s) = ap count_in (found finds p m w (Ok r) s e) ∙ count_when p.opened w s.opened

-- none were counted, and there are none
pub none_counted : (r : Result ℕ OpenFail) (n : ℕ) → IfOk r (λ k. k ≡ 0) → 0 ≡ n → IfOk r (λ k. k ≡ n)
none_counted (Ok k) n h e = h ∙ e
none_counted (Err f) n h e = tt

known_when : (b : Bool) (m : Tables) (w : World) → IsWorld w → map.get m (spell Version) ≡ option_map (row_bytes version_form) (if b then Some (version_of w) else None)
    → (b ≡ false → map.get m (spell (Org 1)) ≡ None) → HasKnownVersion m
known_when true m w h e none = inr (version_of w, record { fits = version_fits w h; kept = e }, refl)
known_when false m w h e none = inl (e, none refl)

nothing_first : (p : Plan) → row_at p [] (Org 1) ≡ None
unfolding row_at
nothing_first p = refl

-- a world without organisations has no row of the first
none_first : (p : Plan) (m : Tables) (w : World) → StandsBy p m w → w ≡ [] → map.get m (spell (Org 1)) ≡ None
none_first p m w s e = s.rows.at (Org 1) (omega arith) ∙ ap (λ v. row_at p v (Org 1)) e ∙ nothing_first p

-- tables that stand for a world are of the known version
pub known : (m : Tables) (w : World) → Stands m w → HasKnownVersion m
known m w (p, s) = known_when p.opened m w s.world (kept p m w s) (λ closed. none_first p m w s (s.opened closed))

-- no version is known and unknown
pub not_both : OneVersion → (m : Tables) → HasKnownVersion m → HasUnknownVersion m → ⊥
not_both one m (inl e) (u, v, differs) = absurd (none (sym e.0 ∙ v.kept))
  where
    none : {x : List ℕ} → ◌≡◌ {A = Option (List ℕ)} None (Some x) → ⊥
    none e = cc
not_both one m (inr (r, k, is)) (u, v, differs) = differs (ap (λ (x : VersionRow). x.version) (version_same one u r v.fits k.fits (sym v.kept ∙ k.kept)) ∙ is)

-- ---- an opening

-- no row spells a version there
damaged : (m : Tables) → ReadsVersion m (Err Damaged) → (r : VersionRow) → IsVersion m r → ⊥
damaged m d r v = d.1 r (record { is_kept = v.kept; has_key = refl; fits = v.fits })

unknown_none : (m : Tables) → ReadsVersion m (Err Damaged) → HasKnownVersion m → ⊥
unknown_none m d (inl e) = d.0 e.0
unknown_none m d (inr (r, v, is)) = damaged m d r v

-- what is read at the key of the first organisation
abbrev pub ReadsFirst : Tables → Result (Option OrgRow) StoreFail → Type 0
ReadsFirst m r = ReadsAs org_form 1 (map.get m (spell (Org 1))) r

pub opens_none : (m : Tables) → map.get m (spell Version) ≡ None → ReadsFirst m (Ok None) → OpensAs m (Ok 0)
opens_none m e first = inl (e, first)

some_is_not : {x : List ℕ} → ◌≡◌ {A = Option (List ℕ)} None (Some x) → ⊥
some_is_not e = cc

-- without the version's row the first organisation's shouldn't be there
lost : (m : Tables) → map.get m (spell Version) ≡ None → (map.get m (spell (Org 1)) ≡ None → ⊥) → OpensAs m (Err (of_store_opening Damaged))
lost m e there = record { no_known = no_known; no_unknown = λ u. some_is_not (sym e ∙ u.1.kept); no_world = λ w s. no_known (known m w s) }
  where
    no_known : HasKnownVersion m → ⊥
    no_known (inl none) = there none.1
    no_known (inr (r, v, is)) = some_is_not (sym e ∙ v.kept)

pub opens_first : (m : Tables) (row : OrgRow) → map.get m (spell Version) ≡ None → ReadsFirst m (Ok (Some row)) → OpensAs m (Err (of_store_opening Damaged))
opens_first m row e first = lost m e (λ none. some_is_not (sym none ∙ first.is_kept))

pub first_failed : (m : Tables) (f : StoreFail) → map.get m (spell Version) ≡ None → ReadsFirst m (Err f) → OpensAs m (Err (of_store_opening f))
first_failed m Damaged e first = lost m e first.0
first_failed m Keeper e first = tt
first_failed m Memory e first = tt

pub opens_known : (m : Tables) (r : VersionRow) → ReadsVersion m (Ok (Some r)) → r.version ≡ 1 → OpensAs m (Ok r.organisations)
opens_known m r e is = inr (r, record { fits = e.fits; kept = e.is_kept }, is)

pub opens_unknown : (m : Tables) (r : VersionRow) → ReadsVersion m (Ok (Some r)) → r.version ≢ 1 → OpensAs m (Err UnknownVersion)
opens_unknown m r e differs = (r, record { fits = e.fits; kept = e.is_kept }, differs)

pub opens_failed : (m : Tables) (e : StoreFail) → ReadsVersion m (Err e) → OpensAs m (Err (of_store_opening e))
opens_failed m Damaged d = record {
  no_known = unknown_none m d;
  no_unknown = λ u. damaged m d u.0 u.1;
  no_world = λ w s. unknown_none m d (known m w s);
}
opens_failed m Keeper d = tt
opens_failed m Memory d = tt

-- ---- how an opening ended

pub seen_so : {X : Type 0} (new : KeeperState) (r : Result X OpenFail) → TrustedAfter (is_done (ended_opening r)) new → TrustedAfter (sees_version r) new
seen_so new (Ok x) h = h
seen_so new (Err UnknownVersion) h = h
seen_so new (Err (Store Damaged)) h = h
seen_so new (Err (Store Keeper)) h = h
seen_so new (Err (Store Memory)) h = h

pub cause_so : {X : Type 0} (old new : KeeperState) (r : Result X OpenFail) → KeeperCause old new (HasFallen (ended_opening r)) → KeeperCause old new (KeeperFailsOpening r)
cause_so {X = X} old new r h = record { rose = λ failed. h.rose (fallen r failed); never = λ sure failed. h.never sure (fallen r failed) }
  where
    fallen : (r : Result X OpenFail) → KeeperFailsOpening r → HasFallen (ended_opening r)
    fallen (Ok x) f = absurd f
    fallen (Err UnknownVersion) f = absurd f
    fallen (Err (Store Damaged)) f = absurd cc
    fallen (Err (Store Keeper)) f = tt
    fallen (Err (Store Memory)) f = absurd cc
