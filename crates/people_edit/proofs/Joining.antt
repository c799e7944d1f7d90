-- A new user, role or group takes the organisation's rows to those with it: its row is put, and that of the organisation.
use Rattle.std.proofs.Common.{◌≡◌, ◌<◌, ◌≤◌, ◌^◌, ℕ, List, [], ◌∷◌, ◌++◌, inl, inr, Some, refl, sym, ap, subst, true, false, arith, IsTrue, length}
use Rattle.std.specs.Prelude.{encode_utf8_all}
use Rattle.std.specs.List.{AllByRecursion}
use Rattle.std.specs.Str.{all_scalars}
use Rattle.store_edit.specs.Edits.{Planned, Takes}
use Rattle.store_edit.specs.Rows.{change_to}
use Rattle.store_rows.specs.declared.org.OrgRow.{OrgRow}
use Rattle.store_rows.specs.Forms.{FitsForm, Form, key_of, row_bytes}
use Rattle.store_rows.specs.Keys as key
use Rattle.store_rows.specs.Keys.{Key, key_eq}
use Rattle.store_rows.specs.Rows.{org_form}
use Rattle.model.specs.Membership.{Has}
use Rattle.model.specs.Sound.{IsSound, is_name}
use Rattle.model.specs.Tenant.{Tenant}
use Rattle.model.specs.Verdict.{Verdict, accept, made_new}
use Rattle.store_codec.specs.Plain.{FitsText}
use Rattle.store_abstraction.specs.Local.{IsIn}
use Rattle.store_abstraction.specs.Metadata.{org_of}
use Rattle.store_abstraction.specs.Plan.{FitsPlan, OrgPlan}
use Rattle.store_abstraction.specs.Records.{is_org_key}
use Rattle.store_abstraction.specs.Stands.{org_of_key, row_in}
use Rattle.people_edit.specs.declared.edits.drawing.Drawn.{Drawn}
use Rattle.people_edit.specs.inner.Drawing.{FitsDrawn}
use Rattle.store_edit.proofs.Putting.{beside, other_org, put_is_in, put_is_of}

-- the rows are kept as they were
abbrev pub SamePlan : Planned
SamePlan q t next = next ≡ q

-- what `people_rows` says of the organisation's own row and of plans
abbrev pub OrgFits : Type 0
OrgFits = (org : ℕ) (t : Tenant) → org < 2 ^ 32 → IsSound t → FitsForm org_form (org_of org t)

abbrev pub OrgCounted : Type 0
OrgCounted = (p : OrgPlan) (t : Tenant) (org : ℕ) → row_in p t (key.Org org) ≡ Some (row_bytes org_form (org_of org t))

abbrev pub PlanStays : Type 0
PlanStays = (p : OrgPlan) (t u : Tenant) → u.objects ≡ t.objects → u.job ≡ t.job → FitsPlan p t → FitsPlan p u

pub record OrgLaws : Type 0 where
  pub fits : OrgFits
  pub counted : OrgCounted
  pub plan : PlanStays

-- what `model` says of names
abbrev pub NamesAreTexts : Type 0
NamesAreTexts = (name : List ℕ) → IsTrue (is_name name) → all_scalars name ≡ true

abbrev pub NamesAreShort : Type 0
NamesAreShort = (name : List ℕ) → IsTrue (is_name name) → length (encode_utf8_all name) ≤ 320

pub name_fits : NamesAreTexts → NamesAreShort → (name : List ℕ) → IsTrue (is_name name) → FitsText name
name_fits texts short name good = (omega (arith, short name good), texts name good)

-- the last of a list is in it
pub has_last : {X : Type 0} (xs : List X) (x : X) → Has (xs ++ x ∷ []) x
has_last [] x = inl refl
has_last (y ∷ xs) x = inr (has_last xs x)

-- the row of what came or changed is that of the tenant then, and all rows but it and the organisation's stay
pub record HasOwnRow {U : Type 0} (f : Form U) (org : ℕ) (q : OrgPlan) (t u : Tenant) (row : U) : Type 0 where
  pub fits : FitsForm f row
  pub own : org_of_key (key_of f row) ≡ Some org
  pub there : row_in q u (key_of f row) ≡ Some (row_bytes f row)
  pub rest : (k : Key) → org_of_key k ≡ Some org → is_org_key k ≡ false → key_eq k (key_of f row) ≡ false → row_in q u k ≡ row_in q t k

pub new_takes : OrgLaws → {U : Type 0} (f : Form U) (org : ℕ) (q : OrgPlan) (t u : Tenant) (v : Verdict) (answer id : List ℕ) (counts : OrgRow) (put row : U)
    → org < 2 ^ 32 → FitsPlan q t → v ≡ accept (made_new id) u → IsSound v.tenant → u.objects ≡ t.objects → u.job ≡ t.job
    → answer ≡ id → counts ≡ org_of org u → put ≡ row → HasOwnRow f org q t u row
    → Takes org q t v (made_new answer) SamePlan (change_to org_form counts ∷ change_to f put ∷ [])
new_takes laws {U} f org q t u v answer id counts put row small plan is sound objects job drawn counted putting own =
    let sound_u : IsSound u = subst IsSound (ap (λ (v : Verdict). v.tenant) is) sound in
    let takes : Takes org q t (accept (made_new id) u) (made_new id) SamePlan (change_to org_form (org_of org u) ∷ change_to f row ∷ []) = record {
      answer = refl;
      sound = sound_u;
      plan = q;
      kept = refl;
      fits = laws.plan q t u objects job plan;
      are = (put_is_of org_form org q u (org_of org u) (laws.fits org u small sound_u) refl (laws.counted q u org), (put_is_of f org q u row own.fits own.own own.there, tt));
      rest = λ k of same.
          let one = beside (change_to org_form (org_of org u)) (change_to f row ∷ []) k same in
          let two = beside (change_to f row) [] k one.1 in
          own.rest k of (other_org org k of one.0) two.0;
    } in
    subst (λ (i : List ℕ). Takes org q t v (made_new i) SamePlan (change_to org_form counts ∷ change_to f put ∷ [])) (sym drawn)
    (subst (λ (x : U). Takes org q t v (made_new id) SamePlan (change_to org_form counts ∷ change_to f x ∷ [])) (sym putting)
    (subst (λ (x : OrgRow). Takes org q t v (made_new id) SamePlan (change_to org_form x ∷ change_to f row ∷ [])) (sym counted)
    (subst (λ (y : Verdict). Takes org q t y (made_new id) SamePlan (change_to org_form (org_of org u) ∷ change_to f row ∷ [])) (sym is) takes)))

-- whatever the organisation has, both rows are at its keys
pub new_own : {U : Type 0} (f : Form U) (org : ℕ) (name : List ℕ) (d : Drawn) (row : U) → FitsDrawn name d → d.org.org ≡ org → FitsForm f row → org_of_key (key_of f row) ≡ Some org
    → AllByRecursion (IsIn org) (change_to org_form d.org ∷ change_to f row ∷ [])
new_own f org name d row fits own form at = (put_is_in org_form org d.org fits.org (ap (λ (n : ℕ). Some n) own), (put_is_in f org row form at, tt))
