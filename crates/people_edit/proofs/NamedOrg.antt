-- Another name of the organisation: it takes the organisation's rows to those that its verdict leaves.
use Rattle.std.proofs.Common.{◌≡◌, ℕ, false, List, [], ◌∷◌, None, refl, sym, subst}
use Rattle.store_edit.specs.Edits.{Takes}
use Rattle.store_edit.specs.Rows.{change_to}
use Rattle.store_rows.specs.declared.org.OrgRow.{OrgRow}
use Rattle.store_rows.specs.Forms.{FitsForm}
use Rattle.store_rows.specs.Keys as key
use Rattle.store_rows.specs.Keys.{Key}
use Rattle.store_rows.specs.Rows.{org_form}
use Rattle.model.specs.Names.{bad_name}
use Rattle.model.specs.People.{set_organisation}
use Rattle.model.specs.Rules.{first_refusal}
use Rattle.model.specs.Sound.{IsSound, is_name}
use Rattle.model.specs.Tenant.{Tenant}
use Rattle.model.specs.Verdict.{accept, done}
use Rattle.store_abstraction.specs.Metadata.{org_of}
use Rattle.store_abstraction.specs.Plan.{FitsPlan, OrgPlan}
use Rattle.store_abstraction.specs.Records.{is_org_key}
use Rattle.store_abstraction.specs.Stands.{kept_at, row_in}
use Rattle.people_edit.proofs.Changing.{changed_takes}
use Rattle.people_edit.proofs.Joining.{OrgCounted, PlanStays, SamePlan}
use Rattle.store_edit.proofs.Putting.{other_org}
use Rattle.store_edit.proofs.StepByStep.{accepted}

-- all rows stay but the organisation's own
rows_stay : (q : OrgPlan) (t : Tenant) (name : List ℕ) (k : Key) → is_org_key k ≡ false → row_in q (record t { name = name }) k ≡ row_in q t k
unfolding row_in kept_at
rows_stay q t name (key.Org org) other = absurd cc
rows_stay q t name k other = refl

pub name_set_takes : PlanStays → OrgCounted → ((t : Tenant) (name : List ℕ) → IsSound t → IsSound (set_organisation t name).tenant) → (org : ℕ) (q : OrgPlan) (t : Tenant) (name : List ℕ) (row : OrgRow)
    → FitsPlan q t → IsSound t → FitsForm org_form row → first_refusal (bad_name is_name name ∷ []) ≡ None → row ≡ org_of org (record t { name = name })
    → Takes org q t (set_organisation t name) done SamePlan (change_to org_form row ∷ [])
name_set_takes stays counted keeps org q t name row plan sound fits free is =
    let u = record t { name = name } in
    let next = org_of org u in
    let v = set_organisation t name in
    let takes : Takes org q t v done SamePlan (change_to org_form next ∷ []) =
    changed_takes stays org_form org q t u v next plan (accepted (first_refusal (bad_name is_name name ∷ [])) t (accept done u) free) (keeps t name sound) refl refl
    (record { fits = subst (FitsForm org_form) is fits; own = refl; there = counted q u org; rest = λ k of e. rows_stay q t name k (other_org org k of e) }) in
    subst (λ (x : OrgRow). Takes org q t v done SamePlan (change_to org_form x ∷ [])) (sym is) takes
