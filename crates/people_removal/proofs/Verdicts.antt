-- The verdict on the end of a role or of a group, by the rules on it and by what it leaves.
use Rattle.std.proofs.Common.{◌≡◌, ◌<◌, ◌^◌, ℕ, List, ◌∷◌, IsTrue, None, sym, subst}
use Rattle.base_value.specs.Id.{is_id}
use Rattle.store_edit.specs.Edits.{FailsBy, Takes}
use Rattle.store_edit.specs.Judging.{FailsRule}
use Rattle.store_edit.proofs.StepByStep.{accepted, fails_next, none_next, rule_fails}
use Rattle.store_rows.specs.declared.org.OrgRow.{OrgRow}
use Rattle.model.specs.Principals.{bad_id, spelled_id}
use Rattle.model.specs.Rules.{first_refusal}
use Rattle.model.specs.Sound.{IsSound}
use Rattle.model.specs.Tenant.{Tenant}
use Rattle.model.specs.Verdict.{Verdict, accept, done, judged}
use Rattle.store_abstraction.specs.declared.fail.EditFail.{EditFail}
use Rattle.store_abstraction.specs.Metadata.{org_of}
use Rattle.store_abstraction.specs.Plan.{FitsPlan, OrgPlan}
use Rattle.people_removal.specs.declared.named.Named.{Named}
use Rattle.people_removal.specs.inner.Removing.{changes_of, id_of, removal_rules, without}
use Rattle.people_removal.proofs.Going.{OrgLaws, SamePlan, gone_takes}

-- the verdict on the end of what a text names
abbrev pub removal : (List ℕ → Named) → List ℕ → Tenant → Verdict
removal named text t = judged t (bad_id text ∷ removal_rules t (named (spelled_id text))) (accept done (without (named (spelled_id text)) t))

module _ (named : List ℕ → Named) (text i : List ℕ) (spells : bad_id text ≡ None) (is : i ≡ spelled_id text) (t : Tenant) where
  pub not_removed : (e : EditFail) → FailsRule (first_refusal (removal_rules t (named i))) e → FailsBy (removal named text t) e
  not_removed e h =
      let its = subst (λ (j : List ℕ). FailsRule (first_refusal (removal_rules t (named j))) e) is h in
      rule_fails (first_refusal (bad_id text ∷ removal_rules t (named (spelled_id text)))) t (accept done (without (named (spelled_id text)) t)) e
      (fails_next (bad_id text) (removal_rules t (named (spelled_id text))) e spells its)

  pub removed : OrgLaws → (org : ℕ) (q : OrgPlan) (row : OrgRow) → org < 2 ^ 32 → IsTrue (is_id (id_of (named i))) → FitsPlan q t → IsSound (removal named text t).tenant
      → first_refusal (removal_rules t (named i)) ≡ None → row ≡ org_of org (without (named i) t) → Takes org q t (removal named text t) done SamePlan (changes_of org (named i) row)
  removed laws org q row lo id plan sound free same =
      let its = subst (λ (j : List ℕ). first_refusal (removal_rules t (named j)) ≡ None) is free in
      let v = accept done (without (named (spelled_id text)) t) in
      let accepts : removal named text t ≡ v = accepted (first_refusal (bad_id text ∷ removal_rules t (named (spelled_id text)))) t v (none_next (bad_id text) (removal_rules t (named (spelled_id text))) spells its) in
      gone_takes laws org q t (named i) (removal named text t) row lo id plan (subst (λ (j : List ℕ). removal named text t ≡ accept done (without (named j) t)) (sym is) accepts) sound same
