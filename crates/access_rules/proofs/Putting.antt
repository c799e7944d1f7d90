-- Rows that are put, and keys of the organisation beside theirs.
use Rattle.std.proofs.Common.{◌≡◌, ℕ, ◌<◌, ◌^◌, Bool, true, false, ◌&&◌, ◌||◌, eqb, List, Some, Option, refl, ap, bytes_eq, ◌∷◌}
use Rattle.std.proofs.lemmas.Bool.{eqb-false}
use Rattle.base_lemmas.proofs.Texts.{bytes_eq_false_sym as turned}
use Rattle.base_lemmas.proofs.Bools.{and_second_false as both_false}
use Rattle.base_lemmas.proofs.Options.{eqb-same_Some as own_number}
use Rattle.store_edit.specs.Edits.{Planned}
use Rattle.store_edit.specs.Rows.{change_to}
use Rattle.store_rows.specs.Forms.{FitsForm, Form, key_of, row_bytes}
use Rattle.store_rows.specs.Keys as key
use Rattle.store_rows.specs.Keys.{Key, key_eq}
use Rattle.store_rows.specs.Rows.{org_form}
use Rattle.model.specs.Sound.{IsSound}
use Rattle.model.specs.Tenant.{Tenant}
use Rattle.store_abstraction.specs.Changes.{Change, IsOf, is_changed}
use Rattle.store_abstraction.specs.Local.{IsIn}
use Rattle.store_abstraction.specs.Metadata.{lower_bytes, org_of}
use Rattle.store_abstraction.specs.Plan.{FitsPlan, OrgPlan}
use Rattle.store_abstraction.specs.Records.{is_org_key}
use Rattle.store_abstraction.specs.Stands.{org_of_key, row_in}
use Rattle.access_rules.specs.Sharing.{is_sharing_key}

-- the rows are kept as they were
abbrev pub SamePlan : Planned
SamePlan q t next = next ≡ q

-- what `people_rows` says of the organisation's own row and of plans
abbrev pub OrgFits : Type 0
OrgFits = (org : ℕ) (t : Tenant) → org < 2 ^ 32 → IsSound t → FitsForm org_form (org_of org t)

abbrev pub OrgCounted : Type 0
OrgCounted = (p : OrgPlan) (t : Tenant) (org : ℕ) → row_in p t (key.Org org) ≡ Some (row_bytes org_form (org_of org t))

abbrev pub PlanStays : Type 0
PlanStays = (p : OrgPlan) (t u : Tenant) → u.objects ≡ t.objects → u.job ≡ t.job → FitsPlan p t → FitsPlan p u

pub record OrgLaws : Type 0 where
  pub fits : OrgFits
  pub counted : OrgCounted
  pub plan : PlanStays

-- ---- keys beside those of the changes

pub other_sharing : (org : ℕ) (name : List ℕ) (k : Key) → org_of_key k ≡ Some org → key_eq k (key.Sharing org (lower_bytes name)) ≡ false → is_sharing_key name k ≡ false
other_sharing org name (key.Sharing m its) of e = turned its (lower_bytes name) (both_false (eqb m org) (bytes_eq its (lower_bytes name)) (own_number m org of) e)
other_sharing org name k of e = refl
