use Rattle.std.proofs.Common.{◌≡◌, ◌∙◌, [], ◌∷◌, List, ℕ, None, Some, Option, ap, ap₂, codes, is_none, refl, subst, sym}
use Rattle.std.specs.Option.{option_map}
use Rattle.store_kv.specs.Tables.{Tables}
use Rattle.store_rows.specs.declared.role.RoleRow.{RoleRow}
use Rattle.model.specs.Known.{role_id}
use Rattle.model.specs.declared.refusal.Refusal.TheVariants.{NotFound}
use Rattle.model.specs.People.{bad_name_if_any, bad_parent, given}
use Rattle.model.specs.Principals.{bad_id, bad_id_if_any, role_at, spelled_id}
use Rattle.model.specs.Rules.{Rule, first_refusal, refuse_if}
use Rattle.store_abstraction.specs.Local.{StandsIn}
use Rattle.people_edit.specs.inner.Changing.{IsChangedRole, bad_parent_id, role_row_with}
use Rattle.store_edit.specs.Judging.{Passes}
use Rattle.store_edit.proofs.StepByStep.{none_next}
use Rattle.people_edit.proofs.Behind.{then_passes}
use Rattle.people_edit.proofs.ChangedOnes.{role_is_set}
use Rattle.people_edit.proofs.Changing.{having_its_id}
use Rattle.people_edit.proofs.edits.roles.role_to_set.Goals as goal

pub returns-clause-passes : goal.returns-clause-passes
returns-clause-passes g c told q t s =
    let org = c.args.org in
    let text = c.args.role.now in
    let b = c.args.change.now in
    let id = c.in_ok-id.id in
    let named = c.in_ok-named.named in
    let before = c.in_ok-row.row in
    let next = c.row_to_set.ensures in
    let tells = c.draft_laws.ensures.both 0 0 c.args.draft.now c.role_there.new.draft c.row_to_set.new.draft c.in_ok-row.ensures.calls.reads next.calls.reads told in
    let stands = subst (λ (m : Tables). StandsIn org q m (Some t)) (sym tells.2) s in
    let row = c.in_ok-row.ensures.passes tells.0 q t s in
    let is = c.in_ok-id.ensures.passes.1.0 in
    let its : named ≡ option_map spelled_id (given b.parent) = c.in_ok-named.ensures.passes.1.0 ∙ ap (option_map spelled_id) c.id_given.ensures in
    let own : before.id ≡ spelled_id text = ap (λ (r : RoleRow). r.id) row.1.is ∙ having_its_id role_id t.roles id row.1.it row.1.is_there ∙ is in
    let one = bad_id text in
    let two = bad_id_if_any (given b.parent) in
    let three = refuse_if (is_none (role_at t (spelled_id text))) NotFound in
    let same = ap₂ (λ (i : List ℕ) (p : Option (List ℕ)). first_refusal (bad_name_if_any b.name ∷ bad_parent_id t (codes "parent") i p ∷ [])) own its in
    then_passes (one ∷ two ∷ three ∷ []) (bad_name_if_any b.name ∷ bad_parent t (spelled_id text) (given b.parent) ∷ []) (IsChangedRole org t text b) (λ x. x ≡ role_row_with b named before)
    c.row_to_set.result
    (none_next one (two ∷ three ∷ []) c.in_ok-id.ensures.passes.0
    (none_next two (three ∷ []) (ap bad_id_if_any (sym c.id_given.ensures) ∙ c.in_ok-named.ensures.passes.0)
    (none_next three [] (subst (λ (i : List ℕ). refuse_if (is_none (role_at t i)) NotFound ≡ None) is row.0) refl)))
    (subst (λ (r : Rule). Passes r (λ x. Unit {0}) c.row_to_set.result) same (next.passes tells.1 q t stands))
    next.made
    (λ x made. role_is_set org t text b id named before x is its row.1 made)
