use Rattle.std.proofs.Common.{◌≡◌, ◌∙◌, [], ◌∷◌, List, ℕ, None, Some, ap, ap₂, codes, is_none, length, map, refl, subst, sym}
use Rattle.std.proofs.lemmas.List.{length-map}
use Rattle.store_kv.specs.Tables.{Tables}
use Rattle.model.specs.declared.limit.Limit.TheVariants as limit
use Rattle.model.specs.declared.people_bodies.Spelled.{Spelled}
use Rattle.model.specs.declared.refusal.Refusal.TheVariants.{NotFound}
use Rattle.model.specs.People.{bad_name_if_any, members_given}
use Rattle.model.specs.Principals.{bad_id, group_at, not_there, principal_of, spelled_id}
use Rattle.model.specs.Rules.{Rule, first_of, first_refusal, over_limit, refuse_if}
use Rattle.store_abstraction.specs.Local.{StandsIn}
use Rattle.people_edit.specs.inner.Changing.{IsChangedGroup, group_row_with}
use Rattle.store_edit.specs.Judging.{Passes}
use Rattle.store_edit.proofs.StepByStep.{none_next}
use Rattle.people_edit.proofs.Behind.{then_passes}
use Rattle.people_edit.proofs.ChangedOnes.{group_is_set}
use Rattle.people_edit.proofs.Members.{first_mapped}
use Rattle.people_edit.proofs.edits.groups.group_to_set.Goals as goal

pub returns-clause-passes : goal.returns-clause-passes
returns-clause-passes g c told q t s =
    let org = c.args.org in
    let text = c.args.group.now in
    let b = c.args.change.now in
    let spelled = members_given b in
    let id = c.in_ok-id.id in
    let named = c.in_ok-named.named.items in
    let before = c.in_ok-row.row in
    let next = c.row_to_set.ensures in
    let tells = c.draft_laws.ensures.both 0 0 c.args.draft.now c.group_there.new.draft c.row_to_set.new.draft c.in_ok-row.ensures.calls.reads next.calls.reads told in
    let stands = subst (λ (m : Tables). StandsIn org q m (Some t)) (sym tells.2) s in
    let row = c.in_ok-row.ensures.passes tells.0 q t s in
    let is = c.in_ok-id.ensures.passes.1.0 in
    let its : named ≡ map principal_of spelled = c.in_ok-named.ensures.passes.1.0 ∙ ap (map principal_of) c.members_given.ensures in
    let one = bad_id text in
    let two = first_of (λ p. bad_id p.text) spelled in
    let three = refuse_if (is_none (group_at t (spelled_id text))) NotFound in
    let members = ap (first_of (not_there t (codes "members"))) its ∙ first_mapped (not_there t (codes "members")) principal_of spelled in
    let same = ap₂ (λ (x : Rule) (n : ℕ). first_refusal (bad_name_if_any b.name ∷ x ∷ over_limit ((limit.MembersPerGroup, n) ∷ []) ∷ [])) members (ap length its ∙ length-map spelled principal_of) in
    then_passes (one ∷ two ∷ three ∷ []) (bad_name_if_any b.name ∷ first_of (λ p. not_there t (codes "members") (principal_of p)) spelled ∷ over_limit ((limit.MembersPerGroup, length spelled) ∷ []) ∷ []) (IsChangedGroup org t text b)
    (λ x. x ≡ group_row_with b named before) c.row_to_set.result
    (none_next one (two ∷ three ∷ []) c.in_ok-id.ensures.passes.0
    (none_next two (three ∷ []) (ap (first_of (λ (p : Spelled). bad_id p.text)) (sym c.members_given.ensures) ∙ c.in_ok-named.ensures.passes.0)
    (none_next three [] (subst (λ (i : List ℕ). refuse_if (is_none (group_at t i)) NotFound ≡ None) is row.0) refl)))
    (subst (λ (r : Rule). Passes r (λ x. Unit {0}) c.row_to_set.result) same (next.passes tells.1 q t stands))
    next.made
    (λ x made. group_is_set org t text b id named before x is its row.1 made)
