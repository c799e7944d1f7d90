use Rattle.std.proofs.Common.{◌≡◌, ◌∙◌, [], ◌∷◌, List, ℕ, None, Some, ap, ap₂, codes, is_none, refl, subst, sym}
use Rattle.std.specs.Option.{option_map}
use Rattle.store_kv.specs.Tables.{Tables}
use Rattle.model.specs.declared.refusal.Refusal.TheVariants.{NotFound}
use Rattle.model.specs.People.{bad_name_if_any, given, no_administrator, no_role, users_with}
use Rattle.model.specs.Principals.{bad_id, bad_id_if_any, spelled_id}
use Rattle.model.specs.Rules.{Rule, first_refusal, refuse_if}
use Rattle.model.specs.World.{user_at}
use Rattle.store_abstraction.specs.Local.{StandsIn}
use Rattle.store_abstraction.specs.Metadata.{user_of}
use Rattle.people_edit.specs.inner.Changing.{IsChangedUser, IsRowAs, user_row_with}
use Rattle.people_edit.specs.inner.Judging.{lacks_role}
use Rattle.store_edit.specs.Judging.{Passes}
use Rattle.store_edit.proofs.StepByStep.{none_next}
use Rattle.people_edit.proofs.Administrators.{same_rule}
use Rattle.people_edit.proofs.Behind.{then_passes}
use Rattle.people_edit.proofs.ChangedOnes.{user_is_set}
use Rattle.people_edit.proofs.Drawing.{no_role_is}
use Rattle.people_edit.proofs.edits.users.user_to_set.Goals as goal

pub returns-clause-passes : goal.returns-clause-passes
returns-clause-passes g c told q t s =
    let org = c.args.org in
    let text = c.args.user.now in
    let b = c.args.change.now in
    let id = c.in_ok-id.id in
    let named = c.in_ok-named.named in
    let before = c.in_ok-row.row in
    let next = c.row_to_set.ensures in
    let tells = c.draft_laws.ensures.both 0 0 c.args.draft.now c.user_there.new.draft c.row_to_set.new.draft c.in_ok-row.ensures.calls.reads next.calls.reads told in
    let stands = subst (λ (m : Tables). StandsIn org q m (Some t)) (sym tells.2) s in
    let row = c.in_ok-row.ensures.passes tells.0 q t s in
    let is = c.in_ok-id.ensures.passes.1.0 in
    let its : named ≡ option_map spelled_id (given b.role) = c.in_ok-named.ensures.passes.1.0 ∙ ap (option_map spelled_id) c.id_given.ensures in
    let here : IsRowAs (user_of org) (user_at t.users (spelled_id text)) before = subst (λ (i : List ℕ). IsRowAs (user_of org) (user_at t.users i) before) is row.1 in
    let one = bad_id text in
    let two = bad_id_if_any (given b.role) in
    let three = refuse_if (is_none (user_at t.users (spelled_id text))) NotFound in
    let role = ap (lacks_role t (codes "role")) its ∙ sym (no_role_is t (codes "role") (given b.role)) in
    let same = ap₂ (λ (x y : Rule). first_refusal (bad_name_if_any b.name ∷ x ∷ y ∷ [])) role (same_rule org t text b named before s.sound.users.rise s.sound.users.administered here) in
    then_passes (one ∷ two ∷ three ∷ []) (bad_name_if_any b.name ∷ no_role t (codes "role") (given b.role) ∷ no_administrator (users_with b text t.users) ∷ []) (IsChangedUser org t text b) (λ x. x ≡ user_row_with b named before)
    c.row_to_set.result
    (none_next one (two ∷ three ∷ []) c.in_ok-id.ensures.passes.0
    (none_next two (three ∷ []) (ap bad_id_if_any (sym c.id_given.ensures) ∙ c.in_ok-named.ensures.passes.0)
    (none_next three [] (subst (λ (i : List ℕ). refuse_if (is_none (user_at t.users i)) NotFound ≡ None) is row.0) refl)))
    (subst (λ (r : Rule). Passes r (λ x. Unit {0}) c.row_to_set.result) same (next.passes tells.1 q t stands))
    next.made
    (λ x made. user_is_set org t text b id named before x is its row.1 made)
