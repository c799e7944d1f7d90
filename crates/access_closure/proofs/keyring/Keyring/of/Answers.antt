use Rattle.std.proofs.Common.{◌≡◌, ◌∙◌, List, sym, subst, T}
use Rattle.store_rows.specs.declared.role.RoleRow.{RoleRow}
use Rattle.model.specs.SoundPeople.{ids_rise}
use Rattle.access_closure.specs.Places.{role_row_id}
use Rattle.access_closure.specs.inner.Chosen.{IsUserAndBelow, edges_up}
use Rattle.access_closure.specs.inner.Rings.{IsRing}
use Rattle.access_closure.specs.declared.graph.Edge.{Edge}
use Rattle.access_closure.proofs.Reaching.{in_order, is_reached}
use Rattle.access_closure.proofs.keyring.Keyring.of.Goals as goal

pub returns : goal.returns
returns c =
    let people = c.args.people.now in
    let roles = people.roles.items in
    record {
      held = λ org t u among is p.
          let order = in_order org t people among.rows among.sound in
          let up : c.in_ok-up.up.items ≡ edges_up roles 0 roles = subst (λ (rs : List RoleRow). T (ids_rise role_row_id rs) → c.in_ok-up.up.items ≡ edges_up rs 0 rs) c.as_slice.ensures.value c.in_ok-up.ensures order.roles in
          let chosen = subst (λ (es : List Edge). IsUserAndBelow people es u.id c.in_ok-chosen.chosen) (c.as_slice-2.ensures.value ∙ up)
          (subst (λ i. IsUserAndBelow people c.as_slice-2.result.now i c.in_ok-chosen.chosen) (sym is) (c.in_ok-chosen.ensures order)) in
          let ring = subst (λ (es : List Edge). IsRing people c.in_ok-chosen.chosen es c.in_ok-ring.ring) (c.as_slice-3.ensures.value ∙ up) (c.in_ok-ring.ensures order) in
          is_reached org t people among.rows among.sound u among.user c.access_laws.ensures.reaches c.in_ok-chosen.chosen c.in_ok-ring.ring chosen ring p;
    }
