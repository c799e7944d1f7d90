use Rattle.std.proofs.Common.{◌≡◌, ◌∙◌, Bool, List, subst, refl, T}
use Rattle.store_rows.specs.declared.group.GroupRow.{GroupRow}
use Rattle.model.specs.SoundPeople.{ids_rise}
use Rattle.access_closure.specs.declared.graph.Edge.{Edge}
use Rattle.access_closure.specs.declared.ring.Ring.{Ring}
use Rattle.access_closure.specs.Places.{group_row_id}
use Rattle.access_closure.specs.inner.Reached.{Closes}
use Rattle.access_closure.specs.inner.Rings.{group_edges, groups_held}
use Rattle.access_closure.proofs.Looping.{same_groups}
use Rattle.access_closure.proofs.ring.ring_of.Goals as goal

pub returns : goal.returns
returns c = λ order.
    let people = c.args.people.now in
    let ring : Ring = record { users = c.args.chosen.users; roles = c.args.chosen.roles; subordinates = c.reach.new.flags; groups = c.reach-2.new.flags } in
    let begun : Ring = record { users = c.args.chosen.users; roles = c.args.chosen.roles; subordinates = c.reach.new.flags; groups = c.new.result } in
    let edges = subst (λ (gs : List GroupRow). T (ids_rise group_row_id gs) → c.in_ok-edges.edges.items ≡ group_edges gs 0 gs) c.as_slice-2.ensures.value c.in_ok-edges.ensures order.groups in
    let held : c.in_ok-groups.groups.items ≡ groups_held people ring = c.in_ok-groups.ensures order ∙ same_groups people begun ring refl refl refl in
    record {
      users = refl;
      roles = refl;
      subordinates = subst (λ (l : List Bool). Closes c.args.up.now l c.reach.new.flags.items) (c.in_ok-subordinates.ensures.items ∙ c.as_slice.ensures.value) c.in_ok-reach.ensures;
      groups = subst (λ (es : List Edge). Closes es (groups_held people ring) c.reach-2.new.flags.items) (c.as_slice-3.ensures.value ∙ edges)
          (subst (λ (l : List Bool). Closes c.as_slice-3.result.now l c.reach-2.new.flags.items) held c.in_ok-reach-2.ensures);
    }
