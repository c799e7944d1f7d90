use Rattle.std.proofs.Common.{◌≡◌, ◌∙◌, List, ap, arith, subst, T}
use Rattle.std.specs.Prelude.{false, replicate, length}
use Rattle.store_rows.specs.declared.user.UserRow.{UserRow}
use Rattle.model.specs.SoundPeople.{ids_rise}
use Rattle.access_closure.specs.Places.{place_of_id, user_row_id}
use Rattle.access_closure.specs.inner.Chosen.{set_at}
use Rattle.access_closure.proofs.chosen.choose.Goals as goal

pub returns : goal.returns
returns c = λ order.
    let people = c.args.people.now in
    let many : c.len.result ≡ length people.users.items = let k = people.users.ok.0 in let e = c.len.ensures in omega arith in
    let few : c.len-2.result ≡ length people.roles.items = let k = people.roles.ok.0 in let e = c.len-2.ensures in omega arith in
    let place = subst (λ (us : List UserRow). T (ids_rise user_row_id us) → c.user_place-place.result ≡ place_of_id user_row_id us c.args.user.now) c.as_slice.ensures.value c.user_place-place.ensures order.users in (
      c.in_ok-users.ensures ∙ ap (λ n. set_at (replicate n false) c.user_place-place.result) many ∙ ap (set_at (replicate (length people.users.items) false)) place,
      c.in_ok-roles.ensures ∙ ap (λ n. set_at (replicate n false) c.role_of-role.result) few ∙ ap (set_at (replicate (length people.roles.items) false)) (c.role_of-role.ensures order),
    )
