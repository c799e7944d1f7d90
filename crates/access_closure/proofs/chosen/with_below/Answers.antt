use Rattle.std.proofs.Common.{◌≡◌, ◌∙◌, ap, arith, length, map, subst, sym}
use Rattle.std.specs.Prelude.{false, replicate}
use Rattle.std.specs.List.{list_any}
use Rattle.access_closure.specs.inner.Chosen.{edge_back, with_sources}
use Rattle.access_closure.specs.inner.Reached.{Closes}
use Rattle.access_closure.proofs.Choosing.{roles_moved, roles_same, users_moved, users_same}
use Rattle.access_closure.proofs.chosen.with_below.Goals as goal

pub returns-then-not-is_any_on : goal.returns-then-not-is_any_on
returns-then-not-is_any_on c = λ order.
    let people = c.args.people.now in
    let none : list_any (λ flag. flag) c.in_ok-below.below.items ≡ false = ap (list_any (λ flag. flag)) (sym c.as_slice-lower.ensures.value) ∙ sym c.is_any_on.ensures ∙ c.if-not-is_any_on.true in
    let few : c.len.result ≡ length c.args.people.now.roles.items = let k = c.args.people.now.roles.ok.0 in let e = c.len.ensures in omega arith in
    record {
      below = c.in_ok-below.below.items;
      is_below = subst (λ n. Closes (map edge_back c.args.up.now) (with_sources c.args.role (replicate n false) c.args.up.now) c.in_ok-below.below.items) few c.in_ok-below.ensures;
      users = users_same people.roles.items c.in_ok-below.below.items 0 people.users.items c.args.alone.users.items none;
      roles = roles_same people.roles.items c.in_ok-below.below.items people.users.items c.args.alone.roles.items none;
    }

pub returns : goal.returns
returns c = λ order.
    let few : c.len.result ≡ length c.args.people.now.roles.items = let k = c.args.people.now.roles.ok.0 in let e = c.len.ensures in omega arith in
    record {
      below = c.in_ok-below.below.items;
      is_below = subst (λ n. Closes (map edge_back c.args.up.now) (with_sources c.args.role (replicate n false) c.args.up.now) c.in_ok-below.below.items) few c.in_ok-below.ensures;
      users = users_moved _ c.args.people.now.users.items _ c.args.people.now.roles.items _ c.in_ok-below.below.items _ _ c.as_slice.ensures.value c.as_slice-2.ensures.value c.as_slice-lower.ensures.value c.choose_more.ensures.users order.roles;
      roles = roles_moved _ c.args.people.now.users.items _ c.args.people.now.roles.items _ c.in_ok-below.below.items _ _ c.as_slice.ensures.value c.as_slice-2.ensures.value c.as_slice-lower.ensures.value c.choose_more.ensures.roles order.roles;
    }
