use Rattle.std.proofs.Common.{◌∙◌, None, List, ap, arith, length, refl, subst, sym, ℤ}
use Rattle.query_plan.specs.declared.paths.branches.Branch.{Branch}
use Rattle.query_plan.specs.declared.paths.branches.Place.{Place}
use Rattle.query_bind.specs.inner.Tails.{BindsTail}
use Rattle.query_bind.proofs.Bound.{same_day}
use Rattle.query_bind.proofs.Subqueries.{members_found}
use Rattle.query_bind.proofs.selecting.bind_found.Goals as goal

pub returns : goal.returns
returns c =
    let ls = c.args.layouts.now in
    let child = c.args.child.now in
    let paths = c.args.paths.now in
    let tail = c.args.tail.now in
    let mid = c.bind_members.new.branches.items in
    let new = c.bind_tail.new.branches.items in
    let bound = c.in_ok-bound.bound in
    let from : Place = record { branch = None; layout = c.args.child } in
    record {
      binds = record {
        name = c.in_ok-name.ensures;
        object = c.in_ok-object.ensures;
        step = refl;
        members = members_found ls from refl paths mid new c.from_vec.result c.bind_tail.ensures.grows c.from_vec.ensures c.in_ok-members.members c.in_ok-members.ensures.shows;
        rows = subst (λ (bs : List Branch). BindsTail ls child c.args.day tail bs bound) (sym c.from_vec.ensures)
            (subst (λ (d : ℤ). BindsTail ls child d tail new bound) (same_day c.args.day c.ranges.day) c.in_ok-bound.ensures.binds);
        skip = refl;
        most = c.limit_of.ensures;
      };
      few =
          let same = ap (λ (bs : List Branch). length bs) c.from_vec.ensures in
          let many = c.len.ensures ∙ c.bind_members.new.branches.ok.0 in
          omega (arith, same, many, c.bind_tail.ensures.few, c.in_ok-check_steps.ensures, c.steps_of.ensures);
    }
