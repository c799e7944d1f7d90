use Rattle.std.proofs.Common.{◌≡◌, ◌∙◌, ◌+◌, ◌≤◌, ℕ, List, [], None, Some, ap, arith, length, subst, sym, ℤ, to_z, of_z, w64}
use Rattle.std.specs.List.{sum_by}
use Rattle.std.specs.Option.{option_copied}
use Rattle.model.specs.Shown.{path_steps, tail_steps}
use Rattle.query_plan.specs.declared.paths.branches.Branch.{Branch}
use Rattle.query_plan.specs.paths.ByLayout.{child_of}
use Rattle.query_bind.specs.declared.selecting.BoundChild.{BoundChild}
use Rattle.query_bind.specs.inner.Selecting.{BindsChild, BindsFound}
use Rattle.query_check.specs.Ways.{layout_at}
use Rattle.query_bind.proofs.Bound.{same_day}
use Rattle.query_bind.proofs.Owns.{any_ok}
use Rattle.query_bind.proofs.Subqueries.{child_bound, no_layout_bound, no_step_bound}
use Rattle.query_plan.proofs.Within.{if_ok}
use Rattle.query_bind.proofs.selecting.bind_child.Goals as goal

pub returns-in_default : goal.returns-in_default
returns-in_default c =
    let ls = c.args.layouts.now in
    let l = c.args.layout.now in
    let tail = c.args.tail.now in
    let none : child_of l.object tail.from ls ≡ None = ap (λ (name : List ℕ). child_of l.object name ls) (sym c.as_str.ensures.characters) ∙ sym c.child_in.ensures.by_layouts ∙ c.in_default.is in
    record {
      binds = any_ok c.no_child.result (λ (b : BoundChild). no_step_bound ls l c.args.day c.args.paths.now tail b none);
      few =
          let steps = sum_by path_steps c.args.paths.now + tail_steps tail in
          if_ok {P = λ (b : BoundChild). b.plan.choice.branches ≡ []} {Q = λ (b : BoundChild). length b.plan.choice.branches ≤ steps} c.no_child.result
          (λ b h. let none = ap (λ (bs : List Branch). length bs) h in omega (arith, none)) c.no_child.ensures;
    }

pub returns-in-Some-layout_in : goal.returns-in-Some-layout_in
returns-in-Some-layout_in c =
    let ls = c.args.layouts.now in
    let l = c.args.layout.now in
    let day = c.args.day in
    let paths = c.args.paths.now in
    let tail = c.args.tail.now in
    let step = c.in-Some.step in
    let child = c.in-Some-layout_in.child.now in
    let by_step : child_of l.object tail.from ls ≡ Some step = ap (λ (name : List ℕ). child_of l.object name ls) (sym c.as_str.ensures.characters) ∙ sym c.child_in.ensures.by_layouts ∙ c.in-Some.is in
    let at : layout_at ls step.object ≡ Some child = sym c.layout_in.ensures.by_layouts ∙ ap option_copied c.in-Some-layout_in.is in
    record {
      binds = if_ok {P = λ (b : BoundChild). BindsFound ls child step (to_z w64 (of_z w64 day)) paths tail b} {Q = λ (b : BoundChild). BindsChild ls l day paths tail b} c.bind_found.result
          (λ b h. child_bound ls l child step day paths tail b (subst (λ (d : ℤ). BindsFound ls child step d paths tail b) (same_day day c.ranges.day) h) by_step at)
          c.bind_found.ensures.binds;
      few = c.bind_found.ensures.few;
    }

pub returns-in-None : goal.returns-in-None
returns-in-None c =
    let ls = c.args.layouts.now in
    let l = c.args.layout.now in
    let tail = c.args.tail.now in
    let step = c.in-Some.step in
    let by_step : child_of l.object tail.from ls ≡ Some step = ap (λ (name : List ℕ). child_of l.object name ls) (sym c.as_str.ensures.characters) ∙ sym c.child_in.ensures.by_layouts ∙ c.in-Some.is in
    let none : layout_at ls step.object ≡ None = sym c.layout_in.ensures.by_layouts ∙ ap option_copied c.in-None.is in
    record {
      binds = any_ok c.no_child-in-None.result (λ (b : BoundChild). no_layout_bound ls l step c.args.day c.args.paths.now tail b by_step none);
      few =
          let steps = sum_by path_steps c.args.paths.now + tail_steps tail in
          if_ok {P = λ (b : BoundChild). b.plan.choice.branches ≡ []} {Q = λ (b : BoundChild). length b.plan.choice.branches ≤ steps} c.no_child-in-None.result
          (λ b h. let none = ap (λ (bs : List Branch). length bs) h in omega (arith, none)) c.no_child-in-None.ensures;
    }
