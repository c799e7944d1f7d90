use Rattle.std.proofs.Common.{◌≡◌, ◌∙◌, ◌+◌, ◌<◌, ◌≤◌, ◌∷◌, [], ℕ, List, ap, arith, drop, length, subst, sym, take, ℤ, to_z, of_z, w64}
use Rattle.std.proofs.lemmas.List.{at_drop_all, at_drop_more}
use Rattle.std.proofs.lemmas.List.Sums.{sum_by-cons}
use Rattle.std.specs.List.{sum_by}
use Rattle.model.specs.Shown.{item_children_shown, path_steps}
use Rattle.query_plan.specs.Plans.{child_shown}
use Rattle.query_bind.proofs.Counted.{paths_steps}
use Rattle.soql.specs.declared.query.Item.{Item}
use Rattle.query_plan.proofs.Branching.{added_twice}
use Rattle.query_plan.specs.declared.plan.ChildPlan.{ChildPlan}
use Rattle.query_plan.specs.declared.plan.Shown.{Shown}
use Rattle.query_bind.specs.Cells.{paths_in}
use Rattle.query_bind.specs.inner.Selecting.{BindsItems, count_of}
use Rattle.query_bind.proofs.Bound.{same_day}
use Rattle.query_bind.proofs.Picked.{AreCounted, SelectedSoFar, all_selected, count_next, item_next}
use Rattle.query_bind.proofs.selecting.bind_items.Goals as goal

pub loop-item-preserved : goal.loop-item-preserved
loop-item-preserved c =
    let ls = c.args.layouts.now in
    let l = c.args.layout.now in
    let day : ℤ = to_z w64 (of_z w64 c.args.day) in
    let items = c.args.items.now in
    let i = c.loop-item.item-index in
    let x = c.item-item.result in
    let all = c.as_slice-paths.result.now in
    let count = c.loop-item.count in
    let next = count + c.count_of-count.result in
    let rest : List Item = drop (i + 1) items in
    let old = c.loop-item.branches.items in
    let shown = c.loop-item.shown.items in
    let plans = c.loop-item.children.items in
    let lt : i < length items = omega (arith, c.loop-item-test.true) in
    let behind : drop i items ≡ x ∷ rest = at_drop_more (λ (ys : List Item). ys) items i x lt ∙ ap (λ (y : Item). y ∷ rest) (sym c.item-item.is) in
    let counted : AreCounted all count (x ∷ rest) = record { left = c.loop-item.invariant.left ∙ ap paths_in behind; within = c.loop-item.invariant.within } in
    let e : next ≡ count + count_of x = ap (λ (n : ℕ). count + n) c.count_of-count.ensures.value in
    let after = count_next all count next x rest e counted in
    let so_far : SelectedSoFar ls l day items (take count all) old shown plans (x ∷ rest) =
    subst (λ (ys : List Item). SelectedSoFar ls l day items (take count all) old shown plans ys) behind c.loop-item.invariant.so_far in
    record {
      grown = added_twice _ _ _ c.loop-item.invariant.grown c.bind_item.ensures.grows;
      left = after.left;
      within = after.within;
      few =
          let left = ap (sum_by item_children_shown) behind ∙ sum_by-cons item_children_shown x rest in
          omega (arith, left, c.loop-item.invariant.few, c.in_ok-bind_item.ensures.few);
      so_far = item_next ls l day items all (c.as_slice-paths.ensures ∙ c.in_ok-all.ensures) count next x rest old c.bind_item.new.branches.items shown c.bind_item.new.shown.items plans c.bind_item.new.children.items
          c.bind_item.ensures.grows counted e c.in_ok-bind_item.ensures.adds so_far;
    }

pub returns-clause-binds : goal.returns-clause-binds
returns-clause-binds c =
    let ls = c.args.layouts.now in
    let l = c.args.layout.now in
    let day = c.args.day in
    let items = c.args.items.now in
    let i = c.loop-item.item-index in
    let before = take c.loop-item.count c.as_slice-paths.result.now in
    let bs = c.loop-item.branches.items in
    let shown = c.loop-item.shown.items in
    let plans = c.loop-item.children.items in
    let le : length items ≤ i = omega (arith, c.loop-item-test.false) in
    let none : drop i items ≡ [] = at_drop_all (λ (ys : List Item). ys) items i le in
    let so_far : SelectedSoFar ls l day items before bs shown plans [] =
    subst (λ (ys : List Item). SelectedSoFar ls l day items before bs shown plans ys) none
    (subst (λ (d : ℤ). SelectedSoFar ls l d items before bs shown plans (drop i items)) (same_day c.args.day c.ranges.day) c.loop-item.invariant.so_far) in
    subst (λ (xs : List Shown). BindsItems ls l day items bs (record { shown = xs; children = c.from_vec-2.result })) (sym c.from_vec.ensures)
    (subst (λ (ks : List ChildPlan). BindsItems ls l day items bs (record { shown = shown; children = ks })) (sym c.from_vec-2.ensures)
    (all_selected ls l day items before bs (record { shown = shown; children = plans }) so_far))

pub returns-clause-few : goal.returns-clause-few
returns-clause-few c =
    let many = c.len.ensures ∙ c.loop-item.branches.ok.0 in
    let before = c.len-before.ensures ∙ c.args.branches.now.ok.0 in
    let paths = ap (sum_by path_steps) (c.as_slice-paths.ensures ∙ c.in_ok-all.ensures) ∙ paths_steps c.args.items.now in
    let plans = ap (sum_by child_shown) c.from_vec-2.ensures in
    (omega (arith, many, before, paths, c.in_ok-check_steps.ensures, c.steps_of.ensures), omega (arith, plans, c.loop-item.invariant.few))
