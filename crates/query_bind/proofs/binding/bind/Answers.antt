use Rattle.std.proofs.Common.{◌≡◌, List, [], map, true, refl, subst, ℤ}
use Rattle.std.specs.List.{list_all}
use Rattle.soql.specs.declared.query.Item.{Item}
use Rattle.model.specs.Flat.{is_flat_item}
use Rattle.query_plan.specs.declared.plan.Plan.{Plan}
use Rattle.query_bind.specs.inner.Selecting.{BindsItems, own_shown}
use Rattle.query_bind.specs.inner.Tails.{BindsTail}
use Rattle.query_bind.proofs.Bound.{same_day}
use Rattle.query_check.proofs.Flatness.{parts_of}
use Rattle.query_bind.proofs.Planned.{few_branches, few_of, means, no_branches}
use Rattle.query_bind.proofs.binding.bind.Goals as goal

pub returns-clause-means : goal.returns-clause-means
returns-clause-means c =
    let ls = c.args.layouts.now in
    let l = c.args.layout.now in
    let q = c.args.query.now in
    let mid = c.bind_items.new.branches.items in
    let new = c.bind_tail.new.branches.items in
    let sel = c.in_ok-selection.selection in
    let b = c.in_ok-tail.tail in
    let plan : Plan = record {
      shown = sel.shown;
      choice = record { branches = c.from_vec.result; check = b.check; order = b.order; skip = c.skip_of.result; most = c.most_of.result };
      children = sel.children;
    } in
    means ls l c.args.day q mid new sel b plan
    (record {
      items = subst (λ (xs : List Item). BindsItems ls l c.args.day xs mid sel) c.as_slice-items.ensures
          (subst (λ (d : ℤ). BindsItems ls l d c.as_slice-items.result.now mid sel) (same_day c.args.day c.ranges.day) c.in_ok-selection.ensures.binds);
      own = subst (λ (xs : List Item). list_all is_flat_item xs ≡ true → (sel.shown ≡ map (own_shown l) xs) × (sel.children ≡ [])) c.as_slice-items.ensures c.in_ok-selection.ensures.own;
      tail = subst (λ (d : ℤ). BindsTail ls l d q.tail new b) (same_day c.args.day c.ranges.day) c.in_ok-tail.ensures.binds;
      adds = c.bind_tail.ensures.grows;
      branches = c.from_vec.ensures;
      check = refl;
      order = refl;
      skip = c.skip_of.ensures;
      most = c.most_of.ensures;
      shown = refl;
      children = refl;
    })

pub returns-clause-few : goal.returns-clause-few
returns-clause-few c =
    let q = c.args.query.now in
    let first = c.new-branches.result.items in
    let mid = c.bind_items.new.branches.items in
    let few = few_of c.as_slice-items.result.now q.select first mid c.in_ok-selection.selection.children c.as_slice-items.ensures c.in_ok-selection.ensures.few in
    record {
      branches = few_branches q first mid c.bind_tail.new.branches.items c.from_vec.result c.new-branches.ensures.items few.0 c.bind_tail.ensures.few c.from_vec.ensures;
      children = few.1;
    }

pub returns-clause-flat : goal.returns-clause-flat
returns-clause-flat c flat =
    let q = c.args.query.now in
    let l = c.args.layout.now in
    let first = c.new-branches.result.items in
    let mid = c.bind_items.new.branches.items in
    let sel = c.in_ok-selection.selection in
    let few = few_of c.as_slice-items.result.now q.select first mid sel.children c.as_slice-items.ensures c.in_ok-selection.ensures.few in
    let steps = few_branches q first mid c.bind_tail.new.branches.items c.from_vec.result c.new-branches.ensures.items few.0 c.bind_tail.ensures.few c.from_vec.ensures in
    let own = subst (λ (xs : List Item). list_all is_flat_item xs ≡ true → (sel.shown ≡ map (own_shown l) xs) × (sel.children ≡ [])) c.as_slice-items.ensures c.in_ok-selection.ensures.own in
    (no_branches q c.from_vec.result steps flat, (own (parts_of q flat).items).1)
