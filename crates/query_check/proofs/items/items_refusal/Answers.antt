use Rattle.std.proofs.Common.{◌∙◌, ◌<◌, ◌≤◌, ℕ, List, [], length, sym, ap, arith}
use Rattle.model.specs.Asking.{item_name}
use Rattle.query_check.specs.Rules.{item_rule}
use Rattle.query_check.specs.Rules.{each_rule}
use Rattle.query_check.proofs.Refusing.{none_there}
use Rattle.query_check.proofs.Selected.{none_selected, selected_on, selected_refused}
use Rattle.query_check.proofs.items.items_refusal.Goals as goal

pub returns-in-Some : goal.returns-in-Some
returns-in-Some c =
    let ls = c.args.layouts.now in
    let l = c.args.layout.now in
    let xs = c.args.items.now in
    let i = c.loop-item.item-index in
    let lt : i < length xs = omega (arith, c.loop-item-test.true) in
    selected_refused item_name (item_rule ls l) xs i (each_rule item_name (item_rule ls l) [] xs) c.loop-item.before.items c.item-item.result c.in-Some.refusal lt c.item-item.is
    (ap (λ (before : List (List ℕ)). item_rule ls l before c.item-item.result) (sym c.as_slice.ensures.value) ∙ sym c.in_ok-refusal.ensures ∙ c.in-Some.is) c.loop-item.invariant

pub loop-item-preserved : goal.loop-item-preserved
loop-item-preserved c =
    let ls = c.args.layouts.now in
    let l = c.args.layout.now in
    let xs = c.args.items.now in
    let i = c.loop-item.item-index in
    let lt : i < length xs = omega (arith, c.loop-item-test.true) in
    selected_on item_name (item_rule ls l) xs i (each_rule item_name (item_rule ls l) [] xs) c.loop-item.before.items c.item-item.result c.push.new.self.items c.in_ok-item_name.field-0 lt c.item-item.is
    (ap (λ (before : List (List ℕ)). item_rule ls l before c.item-item.result) (sym c.as_slice.ensures.value) ∙ sym c.in_ok-refusal.ensures ∙ none_there c.in_ok-refusal.field-0 c.in_default.not-Some)
    c.in_ok-item_name.ensures c.in_ok-push.ensures.items c.loop-item.invariant

pub returns : goal.returns
returns c =
    let ls = c.args.layouts.now in
    let l = c.args.layout.now in
    let xs = c.args.items.now in
    let i = c.loop-item.item-index in
    let le : length xs ≤ i = omega arith in
    none_selected item_name (item_rule ls l) xs i (each_rule item_name (item_rule ls l) [] xs) c.loop-item.before.items le c.loop-item.invariant
