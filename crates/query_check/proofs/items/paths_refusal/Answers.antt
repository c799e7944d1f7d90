use Rattle.std.proofs.Common.{◌∙◌, ◌<◌, ◌≤◌, ℕ, List, [], length, sym, ap, arith}
use Rattle.model.specs.Asking.{spelled_path}
use Rattle.query_check.specs.Rules.{path_name, path_rule}
use Rattle.query_check.specs.Rules.{each_rule}
use Rattle.query_check.proofs.Refusing.{none_there}
use Rattle.query_check.proofs.Selected.{none_selected, selected_on, selected_refused}
use Rattle.query_check.proofs.items.paths_refusal.Goals as goal

pub returns-in-Some : goal.returns-in-Some
returns-in-Some c =
    let ls = c.args.layouts.now in
    let l = c.args.layout.now in
    let xs = c.args.paths.now in
    let i = c.loop-path.path-index in
    let lt : i < length xs = omega (arith, c.loop-path-test.true) in
    selected_refused path_name (path_rule ls l) xs i (each_rule path_name (path_rule ls l) [] xs) c.loop-path.before.items c.path-item.result c.in-Some.refusal lt c.path-item.is
    (ap (λ (before : List (List ℕ)). path_rule ls l before c.path-item.result) (sym c.as_slice.ensures.value) ∙ sym c.in_ok-refusal.ensures ∙ c.in-Some.is) c.loop-path.invariant

pub loop-path-preserved : goal.loop-path-preserved
loop-path-preserved c =
    let ls = c.args.layouts.now in
    let l = c.args.layout.now in
    let xs = c.args.paths.now in
    let i = c.loop-path.path-index in
    let lt : i < length xs = omega (arith, c.loop-path-test.true) in
    selected_on path_name (path_rule ls l) xs i (each_rule path_name (path_rule ls l) [] xs) c.loop-path.before.items c.path-item.result c.push.new.self.items c.in_ok-spelled.field-0 lt c.path-item.is
    (ap (λ (before : List (List ℕ)). path_rule ls l before c.path-item.result) (sym c.as_slice.ensures.value) ∙ sym c.in_ok-refusal.ensures ∙ none_there c.in_ok-refusal.field-0 c.in_default.not-Some)
    (c.in_ok-spelled.ensures ∙ ap spelled_path c.as_slice-in-loop-path.ensures) c.in_ok-push.ensures.items c.loop-path.invariant

pub returns : goal.returns
returns c =
    let ls = c.args.layouts.now in
    let l = c.args.layout.now in
    let xs = c.args.paths.now in
    let i = c.loop-path.path-index in
    let le : length xs ≤ i = omega arith in
    none_selected path_name (path_rule ls l) xs i (each_rule path_name (path_rule ls l) [] xs) c.loop-path.before.items le c.loop-path.invariant
