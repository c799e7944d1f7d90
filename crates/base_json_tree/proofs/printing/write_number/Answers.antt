use Rattle.std.proofs.Common.{◌≡◌, ◌++◌, rules, subst, sym}
use Rattle.std.proofs.lemmas.Int.{to_z-of_z}
use Rattle.std.proofs.lemmas.Result.{on_ok_weaker as on_ok}
use Rattle.std.specs.Int.{w128}
use Rattle.std.specs.Prelude.{FitsSigned, OnOk, ℤ}
use Rattle.base_value.specs.Printing.{print_number}
use Rattle.base_json.specs.Whole.{printed_num}
use Rattle.base_json.specs.declared.tree.Num.{Num}
use Rattle.base_json_tree.specs.inner.Printed.{Wrote}
use Rattle.base_json_tree.proofs.Pieces.{number_in_utf8}
use Rattle.base_json_tree.proofs.printing.write_number.Goals as goal

pub returns-in-Exact : goal.returns-in-Exact
returns-in-Exact c =
    let small : FitsSigned w128 c.in-Exact.count = search rules in
    subst (λ (n : Num). Wrote c.number.result c.args.writer.now c.number.new.self (printed_num n)) (sym c.in-Exact.is)
    (on_ok c.number.result (number_in_utf8 c.args.writer.now c.number.new.self c.in-Exact.count)
    (subst (λ (z : ℤ). OnOk c.number.result (c.number.new.self ≡ c.args.writer.now ++ print_number z)) (to_z-of_z w128 c.in-Exact.count small) c.number.ensures.ok))
