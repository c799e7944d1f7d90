use Rattle.std.proofs.Common.{◌≡◌, ◌∙◌, ◌++◌, List, ap, rules, subst, sym, ℕ}
use Rattle.std.proofs.lemmas.Int.{to_z-of_z}
use Rattle.std.specs.Int.{w128}
use Rattle.std.specs.Prelude.{FitsSigned, OnOk, ℤ}
use Rattle.std.specs.Str.{encode_utf8_all}
use Rattle.std.proofs.lemmas.Str.Ascii.{encodes-IsAscii}
use Rattle.model.specs.RowsJson.{value_json}
use Rattle.base_value.specs.Printing.{print_number}
use Rattle.base_value.specs.declared.value.Value.{Value}
use Rattle.api_output.specs.inner.Parts.{Wrote}
use Rattle.base_value.proofs.NumberLaws.{number_ascii}
use Rattle.api_output.proofs.Written.{on_ok}
use Rattle.api_output.proofs.rows.write_value.Goals as goal

in_utf8 : (w0 w1 : List ℕ) (z : ℤ) → w1 ≡ w0 ++ print_number z → w1 ≡ w0 ++ encode_utf8_all (print_number z)
in_utf8 w0 w1 z e = e ∙ ap (λ (t : List ℕ). w0 ++ t) (sym (encodes-IsAscii (print_number z) (number_ascii z)))

pub returns-in-Num : goal.returns-in-Num
returns-in-Num c =
    let small : FitsSigned w128 c.in-Num.count = search rules in
    subst (λ (v : Value). Wrote c.number.result c.args.writer.now c.number.new.self (value_json v)) (sym c.in-Num.is)
    (on_ok c.number.result _ _ (in_utf8 c.args.writer.now c.number.new.self c.in-Num.count)
    (subst (λ (z : ℤ). OnOk c.number.result (c.number.new.self ≡ c.args.writer.now ++ print_number z)) (to_z-of_z w128 c.in-Num.count small) c.number.ensures.ok))
