use Rattle.std.proofs.Common.{◌≡◌, ◌∙◌, List, ap, arith, drop, ℕ}
use Rattle.base_csv.specs.Table.{table_of}
use Rattle.cmd_load.proofs.rows.Rows.behind_heading.Goals as goal

pub returns-in-Ok-Some-clause-left : goal.returns-in-Ok-Some-clause-left
returns-in-Ok-Some-clause-left c rows are =
    let none = c.new-records.ensures.read in
    let more = rw c.in-Ok-Some.field-0-is at c.in-Ok-Some.ensures.read in
    let read : c.next.new.self.read ≡ 1 = omega (arith, none, more) in
    ap (λ (n : ℕ). drop n (table_of c.next.new.self.source)) read
    ∙ (ap (λ (source : List ℕ). drop 1 (table_of source)) (c.next.ensures.source ∙ c.new-records.ensures.source) ∙ ap (drop 1) are.table)
