use Rattle.std.proofs.Common.{◌≡◌, ◌++◌, drop, length, map, true}
use Rattle.std.specs.List.{list_all}
use Rattle.cmd_load_plan.specs.Rows.{given_row, has_characters}
use Rattle.cmd_load_plan.proofs.rows.row_values.Given as goal

abbrev pub invariant-loop-column : goal.invariant-loop-column
invariant-loop-column l = record {
  same : l.given.items ++ given_row (drop (length l.yielded) l.columns) (map (λ c. c.now) (drop (length l.yielded) l.cells)) ≡ given_row l.columns (map (λ c. c.now) l.cells);
  spelled : list_all (λ x. has_characters x.given) l.given.items ≡ true;
}
