use Rattle.std.proofs.Common.{sym, ◌∙◌}
use Rattle.record_read.proofs.Walking.{none_typed}
use Rattle.record_read.proofs.reads.records_of.Goals as goal

pub returns-then-not-has_types-clause-gives : goal.returns-then-not-has_types-clause-gives
returns-then-not-has_types-clause-gives c =
    none_typed c.args.layout.now c.args.rows.now (sym c.has_types.ensures ∙ c.if-not-has_types.true) (sym c.is_empty.ensures ∙ c.if-is_empty.false)
