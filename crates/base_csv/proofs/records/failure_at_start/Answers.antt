use Rattle.std.proofs.Common.{◌≡◌, true, rules}
use Rattle.base_csv.specs.Table.{begins_with_two_marks}
use Rattle.base_csv.proofs.Steps.{marked}
use Rattle.base_csv.proofs.records.failure_at_start.Goals as goal

pub returns-then-starts_with-clause-marked : goal.returns-then-starts_with-clause-marked
returns-then-starts_with-clause-marked c =
    let marks : begins_with_two_marks c.args.source.now ≡ true = search rules in
    marked c.args.source.now c.refusal.result marks c.refusal.ensures
