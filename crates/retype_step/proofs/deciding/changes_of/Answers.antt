use Rattle.std.proofs.Common.{◌∙◌, sym}
use Rattle.retype_step.proofs.Decided.{parts}
use Rattle.retype_step.proofs.deciding.changes_of.Goals as goal

pub records_of-requires : goal.records_of-requires
records_of-requires c =
    (parts c.args.page.row c.args.page.layout c.in-Some.field.now (sym c.is_ready.ensures ∙ c.if-not-is_ready.false)).typed
