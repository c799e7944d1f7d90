use Rattle.std.proofs.Common.{◌∙◌, Some, None, sym, ap}
use Rattle.std.specs.Str.{chars}
use Rattle.schema_edit.proofs.Judged.{parent_absent, parent_present}
use Rattle.schema_edit.proofs.Steps.{at_name}
use Rattle.schema_edit.proofs.judging.objects.no_parent.Goals as goal

pub returns-in-Some : goal.returns-in-Some
returns-in-Some c =
    λ t h.
    let some = at_name c.args.layouts.now (chars c.as_str.result.now) c.args.master.now.parent (Some c.in-Some.field-0.now) c.as_str.ensures.characters c.in-Some.ensures in
    sym (parent_present t c.args.layouts.now h c.args.master.now c.in-Some.field-0.now some)

pub returns-in_ok-invalid_type-in-None : goal.returns-in_ok-invalid_type-in-None
returns-in_ok-invalid_type-in-None c =
    λ t h.
    let none = at_name c.args.layouts.now (chars c.as_str.result.now) c.args.master.now.parent None c.as_str.ensures.characters c.in-None.ensures in
    ap Some c.in_ok-invalid_type-in-None.ensures ∙ sym (parent_absent t c.args.layouts.now h c.args.master.now none)
