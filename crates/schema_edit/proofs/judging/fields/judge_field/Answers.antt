use Rattle.std.proofs.Common.{◌∙◌, Some, None, sym, ap}
use Rattle.std.specs.Str.{chars}
use Rattle.base_lemmas.proofs.Results.{IfOk-same as if_ok}
use Rattle.model.specs.NewFields.{add_field, field_rules}
use Rattle.model.specs.Rules.{first_refusal}
use Rattle.schema_edit.specs.Judging.{verdict_refusal}
use Rattle.schema_edit.proofs.JudgedFields.{no_object, no_target, placed}
use Rattle.schema_edit.proofs.Steps.{at_name}
use Rattle.schema_edit.proofs.judging.fields.judge_field.Goals as goal

pub returns-in_default : goal.returns-in_default
returns-in_default c =
    λ t h.
    let none = at_name c.args.layouts.now (chars c.as_str.result.now) c.args.new.now.object None c.as_str.ensures.characters c.in_default.ensures in
    ap Some c.in_ok-invalid_type.ensures ∙ sym (no_object t c.args.layouts.now h c.args.new.now none)

pub returns-in-Ok : goal.returns-in-Ok
returns-in-Ok c =
    λ t h.
    let some = at_name c.args.layouts.now (chars c.as_str.result.now) c.args.new.now.object (Some c.in-Some.layout.now) c.as_str.ensures.characters c.in-Some.ensures in
    let (o, places, e) = placed t c.args.layouts.now h c.args.new.now c.in-Some.layout.now some c.in-Ok.target c.in-Ok.ensures in
    if_ok c.judge_names.result (first_refusal (field_rules t o c.in-Ok.target c.args.new.now)) (verdict_refusal (add_field t c.args.new.now)) (sym e) (c.judge_names.ensures t o places)

pub returns-in_ok-invalid_type-in-Err : goal.returns-in_ok-invalid_type-in-Err
returns-in_ok-invalid_type-in-Err c =
    λ t h.
    let some = at_name c.args.layouts.now (chars c.as_str.result.now) c.args.new.now.object (Some c.in-Some.layout.now) c.as_str.ensures.characters c.in-Some.ensures in
    ap Some c.in_ok-invalid_type-in-Err.ensures
    ∙ sym (no_target t c.args.layouts.now h c.args.new.now c.in-Some.layout.now some c.in-Err.name.now c.in-Err.ensures)
