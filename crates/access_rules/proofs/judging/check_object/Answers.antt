use Rattle.std.proofs.Common.{◌∙◌, Bool, Some, ap, sym}
use Rattle.std.specs.List.{list_any}
use Rattle.model.specs.declared.refusal.Refusal.TheVariants.{InvalidType}
use Rattle.model.specs.Fields.{is_master}
use Rattle.model.specs.Rules.{refuse_if}
use Rattle.store_abstraction.specs.declared.layout.FieldPlace.{FieldPlace}
use Rattle.access_rules.proofs.NewRules.{detail_by}
use Rattle.access_rules.proofs.judging.check_object.Goals as goal

pub returns-in_ok-invalid_type-clause-passes : goal.returns-in_ok-invalid_type-clause-passes
returns-in_ok-invalid_type-clause-passes c =
    let l = c.args.layout.now in
    let by = detail_by l c.has_master.result (c.has_master.ensures ∙ ap (list_any (λ (f : FieldPlace). is_master f.kind)) c.as_slice.ensures) in
    by ∙ ap (λ (b : Bool). refuse_if b (InvalidType l.name)) c.if-has_master.true ∙ ap Some (sym c.in_ok-invalid_type.ensures)

pub returns-else-has_master-clause-passes : goal.returns-else-has_master-clause-passes
returns-else-has_master-clause-passes c =
    let l = c.args.layout.now in
    let by = detail_by l c.has_master.result (c.has_master.ensures ∙ ap (list_any (λ (f : FieldPlace). is_master f.kind)) c.as_slice.ensures) in
    (by ∙ ap (λ (b : Bool). refuse_if b (InvalidType l.name)) c.if-has_master.false, tt)
