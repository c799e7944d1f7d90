use Rattle.std.proofs.Common.{◌≡◌, ◌∙◌, Bool, true, false, Some, sym, ap}
use Rattle.std.specs.Str.{chars}
use Rattle.std.specs.List.{list_any}
use Rattle.model.specs.declared.refusal.Refusal.TheVariants.{InvalidType}
use Rattle.model.specs.Fields.{is_master}
use Rattle.model.specs.Metadata.{set_object}
use Rattle.model.specs.Rules.{refuse_if}
use Rattle.store_abstraction.specs.declared.layout.FieldPlace.{FieldPlace}
use Rattle.store_abstraction.specs.declared.layout.Layout.{Layout}
use Rattle.schema_edit.proofs.Editing.{refused_so}
use Rattle.schema_edit.proofs.Judged.{known_object, one_named}
use Rattle.schema_edit.proofs.judging.access.judge_change.Goals as goal

pub returns-in_ok-invalid_type-in-Some-clause-accepts : goal.returns-in_ok-invalid_type-in-Some-clause-accepts
returns-in_ok-invalid_type-in-Some-clause-accepts c = λ t access h.
    let l = c.in-Some.layout in
    let name = chars c.args.object.now in
    let known = known_object t name access c.args.layout.now l h c.in-Some.is in
    let test : list_any (λ (f : FieldPlace). is_master f.kind) l.fields ≡ true =
    ap (list_any (λ (f : FieldPlace). is_master f.kind)) (sym c.as_slice.ensures) ∙ sym c.has_master.ensures ∙ c.if-has_master.true in
    refused_so (set_object t name access) c.in_ok-invalid_type-in-Some.field-0 (ap Some c.in_ok-invalid_type-in-Some.ensures ∙ sym (known ∙ ap (λ (x : Bool). refuse_if x (InvalidType l.name)) test))

pub returns-else-has_master-clause-accepts : goal.returns-else-has_master-clause-accepts
returns-else-has_master-clause-accepts c = λ t access h.
    let l = c.in-Some.layout in
    let name = chars c.args.object.now in
    let known = known_object t name access c.args.layout.now l h c.in-Some.is in
    let test : list_any (λ (f : FieldPlace). is_master f.kind) l.fields ≡ false =
    ap (list_any (λ (f : FieldPlace). is_master f.kind)) (sym c.as_slice.ensures) ∙ sym c.has_master.ensures ∙ c.if-has_master.false in
    let f = one_named h.0 h.1 t name l (sym h.2 ∙ c.in-Some.is) in
    (sym (known ∙ ap (λ (x : Bool). refuse_if x (InvalidType l.name)) test), (f.numbered, f.there, ap (λ (x : Layout). x.object) f.same))
