use Rattle.std.proofs.Common.{◌≡◌, ◌∙◌, Bool, true, false, [], ◌∷◌, None, refl, ap}
use Rattle.std.specs.Prelude.{bytes_eq, codes, not}
use Rattle.std.specs.Str.{chars}
use Rattle.base_lemmas.proofs.Results.{IfOk-same as if_ok}
use Rattle.model.specs.Rules.{refuse_if, rule_of}
use Rattle.model.specs.declared.refusal.Refusal.TheVariants.{InvalidName}
use Rattle.model.specs.Cases.{in_case}
use Rattle.model.specs.Names.{bad_name, is_child_name, is_custom_name}
use Rattle.model.specs.NewFields.{child_of}
use Rattle.schema_edit.proofs.Steps.{name_text, rule_here, rule_there, spelled, type_text}
use Rattle.schema_edit.proofs.judging.fields.FormsRulesByMember.rule_of.Goals as goal

pub returns-then-is_member : goal.returns-then-is_member
returns-then-is_member c =
    λ rules is.
    let b = c.args.self.now.new.now in
    let here : bytes_eq (codes "name") c.args.member.now ≡ true = spelled (chars (codes "name")) (codes "name") c.args.member.now true name_text c.if-is_member.ensures in
    let good : c.is_custom_name-is_good.result ≡ is_custom_name b.name = c.is_custom_name-is_good.ensures ∙ ap is_custom_name c.as_str.ensures.characters in
    if_ok c.bad_name.result (refuse_if (not c.is_custom_name-is_good.result) (InvalidName b.name)) (rule_of rules c.args.member.now)
    (ap (λ (g : Bool). refuse_if (not g) (InvalidName b.name)) good
    ∙ rule_here (codes "name") c.args.member.now (bad_name is_custom_name b.name) ((codes "type", in_case (child_of b.kind) None (bad_name is_child_name)) ∷ []) rules is here)
    c.bad_name.ensures

pub returns-then-is_member-2 : goal.returns-then-is_member-2
returns-then-is_member-2 c =
    λ rules is.
    let b = c.args.self.now.new.now in
    let other : bytes_eq (codes "name") c.args.member.now ≡ false = spelled (chars (codes "name")) (codes "name") c.args.member.now false name_text c.if-is_member.ensures in
    let here : bytes_eq (codes "type") c.args.member.now ≡ true = spelled (chars (codes "type")) (codes "type") c.args.member.now true type_text c.if-is_member-2.ensures in
    if_ok c.child_form.result (in_case (child_of b.kind) None (bad_name is_child_name)) (rule_of rules c.args.member.now)
    (rule_here (codes "type") c.args.member.now (in_case (child_of b.kind) None (bad_name is_child_name)) [] ((codes "type", in_case (child_of b.kind) None (bad_name is_child_name)) ∷ []) refl here
    ∙ rule_there (codes "name") c.args.member.now (bad_name is_custom_name b.name) ((codes "type", in_case (child_of b.kind) None (bad_name is_child_name)) ∷ []) rules is other)
    c.child_form.ensures

pub returns : goal.returns
returns c =
    λ rules is.
    let b = c.args.self.now.new.now in
    let other : bytes_eq (codes "name") c.args.member.now ≡ false = spelled (chars (codes "name")) (codes "name") c.args.member.now false name_text c.if-is_member.ensures in
    let other2 : bytes_eq (codes "type") c.args.member.now ≡ false = spelled (chars (codes "type")) (codes "type") c.args.member.now false type_text c.if-is_member-2.ensures in
    rule_there (codes "type") c.args.member.now (in_case (child_of b.kind) None (bad_name is_child_name)) [] ((codes "type", in_case (child_of b.kind) None (bad_name is_child_name)) ∷ []) refl other2
    ∙ rule_there (codes "name") c.args.member.now (bad_name is_custom_name b.name) ((codes "type", in_case (child_of b.kind) None (bad_name is_child_name)) ∷ []) rules is other
