use Rattle.std.proofs.Common.{◌≡◌, ◌∙◌, ℕ, true, false, [], ◌∷◌, Option, None, refl, sym, ap}
use Rattle.std.specs.Prelude.{bytes_eq, codes}
use Rattle.std.specs.Str.{chars}
use Rattle.base_lemmas.proofs.Results.{IfOk-same as if_ok}
use Rattle.model.specs.Rules.{Rule, rule_of}
use Rattle.model.specs.Cases.{in_case}
use Rattle.model.specs.NewFields.{child_taken, name_taken}
use Rattle.schema_edit.proofs.JudgedFields.{all_layouts, number_is}
use Rattle.schema_edit.proofs.Steps.{name_text, no_rule, rule_here, rule_there, spelled, type_text}
use Rattle.schema_edit.proofs.judging.fields.NamesRulesByMember.rule_of.Goals.{in_default-via-in-Some+else-is_member-2, in_default-via-in_default}
use Rattle.schema_edit.proofs.judging.fields.NamesRulesByMember.rule_of.Goals as goal

pub returns-then-is_member : goal.returns-then-is_member
returns-then-is_member c =
    λ rules (t, o, h, is).
    let s = c.args.self.now in
    let here : bytes_eq (codes "name") c.args.member.now ≡ true = spelled (chars (codes "name")) (codes "name") c.args.member.now true name_text c.if-is_member.ensures in
    if_ok c.any_taken.result (name_taken t o s.target s.new.now) (rule_of rules c.args.member.now)
    (rule_here (codes "name") c.args.member.now (name_taken t o s.target s.new.now) ((codes "type", in_case s.target None (child_taken t o.number s.new.now)) ∷ []) rules is here)
    (c.any_taken.ensures t o h)

pub returns-in-Some : goal.returns-in-Some
returns-in-Some c =
    λ rules (t, o, h, is).
    let s = c.args.self.now in
    let b = s.new.now in
    let other : bytes_eq (codes "name") c.args.member.now ≡ false = spelled (chars (codes "name")) (codes "name") c.args.member.now false name_text c.if-is_member.ensures in
    let here : bytes_eq (codes "type") c.args.member.now ≡ true = spelled (chars (codes "type")) (codes "type") c.args.member.now true type_text c.if-is_member-2.ensures in
    if_ok c.child_taken.result (child_taken t s.layout.now.object b c.in-Some.target) (rule_of rules c.args.member.now)
    (ap (λ (n : ℕ). child_taken t n b c.in-Some.target) (number_is t o s.layouts.now s.layout.now h)
    ∙ ap (λ (x : Option ℕ). in_case x None (child_taken t o.number b)) (sym c.in-Some.is)
    ∙ rule_here (codes "type") c.args.member.now (in_case s.target None (child_taken t o.number b)) [] ((codes "type", in_case s.target None (child_taken t o.number b)) ∷ []) refl here
    ∙ rule_there (codes "name") c.args.member.now (name_taken t o s.target b) ((codes "type", in_case s.target None (child_taken t o.number b)) ∷ []) rules is other)
    (c.child_taken.ensures t (all_layouts t o s.layouts.now s.layout.now h))

pub returns-in_default : goal.returns-in_default
returns-in_default c =
    λ rules (t, o, h, is).
    let s = c.args.self.now in
    let other : bytes_eq (codes "name") c.args.member.now ≡ false = spelled (chars (codes "name")) (codes "name") c.args.member.now false name_text c.if-is_member.ensures in
    let last : Rule = in_case s.target None (child_taken t o.number s.new.now) in
    let none : None ≡ rule_of ((codes "type", last) ∷ []) c.args.member.now =
    elim c.in_default.branch [
      | in_default-via-in-Some+else-is_member-2 w ↦
          rule_there (codes "type") c.args.member.now last [] ((codes "type", last) ∷ []) refl
          (spelled (chars (codes "type")) (codes "type") c.args.member.now false type_text w.if-is_member-2.ensures)
      | in_default-via-in_default w ↦ no_rule (codes "type") c.args.member.now last (ap (λ (x : Option ℕ). in_case x None (child_taken t o.number s.new.now)) w.in_default.is)
    ] in
    none ∙ rule_there (codes "name") c.args.member.now (name_taken t o s.target s.new.now) ((codes "type", last) ∷ []) rules is other
