use Rattle.std.proofs.Common.{◌≡◌, ◌∙◌, ℕ, Bool, true, false, List, [], ◌∷◌, map, Option, None, refl, sym, ap}
use Rattle.std.specs.Prelude.{bytes_eq, codes}
use Rattle.std.specs.Str.{chars}
use Rattle.model.specs.Rules.{Rule, refuse_if, rule_of}
use Rattle.std.specs.List.{list_any}
use Rattle.base_lemmas.proofs.Results.{IfOk-same as if_ok}
use Rattle.model.specs.declared.metadata_bodies.NewMaster.{NewMaster}
use Rattle.model.specs.declared.refusal.Refusal.TheVariants.{NameTaken}
use Rattle.model.specs.Cases.{in_case}
use Rattle.model.specs.Fields.{same_name}
use Rattle.model.specs.Metadata.{child_name_taken}
use Rattle.model.specs.Names.{taken}
use Rattle.model.specs.Tenant.{Object}
use Rattle.store_abstraction.specs.declared.layout.Layout.{Layout}
use Rattle.schema_edit.proofs.Steps.{child_text, name_text, no_rule, object_taken, rule_here, rule_there, spelled}
use Rattle.schema_edit.proofs.judging.objects.NamesRulesByMember.rule_of.Goals.{in_default-via-in-Some+else-is_member-2, in_default-via-in_default}
use Rattle.schema_edit.proofs.judging.objects.NamesRulesByMember.rule_of.Goals as goal

pub returns-then-is_member : goal.returns-then-is_member
returns-then-is_member c =
    λ rules (t, h, is).
    let b = c.args.self.now.new.now in
    let ls = c.args.self.now.layouts.now in
    let here : bytes_eq (codes "name") c.args.member.now ≡ true = spelled (chars (codes "name")) (codes "name") c.args.member.now true name_text c.if-is_member.ensures in
    let taken_is : c.has_name-is_taken.result ≡ list_any (same_name b.name) (map (λ (l : Layout). l.name) ls) =
    c.has_name-is_taken.ensures ∙ ap (λ (n : List ℕ). list_any (same_name n) (map (λ (l : Layout). l.name) ls)) c.as_str.ensures.characters in
    if_ok c.name_taken.result (refuse_if c.has_name-is_taken.result (NameTaken b.name)) (rule_of rules c.args.member.now)
    (ap (λ (x : Bool). refuse_if x (NameTaken b.name)) taken_is
    ∙ object_taken t ls h b.name
    ∙ rule_here (codes "name") c.args.member.now (taken (map (λ (o : Object). o.name) t.objects) b.name) ((codes "child", in_case b.master None (child_name_taken t)) ∷ []) rules is here)
    c.name_taken.ensures

pub returns-in-Some : goal.returns-in-Some
returns-in-Some c =
    λ rules (t, h, is).
    let b = c.args.self.now.new.now in
    let other : bytes_eq (codes "name") c.args.member.now ≡ false = spelled (chars (codes "name")) (codes "name") c.args.member.now false name_text c.if-is_member.ensures in
    let here : bytes_eq (codes "child") c.args.member.now ≡ true = spelled (chars (codes "child")) (codes "child") c.args.member.now true child_text c.if-is_member-2.ensures in
    if_ok c.child_name_taken.result (child_name_taken t c.in-Some.master) (rule_of rules c.args.member.now)
    (ap (λ (m : Option NewMaster). in_case m None (child_name_taken t)) (sym c.in-Some.is)
    ∙ rule_here (codes "child") c.args.member.now (in_case b.master None (child_name_taken t)) [] ((codes "child", in_case b.master None (child_name_taken t)) ∷ []) refl here
    ∙ rule_there (codes "name") c.args.member.now (taken (map (λ (o : Object). o.name) t.objects) b.name) ((codes "child", in_case b.master None (child_name_taken t)) ∷ []) rules is other)
    (c.child_name_taken.ensures t h)

pub returns-in_default : goal.returns-in_default
returns-in_default c =
    λ rules (t, h, is).
    let b = c.args.self.now.new.now in
    let other : bytes_eq (codes "name") c.args.member.now ≡ false = spelled (chars (codes "name")) (codes "name") c.args.member.now false name_text c.if-is_member.ensures in
    let last : Rule = in_case b.master None (child_name_taken t) in
    let none : None ≡ rule_of ((codes "child", last) ∷ []) c.args.member.now =
    elim c.in_default.branch [
      | in_default-via-in-Some+else-is_member-2 w ↦
          rule_there (codes "child") c.args.member.now last [] ((codes "child", last) ∷ []) refl
          (spelled (chars (codes "child")) (codes "child") c.args.member.now false child_text w.if-is_member-2.ensures)
      | in_default-via-in_default w ↦ no_rule (codes "child") c.args.member.now last (ap (λ (m : Option NewMaster). in_case m None (child_name_taken t)) w.in_default.is)
    ] in
    none ∙ rule_there (codes "name") c.args.member.now (taken (map (λ (o : Object). o.name) t.objects) b.name) ((codes "child", last) ∷ []) rules is other
