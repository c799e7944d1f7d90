use Rattle.std.proofs.Common.{◌≡◌, ◌∙◌, Bool, true, false, [], Option, sym, ap}
use Rattle.std.specs.Prelude.{bytes_eq, codes, not}
use Rattle.std.specs.Str.{chars}
use Rattle.base_lemmas.proofs.Results.{IfOk-same as if_ok}
use Rattle.model.specs.Rules.{refuse_if, rule_of}
use Rattle.model.specs.declared.metadata_bodies.NewMaster.{NewMaster}
use Rattle.model.specs.declared.refusal.Refusal.TheVariants.{InvalidName}
use Rattle.model.specs.Cases.{in_case}
use Rattle.model.specs.Metadata.{master_names}
use Rattle.model.specs.Names.{bad_name, is_custom_name}
use Rattle.schema_edit.proofs.Steps.{name_text, rule_here, rule_there, spelled}
use Rattle.schema_edit.proofs.judging.objects.FormsRulesByMember.rule_of.Goals as goal

pub returns-then-is_member : goal.returns-then-is_member
returns-then-is_member c =
    λ rules is.
    let b = c.args.self.now.new.now in
    let here : bytes_eq (codes "name") c.args.member.now ≡ true = spelled (chars (codes "name")) (codes "name") c.args.member.now true name_text c.if-is_member.ensures in
    let good : c.is_custom_name-is_good.result ≡ is_custom_name b.name = c.is_custom_name-is_good.ensures ∙ ap is_custom_name c.as_str.ensures.characters in
    if_ok c.bad_name.result (refuse_if (not c.is_custom_name-is_good.result) (InvalidName b.name)) (rule_of rules c.args.member.now)
    (ap (λ (g : Bool). refuse_if (not g) (InvalidName b.name)) good
    ∙ rule_here (codes "name") c.args.member.now (bad_name is_custom_name b.name) (in_case b.master [] master_names) rules is here)
    c.bad_name.ensures

pub returns-in-None : goal.returns-in-None
returns-in-None c =
    λ rules is.
    let b = c.args.self.now.new.now in
    let other : bytes_eq (codes "name") c.args.member.now ≡ false = spelled (chars (codes "name")) (codes "name") c.args.member.now false name_text c.if-is_member.ensures in
    ap (λ (m : Option NewMaster). rule_of (in_case m [] master_names) c.args.member.now) (sym c.in-None.is)
    ∙ rule_there (codes "name") c.args.member.now (bad_name is_custom_name b.name) (in_case b.master [] master_names) rules is other

pub returns-in-Some : goal.returns-in-Some
returns-in-Some c =
    λ rules is.
    let b = c.args.self.now.new.now in
    let other : bytes_eq (codes "name") c.args.member.now ≡ false = spelled (chars (codes "name")) (codes "name") c.args.member.now false name_text c.if-is_member.ensures in
    if_ok c.master_form.result (rule_of (master_names c.in-Some.master) c.args.member.now) (rule_of rules c.args.member.now)
    (ap (λ (m : Option NewMaster). rule_of (in_case m [] master_names) c.args.member.now) (sym c.in-Some.is)
    ∙ rule_there (codes "name") c.args.member.now (bad_name is_custom_name b.name) (in_case b.master [] master_names) rules is other)
    c.master_form.ensures
