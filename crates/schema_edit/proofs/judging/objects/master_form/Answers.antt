use Rattle.std.proofs.Common.{◌≡◌, ◌∙◌, Bool, true, false, [], ◌∷◌, refl, ap}
use Rattle.std.specs.Prelude.{bytes_eq, codes, not}
use Rattle.std.specs.Str.{chars}
use Rattle.base_lemmas.proofs.Results.{IfOk-same as if_ok}
use Rattle.model.specs.Rules.{refuse_if, rule_of}
use Rattle.model.specs.declared.refusal.Refusal.TheVariants.{InvalidName}
use Rattle.model.specs.Metadata.{master_names}
use Rattle.model.specs.Names.{bad_name, is_child_name, is_custom_name}
use Rattle.schema_edit.proofs.Steps.{child_text, field_text, rule_here, rule_there, spelled}
use Rattle.schema_edit.proofs.judging.objects.master_form.Goals as goal

pub returns-then-is_member : goal.returns-then-is_member
returns-then-is_member c =
    let m = c.args.master.now in
    let here : bytes_eq (codes "field") c.args.member.now ≡ true = spelled (chars (codes "field")) (codes "field") c.args.member.now true field_text c.if-is_member.ensures in
    let good : c.is_custom_name-is_good.result ≡ is_custom_name m.field = c.is_custom_name-is_good.ensures ∙ ap is_custom_name c.as_str.ensures.characters in
    if_ok c.bad_name.result (refuse_if (not c.is_custom_name-is_good.result) (InvalidName m.field)) (rule_of (master_names m) c.args.member.now)
    (ap (λ (g : Bool). refuse_if (not g) (InvalidName m.field)) good
    ∙ rule_here (codes "field") c.args.member.now (bad_name is_custom_name m.field) ((codes "child", bad_name is_child_name m.child) ∷ []) (master_names m) refl here)
    c.bad_name.ensures

pub returns-then-is_member-2 : goal.returns-then-is_member-2
returns-then-is_member-2 c =
    let m = c.args.master.now in
    let other : bytes_eq (codes "field") c.args.member.now ≡ false = spelled (chars (codes "field")) (codes "field") c.args.member.now false field_text c.if-is_member.ensures in
    let here : bytes_eq (codes "child") c.args.member.now ≡ true = spelled (chars (codes "child")) (codes "child") c.args.member.now true child_text c.if-is_member-2.ensures in
    let good : c.is_child_name-is_good.result ≡ is_child_name m.child = c.is_child_name-is_good.ensures ∙ ap is_child_name c.as_str-then-is_member-2.ensures.characters in
    if_ok c.bad_name-then-is_member-2.result (refuse_if (not c.is_child_name-is_good.result) (InvalidName m.child)) (rule_of (master_names m) c.args.member.now)
    (ap (λ (g : Bool). refuse_if (not g) (InvalidName m.child)) good
    ∙ rule_here (codes "child") c.args.member.now (bad_name is_child_name m.child) [] ((codes "child", bad_name is_child_name m.child) ∷ []) refl here
    ∙ rule_there (codes "field") c.args.member.now (bad_name is_custom_name m.field) ((codes "child", bad_name is_child_name m.child) ∷ []) (master_names m) refl other)
    c.bad_name-then-is_member-2.ensures

pub returns : goal.returns
returns c =
    let m = c.args.master.now in
    let other : bytes_eq (codes "field") c.args.member.now ≡ false = spelled (chars (codes "field")) (codes "field") c.args.member.now false field_text c.if-is_member.ensures in
    let other2 : bytes_eq (codes "child") c.args.member.now ≡ false = spelled (chars (codes "child")) (codes "child") c.args.member.now false child_text c.if-is_member-2.ensures in
    rule_there (codes "child") c.args.member.now (bad_name is_child_name m.child) [] ((codes "child", bad_name is_child_name m.child) ∷ []) refl other2
    ∙ rule_there (codes "field") c.args.member.now (bad_name is_custom_name m.field) ((codes "child", bad_name is_child_name m.child) ∷ []) (master_names m) refl other
