use Rattle.std.proofs.Common.{◌≡◌, ◌∙◌, ℕ, ◌+◌, List, [], ◌∷◌, length, None, refl, sym, ap}
use Rattle.std.specs.Prelude.{codes}
use Rattle.model.specs.declared.limit.Limit.TheVariants as limit
use Rattle.model.specs.Cases.{in_case}
use Rattle.model.specs.Names.{bad_name, is_child_name, is_custom_name}
use Rattle.model.specs.NewFields.{child_of, child_taken, name_taken}
use Rattle.model.specs.Rules.{MemberRules, in_body_order, over_limit}
use Rattle.schema_edit.proofs.JudgedFields.{field_count}
use Rattle.schema_edit.proofs.Steps.{last_of_three}
use Rattle.schema_edit.proofs.judging.fields.judge_names.Goals as goal

pub returns : goal.returns
returns c =
    λ t o h.
    let s = c.args.names.now in
    let b = s.new.now in
    let forms : MemberRules = (codes "name", bad_name is_custom_name b.name) ∷ (codes "type", in_case (child_of b.kind) None (bad_name is_child_name)) ∷ [] in
    let names : MemberRules = (codes "name", name_taken t o s.target b) ∷ (codes "type", in_case s.target None (child_taken t o.number b)) ∷ [] in
    let formed : in_body_order b.members forms ≡ None =
    ap (λ (ms : List (List ℕ)). in_body_order ms forms) (sym c.as_slice-members.ensures) ∙ sym (c.in_ok-refusal.ensures forms refl) ∙ c.in_default.is in
    let free : in_body_order b.members names ≡ None =
    ap (λ (ms : List (List ℕ)). in_body_order ms names) (sym c.as_slice-members.ensures) ∙ sym (c.in_ok-refusal-2.ensures names (t, o, h, refl)) ∙ c.in_default-2.is in
    c.over_limit.ensures
    ∙ ap (λ (n : ℕ). over_limit ((limit.FieldsPerObject, n + 1) ∷ [])) (ap length c.as_slice.ensures ∙ field_count t o s.layouts.now s.layout.now h)
    ∙ last_of_three (in_body_order b.members forms) (in_body_order b.members names) (over_limit ((limit.FieldsPerObject, length o.object.fields + 1) ∷ [])) formed free
