use Rattle.std.proofs.Common.{◌≡◌, ◌∙◌, ℕ, ◌+◌, List, [], ◌∷◌, length, map, None, refl, sym, ap}
use Rattle.std.specs.Prelude.{codes}
use Rattle.base_lemmas.proofs.Results.{IfOk-same as if_ok}
use Rattle.model.specs.declared.limit.Limit.TheVariants as limit
use Rattle.model.specs.Cases.{in_case}
use Rattle.model.specs.Metadata.{child_name_taken, master_names, no_parent, object_rules, too_deep}
use Rattle.model.specs.Names.{bad_name, is_custom_name, taken}
use Rattle.model.specs.Rules.{MemberRules, Rule, first_refusal, in_body_order, over_limit}
use Rattle.model.specs.Tenant.{Object}
use Rattle.schema_edit.proofs.Steps.{after_two}
use Rattle.schema_edit.proofs.judging.objects.judge_object.Goals as goal

pub returns : goal.returns
returns c =
    λ t h.
    let b = c.args.new.now in
    let forms : MemberRules = (codes "name", bad_name is_custom_name b.name) ∷ in_case b.master [] master_names in
    let names : MemberRules = (codes "name", taken (map (λ (o : Object). o.name) t.objects) b.name) ∷ (codes "child", in_case b.master None (child_name_taken t)) ∷ [] in
    let rest : List Rule = in_case b.master None (no_parent t) ∷ over_limit ((limit.Objects, length t.objects + 1) ∷ []) ∷ in_case b.master None (too_deep t) ∷ [] in
    let formed : in_body_order b.members forms ≡ None =
    ap (λ (ms : List (List ℕ)). in_body_order ms forms) (sym c.as_slice-members.ensures) ∙ sym (c.in_ok-refusal.ensures forms refl) ∙ c.in_default.is in
    let free : in_body_order b.members names ≡ None =
    ap (λ (ms : List (List ℕ)). in_body_order ms names) (sym c.as_slice-members.ensures) ∙ sym (c.in_ok-refusal-2.ensures names (t, h, refl)) ∙ c.in_default-2.is in
    if_ok c.bad_place.result (first_refusal rest) (first_refusal (object_rules t b)) (after_two (in_body_order b.members forms) (in_body_order b.members names) rest formed free) (c.bad_place.ensures t h)
