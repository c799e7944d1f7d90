use Rattle.std.proofs.Common.{◌∙◌, ℕ, ◌+◌, ◌∷◌, [], List, false, sym, ap}
use Rattle.schema_rules.specs.Objects.{object_of_layout}
use Rattle.schema_edit.specs.inner.RuleRows.{busy_by}
use Rattle.model.specs.declared.limit.Limit.TheVariants as limit
use Rattle.model.specs.RuleFormulas.{formula_of, malformed}
use Rattle.model.specs.Rules.{first_refusal, over_limit}
use Rattle.schema_edit.proofs.JudgedRules.{count_decides, formula_refused}
use Rattle.schema_edit.proofs.judging.validation.judge_rule.Goals as goal

pub returns-in-Some-2-clause-judged : goal.returns-in-Some-2-clause-judged
returns-in-Some-2-clause-judged c = λ t o h.
    let formed = ap (λ (text : List ℕ). first_refusal (malformed (formula_of (object_of_layout c.args.layout.now) false text) ∷ busy_by c.args.layout.now.job (formula_of (object_of_layout c.args.layout.now) false text) ∷ [])) c.as_str.ensures.characters in
    formula_refused t o c.args.layout.now c.args.is_taken c.args.rules c.args.new.now h c.in-Some-2.refusal
    (sym c.in_ok-refusal.ensures ∙ c.in_default.is)
    (sym formed ∙ sym c.in_ok-refusal-2.ensures ∙ c.in-Some-2.is)

pub returns-clause-judged : goal.returns-clause-judged
returns-clause-judged c = λ t o h.
    let formed = ap (λ (text : List ℕ). first_refusal (malformed (formula_of (object_of_layout c.args.layout.now) false text) ∷ busy_by c.args.layout.now.job (formula_of (object_of_layout c.args.layout.now) false text) ∷ [])) c.as_str.ensures.characters in
    c.over_limit.ensures
    ∙ ap (λ (n : ℕ). over_limit ((limit.ValidationRulesPerObject, n + 1) ∷ [])) c.from.ensures
    ∙ count_decides t o c.args.layout.now c.args.is_taken c.args.rules c.args.new.now h
    (sym c.in_ok-refusal.ensures ∙ c.in_default.is)
    (sym formed ∙ sym c.in_ok-refusal-2.ensures ∙ c.in_default-2.is)
