-- Why a new validation rule is refused: by the layout of its object as by the object.
use Rattle.std.proofs.Common.{◌≡◌, ◌∙◌, ℕ, ◌+◌, suc, Bool, true, false, ◌&&◌, eqb, cond, List, [], ◌∷◌, length, map, Option, Some, None, refl, sym, ap}
use Rattle.std.specs.Prelude.{Result, Err, nat_lt}
use Rattle.std.specs.Option.{ok_or, option_and_then}
use Rattle.base_lemmas.proofs.Bools.{by_answer as pick}
use Rattle.formula.specs.declared.formula.Formula.{Formula}
use Rattle.formula.specs.grammar.Spelling.{formula_in, place_in}
use Rattle.base_grammar.specs.Tokens.{byte_len}
use Rattle.model.specs.declared.limit.Limit.TheVariants as limit
use Rattle.model.specs.declared.refusal.Refusal.{Refusal}
use Rattle.model.specs.declared.refusal.Refusal.TheVariants.{JobBusy, NameTaken}
use Rattle.model.specs.Cases.{in_case}
use Rattle.model.specs.FormulaTexts.{formula_fields, reads_text}
use Rattle.model.specs.Limits.{formula_limit}
use Rattle.model.specs.Names.{bad_name, is_stem, taken}
use Rattle.model.specs.Objects.{Numbered}
use Rattle.model.specs.RuleFormulas.{busy, formula_of, is_copy, malformed, names_field}
use Rattle.model.specs.Rules.{Rule, first_refusal, over_limit, refuse_if}
use Rattle.model.specs.Tenant.{Field, Job, Object, Tenant, ValidationRule}
use Rattle.model.specs.declared.metadata_bodies.NewValidationRule.{NewValidationRule}
use Rattle.model.specs.ValidationRules.{new_validation_rule_rules}
use Rattle.store_abstraction.specs.declared.layout.Layout.{Layout}
use Rattle.store_abstraction.specs.Layouts.{job_on, job_place, layout_of}
use Rattle.store_abstraction.specs.Plan.{OrgPlan}
use Rattle.schema_rules.specs.Objects.{object_of_layout}
use Rattle.schema_rules.proofs.Objects.{fields_back}
use Rattle.schema_edit.specs.inner.RuleReads.{IsRuled}
use Rattle.schema_edit.specs.inner.RuleRows.{busy_by}

-- ---- rules two by two

pub two_refuse : (a b : Rule) (more : List Rule) (x : Refusal) → first_refusal (a ∷ b ∷ []) ≡ Some x → first_refusal (a ∷ b ∷ more) ≡ Some x
two_refuse None None more x e = absurd cc
two_refuse None (Some b) more x e = e
two_refuse (Some a) b more x e = e

pub two_pass : (a b : Rule) (more : List Rule) → first_refusal (a ∷ b ∷ []) ≡ None → first_refusal (a ∷ b ∷ more) ≡ first_refusal more
two_pass None None more e = refl
two_pass None (Some b) more e = absurd cc
two_pass (Some a) b more e = absurd cc

one_rule : (a : Rule) → first_refusal (a ∷ []) ≡ a
one_rule None = refl
one_rule (Some x) = refl

-- ---- the formula

formula_same : (o p : Object) (text : List ℕ) → o.fields ≡ p.fields → formula_of o false text ≡ formula_of p false text
unfolding formula_of reads_text
formula_same o p text e =
    ap (λ (fs : List Field). cond (nat_lt formula_limit (length text)) (Err 0) (ok_or (formula_in false (formula_fields fs) text) (place_in false (formula_fields fs) text (byte_len text)))) e

formula_is : (org : ℕ) (q : OrgPlan) (t : Tenant) (o : Numbered) (l : Layout) (text : List ℕ) → l ≡ layout_of org q t o → formula_of (object_of_layout l) false text ≡ formula_of o.object false text
formula_is org q t o l text is =
    ap (λ (l : Layout). formula_of (object_of_layout l) false text) is
    ∙ formula_same (object_of_layout (layout_of org q t o)) o.object text (fields_back q o.number 0 o.object.fields)

busy_is : (q : OrgPlan) (t : Tenant) (n : ℕ) (f : Result Formula ℕ) → busy_by (job_on q t n) f ≡ busy t n f
busy_is q t n f = by t.job
  where
    by : (job : Option Job)
        → busy_by (option_and_then (λ (j : Job). cond (eqb j.object n) (Some (job_place q j)) None) job) f ≡ in_case job None (λ j. refuse_if (is_copy j.phase && (eqb j.object n && names_field (suc j.field) f)) JobBusy)
    by None = refl
    by (Some j) =
        pick (eqb j.object n) (λ b. busy_by (cond b (Some (job_place q j)) None) f ≡ refuse_if (is_copy j.phase && (b && names_field (suc j.field) f)) JobBusy)
        (λ _. refl)
        (λ _. none (is_copy j.phase))
      where
        none : (b : Bool) → None ≡ refuse_if (b && false) JobBusy
        none true = refl
        none false = refl

-- ---- all rules

module _ (t : Tenant) (o : Numbered) (l : Layout) (is_taken : Bool) (rules : ℕ) (b : NewValidationRule) (h : IsRuled t o l is_taken rules b.name) where
  abbrev names : List (List ℕ)
  names = map (λ (r : ValidationRule). r.name) o.object.validation_rules

  abbrev formula : Result Formula ℕ
  formula = formula_of o.object false b.formula

  abbrev seen : Result Formula ℕ
  seen = formula_of (object_of_layout l) false b.formula

  abbrev named : Rule
  named = first_refusal (bad_name is_stem b.name ∷ refuse_if is_taken (NameTaken b.name) ∷ [])

  abbrev formed : Rule
  formed = first_refusal (malformed seen ∷ busy_by l.job seen ∷ [])

  named_is : named ≡ first_refusal (bad_name is_stem b.name ∷ taken names b.name ∷ [])
  named_is =
      ap (λ (x : Bool). first_refusal (bad_name is_stem b.name ∷ refuse_if x (NameTaken b.name) ∷ [])) h.named

  seen_is : seen ≡ formula
  seen_is = formula_is h.layout.0 h.layout.1 t o l b.formula h.layout.2

  formed_is : formed ≡ first_refusal (malformed formula ∷ busy t o.number formula ∷ [])
  formed_is =
      ap (λ (f : Result Formula ℕ). first_refusal (malformed f ∷ busy_by l.job f ∷ [])) seen_is
      ∙ ap (λ (r : Rule). first_refusal (malformed formula ∷ r ∷ [])) (ap (λ (l : Layout). busy_by l.job formula) h.layout.2 ∙ busy_is h.layout.1 t o.number formula)

  pub name_refused : (x : Refusal) → named ≡ Some x → Some x ≡ first_refusal (new_validation_rule_rules t o b)
  name_refused x e = sym (two_refuse (bad_name is_stem b.name) (taken names b.name) _ x (sym named_is ∙ e))

  pub formula_refused : (x : Refusal) → named ≡ None → formed ≡ Some x → Some x ≡ first_refusal (new_validation_rule_rules t o b)
  formula_refused x e g =
      sym (two_pass (bad_name is_stem b.name) (taken names b.name) _ (sym named_is ∙ e) ∙ two_refuse (malformed formula) (busy t o.number formula) _ x (sym formed_is ∙ g))

  pub count_decides : named ≡ None → formed ≡ None → over_limit ((limit.ValidationRulesPerObject, rules + 1) ∷ []) ≡ first_refusal (new_validation_rule_rules t o b)
  count_decides e g =
      ap (λ (n : ℕ). over_limit ((limit.ValidationRulesPerObject, n + 1) ∷ [])) h.count
      ∙ sym (one_rule (over_limit ((limit.ValidationRulesPerObject, length o.object.validation_rules + 1) ∷ [])))
      ∙ sym (two_pass (malformed formula) (busy t o.number formula) _ (sym formed_is ∙ g))
      ∙ sym (two_pass (bad_name is_stem b.name) (taken names b.name) _ (sym named_is ∙ e))
