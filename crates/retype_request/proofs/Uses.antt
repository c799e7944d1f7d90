-- The rules that name a field, by rows and the layout of their object as by the object.
use Rattle.std.proofs.Common.{◌≡◌, ◌∙◌, ℕ, suc, Bool, true, false, ◌&&◌, cond, eqb, List, [], ◌∷◌, length, map, Option, Some, refl, ap}
use Rattle.std.specs.Prelude.{Err, nat_lt}
use Rattle.std.specs.Option.{ok_or}
use Rattle.formula.specs.grammar.Spelling.{formula_in, place_in}
use Rattle.base_grammar.specs.Tokens.{byte_len}
use Rattle.model.specs.Cases.{in_case}
use Rattle.model.specs.declared.refusal.Refusal.TheVariants.{FieldInUse}
use Rattle.model.specs.FormulaTexts.{formula_fields, reads_text}
use Rattle.model.specs.Limits.{formula_limit}
use Rattle.model.specs.Objects.{Numbered, object_numbered}
use Rattle.model.specs.Retyping.{in_use, source_uses, uses}
use Rattle.model.specs.RuleFormulas.{formula_of, names_field}
use Rattle.model.specs.Rules.{Rule, first_of, first_refusal, refuse_if}
use Rattle.model.specs.Tenant.{Field, Object, SharingRule, Source, Tenant, ValidationRule, meets, owned}
use Rattle.retype_request.specs.inner.Rules.{part_uses, row_use, sharing_use, use_rule}
use Rattle.schema_rules.proofs.Objects.{fields_back}
use Rattle.schema_rules.specs.Objects.{object_of_layout}
use Rattle.store_abstraction.specs.declared.layout.Layout.{Layout}
use Rattle.store_abstraction.specs.Layouts.{layout_of}
use Rattle.store_abstraction.specs.Metadata.{sharing_of, source_part, validation_of}
use Rattle.store_abstraction.specs.Plan.{OrgPlan}

uses_same : (o p : Object) (criteria : Bool) (place : ℕ) (text : List ℕ) → o.fields ≡ p.fields → uses o criteria place text ≡ uses p criteria place text
unfolding formula_of reads_text
uses_same o p criteria place text e =
    ap (λ (fs : List Field). names_field (suc place) (cond (nat_lt formula_limit (length text)) (Err 0) (ok_or (formula_in criteria (formula_fields fs) text) (place_in criteria (formula_fields fs) text (byte_len text))))) e

module _ (org : ℕ) (q : OrgPlan) (t : Tenant) (o : Numbered) (place : ℕ) (field : List ℕ) where
  abbrev l : Layout
  l = layout_of org q t o

  back : (object_of_layout l).fields ≡ o.object.fields
  back = fields_back q o.number 0 o.object.fields

  abbrev rule_uses : ValidationRule → Rule
  rule_uses r = refuse_if (uses o.object false place r.formula) (FieldInUse field r.name)

  rules_used : (rules : List ValidationRule) → map (row_use (object_of_layout l) place field) (map (validation_of org o.number) rules) ≡ map rule_uses rules
  rules_used [] = refl
  rules_used (r ∷ rules) =
      ap (λ (b : Bool). refuse_if b (FieldInUse field r.name) ∷ map (row_use (object_of_layout l) place field) (map (validation_of org o.number) rules)) (uses_same (object_of_layout l) o.object false place r.formula back)
      ∙ ap (λ (rest : List Rule). rule_uses r ∷ rest) (rules_used rules)

  source_used : (s : Source) → part_uses (object_of_layout l) place (source_part s) ≡ source_uses o.object place s
  source_used (owned p) = refl
  source_used (meets text) = uses_same (object_of_layout l) o.object true place text back

  abbrev shared_uses : SharingRule → Rule
  shared_uses r = refuse_if (eqb r.object o.number && source_uses o.object place r.source) (FieldInUse field r.name)

  sharing_used : (rules : List SharingRule) → map (sharing_use l place field) (map (sharing_of org) rules) ≡ map shared_uses rules
  sharing_used [] = refl
  sharing_used (r ∷ rules) =
      ap (λ (b : Bool). refuse_if (eqb r.object o.number && b) (FieldInUse field r.name) ∷ map (sharing_use l place field) (map (sharing_of org) rules)) (source_used r.source)
      ∙ ap (λ (rest : List Rule). shared_uses r ∷ rest) (sharing_used rules)

  -- they are those of the definition
  pub use_is : object_numbered t o.number ≡ Some o.object → use_rule l t place field ≡ in_use t o place field
  use_is there =
      ap (λ (x : Option Object). first_refusal (first_of (row_use (object_of_layout l) place field) (in_case x [] (λ (v : Object). map (validation_of org o.number) v.validation_rules)) ∷ first_of (sharing_use l place field) (map (sharing_of org) t.sharing_rules) ∷ [])) there
      ∙ ap (λ (rules : List Rule). first_refusal (first_refusal rules ∷ first_of (sharing_use l place field) (map (sharing_of org) t.sharing_rules) ∷ [])) (rules_used o.object.validation_rules)
      ∙ ap (λ (rules : List Rule). first_refusal (first_of rule_uses o.object.validation_rules ∷ first_refusal rules ∷ [])) (sharing_used t.sharing_rules)
