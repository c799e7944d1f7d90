-- The rules on a field, judged one after the other.
use Rattle.std.proofs.Common.{◌≡◌, ◌∙◌, ℕ, List, [], ◌∷◌, Option, None, Some, refl, sym, ap, subst}
use Rattle.std.specs.Prelude.{Err, IsErrAnd, Ok, Result}
use Rattle.model.specs.Cases.{in_case}
use Rattle.model.specs.declared.refusal.Refusal.TheVariants.{RetypeUnsupported}
use Rattle.model.specs.Retyping.{under_way}
use Rattle.model.specs.Rules.{Rule, first_refusal}
use Rattle.model.specs.Tenant.{Tenant}
use Rattle.store_abstraction.specs.declared.fail.EditFail.{EditFail}
use Rattle.store_abstraction.specs.declared.fail.EditFail.TheVariants.{Refused, Store}
use Rattle.store_edit.proofs.StepByStep.{fails_here, fails_next, none_next}
use Rattle.store_abstraction.specs.declared.layout.Layout.{Layout}
use Rattle.base_value.specs.declared.value.FieldType.{FieldType}
use Rattle.retype_request.specs.declared.columns.NamedField.{NamedField}
use Rattle.retype_request.specs.inner.Beginning.{column_rule, place_in, type_rule}
use Rattle.store_edit.specs.Judging.{FailsRule, Passes}
use Rattle.retype_request.specs.inner.Rules.{use_rule}

-- ---- the rules on a field that is there

module _ (l : Layout) (t : Tenant) (to : FieldType) (f : NamedField) where
  abbrev here : Option ℕ → Rule
  here place = in_case place (Some (RetypeUnsupported f.name)) (λ place. use_rule l t place f.name)

  pub idle_fails : (e : EditFail) → FailsRule (under_way t) e → FailsRule (column_rule l t to f) e
  idle_fails e h = fails_here (under_way t) (here (place_in l.fields to f.custom) ∷ []) e h

  module _ (idle : under_way t ≡ None) where
    pub type_fails : (e : EditFail) → FailsRule (type_rule l to f) e → FailsRule (column_rule l t to f) e
    type_fails e h = fails_next (under_way t) (here (place_in l.fields to f.custom) ∷ []) e idle (by (place_in l.fields to f.custom) e h)
      where
        by : (place : Option ℕ) (e : EditFail) → FailsRule (in_case place (Some (RetypeUnsupported f.name)) (λ place. None)) e → FailsRule (first_refusal (here place ∷ [])) e
        by None (Refused r) h = h
        by (Some place) (Refused r) h = absurd cc
        by place (Store s) h = h

    module _ (place : ℕ) (is : place_in l.fields to f.custom ≡ Some place) where
      pub use_fails : (e : EditFail) → FailsRule (use_rule l t place f.name) e → FailsRule (column_rule l t to f) e
      use_fails e h =
          fails_next (under_way t) (here (place_in l.fields to f.custom) ∷ []) e idle
          (subst (λ (p : Option ℕ). FailsRule (first_refusal (here p ∷ [])) e) (sym is) (fails_here (use_rule l t place f.name) [] e h))

      pub none_fails : use_rule l t place f.name ≡ None → column_rule l t to f ≡ None
      none_fails unused =
          none_next (under_way t) (here (place_in l.fields to f.custom) ∷ []) idle
          (ap (λ (p : Option ℕ). first_refusal (here p ∷ [])) is ∙ none_next (use_rule l t place f.name) [] unused refl)

-- the second of two is the whole, where the first doesn't refuse
pub second_passes : {X : Type 0} (a b : Rule) (P : X → Type 0) (r : Result X EditFail) → a ≡ None → Passes b P r → Passes (first_refusal (a ∷ b ∷ [])) P r
second_passes a b P (Ok x) none h = (none_next a (b ∷ []) none (none_next b [] h.0 refl), h.1)
second_passes a b P (Err e) none h = fails_next a (b ∷ []) e none (fails_here b [] e h)
