-- What soundness asks of how texts are read: a formula is read by the fields of its object, and by none but those that it names.
use Rattle.std.specs.Prelude.{ℕ, suc, ◌≡◌, Bool, not, List, [], ◌∷◌, ◌++◌, is_ok, IsTrue}
use Rattle.base_value.specs.declared.value.FieldType.{FieldType}
use Rattle.model.specs.FormulaTexts.{reads_text}
use Rattle.model.specs.Objects.{change_at}
use Rattle.model.specs.RuleFormulas.{names_field}
use Rattle.model.specs.Tenant.{Field, Object}

-- how a text is read looks at the fields of the object alone: nothing else is named in a formula
abbrev pub ReadsByFields : Type 0
ReadsByFields = (o p : Object) → o.fields ≡ p.fields → (criteria : Bool) (text : List ℕ) → reads_text o criteria text ≡ reads_text p criteria text

-- a text that spells a formula reads the same where the object has one field more
abbrev pub ReadsOverMore : Type 0
ReadsOverMore =
    (o : Object) (f : Field) (criteria : Bool) (text : List ℕ) → IsTrue (is_ok (reads_text o criteria text))
    → reads_text (record o { fields = o.fields ++ f ∷ [] }) criteria text ≡ reads_text o criteria text

-- a text whose formula doesn't name a field reads the same whatever type the field has
abbrev pub ReadsOtherTypes : Type 0
ReadsOtherTypes =
    (o : Object) (place : ℕ) (to : FieldType) (criteria : Bool) (text : List ℕ)
    → IsTrue (is_ok (reads_text o criteria text)) → IsTrue (not (names_field (suc place) (reads_text o criteria text)))
    → reads_text (record o { fields = change_at place (λ f. record f { kind = to }) o.fields }) criteria text ≡ reads_text o criteria text

-- all of these
pub record ReadsFormulas : Type 0 where
  pub by_fields : ReadsByFields
  pub over_more : ReadsOverMore
  pub other_types : ReadsOtherTypes
