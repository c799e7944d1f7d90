-- What an edit of an object's validation rules is judged by: the object, and whether one of its rules has the name. No public
-- contract reaches these words.
-- Source: C. D. Weissman and S. Bobrowski, "The Design of the Force.com Multitenant Internet Application Development
-- Platform" (SIGMOD 2009): rules are rows of tables too.
use Rattle.std.specs.Prelude.{◌≡◌, ℕ, Bool, List, length, map, Some, None, Result, Ok, Err}
use Rattle.std.specs.List.{list_any}
use Rattle.store_edit.specs.Edits.{FailsBy}
use Rattle.store_rows.specs.declared.object.ObjectRow.{ObjectRow}
use Rattle.model.specs.Fields.{same_name}
use Rattle.model.specs.Objects.{Numbered, object_named}
use Rattle.model.specs.Tenant.{Tenant}
use Rattle.model.specs.Verdict.{Verdict, on_object}
use Rattle.store_abstraction.specs.declared.fail.EditFail.{EditFail}
use Rattle.store_abstraction.specs.declared.layout.Layout.{Layout}
use Rattle.store_abstraction.specs.Layouts.{layout_of}
use Rattle.store_abstraction.specs.Plan.{OrgPlan}
use Rattle.schema_edit.specs.declared.edits.reading.ReadObject.{ReadObject}
use Rattle.schema_edit.specs.inner.Rows.{HasRow}
use Rattle.schema_edit.specs.Judging.{verdict_refusal}

-- the layout is that of the object, it is told whether one of its rules has the name, and there are so many rules
pub record IsRuled (t : Tenant) (o : Numbered) (l : Layout) (has_rule : Bool) (rules : ℕ) (name : List ℕ) : Type 0 where
  pub layout : (org : ℕ) × (q : OrgPlan) × (l ≡ layout_of org q t o)
  pub named : has_rule ≡ list_any (same_name name) (map (λ r. r.name) o.object.validation_rules)
  pub count : rules ≡ length o.object.validation_rules

-- what was read is of the object with the first name; the second name is that of a rule
pub record IsRead (org : ℕ) (t : Tenant) (object name : List ℕ) (r : ReadObject) : Type 0 where
  pub numbered : Numbered
  pub there : object_named t object ≡ Some numbered
  pub ruled : IsRuled t numbered r.layout r.has_rule r.row.validation_rules name
  pub row : HasRow org t object r.row

-- what was read is of the object, where there is one; or why nothing was read, and so no verdict on the object is reached
abbrev pub ReadsFor : (org : ℕ) → Tenant → (object name : List ℕ) → Result ReadObject EditFail → Type 0
ReadsFor org t object name (Ok r) = IsRead org t object name r
ReadsFor org t object name (Err e) = (verdict : Numbered → Verdict) → FailsBy (on_object t object verdict) e

-- the row of the object with this name, where the verdict doesn't refuse; or why there is none
abbrev pub AcceptsRow : (org : ℕ) → Tenant → (object : List ℕ) → Verdict → Result ObjectRow EditFail → Type 0
AcceptsRow org t object v (Ok row) = (None ≡ verdict_refusal v) × HasRow org t object row
AcceptsRow org t object v (Err e) = FailsBy v e
