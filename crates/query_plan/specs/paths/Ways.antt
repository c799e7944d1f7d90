-- Where names of relationships lead: the steps that they spell, and the records to which steps lead.
-- Source: Salesforce, "SOQL and SOSL Reference", "Relationship Queries". That a step to a record which the user may not read
-- leads nowhere is this product's own.
use Rattle.std.specs.Prelude.{ℕ, ◌-◌, List, [], ◌∷◌, Option, Some, None}
use Rattle.std.specs.Option.{option_and_then, option_map}
use Rattle.formula.specs.Meaning.{value_at}
use Rattle.model.specs.declared.record.Record.{Record}
use Rattle.model.specs.Cases.{in_case}
use Rattle.model.specs.Fields.{ref_of}
use Rattle.model.specs.Paths.{Asked, if_readable}
use Rattle.model.specs.Relationships.{Reference, parent_named}
use Rattle.model.specs.Rights.{record_of_object}
use Rattle.model.specs.Tenant.{Tenant}
use Rattle.query_plan.specs.declared.paths.children.ChildStep.{ChildStep}
use Rattle.query_plan.specs.declared.paths.parents.ParentStep.{ParentStep}

-- ---- names

-- the step to its parent that a reference gives a record
abbrev pub parent_step : Reference → ParentStep
parent_step f = record { position = f.position; target = f.target }

-- the relationship to those that refer, which a reference gives its target; among a record's values the name is before the fields
abbrev pub child_step : Reference → ChildStep
child_step f = record { object = f.object; field = f.position - 1 }

-- the steps that names of relationships spell from the object with this number, and the object at their end
abbrev pub path_end : Tenant → ℕ → List (List ℕ) → Option (List ParentStep × ℕ)
path_end t n [] = Some ([], n)
path_end t n (name ∷ names) =
    in_case (parent_named t n name) None (λ f. option_map (λ e. (parent_step f ∷ e.0, e.1)) (path_end t f.target names))

-- ---- records

-- the record of the step's object that a record names
abbrev pub record_to : Tenant → ParentStep → Record → Option Record
record_to t s r = option_and_then (record_of_object t s.target) (ref_of (value_at r.values s.position))

-- the record to which steps lead, where the user may read each on the way
abbrev pub led_to : Asked → List ParentStep → Record → Option Record
led_to a [] r = Some r
led_to a (s ∷ steps) r = option_and_then (led_to a steps) (option_and_then (if_readable a) (record_to a.tenant s r))
