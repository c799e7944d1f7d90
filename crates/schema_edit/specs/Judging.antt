-- What an edit of metadata is judged by: the layouts of an organisation's objects.
-- Source: Salesforce, "Custom Object" and "Custom Field", as in the definitions of new objects and fields.
use Rattle.std.specs.Prelude.{◌≡◌, ℕ, List, map, Option, Some, None, Result, Ok, Err}
use Rattle.std.specs.Option.{option_map}
use Rattle.store_edit.specs.Edits.{FailsBy}
use Rattle.model.specs.Objects.{Numbered, numbered, object_named}
use Rattle.model.specs.Rules.{Rule}
use Rattle.model.specs.Tenant.{Tenant}
use Rattle.model.specs.Verdict.{Done, Verdict}
use Rattle.model.specs.declared.refusal.Refusal.{Refusal}
use Rattle.store_abstraction.specs.declared.fail.EditFail.{EditFail}
use Rattle.store_abstraction.specs.Layouts.{layout_of}
use Rattle.store_abstraction.specs.Plan.{OrgPlan}
use Rattle.store_abstraction.specs.declared.layout.Layout.{Layout}

-- ---- layouts

-- the layouts of a tenant's objects, in their order
abbrev pub layouts_in : (org : ℕ) → OrgPlan → Tenant → List Layout
layouts_in org p t = map (layout_of org p t) (numbered t.objects)

-- these are they, for some plan
abbrev pub AreLayouts : Tenant → List Layout → Type 0
AreLayouts t layouts = (org : ℕ) × (p : OrgPlan) × (layouts ≡ layouts_in org p t)

-- the layout is that of the object with this name, if there is one
abbrev pub IsNamedLayout : Tenant → (name : List ℕ) → Option Layout → Type 0
IsNamedLayout t name layout = (org : ℕ) × (p : OrgPlan) × (layout ≡ option_map (layout_of org p t) (object_named t name))

-- ---- refusals

abbrev pub rule_of_answer : Result Done Refusal → Rule
rule_of_answer (Ok answer) = None
rule_of_answer (Err refusal) = Some refusal

-- why a request is refused, if it is
abbrev pub verdict_refusal : Verdict → Rule
verdict_refusal v = rule_of_answer v.answer

-- ---- what judging finds

-- the layouts of the tenant's objects, where the verdict doesn't refuse; or why there are none
abbrev pub AcceptsBy : (org : ℕ) → OrgPlan → Tenant → Verdict → Result (List Layout) EditFail → Type 0
AcceptsBy org q t v (Ok layouts) = (layouts ≡ layouts_in org q t) × (None ≡ verdict_refusal v)
AcceptsBy org q t v (Err e) = FailsBy v e

-- the number of the object with this name, where the verdict doesn't refuse; or why there is none
abbrev pub AcceptsOn : Tenant → (name : List ℕ) → Verdict → Result ℕ EditFail → Type 0
AcceptsOn t name v (Ok n) = (None ≡ verdict_refusal v) × ((o : Numbered) × (object_named t name ≡ Some o) × (n ≡ o.number))
AcceptsOn t name v (Err e) = FailsBy v e
