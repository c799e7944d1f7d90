-- The change of a field's type: how it begins, how far it is, and how it is called off. It is this product's own.
use Rattle.std.specs.Prelude.{ℕ, suc, Bool, true, false, not, ◌&&◌, ◌==◌, if◌then◌else◌, List, [], ◌∷◌, Option, Some, None, slice_get}
use Rattle.std.specs.Option.{option_and_then}
use Rattle.base_value.specs.Conversion.{convertible}
use Rattle.base_value.specs.declared.job.Outcome.{Outcome}
use Rattle.base_value.specs.declared.job.Outcome.TheVariants as outcome
use Rattle.base_value.specs.declared.job.Phase.{Phase}
use Rattle.base_value.specs.declared.job.Phase.TheVariants as phase
use Rattle.base_value.specs.declared.value.FieldType.{FieldType}
use Rattle.base_value.specs.declared.value.FieldType.TheVariants as type
use Rattle.model.specs.declared.refusal.Refusal.TheVariants as refusal
use Rattle.model.specs.Cases.{in_case}
use Rattle.model.specs.Fields.{Site, value_site, column_named}
use Rattle.model.specs.declared.metadata_bodies.SpelledType.{SpelledType}
use Rattle.model.specs.NewFields.{type_with}
use Rattle.model.specs.Objects.{Numbered}
use Rattle.model.specs.RuleFormulas.{formula_of, is_copy, names_field}
use Rattle.model.specs.Replies.{job_json}
use Rattle.model.specs.Rules.{Rule, refuse_if, first_of, first_refusal}
use Rattle.model.specs.Tenant.{Field, Job, Object, Source, owned, meets, Tenant}
use Rattle.model.specs.Verdict.{Verdict, Done, accept, done, judged, on_object, refuse, told}

-- ---- the rules

abbrev pub job_is_done : Phase → Bool
job_is_done phase.Done = true
job_is_done _ = false

-- JOB_BUSY: there is a job that isn't done
abbrev pub under_way : Tenant → Rule
under_way t = in_case t.job None (λ j. refuse_if (not (job_is_done j.phase)) refusal.JobBusy)

-- a truth value can't be indexed
abbrev pub is_checkbox : FieldType → Bool
is_checkbox type.Checkbox = true
is_checkbox _ = false

-- a custom field can have this type instead of its own: it isn't unique, and the types convert
abbrev pub can_become : FieldType → Field → Bool
can_become to f = not f.unique && (convertible f.kind to && not (f.indexed && is_checkbox to))

-- the place of a custom field among its object's, from where records have it
abbrev pub custom_place : Site → Option ℕ
custom_place (value_site (suc place)) = Some place
custom_place _ = None

-- FIELD_IN_USE: a formula of the object, as a validation rule's or a criteria rule's, names the field at this place
abbrev pub uses : Object → (criteria : Bool) → (place : ℕ) → List ℕ → Bool
uses o criteria place text = names_field (suc place) (formula_of o criteria text)

-- the same of a sharing rule
abbrev pub source_uses : Object → (place : ℕ) → Source → Bool
source_uses o place (owned p) = false
source_uses o place (meets text) = uses o true place text

-- the first validation rule that names the field, and else the first criteria rule, by lower-case name
abbrev pub in_use : Tenant → Numbered → (place : ℕ) → (field : List ℕ) → Rule
in_use t o place field =
    first_refusal
    (first_of (λ r. refuse_if (uses o.object false place r.formula) (refusal.FieldInUse field r.name)) o.object.validation_rules
    ∷ first_of
    (λ r. refuse_if ((r.object == o.number) && source_uses o.object place r.source) (refusal.FieldInUse field r.name))
    t.sharing_rules
    ∷ [])

-- ---- beginning

-- the new type; a lookup is none of those that convert, whatever its object
abbrev pub new_type : SpelledType → FieldType
new_type kind = type_with None kind

-- a job that begins
abbrev pub new_job : (object field : ℕ) → FieldType → Job
new_job object field to =
    record { object = object; field = field; to = to; phase = phase.Copy; outcome = outcome.Open; cursor = None; failed = None }

-- the tenant with this job
abbrev pub with_job : Job → Tenant → Tenant
with_job j t = record t { job = Some j }

-- a custom field that can have the type: its place
abbrev pub place_to_change : Object → FieldType → Site → Option ℕ
place_to_change o to at =
    option_and_then (λ place. option_and_then (λ f. if can_become to f then Some place else None) (slice_get o.fields place)) (custom_place at)

-- RETYPE_UNSUPPORTED names the field, and FIELD_IN_USE comes after it
abbrev pub begin_on : Tenant → Numbered → FieldType → (field : List ℕ) → Site → Verdict
begin_on t o to field at =
    judged t (under_way t ∷ []) (in_case (place_to_change o.object to at) (refuse t (refusal.RetypeUnsupported field)) (λ place.
    judged t (in_use t o place field ∷ []) (accept done (with_job (new_job o.number place to) t))))

-- the change of a field's type begins
abbrev pub begin_retype : Tenant → (object field : List ℕ) → SpelledType → Verdict
begin_retype t object field to =
    on_object t object (λ o.
    in_case (column_named o.object field) (refuse t (refusal.InvalidField field)) (λ c. begin_on t o (new_type to) c.name c.at))

-- ---- looking, and calling off

-- what is told of it: how far it is
abbrev pub state_of : Tenant → Job → Done
state_of t j = told (job_json t j)

-- how far it is; NOT_FOUND where there never was a job
abbrev pub get_retype : Tenant → Verdict
get_retype t = in_case t.job (refuse t refusal.NotFound) (λ j. accept (state_of t j) t)

-- the copy ends with this outcome, and what it left is cleared from the first record on
abbrev pub to_clear : Outcome → Job → Job
to_clear o j = record j { phase = phase.Clear; outcome = o; cursor = None }

-- a job that copies is called off; NOT_FOUND where none does
abbrev pub cancel_retype : Tenant → Verdict
cancel_retype t =
    in_case t.job (refuse t refusal.NotFound) (λ j.
    judged t (refuse_if (not (is_copy j.phase)) refusal.NotFound ∷ []) (accept done (with_job (to_clear outcome.Cancelled j) t)))
