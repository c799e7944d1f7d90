-- The edit that a row asks for, and what it comes to.
use Rattle.std.specs.Prelude.{◌≡◌, ◌≢◌, ℕ, Bool, true, List, Option, Some, None, Result, Ok, Err}
use Rattle.std.specs.Str.{all_scalars}
use Rattle.cmd_load_plan.specs.Rows.{done_line, row_line}
use Rattle.store_edit.specs.Edits.{OthersStay}
use Rattle.record_input.specs.Given.{Finds}
use Rattle.record_input.specs.declared.found.Found.{Found}
use Rattle.store_kv.specs.Tables.{Tables}
use Rattle.store_rows.specs.declared.fail.StoreFail.TheVariants.{Damaged}
use Rattle.model.specs.declared.caller.Caller.{Caller}
use Rattle.model.specs.declared.record_bodies.Assignment.{Assignment}
use Rattle.model.specs.Cases.{in_case}
use Rattle.model.specs.Objects.{Numbered, object_named}
use Rattle.model.specs.Paths.{Asked}
use Rattle.model_requests.specs.Requests.{Request, creates, upserts, verdict_on}
use Rattle.model.specs.Tenant.{Tenant}
use Rattle.model.specs.Verdict.{Verdict}
use Rattle.access_traits.specs.Rights.{Whose}
use Rattle.store_abstraction.specs.Local.{StandsFor, StandsIn}
use Rattle.store_abstraction.specs.Plan.{OrgPlan}
use Rattle.store_abstraction.specs.declared.fail.EditFail.{EditFail}
use Rattle.store_abstraction.specs.declared.fail.EditFail.TheVariants.{Refused, Store}
use Rattle.model.specs.Asker.{IsAsking}
use Rattle.record_save.specs.declared.upsert.upsert.Upserted.{Upserted}

-- ---- the request

-- a create, or an upsert by the unique field with a name
abbrev pub asked_for : (object : List ℕ) → (key text : Option (List ℕ)) → List Assignment → Request
asked_for object key text given = in_case key (creates object given) (λ k. upserts object k text given)

-- a text, if there is one, is of characters
abbrev pub text_is_spelled : Option (List ℕ) → Bool
text_is_spelled text = in_case text true all_scalars

-- ---- who asks

-- the caller is the one who asks at this moment, and these are the rights of that user
abbrev pub AsksBy : Whose → Caller → (now : ℕ) → Asked → Type 0
AsksBy whose c now a = IsAsking c now a × whose a.tenant a.user

-- the same, and in the object with this name what finds a record finds one that is told
abbrev pub KnowsFound : Whose → Caller → (now : ℕ) → (object : List ℕ) → (given : List Assignment) → List Found → Asked → Type 0
KnowsFound whose c now object given found a =
    AsksBy whose c now a × ((o : Numbered) → object_named a.tenant object ≡ Some o → Finds a.tenant o.object None found given)

-- ---- what it comes to

-- what an edit answers, seen by view; or why it isn't made
abbrev pub seen : {X : Type 0} → (X → Upserted) → Result X EditFail → Result Upserted EditFail
seen view (Ok x) = Ok (view x)
seen view (Err e) = Err e

-- the id of a new record, in the words of an upsert
abbrev pub as_new : List ℕ → Upserted
as_new id = record { id = id; created = true }

-- an edit of the organisation with this number by its verdict: what a line tells of it, and it changes nothing where it is refused
abbrev pub EditsTo : (org : ℕ) → Tenant → Verdict → Tables → Result Upserted EditFail → Type 0
EditsTo org t v after (Ok x) = ((number : ℕ) → row_line number v.answer ≡ done_line number x.id x.created) × StandsFor org after (Some v.tenant)
EditsTo org t v after (Err (Refused r)) = (v.answer ≡ Err r) × (v.tenant ≡ t)
EditsTo org t v after (Err (Store e)) = e ≢ Damaged

-- the same over these tables, of which those came: whatever they have, no row of others changes; and it is so for such a one as asks
pub record EditsRow (org : ℕ) (asks : Asked → Type 0) (request : Request) (m after : Tables) (result : Result Upserted EditFail) : Type 0 where
  pub others : OthersStay org m after result
  pub edited : (q : OrgPlan) (a : Asked) → StandsIn org q m (Some a.tenant) → asks a → EditsTo org a.tenant (verdict_on a request) after result
