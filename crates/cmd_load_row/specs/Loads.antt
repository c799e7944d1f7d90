-- A row of a CSV text that is loaded into an object: what it comes to, of one who asks.
use Rattle.std.specs.Prelude.{ℕ, List, Option, Some, Result}
use Rattle.cmd_load_plan.specs.Rows.{row_line, row_request}
use Rattle.cmd_load_plan.specs.declared.plan.LoadPlan.{LoadPlan}
use Rattle.store_kv.specs.Tables.{Tables}
use Rattle.store_rows.specs.declared.fail.StoreFail.{StoreFail}
use Rattle.model.specs.declared.caller.Caller.{Caller}
use Rattle.model.specs.Paths.{Asked}
use Rattle.model_requests.specs.Requests.{verdict_on}
use Rattle.model.specs.Tenant.{Tenant, User}
use Rattle.store_abstraction.specs.Local.{KeepsOthers, StandsFor, StandsIn}
use Rattle.store_abstraction.specs.Operations.{IsChange, Judges}
use Rattle.store_abstraction.specs.Plan.{OrgPlan}
use Rattle.store_abstraction.specs.declared.judged.Judged.{Judged}
use Rattle.model.specs.Asker.{IsAsking}
use Rattle.model.specs.Asker.{asking}

-- what a row comes to, of one who asks: its line, and what becomes of the organisation
abbrev pub row_does : LoadPlan → (number : ℕ) → (cells : List (List ℕ)) → Asked → Option Tenant → List ℕ × Option Tenant
row_does p number cells a t = let v = verdict_on a (row_request p cells) in (row_line number v.answer, Some v.tenant)

-- a caller's row, judged over these tables, of which those came: whatever they have, no row of others changes; and where the
-- organisation's rows stand for the tenant of who asks, it is so
pub record JudgesRow (c : Caller) (p : LoadPlan) (number : ℕ) (cells : List (List ℕ)) (now : ℕ) (before after : Tables) (result : Result (Judged (List ℕ)) StoreFail) : Type 0 where
  pub others : IsChange result → KeepsOthers c.org before after
  pub judged : (q : OrgPlan) (t : Tenant) (u : User) → StandsIn c.org q before (Some t) → IsAsking c now (asking t now u)
      → Judges (StandsFor c.org) (row_does p number cells (asking t now u)) (Some t) after result

-- the most rows that a row of a text changes: those of an upsert that changes a record
abbrev pub row_changes : ℕ
row_changes = 389

-- the most data rows that are shown to it: those of an upsert
abbrev pub load_shown : ℕ
load_shown = 173
