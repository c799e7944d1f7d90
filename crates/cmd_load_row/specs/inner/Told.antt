-- What is told of a row.
use Rattle.std.specs.Prelude.{ℕ, List, Some, Result, Ok, Err}
use Rattle.cmd_load_plan.specs.Rows.{done_line, refused_line}
use Rattle.cmd_load_plan.specs.declared.plan.LoadPlan.{LoadPlan}
use Rattle.store_kv.specs.Tables.{Tables}
use Rattle.store_rows.specs.declared.fail.StoreFail.{StoreFail}
use Rattle.model.specs.declared.caller.Caller.{Caller}
use Rattle.model.specs.Tenant.{Tenant, User}
use Rattle.access_traits.specs.Rights.{Whose}
use Rattle.store_abstraction.specs.Local.{KeepsOthers, StandsFor, StandsIn}
use Rattle.store_abstraction.specs.Operations.{IsChange, Judges}
use Rattle.store_abstraction.specs.Plan.{OrgPlan}
use Rattle.store_abstraction.specs.declared.fail.EditFail.{EditFail}
use Rattle.store_abstraction.specs.declared.fail.EditFail.TheVariants.{Refused, Store}
use Rattle.store_abstraction.specs.declared.judged.Judged.{Judged}
use Rattle.store_abstraction.specs.declared.judged.Judged.TheVariants.{Changed, Same}
use Rattle.model.specs.Asker.{asking}
use Rattle.record_save.specs.declared.upsert.upsert.Upserted.{Upserted}
use Rattle.cmd_load_row.specs.Loads.{row_does}
use Rattle.cmd_load_row.specs.inner.Edits.{AsksBy}

-- the line of a row that was done, or of its refusal, or none where the work on the tables stopped
abbrev pub told_row : (number : ℕ) → Result Upserted EditFail → Result (Judged (List ℕ)) StoreFail
told_row number (Ok x) = Ok (Changed (done_line number x.id x.created))
told_row number (Err (Refused r)) = Ok (Same (refused_line number r))
told_row number (Err (Store e)) = Err e

-- as a caller's row is judged, of those whose rights these are
pub record JudgesBy (whose : Whose) (c : Caller) (p : LoadPlan) (number : ℕ) (cells : List (List ℕ)) (now : ℕ) (before after : Tables) (result : Result (Judged (List ℕ)) StoreFail) : Type 0 where
  pub others : IsChange result → KeepsOthers c.org before after
  pub judged : (q : OrgPlan) (t : Tenant) (u : User) → StandsIn c.org q before (Some t) → AsksBy whose c now (asking t now u)
      → Judges (StandsFor c.org) (row_does p number cells (asking t now u)) (Some t) after result
