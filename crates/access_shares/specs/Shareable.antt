-- The record that a request shares, or whose shares it asks for.
-- Source: Salesforce, "Record-Level Security", "Manual Sharing". The order of the rules is this product's own.
use Rattle.std.specs.Prelude.{◌≡◌, ◌∷◌, List, ℕ, Option, Some, None, Result, Ok, Err}
use Rattle.std.specs.Option.{option_and_then}
use Rattle.store_edit.specs.Edits.{FailsBy}
use Rattle.model.specs.declared.record.Record.{Record}
use Rattle.model.specs.Objects.{record_at}
use Rattle.model.specs.Paths.{Asked, if_readable}
use Rattle.model.specs.Rights.{denied, on_readable}
use Rattle.model.specs.Rules.{Rule}
use Rattle.model.specs.Shares.{detail_refused}
use Rattle.model.specs.Verdict.{Verdict, judged}
use Rattle.store_abstraction.specs.declared.fail.EditFail.{EditFail}
use Rattle.base_value.specs.declared.sharing.Level.TheVariants.{Full}

-- the record with this id, if the user may read it
abbrev pub readable_at : Asked → (id : List ℕ) → Option Record
readable_at a id = option_and_then (if_readable a) (record_at a.tenant id)

-- there is a record with this id that the user may share
pub record IsShareable (a : Asked) (id : List ℕ) : Type 0 where
  pub item : Record
  pub readable : readable_at a id ≡ Some item
  pub whole : detail_refused a.tenant item ≡ None
  pub full : denied a Full item ≡ None

-- so it is; or it fails as every request does that shares the record or ends a share of it
abbrev pub FindsShareable : Asked → (id : List ℕ) → Result (Unit {0}) EditFail → Type 0
FindsShareable a id (Ok x) = IsShareable a id
FindsShareable a id (Err e) =
    (rest : Record → List Rule) (after : Record → Verdict)
    → FailsBy (on_readable a (record_at a.tenant id) (λ r. judged a.tenant (detail_refused a.tenant r ∷ denied a Full r ∷ rest r) (after r))) e
