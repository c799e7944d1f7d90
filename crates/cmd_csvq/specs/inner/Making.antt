-- How far columns and rows are made.
use Rattle.std.specs.Prelude.{◌≡◌, ℕ, Bool, List, ◌∷◌, Option, Some, None, Result, Ok, Err}
use Rattle.std.specs.Str.{chars}
use Rattle.store_kv.specs.Draft.{Held}
use Rattle.store_kv.specs.Memory.{InMemory}
use Rattle.store_rows.specs.declared.fail.StoreFail.{StoreFail}
use Rattle.store_rows.specs.declared.fail.StoreFail.TheVariants.{Memory}
use Rattle.model.specs.Paths.{Asked}
use Rattle.cmd_sandbox.specs.Making.{IsOwned}
use Rattle.cmd_csvq.specs.Organisation.{with_columns}

-- one cell of a heading: the organisation that is left, and whether `Name` was taken then; or it is no column
abbrev pub Takes : (now : ℕ) → (after : Held InMemory) → (named : Bool) → Asked → (cell : List ℕ) → Result (Option Bool) StoreFail → Type 0
Takes now after named a cell (Ok (Some next)) =
    (b : Asked) × IsOwned now after b × ((cells : List (List ℕ)) → with_columns named a (cell ∷ cells) ≡ with_columns next b cells)
Takes now after named a cell (Ok None) = (cells : List (List ℕ)) → with_columns named a (cell ∷ cells) ≡ Err (chars cell)
Takes now after named a cell (Err e) = e ≡ Memory

-- several in turn: what is refused, or the organisation that is left
abbrev pub Goes : {X : Type 0} → (now : ℕ) → (after : Held InMemory) → Result Asked X → Result (Option X) StoreFail → Type 0
Goes now after (Ok b) (Ok None) = IsOwned now after b
Goes now after (Err x) (Ok None) = ⊥
Goes now after (Ok b) (Ok (Some y)) = ⊥
Goes now after (Err x) (Ok (Some y)) = y ≡ x
Goes now after made (Err e) = e ≡ Memory
