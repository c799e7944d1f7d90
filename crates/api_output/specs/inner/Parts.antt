-- What is written.
use Rattle.std.specs.Prelude.{ℕ, Bool, List, [], ◌∷◌, ◌++◌, codes}
use Rattle.base_json.specs.Printing.{printed_truth}
use Rattle.model.specs.Replies.{made_members}
use Rattle.model.specs.RowsJson.{member_json}
pub use Rattle.api_output.specs.Written.{Wrote}

-- the members of what was made, and whether it is new
abbrev pub upserted_members : (id : List ℕ) → (created : Bool) → List (List ℕ)
upserted_members id created = made_members id ++ member_json (codes "created") (printed_truth created) ∷ []
