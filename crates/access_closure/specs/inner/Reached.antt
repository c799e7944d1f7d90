-- The nodes to which edges lead from nodes that are set.
use Rattle.std.specs.Prelude.{◌≡◌, ℕ, ◌<◌, Bool, true, false, ◌&&◌, ◌||◌, not, nat_lt, if◌then◌else◌, List, [], ◌∷◌, length, slice_set}
use Rattle.access_closure.specs.declared.graph.Edge.{Edge}
use Rattle.model.specs.Membership.{Has}
use Rattle.access_closure.specs.Places.{is_on}

-- one of the nodes that are set to begin with, or one to which an edge leads from such a node
pub data Reached (edges : List Edge) (begun : List Bool) : ℕ → Type 0 where
  begins : {n : ℕ} → is_on begun n ≡ true → Reached edges begun n
  goes : (e : Edge) → Has edges e → Reached edges begun e.from → Reached edges begun e.to

-- what was set still is, and no node is that edges don't lead to
pub record Works (edges : List Edge) (begun held : List Bool) : Type 0 where
  pub long : length held ≡ length begun
  pub keeps : (n : ℕ) → is_on begun n ≡ true → is_on held n ≡ true
  pub sound : (n : ℕ) → is_on held n ≡ true → Reached edges begun n

-- and no edge leads from a node that is set to one that isn't
pub record Closes (edges : List Edge) (begun held : List Bool) : Type 0 where
  pub works : Works edges begun held
  pub closed : (e : Edge) → Has edges e → is_on held e.from ≡ true → e.to < length begun → is_on held e.to ≡ true

-- ---- how it is worked out

-- the edge leads from a node that is set to one that isn't
abbrev pub moves : List Bool → Edge → Bool
moves flags e = is_on flags e.from && (nat_lt e.to (length flags) && not (is_on flags e.to))

abbrev pub followed : List Bool → Edge → List Bool
followed flags e = if moves flags e then slice_set flags e.to true else flags

abbrev pub passed : List Bool → List Edge → List Bool
passed flags [] = flags
passed flags (e ∷ edges) = passed (followed flags e) edges

abbrev pub any_moves : List Bool → List Edge → Bool
any_moves flags [] = false
any_moves flags (e ∷ edges) = moves flags e || any_moves (followed flags e) edges
