-- What a form of rows is: the shapes of its key and of the rest, and how a row is made of these parts.
use Rattle.std.specs.Prelude.{◌≡◌, ℕ, IsTrue, List, Option}
use Rattle.std.specs.Option.{option_map}
use Rattle.store_kv.specs.declared.keeper.KeptRow.{KeptRow}
use Rattle.store_codec.specs.Plain.{both_at}
use Rattle.store_codec.specs.Shapes.{Shape, Val, spelled, FitsIn, taken, is_key_shape}
use Rattle.store_rows.specs.Keys.{Key, spell, FitsKey}

pub record Form (U : Type 0) : Type 0 where
  pub table : ℕ
  pub key : Shape
  pub rest : Shape
  -- the two halves of a row, and the row that they make
  pub keyed : U → Val key
  pub rested : U → Val rest
  pub make : Val key → Val rest → U
  -- the key with these parts
  pub named : Val key → Key
  pub keyed_made : (k : Val key) (r : Val rest) → keyed (make k r) ≡ k
  pub rested_made : (k : Val key) (r : Val rest) → rested (make k r) ≡ r
  pub made_again : (u : U) → make (keyed u) (rested u) ≡ u
  pub is_key : IsTrue (is_key_shape key)
  pub placed : (k : Val key) → spell (named k) ≡ (table, spelled key k)
  pub fits : (k : Val key) → FitsIn key k → FitsKey (named k)

module _ {U : Type 0} (f : Form U) where
  abbrev pub key_of : U → Key
  key_of u = f.named (f.keyed u)

  -- the bytes of a row's key and of the row
  abbrev pub key_bytes : U → List ℕ
  key_bytes u = spelled f.key (f.keyed u)

  abbrev pub row_bytes : U → List ℕ
  row_bytes u = spelled f.rest (f.rested u)

  -- a row that has a spelling
  abbrev pub FitsForm : U → Type 0
  FitsForm u = FitsIn f.key (f.keyed u) × FitsIn f.rest (f.rested u)

  -- a row as it is kept
  abbrev pub kept_as : U → KeptRow
  kept_as u = record { key = key_bytes u; row = row_bytes u }

  -- the row that a key and bytes spell, if they spell one
  abbrev pub read_row : List ℕ → List ℕ → Option U
  read_row key row = option_map (λ p. f.make p.0 p.1) (both_at (taken f.key) (taken f.rest) key row)
