-- What the laws of parts say: that a reader and a spelling fit together, and that spellings keep an order.
use Rattle.std.specs.Prelude.{◌≡◌, List, ◌++◌, Option, Some, ℕ}
use Rattle.std.specs.Ordering.{ordering_then}
use Rattle.std.specs.declared.cmp.Ordering.{Ordering}
pub use Rattle.base_value.specs.Bytes.{IsBytes}
use Rattle.store_kv.specs.Tables.{bytes_cmp}

-- what a reader took from the front
pub record Takes (bytes text rest : List ℕ) : Type 0 where
  pub parts : bytes ≡ text ++ rest
  pub rest_fits : IsBytes rest

-- what is read was spelled so and fits, and what is spelled so, with anything behind it, is read, and just that is left
pub record IsPart {A : Type 0} (spell : A → List ℕ) (Fits : A → Type 0) (read : List ℕ → Option (A × List ℕ)) : Type 0 where
  pub takes : (bytes : List ℕ) (a : A) (rest : List ℕ) → IsBytes bytes → read bytes ≡ Some (a, rest) → Takes bytes (spell a) rest × Fits a
  pub again : (a : A) (rest : List ℕ) → Fits a → read (spell a ++ rest) ≡ Some (a, rest)

-- spellings are ordered as what they spell, whatever follows them
abbrev pub KeepsOrder : {A : Type 0} → (A → A → Ordering) → (A → Type 0) → (A → List ℕ) → Type 0
KeepsOrder {A} R Fits spell = (a b : A) (x y : List ℕ) → Fits a → Fits b → bytes_cmp (spell a ++ x) (spell b ++ y) ≡ ordering_then (R a b) (bytes_cmp x y)
