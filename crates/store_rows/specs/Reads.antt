-- What reads answer.
use Rattle.std.specs.Prelude.{◌≡◌, ℕ, List, Option, Some, None, IfSome, Result, Ok, Err, Vec, map as plain_map}
use Rattle.std.specs.List.{AllByRecursion}
use Rattle.store_kv.specs.declared.keeper.KeptRow.{KeptRow}
use Rattle.store_codec.specs.Shapes.{Val}
use Rattle.store_rows.specs.Forms.{Form, row_bytes, kept_as, FitsForm}
use Rattle.store_rows.specs.declared.fail.StoreFail.{StoreFail}
use Rattle.store_rows.specs.declared.fail.StoreFail.TheVariants.{Keeper, Memory, Damaged}

module _ {U : Type 0} (f : Form U) where
  -- the row that is kept there is this one's spelling
  pub record IsRow (k : Val f.key) (kept : Option (List ℕ)) (u : U) : Type 0 where
    pub is_kept : kept ≡ Some (row_bytes f u)
    pub has_key : f.keyed u ≡ k
    pub fits : FitsForm f u

  -- `Damaged` where there is a row, and it is no row's spelling
  abbrev pub ReadsAs : Val f.key → Option (List ℕ) → Result (Option U) StoreFail → Type 0
  ReadsAs k kept (Ok None) = kept ≡ None
  ReadsAs k kept (Ok (Some u)) = IsRow k kept u
  ReadsAs k kept (Err Damaged) = (kept ≡ None → ⊥) × ((u : U) → IsRow k kept u → ⊥)
  ReadsAs k kept (Err Keeper) = Unit {0}
  ReadsAs k kept (Err Memory) = Unit {0}

  -- these rows are what is kept; `Damaged` where something is kept that is no row's spelling
  abbrev pub ListsAs : {A : Type 0} → List KeptRow → Result (Vec U A) StoreFail → Type 0
  ListsAs kept (Ok rows) = (plain_map (kept_as f) rows.items ≡ kept) × AllByRecursion (FitsForm f) rows.items
  ListsAs kept (Err Damaged) = (rows : List U) → AllByRecursion (FitsForm f) rows → plain_map (kept_as f) rows ≡ kept → ⊥
  ListsAs kept (Err Keeper) = Unit {0}
  ListsAs kept (Err Memory) = Unit {0}

  -- what is read where a row, or none, is known to stand
  abbrev pub FoundAs : Option U → Result (Option U) StoreFail → Type 0
  FoundAs there (Ok found) = found ≡ there
  FoundAs there (Err Damaged) = ⊥
  FoundAs there (Err Keeper) = Unit {0}
  FoundAs there (Err Memory) = Unit {0}

  -- a row, or none, that may stand at a key
  abbrev pub MayStandAt : Val f.key → Option U → Type 0
  MayStandAt k there = IfSome there (λ u. (f.keyed u ≡ k) × FitsForm f u)
