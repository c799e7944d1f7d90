-- What an opening of tables answers.
use Rattle.std.specs.Prelude.{ℕ, Result, Ok, Err}
use Rattle.store_kv.specs.Tables.{Tables}
use Rattle.store_rows.specs.declared.fail.StoreFail.TheVariants.{Keeper, Memory, Damaged}
use Rattle.model.specs.World.{World}
use Rattle.store_abstraction.specs.declared.fail.OpenFail.{OpenFail}
use Rattle.store_abstraction.specs.declared.fail.OpenFail.TheVariants as opening
use Rattle.store_abstraction.specs.Stands.{Stands, HasKnownVersion, HasUnknownVersion}

-- tables whose version can't be told stand for no world
pub record IsDamaged (m : Tables) : Type 0 where
  pub no_known : HasKnownVersion m → ⊥
  pub no_unknown : HasUnknownVersion m → ⊥
  pub no_world : (w : World) → Stands m w → ⊥

-- the version is known, or an unknown one is told, or the tables are damaged
abbrev pub OpensAs : Tables → Result ℕ OpenFail → Type 0
OpensAs m (Ok count) = HasKnownVersion m
OpensAs m (Err opening.UnknownVersion) = HasUnknownVersion m
OpensAs m (Err (opening.Store Damaged)) = IsDamaged m
OpensAs m (Err (opening.Store Keeper)) = Unit {0}
OpensAs m (Err (opening.Store Memory)) = Unit {0}
