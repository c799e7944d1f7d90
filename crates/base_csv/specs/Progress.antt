-- How far a source is read, record by record.
use Rattle.std.specs.Prelude.{ℕ, List, Option}
use Rattle.base_csv.specs.declared.fail.TableFail.{TableFail}

-- the source, how many of its records were read, and the failure, after which no more are
pub record Progress : Type 0 where
  pub source : List ℕ
  pub read : ℕ
  pub failed : Option TableFail
