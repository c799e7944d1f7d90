use Rattle.store_abstraction.proofs.Kept as kept
use Rattle.store_abstraction.proofs.Placed as placed
use Rattle.store_abstraction.proofs.records.record_laws.Goals as goal

pub returns : goal.returns
returns c = record {
  kept = λ p q t u n o v change here there records ids all k e. kept.kept p q t u n o v change ids here there records all k e;
  none = λ p t n k idle e. kept.none p t n idle k e;
  described = λ p t n change m k sound same e. placed.changed_rows p t n change m sound same k e;
}
