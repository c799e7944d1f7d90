use Rattle.platform_history.proofs.Told.{line}
use Rattle.platform_history.proofs.laws.history_rows.Goals as goal

pub returns : goal.returns
returns c a b name secret h = line a b name secret h.0 h.1.1
