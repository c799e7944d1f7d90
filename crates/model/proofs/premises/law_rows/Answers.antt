use Rattle.std.proofs.Common.{refl}
use Rattle.std.specs.List.Sorted.{IsStrictlySortedBy}
use Rattle.model.proofs.Computing.{computing}
use Rattle.model.proofs.premises.law_rows.Goals as goal

pub returns : goal.returns
unfolding computing IsStrictlySortedBy
returns c =
    record {
      named = (_, refl, refl);
      rising = ((refl, (refl, tt)), ((refl, tt), (tt, tt)));
      put = refl;
      begun = record { phase = refl; cursor = refl; converts = refl };
      counted = (refl, refl, refl, refl);
    }
