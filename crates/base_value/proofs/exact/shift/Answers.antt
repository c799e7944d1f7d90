use Rattle.std.proofs.Common.{ap, ◌+◌}
use Rattle.base_value.proofs.Sizes.{shifted_small}
use Rattle.base_value.proofs.exact.shift.Goals as goal

pub returns-in-Some-scale : goal.returns-in-Some-scale
returns-in-Some-scale c =
    rw c.in-Some.is (ap (λ n. n + c.args.digit) c.in-Some-scale.ensures.0, shifted_small c.in-Some-scale.value c.in-Some.n c.args.power c.args.digit c.in-Some-scale.ensures.0 c.requires.power c.in-Some-scale.ensures.1 c.requires.digit)
