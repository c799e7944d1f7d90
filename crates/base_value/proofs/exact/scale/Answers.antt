use Rattle.std.proofs.Common.{arith}
use Rattle.base_value.proofs.Sizes.{ten_more, scaled_none}
use Rattle.base_value.proofs.exact.scale.Goals as goal

pub returns-then-value : goal.returns-then-value
returns-then-value c =
    scaled_none c.args.n c.args.power c.places._place c.places.value c.places.invariant.is c.if-value.true c.places-test.true

pub places-preserved : goal.places-preserved
places-preserved c = record {
  is = omega (arith, ten_more c.args.n c.places._place);
  some = omega arith;
  small = omega arith;
}
