use Rattle.store_codec.proofs.ShapeLaws.{shape_part, shape_whole, shape_again, shape_apart}
use Rattle.store_codec.proofs.ShapeOrder.{shape_keeps, shape_compared}
use Rattle.store_codec.proofs.ShapePrefix.{shape_bytes, shape_begins}
use Rattle.store_codec.proofs.laws.shape_laws.Goals as goal

pub returns : goal.returns
returns c =
    let law = c.digit_laws.ensures.ordered in
    record {
      part = shape_part;
      whole = shape_whole;
      again = shape_again;
      apart = shape_apart;
      ordered = shape_keeps law;
      compared = shape_compared law;
      bytes = shape_bytes;
      begins = shape_begins;
    }
