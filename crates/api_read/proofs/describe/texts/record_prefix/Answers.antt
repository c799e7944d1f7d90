use Rattle.std.proofs.Common.{◌≡◌, ◌∷◌, [], rules}
use Rattle.api_read.proofs.DescribedTexts.{prefix_made}
use Rattle.api_read.proofs.describe.texts.record_prefix.Goals as goal

pub returns : goal.returns
returns c =
    let all : c.as_slice.result.now ≡ 97 ∷ c.digit-high.result ∷ c.digit-low.result ∷ [] = search rules in
    prefix_made c.text_of.result c.args.object c.digit-high.result c.digit-low.result c.as_slice.result.now c.digit-high.ensures c.digit-low.ensures all c.text_of.ensures
