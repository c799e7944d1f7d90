use Rattle.std.specs.Str.{chars}
use Rattle.api_read.proofs.DescribedTexts.{url_made}
use Rattle.api_read.proofs.describe.texts.object_url.Goals as goal

pub returns : goal.returns
returns c = url_made c.joined.result (chars c.args.name.now) c.joined.ensures
