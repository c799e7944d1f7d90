use Rattle.api_input.proofs.Cuts.{cut_parts}
use Rattle.api_input.proofs.principals.cut_at_colon.Goals as goal

pub returns : goal.returns
returns c = cut_parts c.as_str.result.now c.args.text.now c.split_once.result c.as_str.ensures.characters c.as_str.utf8 c.split_once.ensures.cases
