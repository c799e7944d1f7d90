use Rattle.server_http.proofs.Unique.{only_one}
use Rattle.server_http.proofs.laws.one_item.Goals as goal

pub returns : goal.returns
returns c = only_one
