use Rattle.server_http.proofs.Connections.{only_list}
use Rattle.server_http.proofs.laws.one_list.Goals as goal

pub returns : goal.returns
returns c = only_list
