use Rattle.std.proofs.Common.{◌∙◌, [], ◌∷◌, ◌++◌, ap}
use Rattle.std.specs.Str.{chars}
use Rattle.std.proofs.lemmas.Result.{on_ok_weaker}
use Rattle.base_json.specs.declared.tree.Json.{Json}
use Rattle.base_json_tree.specs.Words.{member}
use Rattle.api_read.proofs.caller.put_limit.Goals as goal

pub returns : goal.returns
returns c = on_ok_weaker c.put.result (λ e. e ∙ ap (λ (v : Json). c.args.members.now ++ member (chars c.args.name.now) v ∷ []) c.in_ok-value.ensures) c.put.ensures
