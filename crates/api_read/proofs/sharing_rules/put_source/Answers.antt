use Rattle.std.proofs.Common.{◌∙◌, [], ◌∷◌, ◌++◌, ap}
use Rattle.std.specs.Prelude.{codes}
use Rattle.std.specs.Str.{chars}
use Rattle.std.proofs.lemmas.Result.{on_ok_weaker}
use Rattle.base_json.specs.declared.tree.Json.{Json}
use Rattle.base_json_tree.specs.Words.{member}
use Rattle.api_read.specs.inner.People.{source_told}
use Rattle.api_read.proofs.RulesTold.{from_put, formula_put}
use Rattle.api_read.proofs.sharing_rules.put_source.Goals as goal

pub returns-in_ok-from-in-Owner : goal.returns-in_ok-from-in-Owner
unfolding chars
returns-in_ok-from-in-Owner c =
    on_ok_weaker c.put.result (from_put c.args.members.now c.put.new.self c.args.source.now c.in-Owner.principal c.in_ok-from-in-Owner.from c.in-Owner.is c.in_ok-from-in-Owner.ensures) c.put.ensures

pub returns-in-Criteria : goal.returns-in-Criteria
unfolding chars
returns-in-Criteria c =
    on_ok_weaker c.text.result (formula_put c.args.members.now c.text.new.self c.args.source.now c.in-Criteria.formula (chars c.as_str.result.now) c.in-Criteria.is c.as_str.ensures.characters) c.text.ensures
