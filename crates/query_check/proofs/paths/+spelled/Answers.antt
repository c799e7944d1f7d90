use Rattle.std.proofs.Common.{◌∙◌, ◌<◌, length, sym, ap, arith}
use Rattle.std.proofs.lemmas.Str.{chars-nil}
use Rattle.model.specs.Asking.{spelled_path}
use Rattle.query_check.proofs.Spelled.{nothing_there}
use Rattle.query_plan.proofs.Within.{if_ok}
use Rattle.query_check.proofs.paths.+spelled.Goals as goal

pub returns-in-empty : goal.returns-in-empty
returns-in-empty t c =
    let none : length c.args.names.now < 1 = omega arith in
    if_ok c.from_str.result (λ x e. e ∙ chars-nil ∙ ap spelled_path (sym (nothing_there c.args.names.now none))) c.from_str.ensures
