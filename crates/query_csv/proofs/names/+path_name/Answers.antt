use Rattle.std.proofs.Common.{◌∙◌, ◌<◌, length, sym, ap, arith}
use Rattle.std.specs.Option.{option_copied}
use Rattle.std.proofs.lemmas.Str.{chars-nil}
use Rattle.query_check.proofs.Spelled.{nothing_there}
use Rattle.query_plan.proofs.Within.{if_ok}
use Rattle.query_csv.specs.inner.Names.{path_by}
use Rattle.query_csv.proofs.names.+path_name.Goals as goal

pub returns-in-empty : goal.returns-in-empty
returns-in-empty t c =
    let none : length c.args.names.now < 1 = omega arith in
    if_ok c.from_str.result (λ x e. e ∙ chars-nil ∙ ap (path_by c.args.layouts.now (option_copied c.args.layout)) (sym (nothing_there c.args.names.now none))) c.from_str.ensures
