use Rattle.std.proofs.Common.{◌∙◌, rules}
use Rattle.std.specs.Prelude.{◌==◌}
use Rattle.std.proofs.lemmas.Iterator.{YieldsList-from_slice}
use Rattle.std.proofs.lemmas.Iterator.Search.{find_from_yields_List}
use borrow.Author.Tests.{tests}
use Rattle.query_plan.proofs.ByLayout.{found_is, missing_is, numbered_layout}
use Rattle.query_plan.proofs.paths.ways.layout_in.Goals as goal

pub returns-clause-by_layouts : goal.returns-clause-by_layouts
returns-clause-by_layouts c =
    find_from_yields_List (λ l. l.object == c.args.object) _ _ _ c.find.ensures.ran (YieldsList-from_slice c.args.layouts.now (cc)) (λ x b q k. search (rules, tests))

pub returns-clause-own : goal.returns-clause-own
returns-clause-own c org q t e =
    returns-clause-by_layouts c
    ∙ numbered_layout org c.args.object q t c.args.layouts.now e

pub returns-clause-found : goal.returns-clause-found
returns-clause-found c org q t e = found_is org c.args.object q t c.find.result (returns-clause-own c org q t e)

pub returns-clause-missing : goal.returns-clause-missing
returns-clause-missing c org q t e = missing_is org c.args.object q t c.find.result (returns-clause-own c org q t e)
