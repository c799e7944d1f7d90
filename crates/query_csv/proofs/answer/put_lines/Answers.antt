use Rattle.std.proofs.Common.{◌∙◌, ◌++◌, List, ap}
use Rattle.std.specs.List.{flat_map}
use Rattle.query_plan.specs.declared.check.Spot.{Spot}
use Rattle.query_exec.specs.Relatives.{by_parents}
use Rattle.query_json.specs.Planned.{Parents, choice_rows}
use Rattle.query_csv.specs.inner.Rows.{row_line}
use Rattle.query_csv.proofs.answer.put_lines.Goals as goal

pub returns-in-Ok-clause-what : goal.returns-in-Ok-clause-what
returns-in-Ok-clause-what g c told q a s i its =
    let parents : Parents = g.L.Relatives.parents c.args.relatives.now in
    (c.in-Ok.ensures.what told q a s i its).appended
    ∙ ap
    (λ (cells : List Spot).
    c.args.out.now.items ++ flat_map (by_parents parents (row_line cells) a) (choice_rows parents c.args.plan.now.choice c.args.layout.now.object a))
    c.as_slice.ensures
