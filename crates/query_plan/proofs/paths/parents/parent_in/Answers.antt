use Rattle.std.proofs.Common.{◌∙◌, ap}
use Rattle.std.specs.Str.{chars}
use Rattle.store_abstraction.specs.declared.layout.FieldPlace.{FieldPlace}
use Rattle.std.specs.Prelude.{List}
use Rattle.query_plan.specs.paths.ByLayout.{parent_from}
use Rattle.query_plan.proofs.ByLayout.{parent_by_layout}
use Rattle.query_plan.proofs.paths.parents.parent_in.Goals as goal

pub returns-clause-finds : goal.returns-clause-finds
returns-clause-finds c q t is =
    c.parent_among.ensures
    ∙ ap (λ (fields : List FieldPlace). parent_from 1 fields (chars c.args.name.now)) c.as_slice.ensures
    ∙ parent_by_layout q t c.args.layout.now (chars c.args.name.now) is
