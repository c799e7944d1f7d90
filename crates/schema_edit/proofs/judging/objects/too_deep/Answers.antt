use Rattle.std.proofs.Common.{◌∙◌, ℕ, ◌+◌, [], ◌∷◌, Some, None, sym, ap}
use Rattle.std.specs.Str.{chars}
use Rattle.model.specs.declared.limit.Limit.TheVariants as limit
use Rattle.model.specs.Rules.{over_limit}
use Rattle.schema_edit.proofs.Judged.{depth_is, no_depth}
use Rattle.schema_edit.proofs.Steps.{at_name}
use Rattle.schema_edit.proofs.judging.objects.too_deep.Goals as goal

pub returns-in-Some : goal.returns-in-Some
returns-in-Some c =
    λ t h.
    let some = at_name c.args.layouts.now (chars c.as_str.result.now) c.args.master.now.parent (Some c.in-Some.parent.now) c.as_str.ensures.characters c.in-Some.ensures in
    c.over_limit.ensures
    ∙ ap (λ (n : ℕ). over_limit ((limit.DetailLevels, n + 1) ∷ [])) (c.from.ensures ∙ c.detail_level-level.ensures.value t h)
    ∙ sym (depth_is t c.args.layouts.now h c.args.master.now c.in-Some.parent.now some)

pub returns-in-None : goal.returns-in-None
returns-in-None c =
    λ t h.
    let none = at_name c.args.layouts.now (chars c.as_str.result.now) c.args.master.now.parent None c.as_str.ensures.characters c.in-None.ensures in
    sym (no_depth t c.args.layouts.now h c.args.master.now none)
