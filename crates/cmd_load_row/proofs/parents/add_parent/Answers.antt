use Rattle.std.proofs.Common.{◌∙◌, List, ap, sym}
use Rattle.cmd_load_row.specs.declared.parents.Parent.{Parent}
use Rattle.cmd_load_row.specs.inner.Parents.{has_parent}
use Rattle.cmd_load_row.proofs.Adding.{adds_one}
use Rattle.cmd_load_row.proofs.parents.add_parent.Goals as goal

pub returns-else-has_parent : goal.returns-else-has_parent
returns-else-has_parent c =
    let p = c.in-Some.parent in
    adds_one c.args.parents.now c.args.found p c.push.new.self c.push.result c.in-Some.is
    (ap (λ (ps : List Parent). has_parent ps p.name) (sym c.as_slice.ensures) ∙ sym c.has_parent.ensures ∙ c.if-has_parent.false) c.push.ensures.ok
