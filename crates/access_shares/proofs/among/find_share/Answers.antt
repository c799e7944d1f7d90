use Rattle.std.proofs.Common.{◌∙◌, Bool, true, false, not, Some, ap, codes, sym}
use Rattle.model.specs.declared.refusal.Refusal.TheVariants.{InvalidReference}
use Rattle.model.specs.Rules.{refuse_if}
use Rattle.access_shares.proofs.Counting.{shared_is}
use Rattle.access_shares.proofs.among.find_share.Goals as goal

pub returns-then-is_shared-clause-passes : goal.returns-then-is_shared-clause-passes
returns-then-is_shared-clause-passes g c told q t s stands item to =
    let is = shared_is c.principal_laws.ensures.same c.args.org s c.args.id.now c.args.to.now c.in-Ok.rows c.as_slice.result.now t.shares item to (c.in-Ok.ensures.lists told q t stands) c.as_slice.ensures true c.if-is_shared.ensures in
    (ap (λ (b : Bool). refuse_if (not b) (InvalidReference (codes "to"))) is, tt)

pub returns-in-Ok-clause-passes : goal.returns-in-Ok-clause-passes
returns-in-Ok-clause-passes g c told q t s stands item to =
    let is = shared_is c.principal_laws.ensures.same c.args.org s c.args.id.now c.args.to.now c.in-Ok.rows c.as_slice.result.now t.shares item to (c.in-Ok.ensures.lists told q t stands) c.as_slice.ensures false c.if-is_shared.ensures in
    ap (λ (b : Bool). refuse_if (not b) (InvalidReference (codes "to"))) is ∙ ap Some (sym c.in_ok-bad_reference-in-Ok.ensures)
