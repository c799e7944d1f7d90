use Rattle.std.proofs.Common.{[], ◌∷◌, ℕ, subst}
use Rattle.model.specs.declared.limit.Limit.TheVariants as limit
use Rattle.model.specs.Rules.{over_limit}
use Rattle.store_edit.specs.Judging.{Passes}
use Rattle.access_shares.proofs.Counting.{room_is}
use Rattle.access_shares.proofs.among.check_count.Goals as goal

pub returns-in-Ok-clause-passes : goal.returns-in-Ok-clause-passes
returns-in-Ok-clause-passes g c told q t s stands item to =
    subst (λ (n : ℕ). Passes (over_limit ((limit.SharesPerRecord, n) ∷ [])) (λ (x : Unit {0}). Unit {0}) c.check_room.result)
    (room_is c.principal_laws.ensures.same c.args.org s c.args.id.now c.args.to.now c.in-Ok.rows c.as_slice.result.now t.shares item to (c.in-Ok.ensures.lists told q t stands) c.as_slice.ensures c.others.result c.others.ensures.is)
    c.check_room.ensures.passes
