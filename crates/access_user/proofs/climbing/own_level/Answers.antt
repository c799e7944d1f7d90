use Rattle.std.proofs.Common.{ap, ◌∙◌}
use Rattle.access_user.specs.level.Own.{up_to}
use Rattle.access_user.proofs.Granted.{sharer_of}
use Rattle.access_user.proofs.Judged.{object_is}
use Rattle.access_user.proofs.climbing.own_level.Goals as goal

pub returns-then-is_settled-clause-finds : goal.returns-then-is_settled-clause-finds
returns-then-is_settled-clause-finds g c told q t u s may =
    let rights = c.args.sight.now.rights.now in
    let r = c.args.item in
    let o = object_is t r may.granted.sound may.has in
    c.is_settled.ensures.settled t u r c.if-is_settled.true
    (c.in_ok-apart.ensures rights.org t u o.object (sharer_of t u rights may.granted) may.has o.there (may.own_end o.object o.there))

pub returns-clause-finds : goal.returns-clause-finds
returns-clause-finds g c told q t u s may =
    let rights = c.args.sight.now.rights.now in
    let r = c.args.item in
    let o = object_is t r may.granted.sound may.has in
    let sharer = sharer_of t u rights may.granted in
    ap (up_to c.args.asked)
    (c.level_with.ensures rights.org c.args.org t u o.object r sharer o.there (may.own_end o.object o.there)
    (c.in_ok-apart.ensures rights.org t u o.object sharer may.has o.there (may.own_end o.object o.there))
    (c.as_slice.ensures ∙ c.in_ok-shares.ensures.lists told q t s may.shares))
