use Rattle.std.proofs.Common.{refl, sym, ◌∙◌}
use Rattle.store_kv.specs.Draft.{tables_of}
use Rattle.access_user.proofs.Judged.{all_seen, seen}
use Rattle.access_user.proofs.Opened.{owned_seen}
use Rattle.access_user.proofs.sight.UserSightSight.may_read.Goals as goal

pub returns-then-is_readable_by_all-clause-tells : goal.returns-then-is_readable_by_all-clause-tells
returns-then-is_readable_by_all-clause-tells g c told q t u r stands at sees among is =
    let people = c.args.self.now.rights.now.sharer.people in
    all_seen t c.args.layout.now r q u people c.args.self.now.own
    (λ o x there known. c.is_readable_by_all.ensures people t u o x c.if-is_readable_by_all.true there known)
    sees.rights.sound at sees.own among

pub returns-then-is_owned-clause-tells : goal.returns-then-is_owned-clause-tells
returns-then-is_owned-clause-tells g c told q t u r stands at sees among is =
    let l = c.args.layout.now in
    let owned = sym (c.is_owned.ensures.value l r t u is sees among) ∙ c.if-is_owned.true in
    owned_seen t u l r sees.rights.sound among owned (c.is_owned.ensures.full l r t u is sees among c.if-is_owned.true)

pub returns-in-Ok-clause-tells : goal.returns-in-Ok-clause-tells
returns-in-Ok-clause-tells g c told =
    let m = tables_of g.K.Keeper.state c.args.draft.now in
    seen m m refl c.args.layout.now c.args.row.now c.args.self.now c.in-Ok.item c.in-Ok.ensures c.level_in.result (c.level_in.ensures.finds told) c.is_readable.result c.is_readable.ensures
