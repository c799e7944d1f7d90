use Rattle.std.proofs.Common.{Some, subst, sym}
use Rattle.model_reads.specs.Told.{Telling}
use Rattle.store_abstraction.specs.Local.{StandsIn}
use Rattle.store_kv.specs.Tables.{Tables}
use Rattle.api_read.specs.Tells.{TellsSo}
use Rattle.api_read.proofs.SharesTold.{same_id, shareable_told, unshareable_told}
use Rattle.api_read.proofs.records.shares.tell_shares.Goals as goal

pub returns-in-Ok-clause-tells : goal.returns-in-Ok-clause-tells
returns-in-Ok-clause-tells g c told q a text s hers is =
    let id = c.args.id.now in
    let tells = c.draft_laws.ensures.both 4 0 c.args.draft.now c.find_shareable.new.draft c.list_shares.new.draft c.in-Ok.ensures.calls.reads c.list_shares.ensures.calls.reads told in
    let stands = subst (λ (m : Tables). StandsIn c.args.org q m (Some a.tenant)) (sym tells.2) s in
    let on = c.in-Ok.ensures.finds tells.0 q a s hers in
    subst (λ (telling : Telling). TellsSo telling c.list_shares.result) (sym (shareable_told a text id is on))
    (c.list_shares.ensures.lists tells.1 q a.tenant on.item stands (same_id a text id on.item on.readable))

pub returns-in-Err-clause-tells : goal.returns-in-Err-clause-tells
returns-in-Err-clause-tells g c told q a text s hers is = unshareable_told a text c.args.id.now is c.in-Err.fail (c.in-Err.ensures.finds told q a s hers)
