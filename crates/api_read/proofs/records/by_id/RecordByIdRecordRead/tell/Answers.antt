use Rattle.std.proofs.Common.{ℕ, Some, ap, subst, sym}
use Rattle.model_reads.specs.Told.{Telling}
use Rattle.store_abstraction.specs.Local.{StandsIn}
use Rattle.store_abstraction.specs.declared.layout.Layout.{Layout}
use Rattle.store_kv.specs.Draft.{tables_of}
use Rattle.store_kv.specs.Tables.{Tables}
use Rattle.api_read.specs.Tells.{TellsSo}
use Rattle.api_read.specs.inner.RecordParts.{told_named}
use Rattle.api_read.proofs.RecordsTold.{is_of_so, named_told, unnamed_told}
use Rattle.api_read.proofs.records.by_id.RecordByIdRecordRead.tell.Goals as goal

pub returns-in-Ok-clause-tells : goal.returns-in-Ok-clause-tells
returns-in-Ok-clause-tells g c told q a s hers =
    let org = c.args.org in
    let r = c.args.self.now in
    let l = c.in-Ok.layout in
    let b = c.ready_layout.new.draft in
    let tells = c.draft_laws.ensures.both 0 5 c.args.draft.now b c.tell_named.new.draft c.in-Ok.ensures.calls.reads c.tell_named.ensures.calls.reads told in
    let on = c.in-Ok.ensures.names tells.0 q a.tenant s in
    let stands = subst (λ (n : ℕ). StandsIn n q (tables_of g.K.Keeper.state b) (Some a.tenant)) (sym (ap (λ (k : Layout). k.org) on.2)) (subst (λ (m : Tables). StandsIn org q m (Some a.tenant)) (sym tells.2) s) in
    subst (λ (telling : Telling). TellsSo telling c.tell_named.result)
    (sym (named_told org q a.tenant r.object.now (λ o. told_named a o r.key.now r.pairs.now) l on))
    (c.tell_named.ensures.tells tells.1 q a on.0 stands hers (is_of_so org q a.tenant r.object.now l c.object_laws.ensures.named on))

pub returns-in-Err-clause-tells : goal.returns-in-Err-clause-tells
returns-in-Err-clause-tells g c told q a s hers =
    let r = c.args.self.now in
    unnamed_told c.args.org q a.tenant r.object.now (λ o. told_named a o r.key.now r.pairs.now) c.in-Err.fail (c.in-Err.ensures.names told q a.tenant s)
