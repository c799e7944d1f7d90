use Rattle.std.proofs.Common.{Some, subst, sym}
use Rattle.model.specs.Rights.{record_of_object}
use Rattle.store_abstraction.specs.Local.{StandsIn}
use Rattle.store_kv.specs.Tables.{Tables}
use Rattle.api_read.proofs.RecordsFound.{kept_found, laid_so}
use Rattle.api_read.proofs.records.by_id.tell_at.Goals as goal

pub returns-in-Ok-clause-tells : goal.returns-in-Ok-clause-tells
returns-in-Ok-clause-tells g c told q a o s hers of =
    let l = c.args.layout.now in
    let id = c.args.id.now in
    let tells = c.draft_laws.ensures.both 1 4 c.args.draft.now c.kept_record.new.draft c.tell_found.new.draft c.in-Ok.ensures.calls.reads c.tell_found.ensures.calls.reads told in
    let stands = subst (λ (m : Tables). StandsIn l.org q m (Some a.tenant)) (sym tells.2) s in
    let keeps = c.in-Ok.ensures.keeps tells.0 q a.tenant s (laid_so q a.tenant o l of) in
    c.tell_found.ensures.tells tells.1 q a o (record_of_object a.tenant o.number id) stands hers of (kept_found q a.tenant o l id c.in-Ok.found of keeps)

pub returns-in-Err-clause-tells : goal.returns-in-Err-clause-tells
returns-in-Err-clause-tells g c told q a o s hers of = c.in-Err.ensures.keeps told q a.tenant s (laid_so q a.tenant o c.args.layout.now of)
