use Rattle.std.proofs.Common.{Some, suc, subst, sym}
use Rattle.model.specs.Given.{record_by_value}
use Rattle.store_abstraction.specs.Local.{StandsIn}
use Rattle.store_kv.specs.Tables.{Tables}
use Rattle.api_read.proofs.RecordsFound.{laid_so}
use Rattle.api_read.proofs.RecordsValued.{valued_found}
use Rattle.api_read.proofs.records.by_value.tell_key.Goals as goal

pub returns-in-Ok-clause-tells : goal.returns-in-Ok-clause-tells
returns-in-Ok-clause-tells g c told q a o s hers of =
    let l = c.args.layout.now in
    let k = c.args.key.now in
    let tells = c.draft_laws.ensures.both 1 4 c.args.draft.now c.found_record.new.draft c.tell_found.new.draft c.in-Ok.ensures.calls.reads c.tell_found.ensures.calls.reads told in
    let stands = subst (λ (m : Tables). StandsIn l.org q m (Some a.tenant)) (sym tells.2) s in
    let finds = c.in-Ok.ensures.finds tells.0 q a.tenant s (laid_so q a.tenant o l of) in
    c.tell_found.ensures.tells tells.1 q a o (record_by_value a.tenant o.number (suc k.number) k.value) stands hers of (valued_found q a.tenant o l k.number k.value c.in-Ok.found of finds)

pub returns-in-Err-clause-tells : goal.returns-in-Err-clause-tells
returns-in-Err-clause-tells g c told q a o s hers of = c.in-Err.ensures.finds told q a.tenant s (laid_so q a.tenant o c.args.layout.now of)
