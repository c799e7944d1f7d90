use Rattle.api_read.proofs.RecordsShown.{sited_told, unsited_told}
use Rattle.api_read.proofs.records.parts.record_asked.Goals as goal

pub returns-in_ok-value-in-Ok-clause-tells : goal.returns-in_ok-value-in-Ok-clause-tells
returns-in_ok-value-in-Ok-clause-tells c =
    sited_told c.args.layout.now c.args.pairs.now c.args.readable.now c.in-Ok.sites c.as_slice.result.now c.in_ok-value-in-Ok.value c.in-Ok.ensures.finds c.as_slice.ensures c.in_ok-value-in-Ok.ensures

pub returns-in-Err-clause-tells : goal.returns-in-Err-clause-tells
returns-in-Err-clause-tells c = unsited_told c.args.layout.now c.args.pairs.now c.args.readable.now c.in-Err.fail c.in-Err.ensures.finds
