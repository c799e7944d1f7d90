use Rattle.api_read.proofs.SharesTold.{rows_listed}
use Rattle.api_read.proofs.records.shares.list_shares.Goals as goal

pub returns-in_ok-value-in-Ok-clause-lists : goal.returns-in_ok-value-in-Ok-clause-lists
returns-in_ok-value-in-Ok-clause-lists g c told q t r s same =
    rows_listed c.args.org t c.args.id.now r c.in-Ok.rows c.as_slice.result.now c.in_ok-value-in-Ok.value same (c.in-Ok.ensures.lists told q t s) c.as_slice.ensures c.in_ok-value-in-Ok.ensures

pub returns-in-Err-clause-lists : goal.returns-in-Err-clause-lists
returns-in-Err-clause-lists g c told q t r s same = c.in-Err.ensures.lists told q t s
