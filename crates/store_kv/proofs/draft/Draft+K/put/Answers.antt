use Rattle.std.proofs.Common.{ap, subst, Some, length, arith, refl}
use Rattle.std.specs.BTreeMap.{Updates}
use Rattle.store_kv.specs.Tables.{Place, place_cmp}
use Rattle.store_kv.proofs.Laid.{laid-updates}
use Rattle.store_kv.specs.Laid.{Entry, removals}
use Rattle.store_kv.specs.State.{data_table}
use Rattle.store_kv.proofs.Counted.{length_put, data_kept}
use Rattle.store_kv.proofs.Calls.{reads_same}
use Rattle.store_kv.proofs.draft.Draft+K.put.Goals as goal

pub returns-clause-ok : goal.returns-clause-ok
returns-clause-ok g c =
    laid-updates c.args.self.now.changes c.insert.new.self (c.args.table, c.args.key) (Some c.args.row)
    (subst (λ (q : Place). Updates place_cmp c.args.self.now.changes c.insert.new.self q (Some (Some c.args.row))) c.new.ensures c.in_ok-insert.ensures.updates) (g.K.Keeper.state c.args.self.now.keeper.now).tables

pub returns-clause-works : goal.returns-clause-works
returns-clause-works g c =
    let es = c.args.self.now.changes.entries in
    let is = c.in_ok-insert.ensures.entries in
    let same = ap (length {A = Entry}) is in
    let long = length_put es c.new.result (Some c.args.row) in
    record { same_reference = refl; changes = omega (arith, same, long); removals = data_kept _ es _ c.args.row (ap (removals data_table) is); reads = reads_same _; shows = λ _. omega arith }
