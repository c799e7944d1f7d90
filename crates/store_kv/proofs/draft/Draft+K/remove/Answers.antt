use Rattle.std.proofs.Common.{ap, subst, Some, None, ℕ, length, arith, refl}
use Rattle.std.specs.BTreeMap.{Updates}
use Rattle.store_kv.specs.Tables.{Place, place_cmp}
use Rattle.store_kv.proofs.Laid.{laid-updates}
use Rattle.store_kv.specs.Laid.{Entry, removals}
use Rattle.store_kv.specs.State.{data_table, data_rows}
use Rattle.store_kv.proofs.Counted.{length_put, data_gone}
use Rattle.store_kv.proofs.Calls.{reads_same}
use Rattle.store_kv.proofs.draft.Draft+K.remove.Goals as goal

pub returns-clause-ok : goal.returns-clause-ok
returns-clause-ok g c =
    laid-updates c.args.self.now.changes c.insert.new.self (c.args.table, c.args.key) None
    (subst (λ (q : Place). Updates place_cmp c.args.self.now.changes c.insert.new.self q (Some None)) c.new.ensures c.in_ok-insert.ensures.updates) (g.K.Keeper.state c.args.self.now.keeper.now).tables

pub returns-clause-works : goal.returns-clause-works
returns-clause-works g c =
    let es = c.args.self.now.changes.entries in
    let is = c.in_ok-insert.ensures.entries in
    let same = ap (length {A = Entry}) is in
    let long = length_put es c.new.result None in
    let gone = data_gone es c.new.result in
    let at = ap {B = ℕ} (λ (q : Place). data_rows q.0 1) c.new.ensures in
    let few = ap (removals data_table) is in
    record { same_reference = refl; changes = omega (arith, same, long); removals = omega (arith, gone, few, at); reads = reads_same _; shows = λ _. omega arith }
