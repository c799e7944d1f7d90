use Rattle.std.proofs.Common.{◌≡◌, ◌≤◌, ◌+◌, inl, arith, ap, refl, ◌∙◌, map, length, slice_index, ◌-◌, ◌^◌}
use Rattle.base_value.specs.Causes.{up_to_last}
use Rattle.store_sqlite.specs.inner.Steps.{kept_row}
use Rattle.sqlite_trees.proofs.Doubt.{no_doubt}
use Rattle.store_sqlite.proofs.Scan.{map_take}
use Rattle.sqlite.specs.Held.{state}
use Rattle.store_sqlite.proofs.Refused.{keeps_on, was_open_on, stays_on, survives_on}
use Rattle.store_sqlite.proofs.Shown.{clean_if_open, reads, counted_by}
use Rattle.store_sqlite.proofs.connected.ConnectedKeeper.scan.Goals as goal

pub returns-in-Err-clause-reads : goal.returns-in-Err-clause-reads
returns-in-Err-clause-reads g c =
    let old = state g.S.Store c.args.self.now.conn in
    let mid = state g.S.Store c.rows_in.new.conn in
    let new = state g.S.Store c.refuse_call.new.conn in
    let did = c.rows_in.ensures in
    let then = c.refuse_call.ensures in
    reads g.S.Store g.met.S.Store.shut_if_dirty c.args.self.now.conn c.refuse_call.new.conn c.args.self.now.refusals.count c.refuse_call.new.refusals.count c.args.self.now.shown c.args.self.now.shown c.args.self.now.written c.args.self.now.written
    (keeps_on old mid new then.keeps did.keeps) (was_open_on old mid new then.keeps then.was_open did.was_open) then.counts then.seen (stays_on old mid new then.keeps then.was_open then.stays did.stays)
    (survives_on old mid new then.keeps (λ _. ⊥) did.survives then.survives) refl

pub returns-clause-reads : goal.returns-clause-reads
returns-clause-reads g c =
    reads g.S.Store g.met.S.Store.shut_if_dirty c.args.self.now.conn c.rows_in.new.conn c.args.self.now.refusals.count c.refuse.new.self.count c.args.self.now.shown c.args.self.now.shown c.args.self.now.written c.args.self.now.written
    c.rows_in.ensures.keeps c.rows_in.ensures.was_open c.refuse.ensures.counts (λ clean. inl (c.in-Ok.ensures.trusted clean)) c.rows_in.ensures.stays c.rows_in.ensures.survives refl

pub returns-in-Ok-kept_rows-clause-reads : goal.returns-in-Ok-kept_rows-clause-reads
returns-in-Ok-kept_rows-clause-reads g c =
    reads g.S.Store g.met.S.Store.shut_if_dirty c.args.self.now.conn c.rows_in.new.conn c.args.self.now.refusals.count c.args.self.now.refusals.count c.args.self.now.shown _ c.args.self.now.written c.args.self.now.written
    c.rows_in.ensures.keeps c.rows_in.ensures.was_open (omega arith) (λ clean. inl (c.in-Ok.ensures.trusted clean)) c.rows_in.ensures.stays c.rows_in.ensures.survives refl

pub returns-in-Ok-kept_rows-clause-rows : goal.returns-in-Ok-kept_rows-clause-rows
returns-in-Ok-kept_rows-clause-rows g c told =
    let clean = clean_if_open g.S.Store g.met.S.Store.shut_if_dirty c.rows_in.new.conn told.1 in
    c.in-Ok-kept_rows.ensures ∙ ap (map kept_row) (c.as_slice.ensures.value ∙ c.truncate.ensures.items) ∙ map_take kept_row c.args.limit _ ∙ c.in-Ok.ensures.rows told.0.1 clean

pub returns-in-Ok-kept_rows-clause-trusted : goal.returns-in-Ok-kept_rows-clause-trusted
returns-in-Ok-kept_rows-clause-trusted g c _ clean = c.in-Ok.ensures.trusted (no_doubt _ clean)

pub returns-in-Ok-kept_rows-clause-shown : goal.returns-in-Ok-kept_rows-clause-shown
returns-in-Ok-kept_rows-clause-shown g c =
    let n = length c.in-Ok-kept_rows.all.items in
    let len : c.len.result ≡ n = c.len.ensures ∙ c.in-Ok-kept_rows.all.ok.0 in
    let bound : slice_index c.args.self.now.shown c.args.table ≤ 2 ^ 64 - 1 = omega arith in
    counted_by c.args.self.now.shown c.args.table c.saturating_add.result n (omega arith) bound (c.saturating_add.ensures ∙ ap (λ m. up_to_last (slice_index c.args.self.now.shown c.args.table + m)) len)
