use Rattle.std.proofs.Common.{inl, arith, ap, sym, refl, ◌∙◌, Some, option_copied, slice_get}
use Rattle.sqlite_trees.proofs.Doubt.{no_doubt}
use Rattle.sqlite.specs.Held.{state}
use Rattle.store_sqlite.proofs.Refused.{keeps_on, was_open_on, stays_on, survives_on}
use Rattle.store_sqlite.proofs.Shown.{clean_if_open, reads, no_blob, one_blob, counted}
use Rattle.store_sqlite.proofs.connected.ConnectedKeeper.get.Goals as goal

pub returns-in-Err-clause-reads : goal.returns-in-Err-clause-reads
returns-in-Err-clause-reads g c =
    let old = state g.S.Store c.args.self.now.conn in
    let mid = state g.S.Store c.rows_at.new.conn in
    let new = state g.S.Store c.refuse_call.new.conn in
    let did = c.rows_at.ensures in
    let then = c.refuse_call.ensures in
    reads g.S.Store g.met.S.Store.shut_if_dirty c.args.self.now.conn c.refuse_call.new.conn c.args.self.now.refusals.count c.refuse_call.new.refusals.count c.args.self.now.shown c.args.self.now.shown c.args.self.now.written c.args.self.now.written
    (keeps_on old mid new then.keeps did.keeps) (was_open_on old mid new then.keeps then.was_open did.was_open) then.counts then.seen (stays_on old mid new then.keeps then.was_open then.stays did.stays)
    (survives_on old mid new then.keeps (λ _. ⊥) did.survives then.survives) refl

pub returns-in_default-clause-reads : goal.returns-in_default-clause-reads
returns-in_default-clause-reads g c =
    reads g.S.Store g.met.S.Store.shut_if_dirty c.args.self.now.conn c.rows_at.new.conn c.args.self.now.refusals.count c.args.self.now.refusals.count c.args.self.now.shown c.args.self.now.shown c.args.self.now.written c.args.self.now.written
    c.rows_at.ensures.keeps c.rows_at.ensures.was_open (omega arith) (λ clean. inl (c.in-Ok.ensures.trusted clean)) c.rows_at.ensures.stays c.rows_at.ensures.survives refl

pub returns-in_default-clause-row : goal.returns-in_default-clause-row
returns-in_default-clause-row g c told =
    let row = c.in-Ok.ensures.row told.0.1 (clean_if_open g.S.Store g.met.S.Store.shut_if_dirty c.rows_at.new.conn told.1) in
    no_blob _ (sym (ap option_copied c.in_default.is) ∙ c.first.ensures.value ∙ ap (λ l. slice_get l 0) c.deref.ensures.value ∙ row)

pub returns-in-Ok-get-clause-row : goal.returns-in-Ok-get-clause-row
returns-in-Ok-get-clause-row g c told =
    let row = c.in-Ok.ensures.row told.0.1 (clean_if_open g.S.Store g.met.S.Store.shut_if_dirty c.rows_at.new.conn told.1) in
    ap Some c.from_vec.ensures ∙ one_blob _ c.in-Some.row.now c.in-Ok-get.bytes.items (sym (ap option_copied c.in-Some.is) ∙ c.first.ensures.value ∙ ap (λ l. slice_get l 0) c.deref.ensures.value ∙ row) c.in-Ok-get.ensures.ok.1

pub returns-in-Ok-get-clause-shown : goal.returns-in-Ok-get-clause-shown
returns-in-Ok-get-clause-shown g c = counted c.args.self.now.shown c.args.table c.saturating_add.result (omega arith) c.saturating_add.ensures

pub returns-in-Ok-get-clause-reads : goal.returns-in-Ok-get-clause-reads
returns-in-Ok-get-clause-reads g c =
    reads g.S.Store g.met.S.Store.shut_if_dirty c.args.self.now.conn c.rows_at.new.conn c.args.self.now.refusals.count c.args.self.now.refusals.count c.args.self.now.shown _ c.args.self.now.written c.args.self.now.written
    c.rows_at.ensures.keeps c.rows_at.ensures.was_open (omega arith) (λ clean. inl (c.in-Ok.ensures.trusted clean)) c.rows_at.ensures.stays c.rows_at.ensures.survives refl

pub returns-clause-reads : goal.returns-clause-reads
returns-clause-reads g c =
    reads g.S.Store g.met.S.Store.shut_if_dirty c.args.self.now.conn c.rows_at.new.conn c.args.self.now.refusals.count c.refuse.new.self.count c.args.self.now.shown c.args.self.now.shown c.args.self.now.written c.args.self.now.written
    c.rows_at.ensures.keeps c.rows_at.ensures.was_open c.refuse.ensures.counts (λ clean. inl (c.in-Ok.ensures.trusted clean)) c.rows_at.ensures.stays c.rows_at.ensures.survives refl

pub returns-in_default-clause-trusted : goal.returns-in_default-clause-trusted
returns-in_default-clause-trusted g c _ clean = c.in-Ok.ensures.trusted (no_doubt _ clean)

pub returns-in-Ok-get-clause-trusted : goal.returns-in-Ok-get-clause-trusted
returns-in-Ok-get-clause-trusted g c _ clean = c.in-Ok.ensures.trusted (no_doubt _ clean)
