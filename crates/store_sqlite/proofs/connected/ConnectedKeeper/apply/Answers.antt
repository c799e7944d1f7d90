use Rattle.std.proofs.Common.{◌≡◌, inl, inr, arith, ap, sym, ◌∙◌, true≢false}
use Rattle.store_kv.specs.Tables.{after}
use Rattle.store_sqlite.specs.Kept.{map_in}
use Rattle.sqlite.specs.Held.{state}
use Rattle.sqlite_trees.proofs.Doubt.{no_doubt}
use Rattle.store_sqlite.proofs.Refused.{keeps_on, was_open_on, stays_on, survives_on}
use Rattle.store_sqlite.proofs.Shown.{clean_if_open, steps, stays_told, crashes}
use Rattle.store_sqlite.proofs.connected.ConnectedKeeper.apply.Goals as goal

pub returns-in-Ok-true-clause-applied : goal.returns-in-Ok-true-clause-applied
returns-in-Ok-true-clause-applied g c told =
    let did = c.in-Ok-true.ensures.applied told.0.1 (clean_if_open g.S.Store g.met.S.Store.shut_if_dirty c.apply_all.new.conn told.1) in
    ((told.1, (did.1 told.1).0), (did.1 told.1).1 ∙ ap (λ l. after l (map_in (state g.S.Store c.args.self.now.conn).now.trees)) c.as_slice.ensures.value)

pub returns-in-Ok-true-clause-crash : goal.returns-in-Ok-true-clause-crash
returns-in-Ok-true-clause-crash g c =
    rw (sym c.as_slice.ensures.value) (crashes g.S.Store g.met.S.Store.shut_if_dirty c.args.self.now.conn c.apply_all.new.conn 0 0 c.args.self.now.shown c.args.self.now.shown 0 0 _ c.apply_all.ensures.crash)

pub returns-in-Ok-true-clause-steps : goal.returns-in-Ok-true-clause-steps
returns-in-Ok-true-clause-steps g c =
    steps g.S.Store g.met.S.Store.shut_if_dirty c.args.self.now.conn c.apply_all.new.conn c.args.self.now.refusals.count c.args.self.now.refusals.count c.args.self.now.shown c.args.self.now.shown _ _
    c.apply_all.ensures.keeps c.apply_all.ensures.was_open (omega arith) (λ clean. inl (c.in-Ok-true.ensures.trusted clean c.in-Ok-true.field-0-test)) c.apply_all.ensures.shut

pub returns-in-Err-clause-refused : goal.returns-in-Err-clause-refused
returns-in-Err-clause-refused g c =
    let old = state g.S.Store c.args.self.now.conn in
    let mid = state g.S.Store c.apply_all.new.conn in
    let new = state g.S.Store c.refuse_call.new.conn in
    let did = c.apply_all.ensures in
    let then = c.refuse_call.ensures in
    stays_told g.S.Store g.met.S.Store.shut_if_dirty c.args.self.now.conn c.refuse_call.new.conn c.args.self.now.refusals.count c.refuse_call.new.refusals.count c.args.self.now.shown c.args.self.now.shown c.args.self.now.written c.args.self.now.written
    (stays_on old mid new then.keeps then.was_open then.stays c.in-Err.ensures.refused)

pub returns-in-Err-clause-crash : goal.returns-in-Err-clause-crash
returns-in-Err-clause-crash g c =
    let old = state g.S.Store c.args.self.now.conn in
    let mid = state g.S.Store c.apply_all.new.conn in
    let new = state g.S.Store c.refuse_call.new.conn in
    let did = c.apply_all.ensures in
    let then = c.refuse_call.ensures in
    rw (sym c.as_slice.ensures.value) (crashes g.S.Store g.met.S.Store.shut_if_dirty c.args.self.now.conn c.refuse_call.new.conn 0 0 c.args.self.now.shown c.args.self.now.shown 0 0 (after c.as_slice.result.now (map_in old.now.trees))
    (λ ready. survives_on old mid new then.keeps (λ db. map_in db ≡ after c.as_slice.result.now (map_in old.now.trees)) (did.crash ready) then.survives))

pub returns-in-Err-clause-steps : goal.returns-in-Err-clause-steps
returns-in-Err-clause-steps g c =
    let old = state g.S.Store c.args.self.now.conn in
    let mid = state g.S.Store c.apply_all.new.conn in
    let new = state g.S.Store c.refuse_call.new.conn in
    let did = c.apply_all.ensures in
    let then = c.refuse_call.ensures in
    steps g.S.Store g.met.S.Store.shut_if_dirty c.args.self.now.conn c.refuse_call.new.conn c.args.self.now.refusals.count c.refuse_call.new.refusals.count c.args.self.now.shown c.args.self.now.shown _ _
    (keeps_on old mid new then.keeps did.keeps) (was_open_on old mid new then.keeps then.was_open did.was_open) then.counts then.seen (λ shut. survives_on old mid new then.keeps (λ _. ⊥) (did.shut shut) then.survives)

pub returns-in-Ok-false-clause-refused : goal.returns-in-Ok-false-clause-refused
returns-in-Ok-false-clause-refused g c told =
    let did = c.in-Ok-false.ensures.applied told.0.1 (clean_if_open g.S.Store g.met.S.Store.shut_if_dirty c.apply_all.new.conn told.1) in
    absurd (true≢false (sym did.0 ∙ c.in-Ok-false.field-0-test))

pub returns-in-Ok-false-clause-crash : goal.returns-in-Ok-false-clause-crash
returns-in-Ok-false-clause-crash g c =
    rw (sym c.as_slice.ensures.value) (crashes g.S.Store g.met.S.Store.shut_if_dirty c.args.self.now.conn c.apply_all.new.conn 0 0 c.args.self.now.shown c.args.self.now.shown 0 0 _ c.apply_all.ensures.crash)

pub returns-in-Ok-false-clause-steps : goal.returns-in-Ok-false-clause-steps
returns-in-Ok-false-clause-steps g c =
    steps g.S.Store g.met.S.Store.shut_if_dirty c.args.self.now.conn c.apply_all.new.conn c.args.self.now.refusals.count _ c.args.self.now.shown c.args.self.now.shown _ _
    c.apply_all.ensures.keeps c.apply_all.ensures.was_open c.add.ensures.counts (λ _. inr (omega (arith, c.add.ensures.count))) c.apply_all.ensures.shut

pub returns-in-Ok-true-clause-trusted : goal.returns-in-Ok-true-clause-trusted
returns-in-Ok-true-clause-trusted g c _ clean = c.in-Ok-true.ensures.trusted (no_doubt _ clean) c.in-Ok-true.field-0-test
