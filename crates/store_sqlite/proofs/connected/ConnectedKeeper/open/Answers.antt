use Rattle.std.proofs.Common.{◌≡◌, inl, arith}
use Rattle.sqlite_trees.proofs.Doubt.{no_doubt}
use Rattle.sqlite.specs.Held.{state}
use Rattle.store_sqlite.specs.Kept.{map_in}
use Rattle.store_sqlite.proofs.Refused.{keeps_on, was_open_on, kept_on, survives_on}
use Rattle.store_sqlite.proofs.Shown.{steps, made_told, made_leaves}
use Rattle.store_sqlite.proofs.connected.ConnectedKeeper.open.Goals as goal

pub returns-in-Ok-clause-same : goal.returns-in-Ok-clause-same
returns-in-Ok-clause-same g c told = made_told g.S.Store g.met.S.Store.shut_if_dirty c.args.self.now.conn c.open_table.new.conn 0 0 c.args.self.now.shown c.args.self.now.shown 0 0 c.open_table.ensures.kept told

pub returns-in-Ok-clause-crash : goal.returns-in-Ok-clause-crash
returns-in-Ok-clause-crash g c told = made_leaves g.S.Store g.met.S.Store.stays c.args.self.now.conn c.open_table.new.conn told.0 told.1 (c.open_table.ensures.crash told.1)

pub returns-in-Ok-clause-steps : goal.returns-in-Ok-clause-steps
returns-in-Ok-clause-steps g c =
    steps g.S.Store g.met.S.Store.shut_if_dirty c.args.self.now.conn c.open_table.new.conn c.args.self.now.refusals.count c.args.self.now.refusals.count c.args.self.now.shown c.args.self.now.shown _ _
    c.open_table.ensures.keeps c.open_table.ensures.was_open (omega arith) (λ clean. inl (c.in-Ok.ensures.trusted clean)) c.open_table.ensures.shut

pub returns-in-Ok-clause-trusted : goal.returns-in-Ok-clause-trusted
returns-in-Ok-clause-trusted g c _ clean = c.in-Ok.ensures.trusted (no_doubt _ clean)

pub returns-in-Err-clause-same : goal.returns-in-Err-clause-same
returns-in-Err-clause-same g c told =
    let old = state g.S.Store c.args.self.now.conn in
    let mid = state g.S.Store c.open_table.new.conn in
    let new = state g.S.Store c.refuse_call.new.conn in
    let did = c.open_table.ensures in
    let then = c.refuse_call.ensures in
    made_told g.S.Store g.met.S.Store.shut_if_dirty c.args.self.now.conn c.refuse_call.new.conn 0 0 c.args.self.now.shown c.args.self.now.shown 0 0 (kept_on old mid new then.keeps then.was_open then.stays did.kept) told

pub returns-in-Err-clause-crash : goal.returns-in-Err-clause-crash
returns-in-Err-clause-crash g c told =
    let old = state g.S.Store c.args.self.now.conn in
    let mid = state g.S.Store c.open_table.new.conn in
    let new = state g.S.Store c.refuse_call.new.conn in
    let did = c.open_table.ensures in
    let then = c.refuse_call.ensures in
    made_leaves g.S.Store g.met.S.Store.stays c.args.self.now.conn c.refuse_call.new.conn told.0 told.1 (survives_on old mid new then.keeps (λ db. map_in db ≡ map_in old.now.trees) (did.crash told.1) then.survives)

pub returns-in-Err-clause-steps : goal.returns-in-Err-clause-steps
returns-in-Err-clause-steps g c =
    let old = state g.S.Store c.args.self.now.conn in
    let mid = state g.S.Store c.open_table.new.conn in
    let new = state g.S.Store c.refuse_call.new.conn in
    let did = c.open_table.ensures in
    let then = c.refuse_call.ensures in
    steps g.S.Store g.met.S.Store.shut_if_dirty c.args.self.now.conn c.refuse_call.new.conn c.args.self.now.refusals.count c.refuse_call.new.refusals.count c.args.self.now.shown c.args.self.now.shown _ _
    (keeps_on old mid new then.keeps did.keeps) (was_open_on old mid new then.keeps then.was_open did.was_open) then.counts then.seen (λ shut. survives_on old mid new then.keeps (λ _. ⊥) (did.shut shut) then.survives)
