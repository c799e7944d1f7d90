use Rattle.std.proofs.Common.{Ok, ◌⊎◌, ◌≡◌, ◌+◌, ◌<◌, Err, ap, arith, length, refl, rules, subst, sym}
use Rattle.base_lemmas.proofs.Results.{err_from_parts as handed_on}
use Rattle.store_kv.proofs.Calls.{steps_on, steps_same}
use Rattle.store_kv.specs.State.{Tells}
use Rattle.model.specs.Callers.{named_by}
use Rattle.store_abstraction.specs.Stands.{Stands}
use Rattle.commands.specs.Deeds.{Prints, one_deed, world_of}
use Rattle.commands.specs.Load.{batch_does}
use Rattle.commands.specs.Loading.{PrintsBy, read_printed}
use Rattle.commands.specs.Statuses.{KeepsWorld}
use Rattle.commands.specs.Stops.{behind, store_end}
use Rattle.commands.specs.declared.stop.Stop.TheVariants as stop
use Rattle.commands.proofs.Batching.{Failed, all_gone, failed, fell, full_next, goes_on, is_none, none_gone, not_none, one_text, positive, read_sizes, stopped}
use Rattle.commands.proofs.Loaded.{left_so, undone}
use Rattle.commands.proofs.load.print_batches.Goals as goal

pub batches-init : goal.batches-init
batches-init g c =
    let state = g.K.Keeper.state in
    let loading = c.args.loading.now in
    let key = named_by loading.org.now loading.user.now loading.secret.now in
    record {
      full = c.requires;
      steps = steps_same (state c.args.keeper.now);
      stays = λ trusted done clean. trusted;
      sink_stays = g.met.W.Sink.stays_refl c.args.sink.now;
      faults = omega arith;
      gone = λ told w s. none_gone key loading.plan.now c.args.first.items c.args.rows.now w (state c.args.keeper.now) (g.C.Clock.coming c.args.clock.now) (g.W.Sink.written c.args.sink.now) (told.0, s);
    }

pub batches-smaller : goal.batches-smaller
batches-smaller g c =
    let batch = c.batches.batch.items in
    let left = c.batches.rows.left in
    let next = c.in_ok-next.next.items in
    let more = c.next_batch.new.self.left in
    let some = positive (length batch) (not_none (length batch) c.is_empty.result (search rules) (search rules)) in
    let sizes = read_sizes next left more c.in_ok-next.ensures.cells c.in_ok-next.ensures.left in
    let less : length next + length more < length batch + length left = omega (arith, some, sizes) in
    less

pub batches-preserved : goal.batches-preserved
batches-preserved g c =
    let state = g.K.Keeper.state in
    let written = g.W.Sink.written in
    let coming = g.C.Clock.coming in
    let loading = c.args.loading.now in
    let key = named_by loading.org.now loading.user.now loading.secret.now in
    let plan = loading.plan.now in
    let a = state c.args.keeper.now in
    let b = state c.batches.keeper in
    let d = state c.print_tables.new.keeper in
    let before = c.batches.invariant in
    let next = c.in_ok-next.ensures in
    let unread = c.batches.rows in
    let later = c.next_batch.new.self in
    let batch = c.batches.batch.items in
    let some : length batch ≡ 0 → ⊥ = not_none (length batch) c.is_empty.result (search rules) (search rules) in
    record {
      full = full_next c.in_ok-next.next.items unread.left later.left next.cells next.left;
      steps = steps_on a b d before.steps c.print_tables.ensures.steps;
      stays = λ trusted done clean. c.in-Ok.ensures.acknowledged done clean;
      sink_stays = g.met.W.Sink.stays_trans c.args.sink.now c.batches.sink c.print_tables.new.sink before.sink_stays c.print_tables.ensures.sink_stays;
      faults = let last = c.print_tables.ensures.sink_cause.later in let first = before.faults in omega (arith, first, last);
      gone = λ told w s.
          let first : Tells a b = (told.0, c.print_tables.ensures.steps.stood told.1) in
          let h = before.gone first w s in
          let world = world_of w h.past in
          let its : Tells b d = (h.keeps.0, told.1) in
          let made = batch_does key plan batch world in
          goes_on key plan c.args.first.items c.args.rows.now w a (coming c.args.clock.now) (written c.args.sink.now) unread b (coming c.batches.clock) (written c.batches.sink) batch some before.full h later (coming c.next_batch.new.clock)
          (written c.print_tables.new.sink) d c.in_ok-next.next.items
          (one_text world made.0 made.1 made.1 (written c.batches.sink) (written c.print_tables.new.sink) c.in-Ok._status
          (subst (λ rows. let does = batch_does key plan rows world in Prints world (one_deed does.0 does.1) (written c.batches.sink) (written c.print_tables.new.sink) (Ok c.in-Ok._status) does.1) c.as_slice.ensures.value (c.in-Ok.ensures.prints its world h.keeps.1)))
          (subst (λ rows. KeepsWorld (batch_does key plan rows world).1 d) c.as_slice.ensures.value (c.in-Ok.ensures.keeps its world h.keeps.1)) next.cells next.left next.number next.asked;
    }

pub returns-in_err-next-clause-prints : goal.returns-in_err-next-clause-prints
returns-in_err-next-clause-prints g c told w s =
    let state = g.K.Keeper.state in
    let written = g.W.Sink.written in
    let coming = g.C.Clock.coming in
    let loading = c.args.loading.now in
    let key = named_by loading.org.now loading.user.now loading.secret.now in
    let plan = loading.plan.now in
    let before = c.batches.invariant in
    let some : length c.batches.batch.items ≡ 0 → ⊥ = not_none (length c.batches.batch.items) c.is_empty.result (search rules) (search rules) in
    subst (λ r. PrintsBy (λ moments. read_printed key plan c.args.first.items c.args.rows.now moments w) w (coming c.args.clock.now) (written c.args.sink.now) (written c.batches.sink) r (state c.batches.keeper))
    (sym (handed_on c.from_residual.result stop.NoMemory c.from_residual.ensures))
    (stopped key plan c.args.first.items c.args.rows.now w (state c.args.keeper.now) (coming c.args.clock.now) (written c.args.sink.now) c.batches.rows (state c.batches.keeper) (coming c.batches.clock) (written c.batches.sink) c.batches.batch.items some before.full (before.gone told w s))

pub returns-in-Err-clause-prints : goal.returns-in-Err-clause-prints
returns-in-Err-clause-prints g c told w s =
    let state = g.K.Keeper.state in
    let written = g.W.Sink.written in
    let coming = g.C.Clock.coming in
    let loading = c.args.loading.now in
    let key = named_by loading.org.now loading.user.now loading.secret.now in
    let plan = loading.plan.now in
    let b = state c.batches.keeper in
    let d = state c.print_tables.new.keeper in
    let before = c.batches.invariant in
    let some : length c.batches.batch.items ≡ 0 → ⊥ = not_none (length c.batches.batch.items) c.is_empty.result (search rules) (search rules) in
    let first : Tells (state c.args.keeper.now) b = (told.0, c.print_tables.ensures.steps.stood told.1) in
    let h = before.gone first w s in
    let world = world_of w h.past in
    let its : Tells b d = (h.keeps.0, told.1) in
    subst (λ r. PrintsBy (λ moments. read_printed key plan c.args.first.items c.args.rows.now moments w) w (coming c.args.clock.now) (written c.args.sink.now) (written c.print_tables.new.sink) (Err r) d)
    (sym c.later_stop.ensures)
    (failed key plan c.args.first.items c.args.rows.now w (state c.args.keeper.now) (coming c.args.clock.now) (written c.args.sink.now) c.batches.rows b (coming c.batches.clock) (written c.batches.sink) c.batches.batch.items some before.full h
    c.in-Err.stop (written c.print_tables.new.sink) d
    (subst (λ rows. let does = batch_does key plan rows world in Prints world (one_deed does.0 does.1) (written c.batches.sink) (written c.print_tables.new.sink) (store_end (Err c.in-Err.stop)) (behind world does.1 (store_end (Failed c.in-Err.stop)))) c.as_slice.ensures.value
    (c.in-Err.ensures.prints its world h.keeps.1))
    (subst (λ rows. KeepsWorld (behind world (batch_does key plan rows world).1 (store_end (Failed c.in-Err.stop))) d) c.as_slice.ensures.value (c.in-Err.ensures.keeps its world h.keeps.1)))

pub returns-in-Err-clause-falls : goal.returns-in-Err-clause-falls
returns-in-Err-clause-falls g c fallen w s =
    let state = g.K.Keeper.state in
    let written = g.W.Sink.written in
    let coming = g.C.Clock.coming in
    let loading = c.args.loading.now in
    let key = named_by loading.org.now loading.user.now loading.secret.now in
    let plan = loading.plan.now in
    let a = state c.args.keeper.now in
    let b = state c.batches.keeper in
    let d = state c.print_tables.new.keeper in
    let before = c.batches.invariant in
    let some : length c.batches.batch.items ≡ 0 → ⊥ = not_none (length c.batches.batch.items) c.is_empty.result (search rules) (search rules) in
    let trusted = before.stays fallen.1 refl (c.print_tables.ensures.steps.was_clean fallen.3) in
    let first : Tells a b = (fallen.0, trusted) in
    let h = before.gone first w s in
    let world = world_of w h.past in
    let none = undone d c.in-Err.stop c.in-Err.ensures.acknowledged fallen.2 fallen.3 in
    fell key plan c.args.first.items c.args.rows.now w a (coming c.args.clock.now) (written c.args.sink.now) c.batches.rows b (coming c.batches.clock) (written c.batches.sink) c.batches.batch.items some before.full h
    (written c.print_tables.new.sink) d (ap written (c.in-Err.ensures.unwritten none))
    (left_so b d world (batch_does key plan c.batches.batch.items world).1 (g.met.K.Keeper.settled c.batches.keeper h.keeps.0 trusted) h.keeps.1
    (λ m left. subst (λ rows. b.may_leave m ⊎ Stands m (batch_does key plan rows world).1) c.as_slice.ensures.value (c.in-Err.ensures.crash h.keeps.0 trusted fallen.3 world h.keeps.1 m left)))

pub returns-clause-prints : goal.returns-clause-prints
returns-clause-prints g c told w s =
    let state = g.K.Keeper.state in
    let written = g.W.Sink.written in
    let coming = g.C.Clock.coming in
    let loading = c.args.loading.now in
    let key = named_by loading.org.now loading.user.now loading.secret.now in
    let before = c.batches.invariant in
    let none : length c.batches.batch.items ≡ 0 = is_none (length c.batches.batch.items) c.is_empty.result (search rules) (search rules) in
    all_gone key loading.plan.now c.args.first.items c.args.rows.now w (state c.args.keeper.now) (coming c.args.clock.now) (written c.args.sink.now) c.batches.batch.items c.batches.rows (state c.batches.keeper) (coming c.batches.clock) (written c.batches.sink)
    none before.full (before.gone told w s)
