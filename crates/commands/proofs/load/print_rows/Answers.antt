use Rattle.std.proofs.Common.{◌≡◌, ◌∙◌, ◌+◌, ap, drop, length, map, subst, sym, take, ℕ}
use Rattle.std.specs.Io.KnownBytes.{Appends}
use Rattle.base_lemmas.proofs.Results.{err_from_parts as handed_on}
use Rattle.cmd_load.specs.Batches.{AskedInTurn, AskedRow, batch_rows}
use Rattle.cmd_load.specs.Inputs.{AreRows}
use Rattle.cmd_load_plan.specs.Rows.{heading_line}
use Rattle.base_io.specs.Streams.{AppendsFront}
use Rattle.model.specs.Callers.{named_by}
use Rattle.commands.specs.Load.{behind_heading, rows_printed}
use Rattle.commands.specs.Loading.{PrintsBy}
use Rattle.commands.specs.declared.stop.Stop.TheVariants as stop
use Rattle.commands.proofs.Batching.{full_next}
use Rattle.commands.proofs.Heading.{falls_behind, prints_behind, sink_failed, unwritten}
use Rattle.commands.proofs.load.print_rows.Goals as goal

pub returns-in_err-rows-clause-prints : goal.returns-in_err-rows-clause-prints
returns-in_err-rows-clause-prints g c told w s rows are =
    let words = c.args.words.now in
    let key = named_by words.org.now words.user.now words.secret.now in
    let plan = c.args.input.now.plan in
    let k = g.K.Keeper.state c.args.keeper.now in
    let coming = g.C.Clock.coming c.args.clock.now in
    let old = g.W.Sink.written c.args.sink.now in
    subst (λ r. PrintsBy (λ moments. behind_heading w (rows_printed key plan 1 rows moments w)) w coming old old r k) (sym (handed_on c.from_residual.result stop.NoMemory c.from_residual.ensures))
    (unwritten key plan rows w coming old k (told.0, s))

pub returns-in_err-first-clause-prints : goal.returns-in_err-first-clause-prints
returns-in_err-first-clause-prints g c told w s rows are =
    let words = c.args.words.now in
    let key = named_by words.org.now words.user.now words.secret.now in
    let plan = c.args.input.now.plan in
    let k = g.K.Keeper.state c.args.keeper.now in
    let coming = g.C.Clock.coming c.args.clock.now in
    let old = g.W.Sink.written c.args.sink.now in
    subst (λ r. PrintsBy (λ moments. behind_heading w (rows_printed key plan 1 rows moments w)) w coming old old r k) (sym (handed_on c.from_residual-in_err-first.result stop.NoMemory c.from_residual-in_err-first.ensures))
    (unwritten key plan rows w coming old k (told.0, s))

pub returns-in_err-heading-clause-prints : goal.returns-in_err-heading-clause-prints
returns-in_err-heading-clause-prints g c told w s rows are =
    let words = c.args.words.now in
    let key = named_by words.org.now words.user.now words.secret.now in
    let plan = c.args.input.now.plan in
    let k = g.K.Keeper.state c.args.keeper.now in
    let coming = g.C.Clock.coming c.args.clock.now in
    let old = g.W.Sink.written c.args.sink.now in
    subst (λ r. PrintsBy (λ moments. behind_heading w (rows_printed key plan 1 rows moments w)) w coming old old r k) (sym (handed_on c.from_residual-in_err-heading.result stop.NoMemory c.from_residual-in_err-heading.ensures))
    (unwritten key plan rows w coming old k (told.0, s))

pub returns-in_err-write_all-clause-prints : goal.returns-in_err-write_all-clause-prints
returns-in_err-write_all-clause-prints g c told w s rows are =
    let words = c.args.words.now in
    let key = named_by words.org.now words.user.now words.secret.now in
    let plan = c.args.input.now.plan in
    let k = g.K.Keeper.state c.args.keeper.now in
    let coming = g.C.Clock.coming c.args.clock.now in
    let old = g.W.Sink.written c.args.sink.now in
    let new = g.W.Sink.written c.write_all.new.sink in
    let front : AppendsFront old new heading_line = subst (AppendsFront old new) (c.as_slice-2.ensures ∙ c.in_ok-heading.ensures) c.in_err-write_all.ensures.err in
    subst (λ r. PrintsBy (λ moments. behind_heading w (rows_printed key plan 1 rows moments w)) w coming old new r k) (sym (handed_on c.from_residual-in_err-write_all.result stop.SinkFailed c.from_residual-in_err-write_all.ensures))
    (sink_failed key plan rows w coming old new k (told.0, s) front)

pub print_batches-requires : goal.print_batches-requires
print_batches-requires g c = full_next c.in_ok-first.first.items c.in_ok-rows.rows.left c.next_batch.new.self.left c.in_ok-first.ensures.cells c.in_ok-first.ensures.left

pub returns-clause-prints : goal.returns-clause-prints
returns-clause-prints g c told w s rows are =
    let words = c.args.words.now in
    let key = named_by words.org.now words.user.now words.secret.now in
    let plan = c.args.input.now.plan in
    let coming = g.C.Clock.coming in
    let written = g.W.Sink.written in
    let first = c.in_ok-first.first.items in
    let start = c.next_batch.new.self in
    let line : Appends (written c.args.sink.now) (written c.write_all.new.sink) heading_line = subst (Appends (written c.args.sink.now) (written c.write_all.new.sink)) (c.as_slice-2.ensures ∙ c.in_ok-heading.ensures) c.in_ok-write_all.ensures.ok in
    let left = c.in_ok-rows.ensures.left rows (subst (AreRows rows) (sym c.as_slice.ensures) are) in
    let taken : map (λ (r : AskedRow). r.cells) first ≡ take batch_rows rows = c.in_ok-first.ensures.cells ∙ ap (take batch_rows) left in
    let dropped : start.left ≡ drop batch_rows rows = c.in_ok-first.ensures.left ∙ ap (drop batch_rows) left in
    let number : start.number ≡ 1 + length first = c.in_ok-first.ensures.number ∙ ap (λ (n : ℕ). n + length first) c.in_ok-rows.ensures.number in
    let asked = subst (λ (n : ℕ). AskedInTurn (coming c.args.clock.now) (coming c.next_batch.new.clock) n first) c.in_ok-rows.ensures.number c.in_ok-first.ensures.asked in
    prints_behind key plan rows w (coming c.args.clock.now) (coming c.next_batch.new.clock) (written c.args.sink.now) (written c.write_all.new.sink) (written c.print_batches.new.sink) first start line taken dropped number asked
    c.print_batches.result (g.K.Keeper.state c.print_batches.new.keeper) (c.print_batches.ensures.prints told w s)

pub returns-clause-falls : goal.returns-clause-falls
returns-clause-falls g c fallen w s rows are =
    let words = c.args.words.now in
    let key = named_by words.org.now words.user.now words.secret.now in
    let plan = c.args.input.now.plan in
    let coming = g.C.Clock.coming in
    let written = g.W.Sink.written in
    let first = c.in_ok-first.first.items in
    let start = c.next_batch.new.self in
    let line : Appends (written c.args.sink.now) (written c.write_all.new.sink) heading_line = subst (Appends (written c.args.sink.now) (written c.write_all.new.sink)) (c.as_slice-2.ensures ∙ c.in_ok-heading.ensures) c.in_ok-write_all.ensures.ok in
    let left = c.in_ok-rows.ensures.left rows (subst (AreRows rows) (sym c.as_slice.ensures) are) in
    let taken : map (λ (r : AskedRow). r.cells) first ≡ take batch_rows rows = c.in_ok-first.ensures.cells ∙ ap (take batch_rows) left in
    let dropped : start.left ≡ drop batch_rows rows = c.in_ok-first.ensures.left ∙ ap (drop batch_rows) left in
    let number : start.number ≡ 1 + length first = c.in_ok-first.ensures.number ∙ ap (λ (n : ℕ). n + length first) c.in_ok-rows.ensures.number in
    let asked = subst (λ (n : ℕ). AskedInTurn (coming c.args.clock.now) (coming c.next_batch.new.clock) n first) c.in_ok-rows.ensures.number c.in_ok-first.ensures.asked in
    falls_behind key plan rows w (coming c.args.clock.now) (coming c.next_batch.new.clock) (written c.args.sink.now) (written c.write_all.new.sink) (written c.print_batches.new.sink) first start line taken dropped number asked
    (g.K.Keeper.state c.print_batches.new.keeper) (c.print_batches.ensures.falls fallen w s)
