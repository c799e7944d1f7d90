use Rattle.std.proofs.Common.{Err, Ok, subst, sym}
use Rattle.base_lemmas.proofs.Results.{err_from_parts as handed_on}
use Rattle.cmd_load.specs.Inputs.{input_plan}
use Rattle.model.specs.Callers.{named_by}
use Rattle.commands.specs.Load.{planned_printed}
use Rattle.commands.specs.Loading.{IsInput, IsInputOf, PrintsBy}
use Rattle.commands.specs.Stops.{of_input}
use Rattle.commands.proofs.Batching.{some_told}
use Rattle.commands.proofs.Planned.{input_refused, rows_fell, rows_printed_by, unread}
use Rattle.commands.proofs.load.print_into.Goals as goal

pub returns-in_err-input-clause-prints : goal.returns-in_err-input-clause-prints
returns-in_err-input-clause-prints g c told w s x is =
    let words = c.args.words.now in
    let key = named_by words.org.now words.user.now words.secret.now in
    let k = g.K.Keeper.state c.args.keeper.now in
    let coming = g.C.Clock.coming c.args.clock.now in
    let old = g.W.Sink.written c.args.sink.now in
    let fail = c.in_err-input.field-0.0 in
    let bytes = some_told (g.S.Source.left c.args.source.now) in (
      bytes.0,
      bytes.1,
      subst (λ r. PrintsBy (λ moments. planned_printed key moments w (input_plan x bytes.0)) w coming old old r k) (sym (handed_on c.from_residual.result (of_input fail) c.from_residual.ensures))
          (unread key w coming old k (told.0, s) (input_plan x bytes.0) fail),
    )

pub returns-in-Ok-clause-prints : goal.returns-in-Ok-clause-prints
returns-in-Ok-clause-prints g c told w s x is =
    let words = c.args.words.now in
    let key = named_by words.org.now words.user.now words.secret.now in
    let written = g.W.Sink.written in
    let input : IsInputOf c.args.target.now (g.S.Source.left c.args.source.now) (Ok c.in-Ok.input) = rw c.in-Ok.is at c.in_ok-input.ensures.input in
    let plan : IsInput (input_plan x input.0) (Ok c.in-Ok.input) = input.2 x is in (
      input.0,
      input.1,
      rows_printed_by key w (g.C.Clock.coming c.args.clock.now) (written c.args.sink.now) (written c.print_rows.new.sink) (g.K.Keeper.state c.print_rows.new.keeper) (input_plan x input.0) c.in-Ok.input c.print_rows.result plan
          (c.print_rows.ensures.prints told w s),
    )

pub returns-in-Ok-clause-falls : goal.returns-in-Ok-clause-falls
returns-in-Ok-clause-falls g c fallen w s x is =
    let words = c.args.words.now in
    let key = named_by words.org.now words.user.now words.secret.now in
    let written = g.W.Sink.written in
    let input : IsInputOf c.args.target.now (g.S.Source.left c.args.source.now) (Ok c.in-Ok.input) = rw c.in-Ok.is at c.in_ok-input.ensures.input in
    let plan : IsInput (input_plan x input.0) (Ok c.in-Ok.input) = input.2 x is in (
      input.0,
      input.1,
      rows_fell key w (g.C.Clock.coming c.args.clock.now) (written c.args.sink.now) (written c.print_rows.new.sink) (g.K.Keeper.state c.print_rows.new.keeper) (input_plan x input.0) c.in-Ok.input plan
          (c.print_rows.ensures.falls fallen w s),
    )

pub returns-in-Err-clause-prints : goal.returns-in-Err-clause-prints
returns-in-Err-clause-prints g c told w s x is =
    let words = c.args.words.now in
    let key = named_by words.org.now words.user.now words.secret.now in
    let written = g.W.Sink.written in
    let input : IsInputOf c.args.target.now (g.S.Source.left c.args.source.now) (Err c.in-Err.refusal) = rw c.in-Err.is at c.in_ok-input.ensures.input in
    let why : IsInput (input_plan x input.0) (Err c.in-Err.refusal) = input.2 x is in (
      input.0,
      input.1,
      input_refused key w (g.C.Clock.coming c.args.clock.now) (written c.args.sink.now) (written c.print_refusal.new.sink) (g.K.Keeper.state c.args.keeper.now) (input_plan x input.0) c.in-Err.refusal c.print_refusal.result why
          (c.print_refusal.ensures.prints w) (told.0, s),
    )
