use Rattle.std.proofs.Common.{Err, Ok, refl, subst, sym}
use Rattle.base_lemmas.proofs.Results.{err_from_parts as handed_on}
use Rattle.cmd_load.specs.Targets.{IsTargetFound, named_object}
use Rattle.store_kv.specs.State.{Tells}
use Rattle.store_kv.specs.Tables.{Tables}
use Rattle.model.specs.Callers.{named_by}
use Rattle.commands.specs.Statuses.{Fell}
use Rattle.store_abstraction.specs.Stands.{Stands}
use Rattle.commands.specs.Load.{load_printed, planned_for}
use Rattle.commands.specs.Loading.{PrintsBy}
use Rattle.commands.specs.Stops.{of_opening}
use Rattle.commands.proofs.Batching.{some_told}
use Rattle.commands.proofs.Planned.{fell_before, fell_found, not_damaged, object_refused, printed_found, unopened, version_after}
use Rattle.commands.proofs.load.print_load.Goals as goal

pub returns-in_err-target-clause-prints : goal.returns-in_err-target-clause-prints
returns-in_err-target-clause-prints g c told w s =
    let words = c.args.words.now in
    let key = named_by words.org.now words.user.now words.secret.now in
    let object = words.object.now in
    let expected = named_object key object w in
    let k = g.K.Keeper.state c.find_object.new.keeper in
    let coming = g.C.Clock.coming c.args.clock.now in
    let old = g.W.Sink.written c.args.sink.now in
    let fail = c.in_err-target.field-0.0 in
    let shown = c.find_object.ensures.same told in
    let bytes = some_told (g.S.Source.left c.args.source.now) in (
      bytes.0,
      bytes.1,
      subst (λ r. PrintsBy (λ moments. load_printed key object bytes.0 moments w) w coming old old r k) (sym (handed_on c.from_residual.result (of_opening fail) c.from_residual.ensures))
          (unopened key w coming old k (shown.0, subst (λ (m : Tables). Stands m w) (sym shown.1) s) (planned_for bytes.0 expected) expected fail (c.in_err-target.ensures.finds told w s)),
    )

pub returns-in_err-target-clause-falls : goal.returns-in_err-target-clause-falls
returns-in_err-target-clause-falls g c fallen w s =
    let words = c.args.words.now in
    let key = named_by words.org.now words.user.now words.secret.now in
    let state = g.K.Keeper.state in
    let bytes = some_told (g.S.Source.left c.args.source.now) in (
      bytes.0,
      bytes.1,
      fell_before key w (g.C.Clock.coming c.args.clock.now) (g.W.Sink.written c.args.sink.now) (state c.args.keeper.now) (state c.find_object.new.keeper) (planned_for bytes.0 (named_object key words.object.now w))
          (g.met.K.Keeper.settled c.args.keeper.now fallen.0 fallen.1) s (c.find_object.ensures.crash fallen.0 fallen.3),
    )

pub returns-in-Ok-clause-prints : goal.returns-in-Ok-clause-prints
returns-in-Ok-clause-prints g c told w s =
    let words = c.args.words.now in
    let key = named_by words.org.now words.user.now words.secret.now in
    let expected = named_object key words.object.now w in
    let state = g.K.Keeper.state in
    let written = g.W.Sink.written in
    let first : Tells (state c.args.keeper.now) (state c.find_object.new.keeper) = (told.0, c.print_into.ensures.ends.steps.stood told.1) in
    let shown = c.find_object.ensures.same first in
    let found : IsTargetFound expected (Ok c.in-Ok.target) = rw c.in-Ok.is at c.in_ok-target.ensures.finds first w s in
    printed_found key w (g.S.Source.left c.args.source.now) (g.C.Clock.coming c.args.clock.now) (written c.args.sink.now) (written c.print_into.new.sink) (state c.print_into.new.keeper) expected c.in-Ok.target c.print_into.result found
    (c.print_into.ensures.prints (shown.0, told.1) w (subst (λ (m : Tables). Stands m w) (sym shown.1) s))

pub returns-in-Ok-clause-falls : goal.returns-in-Ok-clause-falls
returns-in-Ok-clause-falls g c fallen w s =
    let words = c.args.words.now in
    let key = named_by words.org.now words.user.now words.secret.now in
    let expected = named_object key words.object.now w in
    let state = g.K.Keeper.state in
    let written = g.W.Sink.written in
    let trusted = c.in_ok-target.ensures.trusted refl (c.print_into.ensures.ends.steps.was_clean fallen.3) in
    let first : Tells (state c.args.keeper.now) (state c.find_object.new.keeper) = (fallen.0, trusted) in
    let shown = c.find_object.ensures.same first in
    let later : Fell (state c.find_object.new.keeper) (state c.print_into.new.keeper) = (shown.0, trusted, fallen.2, fallen.3) in
    let found : IsTargetFound expected (Ok c.in-Ok.target) = rw c.in-Ok.is at c.in_ok-target.ensures.finds first w s in
    fell_found key w (g.S.Source.left c.args.source.now) (g.C.Clock.coming c.args.clock.now) (written c.args.sink.now) (written c.print_into.new.sink) (state c.print_into.new.keeper) expected c.in-Ok.target found
    (c.print_into.ensures.falls later w (subst (λ (m : Tables). Stands m w) (sym shown.1) s))

pub returns-in-Ok-clause-version : goal.returns-in-Ok-clause-version
returns-in-Ok-clause-version g c told =
    let words = c.args.words.now in
    let state = g.K.Keeper.state in
    let m = (state c.args.keeper.now).tables in
    let first : Tells (state c.args.keeper.now) (state c.find_object.new.keeper) = (told.0, c.print_into.ensures.ends.steps.stood told.1) in
    version_after c.stands_laws.ensures.one_version m c.print_into.result (c.in_ok-target.ensures.version first) c.print_into.ensures.stops
    (λ w s.
    let printed = returns-in-Ok-clause-prints g c told w s in
    not_damaged (λ moments. load_printed (named_by words.org.now words.user.now words.secret.now) words.object.now printed.0 moments w) w (g.C.Clock.coming c.args.clock.now) (g.W.Sink.written c.args.sink.now) (g.W.Sink.written c.print_into.new.sink) c.print_into.result
    (state c.print_into.new.keeper) printed.2)

pub returns-in-Err-clause-prints : goal.returns-in-Err-clause-prints
returns-in-Err-clause-prints g c told w s =
    let words = c.args.words.now in
    let key = named_by words.org.now words.user.now words.secret.now in
    let expected = named_object key words.object.now w in
    let state = g.K.Keeper.state in
    let written = g.W.Sink.written in
    let shown = c.find_object.ensures.same told in
    let found : IsTargetFound expected (Err c.in-Err.refusal) = rw c.in-Err.is at c.in_ok-target.ensures.finds told w s in
    object_refused key w (g.S.Source.left c.args.source.now) (g.C.Clock.coming c.args.clock.now) (written c.args.sink.now) (written c.print_refusal.new.sink) (state c.find_object.new.keeper) expected c.in-Err.refusal c.print_refusal.result found
    (c.print_refusal.ensures.prints w) (shown.0, subst (λ (m : Tables). Stands m w) (sym shown.1) s)
