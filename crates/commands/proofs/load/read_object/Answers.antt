use Rattle.std.proofs.Common.{refl, rules}
use Rattle.model.specs.Callers.{named_by}
use Rattle.model.specs.World.{World}
use Rattle.store_abstraction.proofs.Opened.{after_opening}
use Rattle.store_abstraction.specs.Stands.{Stands}
use Rattle.cmd_load.specs.Targets.{FindsTarget, named_object}
use Rattle.commands.proofs.load.read_object.Goals as goal

pub returns-clause-finds : goal.returns-clause-finds
returns-clause-finds g c =
    let words = c.args.words.now in
    after_opening g.K.Keeper.state c.args.keeper.now c.args.keeper.now c.new-draft.result c.find_target.new.draft _
    (λ m. (w : World) → Stands m w → FindsTarget (named_object (named_by words.org.now words.user.now words.secret.now) words.object.now w) c.find_target.result)
    (λ told. (told.0, refl)) c.new-draft.ensures.same c.new-draft.ensures.empty c.find_target.ensures.calls.reads (search rules)
    (λ told w s. c.batch_laws.ensures.target (named_by words.org.now words.user.now words.secret.now) words.object.now _ c.find_target.result w s (c.find_target.ensures.finds told))
