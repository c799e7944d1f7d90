use Rattle.std.proofs.Common.{Result, subst, sym}
use Rattle.store_kv.specs.State.{Tells}
use Rattle.store_kv.specs.Tables.{Tables}
use Rattle.model.specs.Callers.{named_by}
use Rattle.store_abstraction.specs.Stands.{Stands}
use Rattle.cmd_load.specs.Targets.{named_object}
use Rattle.cmd_load.specs.declared.target.Target.{Target}
use Rattle.model.specs.declared.refusal.Refusal.{Refusal}
use Rattle.commands.proofs.Planned.{object_unopened, version_failed}
use Rattle.commands.proofs.load.find_object.Goals as goal

pub returns-in-Err-read_object-clause-finds : goal.returns-in-Err-read_object-clause-finds
returns-in-Err-read_object-clause-finds g c told w s =
    let shown = c.open_tables.ensures.same (told.0, c.read_object.ensures.steps.stood told.1) in
    c.in-Err-read_object.ensures.finds (shown.0, told.1) w (subst (λ (m : Tables). Stands m w) (sym shown.1) s)

pub returns-in-Err-read_object-clause-version : goal.returns-in-Err-read_object-clause-version
returns-in-Err-read_object-clause-version g c told =
    let state = g.K.Keeper.state in
    let first : Tells (state c.args.keeper.now) (state c.open_tables.new.keeper) = (told.0, c.read_object.ensures.steps.stood told.1) in
    let shown = c.open_tables.ensures.same first in
    version_failed (Result Target Refusal) c.stands_laws.ensures.one_version (g.K.Keeper.state c.args.keeper.now).tables c.in-Err-read_object.fail (c.in-Ok.ensures.opens first)
    (λ w s. c.in-Err-read_object.ensures.finds (shown.0, told.1) w (subst (λ (m : Tables). Stands m w) (sym shown.1) s))

pub returns-in-Err-clause-finds : goal.returns-in-Err-clause-finds
returns-in-Err-clause-finds g c told w s =
    let words = c.args.words.now in
    let m = (g.K.Keeper.state c.args.keeper.now).tables in
    object_unopened c.stands_laws.ensures.one_version m w (named_object (named_by words.org.now words.user.now words.secret.now) words.object.now w) c.in-Err.fail s (c.stands_laws.ensures.known m w s) (c.in-Err.ensures.opens told)
