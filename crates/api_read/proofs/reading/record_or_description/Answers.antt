use Rattle.std.proofs.Common.{Bool, arith, false, sym, subst, true, ◌∙◌}
use Rattle.std.specs.Str.{chars}
use Rattle.model.specs.Shown.{readable_shown}
use Rattle.model_reads.specs.Reads.{description_told, record_told}
use Rattle.store_abstraction.specs.Calls.{ended_edit}
use Rattle.store_kv.specs.Draft.{tables_of}
use Rattle.api_read.specs.Tells.{IsAsker}
use Rattle.api_read.proofs.Askers.{calls_within, described, tells_all}
use Rattle.api_read.proofs.reading.record_or_description.Goals as goal

pub returns-then-is_text-clause-tells : goal.returns-then-is_text-clause-tells
unfolding chars
returns-then-is_text-clause-tells g c told q a s asker =
    described a c.args.object.now c.args.key.now c.args.pairs.now true c.description.result (sym c.is_text.ensures.same ∙ c.if-is_text.true) (c.description.ensures.tells told q a.tenant s)

pub returns-then-is_text-clause-calls : goal.returns-then-is_text-clause-calls
returns-then-is_text-clause-calls g c =
    calls_within g.K.Keeper.state c.draft_laws.ensures.reads_most 0 readable_shown (ended_edit c.description.result) c.args.draft.now c.description.new.draft (omega arith) c.description.ensures.calls

pub returns-clause-tells : goal.returns-clause-tells
unfolding chars
returns-clause-tells g c told q a s asker =
    described a c.args.object.now c.args.key.now c.args.pairs.now false c.tell_caller.result (sym c.is_text.ensures.same ∙ c.if-is_text.false) (c.tell_caller.ensures.tells told q a s asker)
