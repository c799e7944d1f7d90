use Rattle.std.proofs.Common.{subst}
use Rattle.model_reads.specs.Reads.{read_shown, told_of}
use Rattle.api_read.proofs.Askers.{asker_of, reply_calls}
use Rattle.api_read.proofs.reading.answer_read.Goals as goal

pub returns-clause-what : goal.returns-clause-what
returns-clause-what g c tells q a moment s asking =
    c.reply_to.ensures.value a (told_of c.args.caller.now.org a c.args.read.now)
    (c.told-told.ensures.tells tells q a s (asker_of c.args.caller.now moment a asking))

pub returns-clause-calls : goal.returns-clause-calls
returns-clause-calls g c =
    reply_calls g.K.Keeper.state c.call_laws.ensures.weaker (read_shown c.args.read.now) c.told-told.result c.reply_to.result c.args.draft.now c.told-told.new.draft
    c.reply_to.ensures.ends c.told-told.ensures.calls
