use Rattle.std.proofs.Common.{◌≡◌, ◌∙◌, [], of_z, pos, refl, rules, to_z, w64}
use Rattle.std.proofs.lemmas.Int.{to_z-of_z}
use Rattle.std.specs.Prelude.{FitsSigned}
use Rattle.cmd_sandbox.proofs.Keeping.{record_reads}
use Rattle.cmd_sandbox.proofs.Laying.{ready_own, record_decided}
use Rattle.record_save.proofs.GivenRules.{is_plain}
use Rattle.cmd_sandbox.proofs.records.decide_record.Goals as goal

pub decide_create-requires-clause-ready : goal.decide_create-requires-clause-ready
decide_create-requires-clause-ready c = ready_own c.args.layout.now c.requires.ready

pub decide_create-requires-clause-plain : goal.decide_create-requires-clause-plain
decide_create-requires-clause-plain c = is_plain _ refl

pub returns-clause-decided : goal.returns-clause-decided
returns-clause-decided c name a laid =
    let given = c.args.given.now in
    let small : FitsSigned w64 c.moment-now.result = search rules in
    let at : to_z w64 (of_z w64 c.moment-now.result) ≡ pos c.args.now = to_z-of_z w64 c.moment-now.result small ∙ c.moment-now.ensures in
    let reads = record_reads {name = name} {found = []} c.given_laws.ensures.finds given (c.given_laws.ensures.json given c.requires.json) (λ b o. c.fit_laws.ensures.given b o given c.requires.spelled) in
    record_decided c.args.now c.args.draft.now name c.args.layout.now a given laid c.requires.ready.own c.decide_create.result c.object_laws.ensures.named
    c.first_user_id-user.ensures at c.requires.moment reads (c.records_sound.ensures.create a name given) ((c.decide_create.ensures.what (tt, refl)).decided laid.owned.plan a)
