use Rattle.std.proofs.Common.{rules, ◌∙◌, ap, subst, true, arith}
use Rattle.std.specs.Prelude.{length}
use Rattle.store_kv.specs.Draft.{DraftTells, count_of, tables_of}
use Rattle.store_kv.specs.State.{TrustedAfter}
use Rattle.store_kv.specs.Tables.{Tables}
use Rattle.model.specs.Step.{key_in}
use Rattle.store_abstraction.proofs.Ended.{empty_tables, moved, told_draft, unchanged}
use Rattle.model.specs.Bounds.{request_gone}
use Rattle.server.specs.Own.{Asks, DoesMessage, IsStepped, JudgesMessage, Replies, message_changes}
use Rattle.server.specs.Requests.{message_in}
use Rattle.server.proofs.Messages.{asks_by, does_by, replies_by, shown_most}
use Rattle.server.proofs.request.answer_drafted.Goals as goal

pub returns-clause-does : goal.returns-clause-does
returns-clause-does g c =
    let state = g.K.Keeper.state in
    let d = c.new-draft.result in
    let e = c.judge-judged.new.draft in
    let m = c.args.message.now in
    let j = c.judge-judged.result in
    let empty = c.new-draft.ensures.empty in
    let makes = c.judge-judged.ensures.drafts.makes in
    let shown = shown_most (message_in m) state d in
    moved (λ x y. DoesMessage m c.args.now (state x) (state y) c.finish.result) d.keeper.now c.finish.new.draft.0 c.args.keeper.now _ c.new-draft.ensures.same (search rules)
    (does_by (state d.keeper.now) (state c.finish.new.draft.0) (DraftTells state d e) (tables_of state e) j c.finish.result
    (record {
      drafts = λ told. told_draft state d e (state c.finish.new.draft.0) told c.finish.ensures.finishes.steps;
      ends = λ told. c.finish.ensures.ends d message_changes request_gone shown empty makes.works told;
      crash = λ tells trusted clean left may. c.finish.ensures.crash d message_changes request_gone shown empty makes.works (c.ended_laws.ensures.stays d.keeper.now e.keeper.now j makes.stays) tells trusted clean left may;
    })
    (key_in (message_in m)) (message_in m) m.close c.args.now
    (λ told. subst (λ (t : Tables). JudgesMessage m c.args.now t (tables_of state e) j) (empty_tables state d empty) (c.judge-judged.ensures.what told)))

pub returns-clause-form : goal.returns-clause-form
returns-clause-form g c =
    let state = g.K.Keeper.state in
    let d = c.new-draft.result in
    let e = c.judge-judged.new.draft in
    let m = c.args.message.now in
    let j = c.judge-judged.result in
    let new = state c.finish.new.draft.0 in
    let makes = c.judge-judged.ensures.drafts.makes in
    moved (λ x y. Replies (message_in m) m.close (state x) (state y) c.finish.result) d.keeper.now c.finish.new.draft.0 c.args.keeper.now _ c.new-draft.ensures.same (search rules)
    (replies_by (message_in m) m.close (state d.keeper.now) new (DraftTells state d e → IsStepped (message_in m) (tables_of state d)) (count_of d) (count_of e) j c.finish.result c.judge-judged.ensures.form c.finish.ensures.finishes.returned
    (λ quiet. (
      (λ told. unchanged (state d.keeper.now).tables (tables_of state e) new j c.finish.result (c.finish.ensures.ends d message_changes request_gone (shown_most (message_in m) state d) c.new-draft.ensures.empty makes.works told) quiet),
      c.finish.ensures.finishes.unwritten quiet ∙ makes.works.reads.written,
    ))
    (λ called told. subst (IsStepped (message_in m)) (empty_tables state d c.new-draft.ensures.empty) (called (told_draft state d e new told c.finish.ensures.finishes.steps)))
    (ap length c.new-draft.ensures.empty)
    (let written = c.finish.ensures.finishes.written in omega (arith, written, makes.works.reads.written)))

pub returns-clause-asks : goal.returns-clause-asks
returns-clause-asks g c =
    let state = g.K.Keeper.state in
    let d = c.new-draft.result in
    let e = c.judge-judged.new.draft in
    let j = c.judge-judged.result in
    let makes = c.judge-judged.ensures.drafts.makes in
    moved (λ x y. TrustedAfter true (state x) → Asks (message_in c.args.message.now) (state x) (state y) c.finish.result) d.keeper.now c.finish.new.draft.0 c.args.keeper.now _ c.new-draft.ensures.same (search rules)
    (asks_by state d e (state c.finish.new.draft.0) j c.finish.result (message_in c.args.message.now) c.new-draft.ensures.empty makes.works (c.ended_laws.ensures.stays d.keeper.now e.keeper.now j makes.stays) (c.ended_laws.ensures.cause d.keeper.now e.keeper.now j makes.cause) (c.ended_laws.ensures.quiet d.keeper.now e.keeper.now j makes.quiet) c.finish.ensures.finishes
    (state d.keeper.now).tables (tables_of state e) (λ told. c.finish.ensures.ends d message_changes request_gone (shown_most (message_in c.args.message.now) state d) c.new-draft.ensures.empty makes.works told))
