use Rattle.std.proofs.Common.{◌∙◌, Err, ap}
use Rattle.store_kv.specs.Draft.{tables_of}
use Rattle.store_abstraction.specs.Calls.{ended}
use Rattle.query_json.proofs.Found.{rows_so, shown_so, too_large_so, written_so}
use Rattle.query_json.proofs.answer.answer_plan.Goals as goal

pub returns-in-Ok-rows_reply-clause-what : goal.returns-in-Ok-rows_reply-clause-what
returns-in-Ok-rows_reply-clause-what g c told q a s i its =
    rows_so (g.L.Relatives.parents c.args.relatives.now) (g.L.Relatives.children c.args.relatives.now) c.args.layout.now c.args.plan.now a c.in_ok-front.front c.as_slice.result.now c.in-Ok-rows_reply.reply
    c.new-rows.result.items c.write_chosen.new.out.items c.as_slice-in-Ok.result.now c.in-Ok.count _
    (c.in_ok-front.ensures ∙ c.as_str.ensures.characters) c.as_slice.ensures c.new-rows.ensures.items (c.in-Ok.ensures.what told q a s i its) c.as_slice-in-Ok.ensures.value c.in-Ok-rows_reply.ensures.value

pub returns-in-Err-TooLarge-clause-what : goal.returns-in-Err-TooLarge-clause-what
returns-in-Err-TooLarge-clause-what g c told =
    let m = tables_of g.K.Keeper.state c.args.draft.now in
    too_large_so (g.L.Relatives.parents c.args.relatives.now) (g.L.Relatives.children c.args.relatives.now) c.args.layout.now _ c.args.plan.now m c.in_ok-front.front c.as_slice.result.now c.refuse.result
    (c.in_ok-front.ensures ∙ c.as_str.ensures.characters) c.as_slice.ensures c.refuse.ensures.value
    (written_so c.args.layout.now _ _ _ _ _ _ m c.write_chosen.result (c.in-Err-TooLarge.is ∙ ap Err c.in-Err-TooLarge.field-0-is) (c.write_chosen.ensures.what told))

pub returns-in-Err-TooLarge-clause-shown : goal.returns-in-Err-TooLarge-clause-shown
returns-in-Err-TooLarge-clause-shown g c told =
    shown_so c.write_chosen.result (ended c.refuse.result) _ (c.in-Err-TooLarge.is ∙ ap Err c.in-Err-TooLarge.field-0-is) (c.write_chosen.ensures.shown told)
