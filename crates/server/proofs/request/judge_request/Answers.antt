use Rattle.std.proofs.Common.{List, ℕ, subst}
use Rattle.std.specs.Str.{chars}
use Rattle.store_kv.specs.Draft.{tables_of}
use Rattle.model_requests.specs.RequestOf.{verdict_at}
use Rattle.model_requests.specs.Routing.{routed}
use Rattle.store_abstraction.specs.Operations.{Responds}
use Rattle.model.specs.Asker.{IsAsking}
use Rattle.server.specs.Requests.{message_in}
use Rattle.server.proofs.Judging.{request_failed, request_judged}
use Rattle.server.proofs.request.judge_request.Goals as goal

pub returns-in-Ok-clause-what : goal.returns-in-Ok-clause-what
returns-in-Ok-clause-what g c told =
    let state = g.K.Keeper.state in
    let caller = c.args.caller.now in
    let m = message_in c.args.message.now in
    let before = tables_of state c.args.draft.now in
    let after = tables_of state c.respond.new.draft in
    let responds =
    subst (λ (t : List ℕ). Responds caller.org (IsAsking caller c.args.now) (λ a. verdict_at caller.org a m.body (routed m.method t)) before after c.respond.result) c.as_str.ensures.characters
    (subst (λ (b : List ℕ). Responds caller.org (IsAsking caller c.args.now) (λ a. verdict_at caller.org a b (routed m.method (chars c.as_str.result.now))) before after c.respond.result) c.as_slice.ensures (c.respond.ensures.what told)) in
    request_judged caller m c.args.message.now.close c.args.now before after c.in-Ok.judged c.judged_bytes.result c.judged_bytes.ensures
    (subst (λ r. Responds caller.org (IsAsking caller c.args.now) (λ a. verdict_at caller.org a m.body (routed m.method m.target)) before after r) c.in-Ok.is responds)

pub returns-in-Err-clause-what : goal.returns-in-Err-clause-what
returns-in-Err-clause-what g c told =
    let state = g.K.Keeper.state in
    let caller = c.args.caller.now in
    let m = message_in c.args.message.now in
    let before = tables_of state c.args.draft.now in
    let after = tables_of state c.respond.new.draft in
    let responds =
    subst (λ (t : List ℕ). Responds caller.org (IsAsking caller c.args.now) (λ a. verdict_at caller.org a m.body (routed m.method t)) before after c.respond.result) c.as_str.ensures.characters
    (subst (λ (b : List ℕ). Responds caller.org (IsAsking caller c.args.now) (λ a. verdict_at caller.org a b (routed m.method (chars c.as_str.result.now))) before after c.respond.result) c.as_slice.ensures (c.respond.ensures.what told)) in
    request_failed caller m c.args.message.now.close c.args.now before after c.in-Err.fail
    (subst (λ r. Responds caller.org (IsAsking caller c.args.now) (λ a. verdict_at caller.org a m.body (routed m.method m.target)) before after r) c.in-Err.is responds)
