use Rattle.std.proofs.Common.{refl}
use Rattle.model.specs.Step.{key_in}
use Rattle.server.specs.Answers.{outcome_of}
use Rattle.server.specs.Requests.{message_in}
use Rattle.server.proofs.Answering.{answers_as, undamaged_as}
use Rattle.server.proofs.Apart.{TenantLaws}
use Rattle.server.proofs.Elsewhere.{PlaceLaws}
use Rattle.server.proofs.Kept.{acknowledged_by, cause_by, kept_by, quiet_by}
use Rattle.server.proofs.Leading.{led_by_request}
use Rattle.server.proofs.Worlds.{WorldLaws, by_world, crash_world}
use Rattle.server.proofs.request.answer_message.Goals as goal

pub returns-clause-kept : goal.returns-clause-kept
returns-clause-kept g c told made =
    let state = g.K.Keeper.state in
    let m = c.args.message.now in
    kept_by (key_in (message_in m)) (message_in m) m.close c.args.now (state c.args.keeper.now) (state c.answer_own.new.keeper) c.answer_own.result c.answer_own.ensures.does told made

pub returns-clause-answers : goal.returns-clause-answers
returns-clause-answers g c told =
    let state = g.K.Keeper.state in
    let laws : WorldLaws = record { each = c.local_laws.ensures.each; whole = c.local_laws.ensures.whole; nobody = c.local_laws.ensures.nobody } in
    let keys = c.key_laws.ensures in
    let places : PlaceLaws = record { total = keys.total; exact = keys.exact; bytes_exact = keys.bytes_exact; own = c.local_laws.ensures.own } in
    let tenants : TenantLaws = record { put = c.tenant_laws.ensures.put; others = c.tenant_laws.ensures.others } in
    answers_as laws places tenants c.args.message.now c.args.now (state c.args.keeper.now) (state c.answer_own.new.keeper) c.answer_own.result c.answer_own.ensures.does told c.answer_own.ensures.form.0 c.answer_own.ensures.asks

pub returns-clause-undamaged : goal.returns-clause-undamaged
returns-clause-undamaged g c told =
    let state = g.K.Keeper.state in
    let laws : WorldLaws = record { each = c.local_laws.ensures.each; whole = c.local_laws.ensures.whole; nobody = c.local_laws.ensures.nobody } in
    let keys = c.key_laws.ensures in
    let places : PlaceLaws = record { total = keys.total; exact = keys.exact; bytes_exact = keys.bytes_exact; own = c.local_laws.ensures.own } in
    let tenants : TenantLaws = record { put = c.tenant_laws.ensures.put; others = c.tenant_laws.ensures.others } in
    undamaged_as laws places tenants c.args.message.now c.args.now (state c.args.keeper.now) (state c.answer_own.new.keeper) c.answer_own.result c.answer_own.ensures.does told

pub returns-clause-crash : goal.returns-clause-crash
returns-clause-crash g c tells trusted clean w s left may =
    let state = g.K.Keeper.state in
    let m = c.args.message.now in
    let old = state c.args.keeper.now in
    let new = state c.answer_own.new.keeper in
    let laws : WorldLaws = record { each = c.local_laws.ensures.each; whole = c.local_laws.ensures.whole; nobody = c.local_laws.ensures.nobody } in
    crash_world laws (message_in m) m.close c.args.now old new w s (key_in (message_in m)) (outcome_of c.answer_own.result) refl c.answer_own.ensures.does tells trusted clean left may

pub returns-clause-leads : goal.returns-clause-leads
returns-clause-leads g c =
    let state = g.K.Keeper.state in
    let m = c.args.message.now in
    let old = state c.args.keeper.now in
    let new = state c.answer_own.new.keeper in
    let laws : WorldLaws = record { each = c.local_laws.ensures.each; whole = c.local_laws.ensures.whole; nobody = c.local_laws.ensures.nobody } in
    led_by_request (message_in m) m.close c.args.now old new (outcome_of c.answer_own.result)
    (λ told w s. by_world laws (message_in m) m.close c.args.now old new w s (key_in (message_in m)) (outcome_of c.answer_own.result) refl c.answer_own.ensures.does told)
    (λ tells trusted clean w s left may. crash_world laws (message_in m) m.close c.args.now old new w s (key_in (message_in m)) (outcome_of c.answer_own.result) refl c.answer_own.ensures.does tells trusted clean left may)

pub returns-clause-acknowledged : goal.returns-clause-acknowledged
returns-clause-acknowledged g c made =
    let state = g.K.Keeper.state in
    acknowledged_by (state c.answer_own.new.keeper) c.answer_own.result c.answer_own.ensures.asks.trusted made

pub returns-clause-cause : goal.returns-clause-cause
returns-clause-cause g c =
    let state = g.K.Keeper.state in
    cause_by (state c.args.keeper.now) (state c.answer_own.new.keeper) c.answer_own.result c.answer_own.ensures.asks.cause

pub returns-clause-quiet : goal.returns-clause-quiet
returns-clause-quiet g c =
    let state = g.K.Keeper.state in
    quiet_by (state c.args.keeper.now) (state c.answer_own.new.keeper) c.answer_own.result c.answer_own.ensures.asks.quiet
