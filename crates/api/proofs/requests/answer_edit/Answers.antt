use Rattle.std.proofs.Common.{◌∙◌, subst, Result}
use Rattle.api_edit.specs.Administration.{AsksWith}
use Rattle.access_user.specs.Granting.{FindsRights, IsUserRights}
use Rattle.access_user.specs.declared.rights.UserRights.{UserRights}
use Rattle.store_kv.specs.Draft.{tables_of}
use Rattle.store_kv.specs.Tables.{Tables}
use Rattle.store_rows.specs.declared.fail.StoreFail.{StoreFail}
use Rattle.model.specs.Paths.{Asked}
use Rattle.model_requests.specs.RequestOf.{request_of, verdict_or}
use Rattle.model.specs.Verdict.{Verdict}
use Rattle.access_traits.specs.Rights.{Whose}
use Rattle.store_abstraction.specs.Calls.{Calls, ended}
use Rattle.store_abstraction.specs.Operations.{Responds}
use Rattle.model.specs.Asker.{IsAsking}
use Rattle.model.specs.Bounds.{edit_shown, request_changes, request_gone}
use Rattle.api.proofs.Rights.{after_rights, failed_drafts, from_rights, no_rights, with_rights}
use Rattle.api.proofs.requests.answer_edit.Goals as goal

-- ---- an administrator

pub returns-then-caller-clause-what : goal.returns-then-caller-clause-what
returns-then-caller-clause-what g c told =
    let state = g.K.Keeper.state in
    let caller = c.args.caller.now in
    with_rights _ caller.org caller c.args.now (λ a. verdict_or a (request_of c.args.route.now c.args.body.now)) (tables_of state c.args.draft.now) (tables_of state c.administer.new.draft) c.administer.result
    (λ p a s asking. asking.admin ∙ c.if-caller.true) (c.administer.ensures.what told)

-- ---- any other user

pub returns-in-Ok-clause-what : goal.returns-in-Ok-clause-what
returns-in-Ok-clause-what g c told =
    let state = g.K.Keeper.state in
    let caller = c.args.caller.now in
    let a = c.args.draft.now in
    let b = c.user_rights.new.draft in
    let d = c.administer-in-Ok.new.draft in
    let calls = c.user_rights.ensures.calls in
    let e = ended c.user_rights.result in
    let verdict : Asked → Verdict = λ a. verdict_or a (request_of c.args.route.now c.args.body.now) in
    let first = c.draft_laws.ensures.told_first request_changes request_gone edit_shown a b d c.administer-in-Ok.ensures.drafts.makes.works told in
    let later = c.call_laws.ensures.told_then 0 e a b d calls first told in
    let same = c.call_laws.ensures.tables 0 e a b calls first in
    let finds = subst (λ (r : Result UserRights StoreFail). FindsRights caller.org caller.user (tables_of state a) r) c.in-Ok.is (c.user_rights.ensures.finds first) in
    let whose : Whose = λ t u. IsUserRights t u c.in-Ok.rights in
    with_rights whose caller.org caller c.args.now verdict (tables_of state a) (tables_of state d) c.administer-in-Ok.result
    (from_rights caller c.args.now (tables_of state a) c.in-Ok.rights c.if-caller.false finds)
    (subst (λ (t : Tables). Responds caller.org (AsksWith whose caller c.args.now) verdict t (tables_of state d) c.administer-in-Ok.result) same (c.administer-in-Ok.ensures.what later))

pub returns-in-Ok-clause-drafts : goal.returns-in-Ok-clause-drafts
returns-in-Ok-clause-drafts g c =
    let state = g.K.Keeper.state in
    after_rights state c.call_laws.ensures.reads_then c.draft_laws.ensures.reads c.administer-in-Ok.result c.args.draft.now c.user_rights.new.draft c.administer-in-Ok.new.draft
    (subst (λ (r : Result UserRights StoreFail). Calls state 0 (ended r) c.args.draft.now c.user_rights.new.draft) c.in-Ok.is c.user_rights.ensures.calls) c.administer-in-Ok.ensures.drafts

-- ---- rights that weren't read

pub returns-in-Err-clause-what : goal.returns-in-Err-clause-what
returns-in-Err-clause-what g c told =
    let state = g.K.Keeper.state in
    let caller = c.args.caller.now in
    let m = tables_of state c.args.draft.now in
    no_rights caller.org caller.user (IsAsking caller c.args.now) (λ a. verdict_or a (request_of c.args.route.now c.args.body.now)) m (tables_of state c.user_rights.new.draft) c.in-Err.fail
    (subst (λ (r : Result UserRights StoreFail). FindsRights caller.org caller.user m r) c.in-Err.is (c.user_rights.ensures.finds told))

pub returns-in-Err-clause-drafts : goal.returns-in-Err-clause-drafts
returns-in-Err-clause-drafts g c =
    let state = g.K.Keeper.state in
    failed_drafts state c.call_laws.ensures.makes c.call_laws.ensures.most c.in-Err.fail c.args.draft.now c.user_rights.new.draft
    (subst (λ (r : Result UserRights StoreFail). Calls state 0 (ended r) c.args.draft.now c.user_rights.new.draft) c.in-Err.is c.user_rights.ensures.calls)
