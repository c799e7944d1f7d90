use Rattle.std.proofs.Common.{List, ℕ, ap, arith, refl, subst, sym}
use Rattle.base_lemmas.proofs.Results.{err_from_parts as returned}
use Rattle.store_kv.specs.Draft.{tables_of}
use Rattle.model.specs.Metadata.{set_object}
use Rattle.model_requests.specs.RequestOf.{request_of, verdict_or}
use Rattle.model_requests.specs.Requests.{adds_field, adds_object, adds_validation_rule, sets_object}
use Rattle.model.specs.Verdict.{done}
use Rattle.model_requests.specs.declared.route.Route.TheVariants.{AddField, AddGroup, AddObject, AddRole, AddSharingRule, AddUser, AddValidationRule, BeginRetype, CancelRetype, RemoveGroup, RemoveRole, RemoveSharingRule, RemoveValidationRule, SetGroup, SetObject, SetOrganisation, SetRole, SetUser, Share, Unshare}
use Rattle.api_edit.specs.Administration.{AsksWith}
use Rattle.api_edit.specs.declared.answer.Answer.TheVariants as answer
use Rattle.api_edit.specs.inner.Edits.{Anyone, EditsFrom, HasRights}
use Rattle.api_edit.proofs.Asked.{answers_none, answers_so, drafts_seen, edits_asked, edits_asked_so, edits_none, fit, none_drafts}
use Rattle.api_edit.proofs.edits.edit.Goals as goal

-- ---- no edit

pub returns-in_err-new-in-AddObject-clause-what : goal.returns-in_err-new-in-AddObject-clause-what
returns-in_err-new-in-AddObject-clause-what g c told =
    let caller = c.args.caller.now in
    let fail = c.in_err-new-in-AddObject.field-0.0 in
    edits_none adds_object caller.org (AsksWith (g.R.Rights.whose c.args.rights.now) caller c.args.now) c.args.route.now AddObject c.args.body.now fail (tables_of g.K.Keeper.state c.args.draft.now) c.from_residual.result c.in-AddObject.is
    (returned c.from_residual.result fail c.from_residual.ensures) c.in_err-new-in-AddObject.ensures

pub returns-in_err-new-in-AddObject-clause-form : goal.returns-in_err-new-in-AddObject-clause-form
returns-in_err-new-in-AddObject-clause-form g c = answers_none c.args.route.now c.in_err-new-in-AddObject.field-0.0 c.from_residual.result (returned c.from_residual.result c.in_err-new-in-AddObject.field-0.0 c.from_residual.ensures)

pub returns-in_err-new-in-AddObject-clause-makes : goal.returns-in_err-new-in-AddObject-clause-makes
returns-in_err-new-in-AddObject-clause-makes g c =
    let laws = c.call_laws.ensures in
    let fail = c.in_err-new-in-AddObject.field-0.0 in
    none_drafts g.K.Keeper.state (record { weaker = laws.weaker; none = laws.none; makes = laws.makes; most = laws.most }) adds_object (request_of AddObject c.args.body.now) fail c.from_residual.result c.args.draft.now
    (returned c.from_residual.result fail c.from_residual.ensures) c.in_err-new-in-AddObject.ensures

pub returns-in_err-change-in-SetObject-clause-what : goal.returns-in_err-change-in-SetObject-clause-what
returns-in_err-change-in-SetObject-clause-what g c told =
    let object = c.in-SetObject.object in
    let caller = c.args.caller.now in
    let fail = c.in_err-change-in-SetObject.field-0.0 in
    edits_none (sets_object object) caller.org (AsksWith (g.R.Rights.whose c.args.rights.now) caller c.args.now) c.args.route.now (SetObject object) c.args.body.now fail (tables_of g.K.Keeper.state c.args.draft.now) c.from_residual-in_err-change-in-SetObject.result c.in-SetObject.is
    (returned c.from_residual-in_err-change-in-SetObject.result fail c.from_residual-in_err-change-in-SetObject.ensures) (c.in_err-change-in-SetObject.ensures object)

pub returns-in_err-change-in-SetObject-clause-form : goal.returns-in_err-change-in-SetObject-clause-form
returns-in_err-change-in-SetObject-clause-form g c = answers_none c.args.route.now c.in_err-change-in-SetObject.field-0.0 c.from_residual-in_err-change-in-SetObject.result (returned c.from_residual-in_err-change-in-SetObject.result c.in_err-change-in-SetObject.field-0.0 c.from_residual-in_err-change-in-SetObject.ensures)

pub returns-in_err-change-in-SetObject-clause-makes : goal.returns-in_err-change-in-SetObject-clause-makes
returns-in_err-change-in-SetObject-clause-makes g c =
    let object = c.in-SetObject.object in
    let laws = c.call_laws.ensures in
    let fail = c.in_err-change-in-SetObject.field-0.0 in
    none_drafts g.K.Keeper.state (record { weaker = laws.weaker; none = laws.none; makes = laws.makes; most = laws.most }) (sets_object object) (request_of (SetObject object) c.args.body.now) fail c.from_residual-in_err-change-in-SetObject.result c.args.draft.now
    (returned c.from_residual-in_err-change-in-SetObject.result fail c.from_residual-in_err-change-in-SetObject.ensures) (c.in_err-change-in-SetObject.ensures object)

pub returns-in_err-new-in-AddField-clause-what : goal.returns-in_err-new-in-AddField-clause-what
returns-in_err-new-in-AddField-clause-what g c told =
    let caller = c.args.caller.now in
    let fail = c.in_err-new-in-AddField.field-0.0 in
    edits_none adds_field caller.org (AsksWith (g.R.Rights.whose c.args.rights.now) caller c.args.now) c.args.route.now AddField c.args.body.now fail (tables_of g.K.Keeper.state c.args.draft.now) c.from_residual-in_err-new-in-AddField.result c.in-AddField.is
    (returned c.from_residual-in_err-new-in-AddField.result fail c.from_residual-in_err-new-in-AddField.ensures) c.in_err-new-in-AddField.ensures

pub returns-in_err-new-in-AddField-clause-form : goal.returns-in_err-new-in-AddField-clause-form
returns-in_err-new-in-AddField-clause-form g c = answers_none c.args.route.now c.in_err-new-in-AddField.field-0.0 c.from_residual-in_err-new-in-AddField.result (returned c.from_residual-in_err-new-in-AddField.result c.in_err-new-in-AddField.field-0.0 c.from_residual-in_err-new-in-AddField.ensures)

pub returns-in_err-new-in-AddField-clause-makes : goal.returns-in_err-new-in-AddField-clause-makes
returns-in_err-new-in-AddField-clause-makes g c =
    let laws = c.call_laws.ensures in
    let fail = c.in_err-new-in-AddField.field-0.0 in
    none_drafts g.K.Keeper.state (record { weaker = laws.weaker; none = laws.none; makes = laws.makes; most = laws.most }) adds_field (request_of AddField c.args.body.now) fail c.from_residual-in_err-new-in-AddField.result c.args.draft.now
    (returned c.from_residual-in_err-new-in-AddField.result fail c.from_residual-in_err-new-in-AddField.ensures) c.in_err-new-in-AddField.ensures

pub returns-in_err-new-in-AddValidationRule-clause-what : goal.returns-in_err-new-in-AddValidationRule-clause-what
returns-in_err-new-in-AddValidationRule-clause-what g c told =
    let caller = c.args.caller.now in
    let fail = c.in_err-new-in-AddValidationRule.field-0.0 in
    edits_none adds_validation_rule caller.org (AsksWith (g.R.Rights.whose c.args.rights.now) caller c.args.now) c.args.route.now AddValidationRule c.args.body.now fail (tables_of g.K.Keeper.state c.args.draft.now) c.from_residual-in_err-new-in-AddValidationRule.result c.in-AddValidationRule.is
    (returned c.from_residual-in_err-new-in-AddValidationRule.result fail c.from_residual-in_err-new-in-AddValidationRule.ensures) c.in_err-new-in-AddValidationRule.ensures

pub returns-in_err-new-in-AddValidationRule-clause-form : goal.returns-in_err-new-in-AddValidationRule-clause-form
returns-in_err-new-in-AddValidationRule-clause-form g c = answers_none c.args.route.now c.in_err-new-in-AddValidationRule.field-0.0 c.from_residual-in_err-new-in-AddValidationRule.result (returned c.from_residual-in_err-new-in-AddValidationRule.result c.in_err-new-in-AddValidationRule.field-0.0 c.from_residual-in_err-new-in-AddValidationRule.ensures)

pub returns-in_err-new-in-AddValidationRule-clause-makes : goal.returns-in_err-new-in-AddValidationRule-clause-makes
returns-in_err-new-in-AddValidationRule-clause-makes g c =
    let laws = c.call_laws.ensures in
    let fail = c.in_err-new-in-AddValidationRule.field-0.0 in
    none_drafts g.K.Keeper.state (record { weaker = laws.weaker; none = laws.none; makes = laws.makes; most = laws.most }) adds_validation_rule (request_of AddValidationRule c.args.body.now) fail c.from_residual-in_err-new-in-AddValidationRule.result c.args.draft.now
    (returned c.from_residual-in_err-new-in-AddValidationRule.result fail c.from_residual-in_err-new-in-AddValidationRule.ensures) c.in_err-new-in-AddValidationRule.ensures

-- ---- edits

-- of a deletion no body is looked at
pub returns-in-Delete-clause-what : goal.returns-in-Delete-clause-what
returns-in-Delete-clause-what g c told =
    let caller = c.args.caller.now in
    let body = c.args.body.now in
    let before = tables_of g.K.Keeper.state c.args.draft.now in
    let after = tables_of g.K.Keeper.state c.deleted_record.new.draft in
    subst (λ r. EditsFrom caller.org (AsksWith (g.R.Rights.whose c.args.rights.now) caller c.args.now) (λ a. verdict_or a (request_of r body)) before after c.deleted_record.result) (sym c.in-Delete.is)
    (c.deleted_record.ensures.what told body)

pub returns-in_ok-new-in-AddObject-clause-what : goal.returns-in_ok-new-in-AddObject-clause-what
returns-in_ok-new-in-AddObject-clause-what g c told =
    let caller = c.args.caller.now in
    let body = c.args.body.now in
    let new = c.in_ok-new-in-AddObject.new in
    let asked = c.in_ok-new-in-AddObject.ensures in
    edits_asked (λ _. answer.Done) (λ _. done) (λ _. refl) caller.org (AsksWith (g.R.Rights.whose c.args.rights.now) caller c.args.now) c.args.route.now AddObject body (adds_object new) _ _ _ (tables_of g.K.Keeper.state c.args.draft.now) (tables_of g.K.Keeper.state c.make_edit.new.draft) c.make_edit.result c.done.result
    c.in-AddObject.is asked c.done.ensures (λ a. refl) (λ a. c.refusal_laws.ensures.refused a (adds_object new)) (λ a sound _. fit c.requests_fit.ensures.request a AddObject body (adds_object new) sound asked) (c.make_edit.ensures.what told)

pub returns-in_ok-new-in-AddObject-clause-form : goal.returns-in_ok-new-in-AddObject-clause-form
returns-in_ok-new-in-AddObject-clause-form g c = answers_so (λ _. answer.Done) c.args.route.now AddObject c.make_edit.result c.done.result c.in-AddObject.is c.done.ensures (λ _. tt)

pub returns-in_ok-new-in-AddObject-clause-makes : goal.returns-in_ok-new-in-AddObject-clause-makes
returns-in_ok-new-in-AddObject-clause-makes g c =
    let laws = c.call_laws.ensures in
    drafts_seen g.K.Keeper.state (record { weaker = laws.weaker; none = laws.none; makes = laws.makes; most = laws.most }) (λ _. answer.Done) _ _ _ c.args.draft.now c.make_edit.new.draft c.make_edit.result c.done.result c.done.ensures
    (omega arith) (omega arith) (omega arith) c.make_edit.ensures.makes

pub returns-in_ok-change-in-SetObject-clause-what : goal.returns-in_ok-change-in-SetObject-clause-what
returns-in_ok-change-in-SetObject-clause-what g c told =
    let caller = c.args.caller.now in
    let body = c.args.body.now in
    let object = c.in-SetObject.object in
    let change = c.in_ok-change-in-SetObject.change in
    let asked = c.in_ok-change-in-SetObject.ensures object in
    edits_asked (λ _. answer.Done) (λ _. done) (λ _. refl) caller.org (AsksWith (g.R.Rights.whose c.args.rights.now) caller c.args.now) c.args.route.now (SetObject object) body (sets_object object change) _ _ _ (tables_of g.K.Keeper.state c.args.draft.now) (tables_of g.K.Keeper.state c.make_edit-in-SetObject.new.draft) c.make_edit-in-SetObject.result c.done-in-SetObject.result
    c.in-SetObject.is asked c.done-in-SetObject.ensures (λ a. ap (λ (name : List ℕ). set_object a.tenant name change) c.as_str-object.ensures.characters) (λ a. c.refusal_laws.ensures.refused a (sets_object object change)) (λ a sound _. fit c.requests_fit.ensures.request a (SetObject object) body (sets_object object change) sound asked) (c.make_edit-in-SetObject.ensures.what told)

pub returns-in_ok-change-in-SetObject-clause-form : goal.returns-in_ok-change-in-SetObject-clause-form
returns-in_ok-change-in-SetObject-clause-form g c = answers_so (λ _. answer.Done) c.args.route.now (SetObject c.in-SetObject.object) c.make_edit-in-SetObject.result c.done-in-SetObject.result c.in-SetObject.is c.done-in-SetObject.ensures (λ _. tt)

pub returns-in_ok-change-in-SetObject-clause-makes : goal.returns-in_ok-change-in-SetObject-clause-makes
returns-in_ok-change-in-SetObject-clause-makes g c =
    let laws = c.call_laws.ensures in
    drafts_seen g.K.Keeper.state (record { weaker = laws.weaker; none = laws.none; makes = laws.makes; most = laws.most }) (λ _. answer.Done) _ _ _ c.args.draft.now c.make_edit-in-SetObject.new.draft c.make_edit-in-SetObject.result c.done-in-SetObject.result c.done-in-SetObject.ensures
    (omega arith) (omega arith) (omega arith) c.make_edit-in-SetObject.ensures.makes

pub returns-in_ok-new-in-AddField-clause-what : goal.returns-in_ok-new-in-AddField-clause-what
returns-in_ok-new-in-AddField-clause-what g c told =
    let caller = c.args.caller.now in
    let body = c.args.body.now in
    let new = c.in_ok-new-in-AddField.new in
    let asked = c.in_ok-new-in-AddField.ensures in
    edits_asked (λ _. answer.Done) (λ _. done) (λ _. refl) caller.org (AsksWith (g.R.Rights.whose c.args.rights.now) caller c.args.now) c.args.route.now AddField body (adds_field new) _ _ _ (tables_of g.K.Keeper.state c.args.draft.now) (tables_of g.K.Keeper.state c.make_edit-in-AddField.new.draft) c.make_edit-in-AddField.result c.done-in-AddField.result
    c.in-AddField.is asked c.done-in-AddField.ensures (λ a. refl) (λ a. c.refusal_laws.ensures.refused a (adds_field new)) (λ a sound _. fit c.requests_fit.ensures.request a AddField body (adds_field new) sound asked) (c.make_edit-in-AddField.ensures.what told)

pub returns-in_ok-new-in-AddField-clause-form : goal.returns-in_ok-new-in-AddField-clause-form
returns-in_ok-new-in-AddField-clause-form g c = answers_so (λ _. answer.Done) c.args.route.now AddField c.make_edit-in-AddField.result c.done-in-AddField.result c.in-AddField.is c.done-in-AddField.ensures (λ _. tt)

pub returns-in_ok-new-in-AddField-clause-makes : goal.returns-in_ok-new-in-AddField-clause-makes
returns-in_ok-new-in-AddField-clause-makes g c =
    let laws = c.call_laws.ensures in
    drafts_seen g.K.Keeper.state (record { weaker = laws.weaker; none = laws.none; makes = laws.makes; most = laws.most }) (λ _. answer.Done) _ _ _ c.args.draft.now c.make_edit-in-AddField.new.draft c.make_edit-in-AddField.result c.done-in-AddField.result c.done-in-AddField.ensures
    (omega arith) (omega arith) (omega arith) c.make_edit-in-AddField.ensures.makes

pub returns-in_ok-new-in-AddValidationRule-clause-what : goal.returns-in_ok-new-in-AddValidationRule-clause-what
returns-in_ok-new-in-AddValidationRule-clause-what g c told =
    let caller = c.args.caller.now in
    let body = c.args.body.now in
    let new = c.in_ok-new-in-AddValidationRule.new in
    let asked = c.in_ok-new-in-AddValidationRule.ensures in
    edits_asked (λ _. answer.Done) (λ _. done) (λ _. refl) caller.org (AsksWith (g.R.Rights.whose c.args.rights.now) caller c.args.now) c.args.route.now AddValidationRule body (adds_validation_rule new) _ _ _ (tables_of g.K.Keeper.state c.args.draft.now) (tables_of g.K.Keeper.state c.make_edit-in-AddValidationRule.new.draft) c.make_edit-in-AddValidationRule.result c.done-in-AddValidationRule.result
    c.in-AddValidationRule.is asked c.done-in-AddValidationRule.ensures (λ a. refl) (λ a. c.refusal_laws.ensures.refused a (adds_validation_rule new)) (λ a sound _. fit c.requests_fit.ensures.request a AddValidationRule body (adds_validation_rule new) sound asked) (c.make_edit-in-AddValidationRule.ensures.what told)

pub returns-in_ok-new-in-AddValidationRule-clause-form : goal.returns-in_ok-new-in-AddValidationRule-clause-form
returns-in_ok-new-in-AddValidationRule-clause-form g c = answers_so (λ _. answer.Done) c.args.route.now AddValidationRule c.make_edit-in-AddValidationRule.result c.done-in-AddValidationRule.result c.in-AddValidationRule.is c.done-in-AddValidationRule.ensures (λ _. tt)

pub returns-in_ok-new-in-AddValidationRule-clause-makes : goal.returns-in_ok-new-in-AddValidationRule-clause-makes
returns-in_ok-new-in-AddValidationRule-clause-makes g c =
    let laws = c.call_laws.ensures in
    drafts_seen g.K.Keeper.state (record { weaker = laws.weaker; none = laws.none; makes = laws.makes; most = laws.most }) (λ _. answer.Done) _ _ _ c.args.draft.now c.make_edit-in-AddValidationRule.new.draft c.make_edit-in-AddValidationRule.result c.done-in-AddValidationRule.result c.done-in-AddValidationRule.ensures
    (omega arith) (omega arith) (omega arith) c.make_edit-in-AddValidationRule.ensures.makes

-- ---- people

pub returns-in-AddUser-clause-what : goal.returns-in-AddUser-clause-what
returns-in-AddUser-clause-what g c told =
    let caller = c.args.caller.now in
    edits_asked_so caller.org Anyone (AsksWith (g.R.Rights.whose c.args.rights.now) caller c.args.now) (λ a _. tt) c.args.route.now AddUser c.args.body.now (tables_of g.K.Keeper.state c.args.draft.now) (tables_of g.K.Keeper.state c.new_user.new.draft) c.new_user.result
    c.in-AddUser.is (c.new_user.ensures.what told)

pub returns-in-SetUser-clause-what : goal.returns-in-SetUser-clause-what
returns-in-SetUser-clause-what g c told =
    let caller = c.args.caller.now in
    edits_asked_so caller.org Anyone (AsksWith (g.R.Rights.whose c.args.rights.now) caller c.args.now) (λ a _. tt) c.args.route.now (SetUser c.in-SetUser.id) c.args.body.now (tables_of g.K.Keeper.state c.args.draft.now) (tables_of g.K.Keeper.state c.changed_user.new.draft) c.changed_user.result
    c.in-SetUser.is (c.changed_user.ensures.what told)

pub returns-in-AddRole-clause-what : goal.returns-in-AddRole-clause-what
returns-in-AddRole-clause-what g c told =
    let caller = c.args.caller.now in
    edits_asked_so caller.org Anyone (AsksWith (g.R.Rights.whose c.args.rights.now) caller c.args.now) (λ a _. tt) c.args.route.now AddRole c.args.body.now (tables_of g.K.Keeper.state c.args.draft.now) (tables_of g.K.Keeper.state c.new_role.new.draft) c.new_role.result
    c.in-AddRole.is (c.new_role.ensures.what told)

pub returns-in-SetRole-clause-what : goal.returns-in-SetRole-clause-what
returns-in-SetRole-clause-what g c told =
    let caller = c.args.caller.now in
    edits_asked_so caller.org Anyone (AsksWith (g.R.Rights.whose c.args.rights.now) caller c.args.now) (λ a _. tt) c.args.route.now (SetRole c.in-SetRole.id) c.args.body.now (tables_of g.K.Keeper.state c.args.draft.now) (tables_of g.K.Keeper.state c.changed_role.new.draft) c.changed_role.result
    c.in-SetRole.is (c.changed_role.ensures.what told)

pub returns-in-AddGroup-clause-what : goal.returns-in-AddGroup-clause-what
returns-in-AddGroup-clause-what g c told =
    let caller = c.args.caller.now in
    edits_asked_so caller.org Anyone (AsksWith (g.R.Rights.whose c.args.rights.now) caller c.args.now) (λ a _. tt) c.args.route.now AddGroup c.args.body.now (tables_of g.K.Keeper.state c.args.draft.now) (tables_of g.K.Keeper.state c.new_group.new.draft) c.new_group.result
    c.in-AddGroup.is (c.new_group.ensures.what told)

pub returns-in-SetGroup-clause-what : goal.returns-in-SetGroup-clause-what
returns-in-SetGroup-clause-what g c told =
    let caller = c.args.caller.now in
    edits_asked_so caller.org Anyone (AsksWith (g.R.Rights.whose c.args.rights.now) caller c.args.now) (λ a _. tt) c.args.route.now (SetGroup c.in-SetGroup.id) c.args.body.now (tables_of g.K.Keeper.state c.args.draft.now) (tables_of g.K.Keeper.state c.changed_group.new.draft) c.changed_group.result
    c.in-SetGroup.is (c.changed_group.ensures.what told)

pub returns-in-SetOrganisation-clause-what : goal.returns-in-SetOrganisation-clause-what
returns-in-SetOrganisation-clause-what g c told =
    let caller = c.args.caller.now in
    edits_asked_so caller.org Anyone (AsksWith (g.R.Rights.whose c.args.rights.now) caller c.args.now) (λ a _. tt) c.args.route.now SetOrganisation c.args.body.now (tables_of g.K.Keeper.state c.args.draft.now) (tables_of g.K.Keeper.state c.changed_organisation.new.draft) c.changed_organisation.result
    c.in-SetOrganisation.is (c.changed_organisation.ensures.what told)

-- ---- sharing

pub returns-in-Share-clause-what : goal.returns-in-Share-clause-what
returns-in-Share-clause-what g c told =
    let caller = c.args.caller.now in
    edits_asked_so caller.org (HasRights (g.R.Rights.whose c.args.rights.now)) (AsksWith (g.R.Rights.whose c.args.rights.now) caller c.args.now) (λ a asking. asking.1) c.args.route.now Share c.args.body.now (tables_of g.K.Keeper.state c.args.draft.now) (tables_of g.K.Keeper.state c.shared_record.new.draft) c.shared_record.result
    c.in-Share.is (c.shared_record.ensures.what told)

pub returns-in-Unshare-clause-what : goal.returns-in-Unshare-clause-what
returns-in-Unshare-clause-what g c told =
    let caller = c.args.caller.now in
    edits_asked_so caller.org (HasRights (g.R.Rights.whose c.args.rights.now)) (AsksWith (g.R.Rights.whose c.args.rights.now) caller c.args.now) (λ a asking. asking.1) c.args.route.now (Unshare c.in-Unshare.item c.in-Unshare.to) c.args.body.now (tables_of g.K.Keeper.state c.args.draft.now) (tables_of g.K.Keeper.state c.unshared_record.new.draft) c.unshared_record.result
    c.in-Unshare.is (c.unshared_record.ensures.what told c.args.body.now)

pub returns-in-AddSharingRule-clause-what : goal.returns-in-AddSharingRule-clause-what
returns-in-AddSharingRule-clause-what g c told =
    let caller = c.args.caller.now in
    edits_asked_so caller.org Anyone (AsksWith (g.R.Rights.whose c.args.rights.now) caller c.args.now) (λ a _. tt) c.args.route.now AddSharingRule c.args.body.now (tables_of g.K.Keeper.state c.args.draft.now) (tables_of g.K.Keeper.state c.new_sharing_rule.new.draft) c.new_sharing_rule.result
    c.in-AddSharingRule.is (c.new_sharing_rule.ensures.what told)

pub returns-in-RemoveSharingRule-clause-what : goal.returns-in-RemoveSharingRule-clause-what
returns-in-RemoveSharingRule-clause-what g c told =
    let caller = c.args.caller.now in
    edits_asked_so caller.org Anyone (AsksWith (g.R.Rights.whose c.args.rights.now) caller c.args.now) (λ a _. tt) c.args.route.now (RemoveSharingRule c.in-RemoveSharingRule.name) c.args.body.now (tables_of g.K.Keeper.state c.args.draft.now) (tables_of g.K.Keeper.state c.removed_sharing_rule.new.draft) c.removed_sharing_rule.result
    c.in-RemoveSharingRule.is (c.removed_sharing_rule.ensures.what told c.args.body.now)

pub returns-in-RemoveValidationRule-clause-what : goal.returns-in-RemoveValidationRule-clause-what
returns-in-RemoveValidationRule-clause-what g c told =
    let caller = c.args.caller.now in
    edits_asked_so caller.org Anyone (AsksWith (g.R.Rights.whose c.args.rights.now) caller c.args.now) (λ a _. tt) c.args.route.now (RemoveValidationRule c.in-RemoveValidationRule.object c.in-RemoveValidationRule.name) c.args.body.now (tables_of g.K.Keeper.state c.args.draft.now) (tables_of g.K.Keeper.state c.removed_validation_rule.new.draft) c.removed_validation_rule.result
    c.in-RemoveValidationRule.is (c.removed_validation_rule.ensures.what told c.args.body.now)

pub returns-in-RemoveRole-clause-what : goal.returns-in-RemoveRole-clause-what
returns-in-RemoveRole-clause-what g c told =
    let caller = c.args.caller.now in
    edits_asked_so caller.org Anyone (AsksWith (g.R.Rights.whose c.args.rights.now) caller c.args.now) (λ a _. tt) c.args.route.now (RemoveRole c.in-RemoveRole.id) c.args.body.now (tables_of g.K.Keeper.state c.args.draft.now) (tables_of g.K.Keeper.state c.removed_role.new.draft) c.removed_role.result
    c.in-RemoveRole.is (c.removed_role.ensures.what told c.args.body.now)

pub returns-in-RemoveGroup-clause-what : goal.returns-in-RemoveGroup-clause-what
returns-in-RemoveGroup-clause-what g c told =
    let caller = c.args.caller.now in
    edits_asked_so caller.org Anyone (AsksWith (g.R.Rights.whose c.args.rights.now) caller c.args.now) (λ a _. tt) c.args.route.now (RemoveGroup c.in-RemoveGroup.id) c.args.body.now (tables_of g.K.Keeper.state c.args.draft.now) (tables_of g.K.Keeper.state c.removed_group.new.draft) c.removed_group.result
    c.in-RemoveGroup.is (c.removed_group.ensures.what told c.args.body.now)

-- ---- the change of a field's type

pub returns-in-BeginRetype-clause-what : goal.returns-in-BeginRetype-clause-what
returns-in-BeginRetype-clause-what g c told =
    let caller = c.args.caller.now in
    edits_asked_so caller.org Anyone (AsksWith (g.R.Rights.whose c.args.rights.now) caller c.args.now) (λ a _. tt) c.args.route.now BeginRetype c.args.body.now (tables_of g.K.Keeper.state c.args.draft.now) (tables_of g.K.Keeper.state c.begun_retype.new.draft) c.begun_retype.result
    c.in-BeginRetype.is (c.begun_retype.ensures.what told)

pub returns-in-CancelRetype-clause-what : goal.returns-in-CancelRetype-clause-what
returns-in-CancelRetype-clause-what g c told =
    let caller = c.args.caller.now in
    edits_asked_so caller.org Anyone (AsksWith (g.R.Rights.whose c.args.rights.now) caller c.args.now) (λ a _. tt) c.args.route.now CancelRetype c.args.body.now (tables_of g.K.Keeper.state c.args.draft.now) (tables_of g.K.Keeper.state c.cancelled_retype.new.draft) c.cancelled_retype.result
    c.in-CancelRetype.is (c.cancelled_retype.ensures.what told c.args.body.now)
