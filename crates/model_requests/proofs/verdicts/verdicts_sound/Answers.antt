use Rattle.std.proofs.Common.{sym, subst}
use Rattle.model.specs.Paths.{Asked}
use Rattle.model.specs.Sound.{IsSound}
use Rattle.model_invariant.specs.Fit.{IsCaller}
use Rattle.model_requests.specs.Fit.{IsFit}
use Rattle.model_requests.specs.Requests.{Request, verdict_on, asks, creates, updates, deletes, upserts, shares, unshares, adds_object, sets_object, adds_field, adds_validation_rule, adds_sharing_rule, removes_sharing_rule, removes_validation_rule, adds_user, sets_user, adds_role, sets_role, removes_role, adds_group, sets_group, removes_group, sets_organisation, begins_retype, gets_retype, cancels_retype}
use Rattle.model_requests.proofs.VerdictsSound.{asked_same, looked_same}
use Rattle.model_requests.proofs.verdicts.verdicts_sound.Goals as goal

pub returns-clause-verdict : goal.returns-clause-verdict
returns-clause-verdict c = by
  where
    by : (a : Asked) (r : Request) → IsCaller a → IsFit a r → IsSound a.tenant → IsSound (verdict_on a r).tenant
    by a (asks q) caller fit s = subst IsSound (sym (asked_same a q)) s
    by a (creates object given) caller fit s = c.records_sound.ensures.create a object given caller fit s
    by a (updates object key given) caller fit s = c.records_sound.ensures.update a object key given caller fit s
    by a (deletes object key) caller fit s = c.deletes_sound.ensures.delete a object key caller.1 s
    by a (upserts object key text given) caller fit s = c.records_sound.ensures.upsert a object key text given caller fit s
    by a (shares b) caller fit s = c.sharing_sound.ensures.share a b fit s
    by a (unshares item part to) caller fit s = c.sharing_sound.ensures.unshare a item part to s
    by a (adds_object b) caller fit s = c.objects_sound.ensures.add_object a.tenant b fit s
    by a (sets_object object change) caller fit s = c.objects_sound.ensures.set_object a.tenant object change fit s
    by a (adds_field b) caller fit s = c.objects_sound.ensures.add_field a.tenant b fit s
    by a (adds_validation_rule b) caller fit s = c.objects_sound.ensures.add_validation_rule a.tenant b fit s
    by a (removes_validation_rule object name) caller fit s = c.objects_sound.ensures.remove_validation_rule a.tenant object name s
    by a (adds_sharing_rule b) caller fit s = c.sharing_sound.ensures.add_rule a.tenant b fit s
    by a (removes_sharing_rule name) caller fit s = c.sharing_sound.ensures.remove_rule a.tenant name s
    by a (adds_user b) caller fit s = c.people_sound.ensures.add_user a.tenant b s
    by a (sets_user id change) caller fit s = c.people_sound.ensures.set_user a.tenant id change s
    by a (adds_role name parent) caller fit s = c.people_sound.ensures.add_role a.tenant name parent s
    by a (sets_role id change) caller fit s = c.people_sound.ensures.set_role a.tenant id change s
    by a (removes_role id) caller fit s = c.removals_sound.ensures.remove_role a.tenant id s
    by a (adds_group name) caller fit s = c.people_sound.ensures.add_group a.tenant name s
    by a (sets_group id change) caller fit s = c.people_sound.ensures.set_group a.tenant id change s
    by a (removes_group id) caller fit s = c.removals_sound.ensures.remove_group a.tenant id s
    by a (sets_organisation name) caller fit s = c.people_sound.ensures.set_organisation a.tenant name s
    by a (begins_retype object field to) caller fit s = c.jobs_sound.ensures.begin a.tenant object field to fit s
    by a gets_retype caller fit s = subst IsSound (sym (looked_same a.tenant)) s
    by a cancels_retype caller fit s = c.jobs_sound.ensures.cancel a.tenant s

pub returns-clause-step : goal.returns-clause-step
returns-clause-step c = c.jobs_sound.ensures.step
