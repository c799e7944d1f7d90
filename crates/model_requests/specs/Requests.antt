-- Requests, as they are read, and what each comes to. A body or a query that isn't of its form has been refused before.
-- Source of the requests on records: Salesforce, REST API. Those of administrators are this product's own.
use Rattle.std.specs.Prelude.{ℕ, List, Option}
use Rattle.soql.specs.declared.query.Query.{Query}
use Rattle.model.specs.Asking.{ask}
use Rattle.model.specs.Creates.{create}
use Rattle.model.specs.Deletes.{delete}
use Rattle.model.specs.declared.record_bodies.Assignment.{Assignment}
use Rattle.model.specs.declared.metadata_bodies.NewObject.{NewObject}
use Rattle.model.specs.declared.metadata_bodies.ObjectChange.{ObjectChange}
use Rattle.model.specs.Metadata.{add_object, set_object}
use Rattle.model.specs.declared.metadata_bodies.NewField.{NewField}
use Rattle.model.specs.declared.metadata_bodies.SpelledType.{SpelledType}
use Rattle.model.specs.NewFields.{add_field}
use Rattle.model.specs.Paths.{Asked}
use Rattle.model.specs.People.{add_group, add_role, add_user, set_group, set_organisation, set_role, set_user}
use Rattle.model.specs.declared.people_bodies.GroupChange.{GroupChange}
use Rattle.model.specs.declared.people_bodies.NewUser.{NewUser}
use Rattle.model.specs.declared.people_bodies.RoleChange.{RoleChange}
use Rattle.model.specs.declared.people_bodies.UserChange.{UserChange}
use Rattle.model.specs.declared.people_bodies.Spelled.{Spelled}
use Rattle.model.specs.Retyping.{begin_retype, cancel_retype, get_retype}
use Rattle.model.specs.Shares.{share, unshare}
use Rattle.model.specs.declared.sharing_bodies.NewShare.{NewShare}
use Rattle.model.specs.SharingRules.{add_sharing_rule, remove_sharing_rule}
use Rattle.model.specs.declared.sharing_bodies.NewSharingRule.{NewSharingRule}
use Rattle.model.specs.Updates.{update}
use Rattle.model.specs.Upserts.{upsert}
use Rattle.model.specs.ValidationRules.{add_validation_rule, remove_validation_rule}
use Rattle.model.specs.declared.metadata_bodies.NewValidationRule.{NewValidationRule}
use Rattle.model.specs.Verdict.{Verdict}
use Rattle.model_requests.specs.Removals.{remove_group, remove_role}

-- a request: one for each route, with the parts of its path and what its body says
pub data Request : Type 0 where
  asks : Query → Request
  creates : (object : List ℕ) → List Assignment → Request
  updates : (object key : List ℕ) → List Assignment → Request
  deletes : (object key : List ℕ) → Request
  -- the text of the key's value is none where its bytes aren't UTF-8
  upserts : (object key : List ℕ) → (text : Option (List ℕ)) → List Assignment → Request
  shares : NewShare → Request
  -- the principal is none where its part of the path has another form
  unshares : (item part : List ℕ) → Option Spelled → Request
  adds_object : NewObject → Request
  sets_object : (object : List ℕ) → ObjectChange → Request
  adds_field : NewField → Request
  adds_validation_rule : NewValidationRule → Request
  removes_validation_rule : (object name : List ℕ) → Request
  adds_sharing_rule : NewSharingRule → Request
  removes_sharing_rule : (name : List ℕ) → Request
  adds_user : NewUser → Request
  sets_user : (id : List ℕ) → UserChange → Request
  adds_role : (name : List ℕ) → (parent : Option (List ℕ)) → Request
  sets_role : (id : List ℕ) → RoleChange → Request
  removes_role : (id : List ℕ) → Request
  adds_group : (name : List ℕ) → Request
  sets_group : (id : List ℕ) → GroupChange → Request
  removes_group : (id : List ℕ) → Request
  sets_organisation : (name : List ℕ) → Request
  begins_retype : (object field : List ℕ) → SpelledType → Request
  gets_retype : Request
  cancels_retype : Request

-- what a request comes to, for the user who asks at this moment
abbrev pub verdict_on : Asked → Request → Verdict
verdict_on a (asks q) = ask a q
verdict_on a (creates object given) = create a object given
verdict_on a (updates object key given) = update a object key given
verdict_on a (deletes object key) = delete a object key
verdict_on a (upserts object key text given) = upsert a object key text given
verdict_on a (shares b) = share a b
verdict_on a (unshares item part to) = unshare a item part to
verdict_on a (adds_object b) = add_object a.tenant b
verdict_on a (sets_object object change) = set_object a.tenant object change
verdict_on a (adds_field b) = add_field a.tenant b
verdict_on a (adds_validation_rule b) = add_validation_rule a.tenant b
verdict_on a (removes_validation_rule object name) = remove_validation_rule a.tenant object name
verdict_on a (adds_sharing_rule b) = add_sharing_rule a.tenant b
verdict_on a (removes_sharing_rule name) = remove_sharing_rule a.tenant name
verdict_on a (adds_user b) = add_user a.tenant b
verdict_on a (sets_user id change) = set_user a.tenant id change
verdict_on a (adds_role name parent) = add_role a.tenant name parent
verdict_on a (sets_role id change) = set_role a.tenant id change
verdict_on a (removes_role id) = remove_role a.tenant id
verdict_on a (adds_group name) = add_group a.tenant name
verdict_on a (sets_group id change) = set_group a.tenant id change
verdict_on a (removes_group id) = remove_group a.tenant id
verdict_on a (sets_organisation name) = set_organisation a.tenant name
verdict_on a (begins_retype object field to) = begin_retype a.tenant object field to
verdict_on a gets_retype = get_retype a.tenant
verdict_on a cancels_retype = cancel_retype a.tenant
