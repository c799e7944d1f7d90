-- The requests that bodies ask for, and the edits of these.
use Rattle.std.proofs.Common.{◌≡◌, ◌≤◌, ℕ, true, List, refl, sym, ap, subst, ◌∙◌, arith, ◌<◌, Option, Some, None, Result, Ok, Err}
use Rattle.std.specs.Prelude.{IfErr, IfOk, IfSome, IsTrue, OnOk}
use Rattle.std.specs.Option.{option_map}
use Rattle.std.specs.declared.alloc.AllocError.{AllocError}
use Rattle.api_input.specs.Bodies.{adds_new_role, begins_new_retype, request_in, values_request}
use Rattle.api_input.specs.declared.people.NewRole.{NewRole}
use Rattle.api_input.specs.declared.retyping.NewRetype.{NewRetype}
use Rattle.store_edit.specs.Edits.{DraftsEdit, EditsAt, MakesEdit, OthersStay, Planned}
use Rattle.store_kv.specs.Draft.{DraftReads, DraftTells, Held, count_of}
use Rattle.store_kv.specs.State.{KeeperState}
use Rattle.store_kv.specs.Tables.{Tables}
use Rattle.store_rows.specs.declared.fail.StoreFail.TheVariants.{Damaged, Memory}
use Rattle.model.specs.declared.metadata_bodies.NewField.{NewField}
use Rattle.model.specs.declared.metadata_bodies.NewObject.{NewObject}
use Rattle.model.specs.declared.metadata_bodies.NewValidationRule.{NewValidationRule}
use Rattle.model.specs.declared.metadata_bodies.ObjectChange.{ObjectChange}
use Rattle.model.specs.Cases.{in_case}
use Rattle.model.specs.declared.record_bodies.Assignment.{Assignment}
use Rattle.model.specs.declared.people_bodies.GroupChange.{GroupChange}
use Rattle.model.specs.declared.people_bodies.NewUser.{NewUser}
use Rattle.model.specs.declared.people_bodies.RoleChange.{RoleChange}
use Rattle.model.specs.declared.people_bodies.UserChange.{UserChange}
use Rattle.model.specs.declared.sharing_bodies.NewShare.{NewShare}
use Rattle.model.specs.declared.sharing_bodies.NewSharingRule.{NewSharingRule}
use Rattle.model.specs.declared.refusal.Refusal.{Refusal}
use Rattle.model_requests.specs.declared.route.Route.{Route}
use Rattle.model_requests.specs.declared.route.Route.TheVariants.{AddField, AddGroup, AddObject, AddRole, AddSharingRule, AddUser, AddValidationRule, BeginRetype, CancelRetype, Create, Delete, RemoveGroup, RemoveRole, RemoveSharingRule, RemoveValidationRule, SetGroup, SetObject, SetOrganisation, SetRole, SetUser, Share, Unshare, Update, Upsert}
use Rattle.model.specs.Bounds.{edit_shown, request_changes, request_gone}
use Rattle.model_requests.specs.Forms.{field_request, object_change_request, object_request, share_request, sharing_rule_request, validation_request}
use Rattle.model.specs.Members.{Body, principal_in}
use Rattle.model.specs.Organisations.{is_secret}
use Rattle.model.specs.Paths.{Asked}
use Rattle.model_requests.specs.PeopleForms.{group_change_request, group_request, organisation_request, retype_request, role_change_request, role_request, user_change_request, user_request}
use Rattle.model.specs.declared.people_bodies.Spelled.{Spelled}
use Rattle.model_requests.specs.RequestOf.{request_of, request_or, verdict_or}
use Rattle.model_reads.specs.Parts.{value_part}
use Rattle.model_requests.specs.Requests.{Request, adds_field, adds_group, adds_object, adds_sharing_rule, adds_user, adds_validation_rule, cancels_retype, creates, deletes, removes_group, removes_role, removes_sharing_rule, removes_validation_rule, sets_group, sets_object, sets_organisation, sets_role, sets_user, shares, unshares, updates, upserts, verdict_on}
use Rattle.model.specs.Sound.{IsSound}
use Rattle.model.specs.Tenant.{Tenant}
use Rattle.model.specs.Verdict.{Done, Verdict}
use Rattle.model_requests.specs.Fit.{IsFit}
use Rattle.store_abstraction.specs.Calls.{Calls, Ending, Makes, ended_edit, fell, stopped}
use Rattle.store_abstraction.specs.Calls.{done as ended_done}
use Rattle.store_abstraction.specs.Plan.{OrgPlan}
use Rattle.store_abstraction.specs.declared.fail.EditFail.{EditFail}
use Rattle.store_abstraction.specs.declared.fail.EditFail.TheVariants.{Refused, Store}
use Rattle.store_abstraction.specs.Fails.{IsRefusal}
use Rattle.api_edit.specs.declared.answer.Answer.{Answer}
use Rattle.api_edit.specs.inner.Edits.{Asks, EditsFrom, EditsTo, IsAnswerTo, KeepsRefused, answer_of, form_of, seen}

-- what `model_invariant` says of requests that are read
abbrev pub RequestsFit : Type 0
RequestsFit = (a : Asked) (r : Route) (body : List ℕ) (x : Request) → IsSound a.tenant → request_of r body ≡ Ok x → IsFit a x

-- ---- bodies

-- what is read of a body, as the request that it asks for
asks_form : {X : Type 0} (make : X → Request) (read : Result (Option X) AllocError) (request : Option Request) → IfOk read (λ x. option_map make x ≡ request)
    → Asks make (request_or request) (form_of read)
asks_form make (Ok (Some x)) request e = ap request_or (sym e)
asks_form make (Ok None) request e = ap request_or (sym e)
asks_form make (Err x) request e = refl

pub asks_object : (body : List ℕ) (read : Result (Option NewObject) AllocError) → IfOk read (λ x. option_map adds_object x ≡ request_in object_request body)
    → Asks adds_object (request_of AddObject body) (form_of read)
unfolding request_of
asks_object body read e = asks_form adds_object read (request_in object_request body) e

pub asks_rule : (body : List ℕ) (read : Result (Option NewValidationRule) AllocError) → IfOk read (λ x. option_map adds_validation_rule x ≡ request_in validation_request body)
    → Asks adds_validation_rule (request_of AddValidationRule body) (form_of read)
unfolding request_of
asks_rule body read e = asks_form adds_validation_rule read (request_in validation_request body) e

pub asks_share : (body : List ℕ) (read : Result (Option NewShare) AllocError) → IfOk read (λ x. option_map shares x ≡ request_in share_request body)
    → Asks shares (request_of Share body) (form_of read)
unfolding request_of
asks_share body read e = asks_form shares read (request_in share_request body) e

pub asks_sharing_rule : (body : List ℕ) (read : Result (Option NewSharingRule) AllocError) → IfOk read (λ x. option_map adds_sharing_rule x ≡ request_in sharing_rule_request body)
    → Asks adds_sharing_rule (request_of AddSharingRule body) (form_of read)
unfolding request_of
asks_sharing_rule body read e = asks_form adds_sharing_rule read (request_in sharing_rule_request body) e

pub asks_field : (body : List ℕ) (read : Result (Option NewField) AllocError) → IfOk read (λ x. option_map adds_field x ≡ request_in field_request body)
    → Asks adds_field (request_of AddField body) (form_of read)
unfolding request_of
asks_field body read e = asks_form adds_field read (request_in field_request body) e

pub asks_retype : (body : List ℕ) (read : Result (Option NewRetype) AllocError) → IfOk read (λ x. option_map begins_new_retype x ≡ request_in retype_request body)
    → Asks begins_new_retype (request_of BeginRetype body) (form_of read)
unfolding request_of
asks_retype body read e = asks_form begins_new_retype read (request_in retype_request body) e

-- the same of a body by which something is changed that the path names
of_path : {X : Type 0} (make : List ℕ → X → Request) (form : List ℕ → Body → Option Request) (read : Result (Option X) AllocError) (body : List ℕ)
    → IfOk read (λ x. (name : List ℕ) → option_map (make name) x ≡ request_in (form name) body) → (name : List ℕ) → IfOk read (λ x. option_map (make name) x ≡ request_in (form name) body)
of_path make form (Ok x) body e name = e name
of_path make form (Err x) body e name = e

pub asks_object_change : (object body : List ℕ) (read : Result (Option ObjectChange) AllocError)
    → IfOk read (λ x. (object : List ℕ) → option_map (sets_object object) x ≡ request_in (object_change_request object) body)
    → Asks (sets_object object) (request_of (SetObject object) body) (form_of read)
unfolding request_of
asks_object_change object body read e =
    asks_form (sets_object object) read (request_in (object_change_request object) body) (of_path sets_object object_change_request read body e object)

pub asks_user : (body : List ℕ) (read : Result (Option NewUser) AllocError) → IfOk read (λ x. option_map adds_user x ≡ request_in user_request body)
    → Asks adds_user (request_of AddUser body) (form_of read)
unfolding request_of
asks_user body read e = asks_form adds_user read (request_in user_request body) e

pub has_secret : (read : Result (Option NewUser) AllocError) → IfOk read (λ x. IfSome x (λ user. IsTrue (is_secret user.secret))) → IfOk (form_of read) (λ user. IsTrue (is_secret user.secret))
has_secret (Ok (Some user)) h = h
has_secret (Ok None) h = tt
has_secret (Err e) h = tt

pub asks_user_change : (user body : List ℕ) (read : Result (Option UserChange) AllocError)
    → IfOk read (λ x. (user : List ℕ) → option_map (sets_user user) x ≡ request_in (user_change_request user) body)
    → Asks (sets_user user) (request_of (SetUser user) body) (form_of read)
unfolding request_of
asks_user_change user body read e =
    asks_form (sets_user user) read (request_in (user_change_request user) body) (of_path sets_user user_change_request read body e user)

pub has_new_secret : (read : Result (Option UserChange) AllocError) → IfOk read (λ x. IfSome x (λ b. IsTrue (in_case b.secret true is_secret)))
    → IfOk (form_of read) (λ b. IsTrue (in_case b.secret true is_secret))
has_new_secret (Ok (Some b)) h = h
has_new_secret (Ok None) h = tt
has_new_secret (Err e) h = tt

-- a secret that is given is one
pub secret_given : (secret : Option (List ℕ)) → IsTrue (in_case secret true is_secret) → IfSome secret (λ s. IsTrue (is_secret s))
secret_given None h = tt
secret_given (Some s) h = h

pub asks_role : (body : List ℕ) (read : Result (Option NewRole) AllocError) → IfOk read (λ x. option_map adds_new_role x ≡ request_in role_request body)
    → Asks adds_new_role (request_of AddRole body) (form_of read)
unfolding request_of
asks_role body read e = asks_form adds_new_role read (request_in role_request body) e

pub asks_role_change : (role body : List ℕ) (read : Result (Option RoleChange) AllocError)
    → IfOk read (λ x. (role : List ℕ) → option_map (sets_role role) x ≡ request_in (role_change_request role) body)
    → Asks (sets_role role) (request_of (SetRole role) body) (form_of read)
unfolding request_of
asks_role_change role body read e =
    asks_form (sets_role role) read (request_in (role_change_request role) body) (of_path sets_role role_change_request read body e role)

pub asks_group : (body : List ℕ) (read : Result (Option (List ℕ)) AllocError) → IfOk read (λ x. option_map adds_group x ≡ request_in group_request body)
    → Asks adds_group (request_of AddGroup body) (form_of read)
unfolding request_of
asks_group body read e = asks_form adds_group read (request_in group_request body) e

pub asks_group_change : (group body : List ℕ) (read : Result (Option GroupChange) AllocError)
    → IfOk read (λ x. (group : List ℕ) → option_map (sets_group group) x ≡ request_in (group_change_request group) body)
    → Asks (sets_group group) (request_of (SetGroup group) body) (form_of read)
unfolding request_of
asks_group_change group body read e =
    asks_form (sets_group group) read (request_in (group_change_request group) body) (of_path sets_group group_change_request read body e group)

pub asks_organisation : (body : List ℕ) (read : Result (Option (List ℕ)) AllocError) → IfOk read (λ x. option_map sets_organisation x ≡ request_in organisation_request body)
    → Asks sets_organisation (request_of SetOrganisation body) (form_of read)
unfolding request_of
asks_organisation body read e = asks_form sets_organisation read (request_in organisation_request body) e

-- the values of a record, with which any request may be made
of_values : (read : Result (Option (List Assignment)) AllocError) (body : List ℕ) (make : List Assignment → Request)
    → IfOk read (λ values. (make : List Assignment → Request) → option_map make values ≡ request_in (values_request make) body)
    → IfOk read (λ values. option_map make values ≡ request_in (values_request make) body)
of_values (Ok x) body make e = e make
of_values (Err x) body make e = e

pub asks_values : (make : List Assignment → Request) (body : List ℕ) (read : Result (Option (List Assignment)) AllocError)
    → IfOk read (λ values. (make : List Assignment → Request) → option_map make values ≡ request_in (values_request make) body)
    → Asks make (request_or (request_in (values_request make) body)) (form_of read)
asks_values make body read e = asks_form make read (request_in (values_request make) body) (of_values read body make e)

-- what is read of a body, as the request that a route makes of it
abbrev AsksBy : Route → (List Assignment → Request) → (body : List ℕ) → Result (List Assignment) EditFail → Type 0
AsksBy r make body values = Asks make (request_or (request_in (values_request make) body)) values → Asks make (request_of r body) values

pub asks_new : (object body : List ℕ) (values : Result (List Assignment) EditFail) → AsksBy (Create object) (creates object) body values
unfolding request_of
asks_new object body values h = h

pub asks_other : (object key body : List ℕ) (values : Result (List Assignment) EditFail) → AsksBy (Update object key) (updates object key) body values
unfolding request_of
asks_other object key body values h = h

pub asks_upsert : (object key value body : List ℕ) (values : Result (List Assignment) EditFail) → AsksBy (Upsert object key value) (upserts object key (value_part value)) body values
unfolding request_of
asks_upsert object key value body values h = h

-- a deletion has no body
pub asks_no_more : (object key body : List ℕ) → request_of (Delete object key) body ≡ Ok (deletes object key)
unfolding request_of
asks_no_more object key body = refl

-- nor has what calls off the change of a field's type
pub asks_cancel : (body : List ℕ) → request_of CancelRetype body ≡ Ok cancels_retype
unfolding request_of
asks_cancel body = refl

-- nor have the ends of a share, of a sharing rule and of a validation rule
pub asks_no_share : (item part body : List ℕ) → request_of (Unshare item part) body ≡ Ok (unshares item part (principal_in part))
unfolding request_of
asks_no_share item part body = refl

pub asks_no_rule : (name body : List ℕ) → request_of (RemoveSharingRule name) body ≡ Ok (removes_sharing_rule name)
unfolding request_of
asks_no_rule name body = refl

pub asks_no_validation : (object name body : List ℕ) → request_of (RemoveValidationRule object name) body ≡ Ok (removes_validation_rule object name)
unfolding request_of
asks_no_validation object name body = refl

pub asks_no_role : (id body : List ℕ) → request_of (RemoveRole id) body ≡ Ok (removes_role id)
unfolding request_of
asks_no_role id body = refl

pub asks_no_group : (id body : List ℕ) → request_of (RemoveGroup id) body ≡ Ok (removes_group id)
unfolding request_of
asks_no_group id body = refl

-- ---- a request that is read is fit

pub fit : RequestsFit → (a : Asked) (r : Route) (body : List ℕ) (x : Request) → IsSound a.tenant → request_of r body ≡ Ok x → IsFit a x
fit fits a r body x sound e = fits a r body x sound e

-- ---- edits

-- an edit of which the answer is seen by view, and is what the verdict calls it
module _ {X : Type 0} (view : X → Answer) (answered : X → Done) (same_answer : (x : X) → answer_of (view x) ≡ answered x) where
  edits_to : (org : ℕ) (t : Tenant) (v : Verdict) (planned : OrgPlan → Type 0) (after : Tables) (edit : Result X EditFail) → KeepsRefused t v → EditsAt org v answered planned after edit → EditsTo org t v after (seen view edit)
  edits_to org t v planned after (Ok x) kept e = (e.0 ∙ ap (λ d. Ok d) (sym (same_answer x)), (e.1.0, e.1.2))
  edits_to org t v planned after (Err (Refused r)) kept e = (e, kept r e)
  edits_to org t v planned after (Err (Store f)) kept e = e

  others_seen : (org : ℕ) (m after : Tables) (edit : Result X EditFail) → OthersStay org m after edit → OthersStay org m after (seen view edit)
  others_seen org m after (Ok x) stay = stay
  others_seen org m after (Err e) stay = stay

  -- the edit of the request that the route and the body ask for
  pub edits_asked : (org : ℕ) (asks : Asked → Type 0) (r s : Route) (body : List ℕ) (x : Request) (verdict : Asked → Verdict) (planned : Planned) (fits : Asked → Type 0) (m after : Tables) (edit : Result X EditFail) (result : Result Answer EditFail)
      → r ≡ s → request_of s body ≡ Ok x → result ≡ seen view edit
      → ((a : Asked) → verdict a ≡ verdict_on a x) → ((a : Asked) → KeepsRefused a.tenant (verdict_on a x)) → ((a : Asked) → IsSound a.tenant → asks a → fits a) → MakesEdit org verdict answered planned fits m after edit
      → EditsFrom org asks (λ a. verdict_or a (request_of r body)) m after result
  edits_asked org asks r s body x verdict planned fits m after edit result route e is same kept fit h =
      subst (λ q. EditsFrom org asks (λ a. verdict_or a (request_of r body)) m after q) (sym is) (record {
        others = others_seen org m after edit h.others;
        edited = λ q a stands asking.
            let so : verdict_or a (request_of r body) ≡ verdict_on a x = ap (λ y. verdict_or a (request_of y body)) route ∙ ap (verdict_or a) e in
            subst (λ v. EditsTo org a.tenant v after (seen view edit)) (same a ∙ sym so)
            (edits_to org a.tenant (verdict a) (planned q a.tenant) after edit (subst (KeepsRefused a.tenant) (sym (same a)) (kept a)) (h.edited q a stands (fit a stands.sound asking)));
      })

-- an edit for some, as one of the request of that route for those who ask so and are among them
pub edits_asked_so : (org : ℕ) (some asks : Asked → Type 0) → ((a : Asked) → asks a → some a) → (r s : Route) (body : List ℕ) (m after : Tables) (result : Result Answer EditFail) → r ≡ s
    → EditsFrom org some (λ a. verdict_or a (request_of s body)) m after result → EditsFrom org asks (λ a. verdict_or a (request_of r body)) m after result
edits_asked_so org some asks among r s body m after result route h = record {
  others = h.others;
  edited = λ q a stands asking. subst (λ y. EditsTo org a.tenant (verdict_or a (request_of y body)) after result) (sym route) (h.edited q a stands (among a asking));
}

-- no edit, where the body asks for none
none_asked : {X : Type 0} (make : X → Request) (org : ℕ) (a : Asked) (request : Result Request Refusal) (fail : EditFail) (after : Tables) → Asks make request (Err fail)
    → EditsTo org a.tenant (verdict_or a request) after (Err fail)
none_asked make org a request (Refused r) after e = subst (λ q. EditsTo org a.tenant (verdict_or a q) after (Err (Refused r))) (sym e) (refl, refl)
none_asked make org a request (Store f) after e = λ damaged. apart (sym e ∙ damaged)
  where
    apart : Memory ≡ Damaged → ⊥
    apart d = cc

pub edits_none : {X : Type 0} (make : X → Request) (org : ℕ) (asks : Asked → Type 0) (r s : Route) (body : List ℕ) (fail : EditFail) (m : Tables) (result : Result Answer EditFail) → r ≡ s
    → result ≡ Err fail → Asks make (request_of s body) (Err fail) → EditsFrom org asks (λ a. verdict_or a (request_of r body)) m m result
edits_none make org asks r s body fail m result route is e =
    subst (λ q. EditsFrom org asks (λ a. verdict_or a (request_of r body)) m m q) (sym is) (record {
      others = tt;
      edited = λ q a stands asking. subst (λ y. EditsTo org a.tenant (verdict_or a (request_of y body)) m (Err fail)) (sym route) (none_asked make org a (request_of s body) fail m e);
    })

-- out of memory
pub edits_memory : (org : ℕ) (asks : Asked → Type 0) (verdict : Asked → Verdict) (m : Tables) → EditsFrom org asks verdict m m (Err (Store Memory))
edits_memory org asks verdict m = record { others = tt; edited = λ q a stands asking damaged. apart damaged }
  where
    apart : Memory ≡ Damaged → ⊥
    apart d = cc

-- ---- the form of an answer

form_of_seen : {X : Type 0} (view : X → Answer) (r : Route) (edit : Result X EditFail) → ((x : X) → IsAnswerTo r (view x)) → IfOk (seen view edit) (IsAnswerTo r)
form_of_seen view r (Ok x) all = all x
form_of_seen view r (Err e) all = tt

pub answers_so : {X : Type 0} (view : X → Answer) (r s : Route) (edit : Result X EditFail) (result : Result Answer EditFail) → r ≡ s → result ≡ seen view edit → ((x : X) → IsAnswerTo s (view x))
    → IfOk result (IsAnswerTo r)
answers_so view r s edit result route is all =
    subst (λ q. IfOk result (IsAnswerTo q)) (sym route) (subst (λ q. IfOk q (IsAnswerTo s)) (sym is) (form_of_seen view s edit all))

pub answers_none : (r : Route) (fail : EditFail) (result : Result Answer EditFail) → result ≡ Err fail → IfOk result (IsAnswerTo r)
answers_none r fail result is = subst (λ q. IfOk q (IsAnswerTo r)) (sym is) tt

-- ---- what is left of the draft

-- what `store_abstraction` says of no call at all, of reads, and of wider bounds
pub record CallLaws {K : Type 0} (state : K → KeeperState) : Type 0 where
  pub weaker : (shown : ℕ) (e : Ending) (a b : Held K) → (e ≡ fell → ⊥) → Calls state shown ended_done a b → Calls state shown e a b
  pub none : (e : Ending) (a : Held K) → e ≡ ended_done → Calls state 0 e a a
  pub makes : (shown : ℕ) (e : Ending) (a b : Held K) → Calls state shown e a b → Makes state 0 0 shown e a b
  pub most : (most gone shown more taken larger : ℕ) (e : Ending) (a b : Held K) → most ≤ more → gone ≤ taken → (DraftTells state a b → shown ≤ larger) → Makes state most gone shown e a b → Makes state more taken larger e a b

module _ {K : Type 0} (state : K → KeeperState) (laws : CallLaws state) where
  none_made : (e : Ending) (a : Held K) → (e ≡ fell → ⊥) → Makes state request_changes request_gone edit_shown e a a
  none_made e a stood = laws.most 0 0 0 request_changes request_gone edit_shown e a a (omega arith) (omega arith) (λ _. omega arith) (laws.makes 0 e a a (laws.weaker 0 e a a stood (laws.none ended_done a refl)))

  wider : (shown : ℕ) (a b : Held K) → shown ≤ edit_shown → DraftReads state shown a b → DraftReads state edit_shown a b
  wider shown a b few h = record { same_reference = h.same_reference; changes = h.changes; reads = h.reads; shows = λ told. let e = h.shows told in omega (arith, e, few) }

  -- a refusal, or out of memory, before the draft was touched
  pub refused_drafts : (r : Refusal) (a : Held K) → DraftsEdit {X = Answer} state request_changes request_gone edit_shown (Err (Refused r)) a a
  refused_drafts r a = record { makes = none_made ended_done a (λ e. cc); some = tt; refused = λ _. wider 0 a a (omega arith) (laws.none ended_done a refl).reads }

  pub memory_drafts : (a : Held K) → DraftsEdit {X = Answer} state request_changes request_gone edit_shown (Err (Store Memory)) a a
  memory_drafts a = record { makes = none_made stopped a (λ e. cc); some = tt; refused = λ r. absurd r }

  pub none_drafts : {X : Type 0} (make : X → Request) (request : Result Request Refusal) (fail : EditFail) (result : Result Answer EditFail) (a : Held K) → result ≡ Err fail
      → Asks make request (Err fail) → DraftsEdit state request_changes request_gone edit_shown result a a
  none_drafts make request (Refused r) result a is e = subst (λ (q : Result Answer EditFail). DraftsEdit state request_changes request_gone edit_shown q a a) (sym is) (refused_drafts r a)
  none_drafts make request (Store f) result a is e =
      subst (λ (q : Result Answer EditFail). DraftsEdit state request_changes request_gone edit_shown q a a) (sym (is ∙ ap (λ x. Err (Store x)) e)) (memory_drafts a)

  module _ {X : Type 0} (view : X → Answer) (most gone shown : ℕ) (a b : Held K) where
    ended_so : (edit : Result X EditFail) → ended_edit (seen view edit) ≡ ended_edit edit
    ended_so (Ok x) = refl
    ended_so (Err (Refused r)) = refl
    ended_so (Err (Store f)) = refl

    some_so : (edit : Result X EditFail) → OnOk edit (0 < count_of b) → OnOk (seen view edit) (0 < count_of b)
    some_so (Ok x) h = h
    some_so (Err e) h = h

    refused_so : (edit : Result X EditFail) → shown ≤ edit_shown → IfErr edit (λ e. IsRefusal e → DraftReads state shown a b) → IfErr (seen view edit) (λ e. IsRefusal e → DraftReads state edit_shown a b)
    refused_so (Ok x) few h = tt
    refused_so (Err e) few h = λ refusal. wider shown a b few (h refusal)

    -- an edit changes at most as many rows as a request may, and few are shown to it
    pub drafts_seen : (edit : Result X EditFail) (result : Result Answer EditFail) → result ≡ seen view edit → most ≤ request_changes → gone ≤ request_gone → shown ≤ edit_shown → DraftsEdit state most gone shown edit a b
        → DraftsEdit state request_changes request_gone edit_shown result a b
    drafts_seen edit result is few none seldom h = subst (λ (q : Result Answer EditFail). DraftsEdit state request_changes request_gone edit_shown q a b) (sym is) (record {
      makes = subst (λ (e : Ending). Makes state request_changes request_gone edit_shown e a b) (sym (ended_so edit)) (laws.most most gone shown request_changes request_gone edit_shown (ended_edit edit) a b few none (λ _. seldom) h.makes);
      some = some_so edit h.some;
      refused = refused_so edit seldom h.refused;
    })
