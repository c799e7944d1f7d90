-- Changes of users, roles and groups: each takes the organisation's rows to those that its verdict leaves.
use Rattle.std.proofs.Common.{◌≡◌, ◌∙◌, ℕ, false, IsTrue, IfSome, List, [], ◌∷◌, Some, None, Option, refl, sym, ap, ap₂, subst, map}
use Rattle.std.specs.Prelude.{encode_utf8_all}
use Rattle.std.specs.Option.{option_map, unwrap_or}
use Rattle.std.specs.List.{AllByRecursion}
use Rattle.sha2.specs.Sha256.{sha256}
use Rattle.store_edit.specs.Edits.{Takes}
use Rattle.store_edit.specs.Rows.{change_to}
use Rattle.store_rows.specs.declared.group.GroupRow.{GroupRow}
use Rattle.store_rows.specs.declared.role.RoleRow.{RoleRow}
use Rattle.store_rows.specs.declared.user.UserRow.{UserRow}
use Rattle.store_rows.specs.Forms.{FitsForm, Form, key_of, row_bytes}
use Rattle.store_rows.specs.Keys as key
use Rattle.store_rows.specs.Keys.{Key}
use Rattle.store_rows.specs.Rows.{group_form, role_form, user_form}
use Rattle.model.specs.Known.{group_id, role_id}
use Rattle.model.specs.Cases.{in_case}
use Rattle.model.specs.declared.people_bodies.GroupChange.{GroupChange}
use Rattle.model.specs.declared.people_bodies.RoleChange.{RoleChange}
use Rattle.model.specs.declared.people_bodies.UserChange.{UserChange}
use Rattle.model.specs.Organisations.{is_secret}
use Rattle.model.specs.People.{changed, changed_group, changed_role, changed_user, given, group_rules, members_given, role_rules, set_group, set_role, set_user, user_rules}
use Rattle.model.specs.declared.people_bodies.Spelled.{Spelled}
use Rattle.model.specs.Principals.{group_at, principal_of, role_at, spelled_id}
use Rattle.model.specs.Rules.{first_refusal}
use Rattle.model.specs.Sound.{IsSound}
use Rattle.model.specs.Tenant.{Group, Role, Tenant, User}
use Rattle.model.specs.Verdict.{accept, done}
use Rattle.model.specs.World.{user_at, user_id}
use Rattle.people_rows.specs.Roster.{is_group_key, is_role_key, is_user_key}
use Rattle.base_value.specs.declared.sharing.Principal.{Principal}
use Rattle.store_abstraction.specs.Local.{IsIn}
use Rattle.store_abstraction.specs.Metadata.{group_of, role_of, user_of}
use Rattle.store_abstraction.specs.Plan.{FitsPlan, OrgPlan}
use Rattle.store_abstraction.specs.Stands.{org_of_key, row_in}
use Rattle.people_edit.specs.inner.Changing.{IsChangedGroup, IsChangedRole, IsChangedUser, IsRowAs, group_row_with, role_row_with, user_row_with}
use Rattle.people_edit.proofs.Changing.{changed_takes, having_its_id}
use Rattle.people_edit.proofs.Joining.{PlanStays, SamePlan}
use Rattle.people_edit.proofs.NewOnes.{secret_bytes}
use Rattle.store_edit.proofs.StepByStep.{accepted}
use Rattle.people_edit.proofs.Putting.{other_group, other_role, other_user}
use Rattle.store_edit.proofs.Putting.{put_is_in}

-- ---- users

-- what `people_rows` and `model_invariant` say of a user who is changed
pub record UserChanges : Type 0 where
  pub plan : PlanStays
  pub rows : (p : OrgPlan) (t : Tenant) (i : List ℕ) (change : User → User) (k : Key) → ((u : User) → (change u).id ≡ u.id) → is_user_key i k ≡ false
      → row_in p (record t { users = changed user_id change i t.users }) k ≡ row_in p t k
  pub kept : (p : OrgPlan) (t : Tenant) (org : ℕ) (i : List ℕ) (change : User → User) (u : User) → ((v : User) → (change v).id ≡ v.id) → user_at t.users i ≡ Some u
      → row_in p (record t { users = changed user_id change i t.users }) (key.User org i) ≡ Some (row_bytes user_form (user_of org (change u)))
  pub sound : (t : Tenant) (user : List ℕ) (b : UserChange) → IsSound t → IsSound (set_user t user b).tenant

pub user_set_takes : UserChanges → (org : ℕ) (q : OrgPlan) (t : Tenant) (user : List ℕ) (b : UserChange) (row : UserRow)
    → FitsPlan q t → IsSound t → FitsForm user_form row → first_refusal (user_rules t user b) ≡ None → IsRowAs (λ u. user_of org (changed_user b u)) (user_at t.users (spelled_id user)) row
    → Takes org q t (set_user t user b) done SamePlan (change_to user_form row ∷ [])
user_set_takes laws org q t user b row plan sound fits free is =
    let i = spelled_id user in
    let u = record t { users = changed user_id (changed_user b) i t.users } in
    let v = set_user t user b in
    let its : is.it.id ≡ i = having_its_id user_id t.users i is.it is.is_there in
    let next = user_of org (changed_user b is.it) in
    let there : row_in q u (key.User org is.it.id) ≡ Some (row_bytes user_form next) = ap (λ (j : List ℕ). row_in q u (key.User org j)) its ∙ laws.kept q t org i (changed_user b) is.it (λ x. refl) is.is_there in
    let takes : Takes org q t v done SamePlan (change_to user_form next ∷ []) =
    changed_takes laws.plan user_form org q t u v next plan (accepted (first_refusal (user_rules t user b)) t (accept done u) free) (laws.sound t user b sound) refl refl
    (record {
      fits = subst (FitsForm user_form) is.is fits;
      own = refl;
      there = there;
      rest = λ k of e. laws.rows q t i (changed_user b) k (λ x. refl) (subst (λ (j : List ℕ). is_user_key j k ≡ false) its (other_user org is.it.id k of e));
    }) in
    subst (λ (x : UserRow). Takes org q t v done SamePlan (change_to user_form x ∷ [])) (sym is.is) takes

-- the row with what is said
secret_is : (secret : Option (List ℕ)) (digest : List ℕ) → IfSome secret (λ s. IsTrue (is_secret s)) → in_case secret digest (λ s. sha256 (encode_utf8_all s)) ≡ in_case secret digest sha256
secret_is None digest h = refl
secret_is (Some s) digest h = ap sha256 (secret_bytes s h)

-- the id that is named where one is said, and else the one before
pub said_is : (said : Option (Option (List ℕ))) (before : Option (List ℕ)) → in_case said before (λ x. option_map spelled_id (given said)) ≡ in_case said before (option_map spelled_id)
said_is None before = refl
said_is (Some None) before = refl
said_is (Some (Some text)) before = refl

pub user_is_set : (org : ℕ) (t : Tenant) (user : List ℕ) (b : UserChange) (id : List ℕ) (named : Option (List ℕ)) (row next : UserRow) → id ≡ spelled_id user → named ≡ option_map spelled_id (given b.role)
    → IsRowAs (user_of org) (user_at t.users id) row → next ≡ user_row_with b named row → IsChangedUser org t user b next
user_is_set org t user b id named row next is its h made secret =
    record {
      it = h.it;
      is_there = ap (user_at t.users) (sym is) ∙ h.is_there;
      is =
          made
          ∙ ap₂ (λ (r : UserRow) (n : Option (List ℕ)). user_row_with b n r) h.is its
          ∙ ap₂ (λ (d : List ℕ) (r : Option (List ℕ)). record (user_of org (changed_user b h.it)) { digest = d; role = r }) (secret_is b.secret h.it.digest secret) (said_is b.role h.it.role);
    }

-- ---- roles

-- what `people_rows` and `model_invariant` say of a role that is changed
pub record RoleChanges : Type 0 where
  pub plan : PlanStays
  pub rows : (p : OrgPlan) (t : Tenant) (i : List ℕ) (change : Role → Role) (k : Key) → ((r : Role) → (change r).id ≡ r.id) → is_role_key i k ≡ false
      → row_in p (record t { roles = changed role_id change i t.roles }) k ≡ row_in p t k
  pub kept : (p : OrgPlan) (t : Tenant) (org : ℕ) (i : List ℕ) (change : Role → Role) (r : Role) → ((s : Role) → (change s).id ≡ s.id) → role_at t i ≡ Some r
      → row_in p (record t { roles = changed role_id change i t.roles }) (key.Role org i) ≡ Some (row_bytes role_form (role_of org (change r)))
  pub sound : (t : Tenant) (role : List ℕ) (b : RoleChange) → IsSound t → IsSound (set_role t role b).tenant

pub role_set_takes : RoleChanges → (org : ℕ) (q : OrgPlan) (t : Tenant) (role : List ℕ) (b : RoleChange) (row : RoleRow)
    → FitsPlan q t → IsSound t → FitsForm role_form row → first_refusal (role_rules t role b) ≡ None → IsChangedRole org t role b row
    → Takes org q t (set_role t role b) done SamePlan (change_to role_form row ∷ [])
role_set_takes laws org q t role b row plan sound fits free is =
    let i = spelled_id role in
    let u = record t { roles = changed role_id (changed_role b) i t.roles } in
    let v = set_role t role b in
    let its : is.it.id ≡ i = having_its_id role_id t.roles i is.it is.is_there in
    let next = role_of org (changed_role b is.it) in
    let there : row_in q u (key.Role org is.it.id) ≡ Some (row_bytes role_form next) = ap (λ (j : List ℕ). row_in q u (key.Role org j)) its ∙ laws.kept q t org i (changed_role b) is.it (λ x. refl) is.is_there in
    let takes : Takes org q t v done SamePlan (change_to role_form next ∷ []) =
    changed_takes laws.plan role_form org q t u v next plan (accepted (first_refusal (role_rules t role b)) t (accept done u) free) (laws.sound t role b sound) refl refl
    (record {
      fits = subst (FitsForm role_form) is.is fits;
      own = refl;
      there = there;
      rest = λ k of e. laws.rows q t i (changed_role b) k (λ x. refl) (subst (λ (j : List ℕ). is_role_key j k ≡ false) its (other_role org is.it.id k of e));
    }) in
    subst (λ (x : RoleRow). Takes org q t v done SamePlan (change_to role_form x ∷ [])) (sym is.is) takes

-- the row with what is said
pub role_is_set : (org : ℕ) (t : Tenant) (role : List ℕ) (b : RoleChange) (id : List ℕ) (named : Option (List ℕ)) (row next : RoleRow) → id ≡ spelled_id role → named ≡ option_map spelled_id (given b.parent)
    → IsRowAs (role_of org) (role_at t id) row → next ≡ role_row_with b named row → IsChangedRole org t role b next
role_is_set org t role b id named row next is its h made =
    record {
      it = h.it;
      is_there = ap (role_at t) (sym is) ∙ h.is_there;
      is =
          made
          ∙ ap₂ (λ (r : RoleRow) (n : Option (List ℕ)). role_row_with b n r) h.is its
          ∙ ap (λ (p : Option (List ℕ)). record (role_of org (changed_role b h.it)) { parent = p }) (said_is b.parent h.it.parent);
    }

-- ---- groups

-- what `people_rows` and `model_invariant` say of a group that is changed
pub record GroupChanges : Type 0 where
  pub plan : PlanStays
  pub rows : (p : OrgPlan) (t : Tenant) (i : List ℕ) (change : Group → Group) (k : Key) → ((g : Group) → (change g).id ≡ g.id) → is_group_key i k ≡ false
      → row_in p (record t { groups = changed group_id change i t.groups }) k ≡ row_in p t k
  pub kept : (p : OrgPlan) (t : Tenant) (org : ℕ) (i : List ℕ) (change : Group → Group) (g : Group) → ((h : Group) → (change h).id ≡ h.id) → group_at t i ≡ Some g
      → row_in p (record t { groups = changed group_id change i t.groups }) (key.Group org i) ≡ Some (row_bytes group_form (group_of org (change g)))
  pub sound : (t : Tenant) (group : List ℕ) (b : GroupChange) → IsSound t → IsSound (set_group t group b).tenant

pub group_set_takes : GroupChanges → (org : ℕ) (q : OrgPlan) (t : Tenant) (group : List ℕ) (b : GroupChange) (row : GroupRow)
    → FitsPlan q t → IsSound t → FitsForm group_form row → first_refusal (group_rules t group b) ≡ None → IsChangedGroup org t group b row
    → Takes org q t (set_group t group b) done SamePlan (change_to group_form row ∷ [])
group_set_takes laws org q t group b row plan sound fits free is =
    let i = spelled_id group in
    let u = record t { groups = changed group_id (changed_group b) i t.groups } in
    let v = set_group t group b in
    let its : is.it.id ≡ i = having_its_id group_id t.groups i is.it is.is_there in
    let next = group_of org (changed_group b is.it) in
    let there : row_in q u (key.Group org is.it.id) ≡ Some (row_bytes group_form next) = ap (λ (j : List ℕ). row_in q u (key.Group org j)) its ∙ laws.kept q t org i (changed_group b) is.it (λ x. refl) is.is_there in
    let takes : Takes org q t v done SamePlan (change_to group_form next ∷ []) =
    changed_takes laws.plan group_form org q t u v next plan (accepted (first_refusal (group_rules t group b)) t (accept done u) free) (laws.sound t group b sound) refl refl
    (record {
      fits = subst (FitsForm group_form) is.is fits;
      own = refl;
      there = there;
      rest = λ k of e. laws.rows q t i (changed_group b) k (λ x. refl) (subst (λ (j : List ℕ). is_group_key j k ≡ false) its (other_group org is.it.id k of e));
    }) in
    subst (λ (x : GroupRow). Takes org q t v done SamePlan (change_to group_form x ∷ [])) (sym is.is) takes

-- the row with what is said
members_are : (said : Option (List Spelled)) (before : List Principal) → in_case said before (λ x. map principal_of (unwrap_or said [])) ≡ in_case said before (map principal_of)
members_are None before = refl
members_are (Some members) before = refl

pub group_is_set : (org : ℕ) (t : Tenant) (group : List ℕ) (b : GroupChange) (id : List ℕ) (named : List Principal) (row next : GroupRow) → id ≡ spelled_id group → named ≡ map principal_of (members_given b)
    → IsRowAs (group_of org) (group_at t id) row → next ≡ group_row_with b named row → IsChangedGroup org t group b next
group_is_set org t group b id named row next is its h made =
    record {
      it = h.it;
      is_there = ap (group_at t) (sym is) ∙ h.is_there;
      is =
          made
          ∙ ap₂ (λ (r : GroupRow) (n : List Principal). group_row_with b n r) h.is its
          ∙ ap (λ (p : List Principal). record (group_of org (changed_group b h.it)) { members = p }) (members_are b.members h.it.members);
    }

-- whatever the organisation has, the row is at a key of its own
pub changed_own : {U : Type 0} (f : Form U) (org : ℕ) (row : U) → FitsForm f row → org_of_key (key_of f row) ≡ Some org → AllByRecursion (IsIn org) (change_to f row ∷ [])
changed_own f org row fits at = (put_is_in f org row fits at, tt)
