-- No rule refuses a new secret of a user who is there: an active administrator is left.
use Rattle.std.proofs.Common.{◌≡◌, ℕ, Bool, true, false, not, ◌||◌, cond, List, [], ◌∷◌, Some, None, refl, ap, ◌∙◌, bytes_eq}
use Rattle.std.specs.Prelude.{is_none, unwrap_or}
use Rattle.std.specs.List.{list_any}
use Rattle.base_lemmas.proofs.Bools.{or-true}
use Rattle.base_lemmas.proofs.Texts.{bytes_eq-self, same_from_bytes_eq}
use Rattle.base_value.specs.Id.{id_in}
use Rattle.model.specs.declared.refusal.Refusal.TheVariants.{LastAdministrator, MalformedId, NotFound}
use Rattle.model.specs.People.{changed, changed_user, no_administrator, set_user, user_rules, users_with}
use Rattle.model.specs.Principals.{bad_id, spelled_id}
use Rattle.model.specs.Rules.{first_refusal, refuse_if}
use Rattle.model.specs.SoundPeople.{administers}
use Rattle.model.specs.Tenant.{Tenant, User}
use Rattle.model.specs.Verdict.{accept, done}
use Rattle.model.specs.World.{user_at, user_id}
use Rattle.store_edit.proofs.StepByStep.{accepted, none_next}
use Rattle.cmd_user_set.specs.UserSet.{key_change}

pub turned : (a b : List ℕ) → bytes_eq a b ≡ true → bytes_eq b a ≡ true
turned a b e = ap (bytes_eq b) (same_from_bytes_eq a b e) ∙ bytes_eq-self b

-- the user is one who administers then
administered : (secret i : List ℕ) (users : List User) (u : User) → user_at users i ≡ Some u → list_any administers (changed user_id (changed_user (key_change secret)) i users) ≡ true
administered secret i [] u there = absurd cc
administered secret i (v ∷ users) u there = by (bytes_eq i v.id) refl there (administered secret i users u)
  where
    later : List User
    later = changed user_id (changed_user (key_change secret)) i users

    by : (b : Bool) → bytes_eq i v.id ≡ b → cond b (Some v) (user_at users i) ≡ Some u → (user_at users i ≡ Some u → list_any administers later ≡ true)
        → (administers (cond (bytes_eq v.id i) (changed_user (key_change secret) v) v) || list_any administers later) ≡ true
    by true same here rest = ap (λ b. administers (cond b (changed_user (key_change secret) v) v) || list_any administers later) (turned i v.id same)
    by false other here rest = ap (λ b. administers (cond (bytes_eq v.id i) (changed_user (key_change secret) v) v) || b) (rest here) ∙ or-true _

-- its rules, once the text is an id of a user who is there
pub none_refuses : (t : Tenant) (user secret i : List ℕ) (u : User) → id_in user ≡ Some i → user_at t.users i ≡ Some u → first_refusal (user_rules t user (key_change secret)) ≡ None
none_refuses t user secret i u is there =
    let spelled : spelled_id user ≡ i = ap (λ o. unwrap_or o []) is in
    let left : list_any administers (users_with (key_change secret) user t.users) ≡ true = ap (λ j. list_any administers (changed user_id (changed_user (key_change secret)) j t.users)) spelled ∙ administered secret i t.users u there in
    none_next (bad_id user) _ (ap (λ o. refuse_if (is_none o) (MalformedId user)) is)
    (none_next (refuse_if (is_none (user_at t.users (spelled_id user))) NotFound) _ (ap (λ j. refuse_if (is_none (user_at t.users j)) NotFound) spelled ∙ ap (λ o. refuse_if (is_none o) NotFound) there)
    (none_next (no_administrator (users_with (key_change secret) user t.users)) [] (ap (λ b. refuse_if (not b) LastAdministrator) left) refl))

pub is_accepted : (t : Tenant) (user secret i : List ℕ) (u : User) → id_in user ≡ Some i → user_at t.users i ≡ Some u → set_user t user (key_change secret) ≡ accept done (record t { users = users_with (key_change secret) user t.users })
is_accepted t user secret i u is there = accepted (first_refusal (user_rules t user (key_change secret))) t (accept done (record t { users = users_with (key_change secret) user t.users })) (none_refuses t user secret i u is there)
