-- What a new secret comes to: the user, the caller, and the other organisations.
use Rattle.std.proofs.Common.{◌≡◌, ◌∙◌, ℕ, Bool, true, false, cond, List, [], ◌∷◌, Option, Some, None, Result, Ok, Err, refl, sym, ap, bytes_eq}
use Rattle.std.specs.Prelude.{if◌then◌else◌, unwrap_or}
use Rattle.std.specs.Option.{option_and_then, option_map}
use Rattle.std.proofs.lemmas.Option.{same_Some}
use Rattle.base_lemmas.proofs.Texts.{bytes_eq-self, bytes_eq_false_sym}
use Rattle.model.specs.declared.refusal.Refusal.{Refusal}
use Rattle.model.specs.declared.refusal.Refusal.TheVariants.{NotFound, SecretRefused}
use Rattle.model.specs.Callers.{Named, admitted, caller_of, named_by}
use Rattle.model.specs.Cases.{in_case}
use Rattle.model.specs.Organisations.{is_secret}
use Rattle.model.specs.People.{changed, changed_user, users_with}
use Rattle.model.specs.Tenant.{Tenant, User}
use Rattle.model.specs.Verdict.{Verdict}
use Rattle.model.specs.World.{World, tenant_at, user_at, user_id, with_tenant}
use Rattle.people_edit.proofs.Changing.{having_its_id}
use Rattle.cmd_user_set.specs.UserSet.{key_change, user_named, user_set_verdict, with_key, world_with_key}
use Rattle.cmd_user_set.proofs.Accepted.{is_accepted, turned}
use Rattle.cmd_user_set.proofs.There.{IsThere, ids_so, there_so}

-- one that is changed is found where it was
changed_there : (f : User → User) → ((u : User) → (f u).id ≡ u.id) → (i : List ℕ) (users : List User) (u : User) → user_at users i ≡ Some u → user_at (changed user_id f i users) i ≡ Some (f u)
changed_there f keeps i [] u there = absurd cc
changed_there f keeps i (v ∷ users) u there = by (bytes_eq i v.id) refl there (changed_there f keeps i users u)
  where
    later : List User
    later = changed user_id f i users

    found : (b : Bool) → Option User
    found b = let x = cond b (f v) v in cond (bytes_eq i x.id) (Some x) (user_at later i)

    by : (b : Bool) → bytes_eq i v.id ≡ b → cond b (Some v) (user_at users i) ≡ Some u → (user_at users i ≡ Some u → user_at later i ≡ Some (f u)) → found (bytes_eq v.id i) ≡ Some (f u)
    by true same here rest =
        ap found (turned i v.id same) ∙ ap (λ b. cond b (Some (f v)) (user_at later i)) (ap (bytes_eq i) (keeps v) ∙ same) ∙ ap (λ x. Some (f x)) (same_Some v u here)
    by false other here rest = ap found (bytes_eq_false_sym i v.id other) ∙ ap (λ b. cond b (Some v) (user_at later i)) other ∙ rest here

module _ (w next : World) (org user secret : List ℕ) (ids : ℕ × List ℕ) where
  -- who is named, and the world
  record Outcome : Type 0 where
    named : user_named w org user ≡ Some ids
    is : next ≡ world_with_key w ids.0 user secret

  outcome : user_set_verdict org user secret w ≡ Ok (ids, next) → Outcome
  outcome h = by (user_named w org user) (is_secret secret) refl h
    where
      by : (o : Option (ℕ × List ℕ)) (b : Bool) → user_named w org user ≡ o
          → in_case {B = Result ((ℕ × List ℕ) × World) Refusal} o (Err NotFound) (λ x. if b then Ok (x, world_with_key w x.0 user secret) else Err SecretRefused) ≡ Ok (ids, next) → Outcome
      by None b named h = absurd cc
      by (Some x) false named h = absurd cc
      by (Some x) true named h =
          let same : ◌≡◌ {A = (ℕ × List ℕ) × World} (x, world_with_key w x.0 user secret) (ids, next) = cc in
          let it = ap (λ (y : (ℕ × List ℕ) × World). y.0) same in
          record { named = named ∙ ap Some it; is = sym (ap (λ (y : (ℕ × List ℕ) × World). y.1) same) ∙ ap (λ (y : ℕ × List ℕ). world_with_key w y.0 user secret) it }

  abbrev rekeyed : Tenant → Tenant
  rekeyed t = record t { users = users_with (key_change secret) user t.users }

  module _ (h : user_set_verdict org user secret w ≡ Ok (ids, next)) where
    it : Outcome
    it = outcome h

    there : IsThere w user ids.0 ids.1
    there = there_so w org user ids it.named

    next_is : next ≡ with_tenant w ids.0 (rekeyed there.tenant)
    next_is =
        it.is ∙ ap (λ o. in_case o w (λ t. with_tenant w ids.0 (with_key user secret t))) there.at
        ∙ ap (λ (v : Verdict). with_tenant w ids.0 v.tenant) (is_accepted there.tenant user secret ids.1 there.it there.id there.user)

    pub users_so : (t : Tenant) × (tenant_at w ids.0 ≡ Some t) × (next ≡ with_tenant w ids.0 (rekeyed t))
    users_so = (there.tenant, there.at, next_is)

    pub others_so : ((n m : ℕ) (u : Tenant) → (m ≡ n → ⊥) → tenant_at (with_tenant w n u) m ≡ tenant_at w m) → (m : ℕ) → (m ≡ ids.0 → ⊥) → tenant_at next m ≡ tenant_at w m
    others_so apart m other = ap (λ (v : World). tenant_at v m) next_is ∙ apart ids.0 m (rekeyed there.tenant) other

    abbrev n : Named
    n = record { org = ids.0; user = ids.1; secret = secret }

    -- the user is admitted
    admitted_so : admitted n (changed_user (key_change secret) there.it) ≡ Some (record { org = ids.0; user = ids.1; admin = true })
    unfolding there
    admitted_so =
        ap (λ b. if b then Some (record { org = ids.0; user = there.it.id; admin = true }) else None) (bytes_eq-self (changed_user (key_change secret) there.it).digest)
        ∙ ap (λ (i : List ℕ). Some (record { org = ids.0; user = i; admin = true })) (having_its_id user_id there.tenant.users ids.1 there.it there.user)

    called_so : caller_of n (rekeyed there.tenant) ≡ Some (record { org = ids.0; user = ids.1; admin = true })
    called_so =
        ap (λ (i : List ℕ). option_and_then (admitted n) (user_at (changed user_id (changed_user (key_change secret)) i there.tenant.users) ids.1)) (ap (λ o. unwrap_or o []) there.id)
        ∙ ap (option_and_then (admitted n)) (changed_there (changed_user (key_change secret)) (λ u. refl) ids.1 there.tenant.users there.it there.user)
        ∙ admitted_so

    pub caller_so : ((n : ℕ) (t u : Tenant) → tenant_at w n ≡ Some t → tenant_at (with_tenant w n u) n ≡ Some u)
        → option_and_then (λ (x : Named). option_and_then (caller_of x) (tenant_at next x.org)) (named_by org user secret) ≡ Some (record { org = ids.0; user = ids.1; admin = true })
    caller_so put =
        ap (λ o. option_and_then (λ (x : Named). option_and_then (caller_of x) (tenant_at next x.org)) (option_map (λ (y : ℕ × List ℕ). record { org = y.0; user = y.1; secret = secret }) o)) (ids_so w org user ids it.named)
        ∙ ap (option_and_then (caller_of n)) (ap (λ (v : World). tenant_at v ids.0) next_is ∙ put ids.0 there.tenant (rekeyed there.tenant) there.at)
        ∙ called_so
