-- The organisation and the user whom two texts name.
use Rattle.std.proofs.Common.{◌≡◌, ◌∙◌, ℕ, List, Option, Some, None, refl, subst}
use Rattle.std.specs.Option.{option_and_then, option_map}
use Rattle.std.proofs.lemmas.Option.{same_Some}
use Rattle.base_value.specs.Id.{id_in, number_in}
use Rattle.model.specs.Callers.{named_ids}
use Rattle.model.specs.Tenant.{Tenant, User}
use Rattle.model.specs.World.{World, org_prefix, tenant_at, user_at, user_in, users_in}
use Rattle.cmd_user_set.specs.UserSet.{user_named, user_with_id}

-- the organisation and the user who are named
pub record IsThere (w : World) (text : List ℕ) (n : ℕ) (i : List ℕ) : Type 0 where
  pub tenant : Tenant
  pub at : tenant_at w n ≡ Some tenant
  pub it : User
  pub user : user_at tenant.users i ≡ Some it
  pub id : id_in text ≡ Some i

pub there_so : (w : World) (org user : List ℕ) (ids : ℕ × List ℕ) → user_named w org user ≡ Some ids → IsThere w user ids.0 ids.1
there_so w org user ids h = by_ids (id_in org) (id_in user) refl h
  where
    by_tenant : (n : ℕ) (i : List ℕ) (u : User) (t : Option Tenant) → id_in user ≡ Some i → tenant_at w n ≡ t → user_at (users_in t) i ≡ Some u → IsThere w user n i
    by_tenant n i u None is at here = absurd cc
    by_tenant n i u (Some t) is at here = record { tenant = t; at = at; it = u; user = here; id = is }

    by_user : (n : ℕ) (i : List ℕ) (x : Option User) → id_in user ≡ Some i → user_in w n i ≡ x → option_map (λ u. (n, i)) x ≡ Some ids → IsThere w user ids.0 ids.1
    by_user n i None is here h = absurd cc
    by_user n i (Some u) is here h = subst (λ (x : ℕ × List ℕ). IsThere w user x.0 x.1) (same_Some (n, i) ids h) (by_tenant n i u (tenant_at w n) is refl here)

    by_number : (i : List ℕ) (k : Option ℕ) → id_in user ≡ Some i
        → option_and_then (λ (x : ℕ × List ℕ). option_map (λ u. x) (user_in w x.0 x.1)) (option_map (λ n. (n, i)) k) ≡ Some ids → IsThere w user ids.0 ids.1
    by_number i None is h = absurd cc
    by_number i (Some n) is h = by_user n i (user_in w n i) is refl h

    by_ids : (o u : Option (List ℕ)) → id_in user ≡ u
        → option_and_then (λ (x : ℕ × List ℕ). option_map (λ u. x) (user_in w x.0 x.1)) (option_and_then (λ o. option_and_then (λ u. option_map (λ n. (n, u)) (number_in org_prefix o)) u) o) ≡ Some ids
        → IsThere w user ids.0 ids.1
    by_ids None u is h = absurd cc
    by_ids (Some o) None is h = absurd cc
    by_ids (Some o) (Some i) is h = by_number i (number_in org_prefix o) is h

-- both texts are ids of these
pub ids_so : (w : World) (org user : List ℕ) (ids : ℕ × List ℕ) → user_named w org user ≡ Some ids → named_ids org user ≡ Some ids
ids_so w org user ids h = by (named_ids org user) refl h
  where
    by_user : (x : ℕ × List ℕ) (u : Option User) → option_map (λ y. x) u ≡ Some ids → Some x ≡ Some ids
    by_user x None h = absurd cc
    by_user x (Some u) h = h

    by : (o : Option (ℕ × List ℕ)) → named_ids org user ≡ o → option_and_then (user_with_id w) o ≡ Some ids → named_ids org user ≡ Some ids
    by None is h = absurd cc
    by (Some x) is h = is ∙ by_user x (user_in w x.0 x.1) h
