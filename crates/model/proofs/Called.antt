-- A caller who is found.
use Rattle.std.proofs.Common.{◌≡◌, ℕ, true, List, Some, refl}
use Rattle.model.specs.Callers.{Named, caller_in, is_admitted, named}
use Rattle.model.specs.Tenant.{Tenant, User}
use Rattle.model.specs.World.{World, tenant_at, user_at}

pub found : (w : World) (key : List ℕ) (n : Named) (t : Tenant) (u : User) → named key ≡ Some n → tenant_at w n.org ≡ Some t → user_at t.users n.user ≡ Some u → is_admitted n u ≡ true
    → caller_in w key ≡ Some (record { org = n.org; user = u.id; admin = u.admin })
found w key n t u a b c d = rw (a, b, c, d) refl
