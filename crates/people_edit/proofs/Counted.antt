-- Secrets by their parts.
use Rattle.std.proofs.Common.{◌≡◌, Bool, ◌&&◌, List, ℕ, length, refl}
use Rattle.std.specs.Prelude.{nat_le}
use Rattle.std.specs.List.{list_all}
use Rattle.model.specs.Limits.{secret_least, secret_most}
use Rattle.model.specs.Organisations.{is_secret}
use Rattle.base_value.specs.Id.{is_digit62}

pub secret_when : (secret : List ℕ) (letters short : Bool) → letters ≡ list_all is_digit62 secret → short ≡ (nat_le secret_least (length secret) && nat_le (length secret) secret_most) → (letters && short) ≡ is_secret secret
unfolding is_secret
secret_when secret letters short a b = rw (a, b) refl
