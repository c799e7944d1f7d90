-- Principals that tie are the same.
use Rattle.std.proofs.Common.{◌≡◌, true, List, ℕ, sym, ap, ◌∙◌}
use Rattle.std.specs.Prelude.{◌↔◌, IsTrue}
use Rattle.std.specs.Ordering.{eq_by_cmp, is_eq}
use Rattle.std.specs.Cmp.{tied_itself}
use Rattle.base_lemmas.proofs.Lists.{same_from_slice_cmp as same_id}
use Rattle.base_value.specs.Principals.{principal_cmp, principals_total}
use Rattle.base_value.specs.declared.sharing.Principal.{Principal}
use Rattle.base_value.specs.declared.sharing.Principal.TheVariants as to

tied : (p q : Principal) → is_eq (principal_cmp p q) ≡ true → p ≡ q
tied (to.User i) (to.User j) h = ap (λ (x : List ℕ). to.User x) (same_id i j h)
tied (to.Role i) (to.Role j) h = ap (λ (x : List ℕ). to.Role x) (same_id i j h)
tied (to.Subordinates i) (to.Subordinates j) h = ap (λ (x : List ℕ). to.Subordinates x) (same_id i j h)
tied (to.Group i) (to.Group j) h = ap (λ (x : List ℕ). to.Group x) (same_id i j h)
tied _ _ h = absurd cc

pub same_principal : (p q : Principal) → IsTrue (eq_by_cmp principal_cmp p q) ↔ (p ≡ q)
same_principal p q = (tied p q, λ e. ap is_eq (ap (principal_cmp p) (sym e) ∙ tied_itself principals_total p))
