-- Principals: what one is made of, and their order.
use Rattle.std.specs.Prelude.{ℕ, List}
use Rattle.std.specs.Cmp.{IsTotalOrder, nat_cmp_total, on_total, then_total}
use Rattle.std.specs.Cmp.Lexicographic.{slice_cmp, nat_list_cmp_total}
use Rattle.std.specs.Ordering.{nat_cmp, ordering_then}
use Rattle.std.specs.declared.cmp.Ordering.{Ordering}
use Rattle.base_value.specs.declared.sharing.Principal.{Principal}
use Rattle.base_value.specs.declared.sharing.Principal.TheVariants as to

-- the place of a principal's kind in the order of kinds
abbrev pub kind_number : Principal → ℕ
kind_number (to.User i) = 0
kind_number (to.Role i) = 1
kind_number (to.Subordinates i) = 2
kind_number (to.Group i) = 3

-- the id in a principal
abbrev pub principal_id : Principal → List ℕ
principal_id (to.User i) = i
principal_id (to.Role i) = i
principal_id (to.Subordinates i) = i
principal_id (to.Group i) = i

-- users, roles, subordinates of roles, groups, and each by id
abbrev pub principal_cmp : Principal → Principal → Ordering
principal_cmp p q = ordering_then (nat_cmp (kind_number p) (kind_number q)) (slice_cmp nat_cmp (principal_id p) (principal_id q))

-- the order is total
pub principals_total : IsTotalOrder principal_cmp
principals_total = then_total (on_total kind_number nat_cmp_total) (on_total principal_id nat_list_cmp_total)
