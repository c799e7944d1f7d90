-- Manual shares of the same record with the same principal.
use Rattle.std.proofs.Common.{◌≡◌, ◌∙◌, true, IsTrue}
use Rattle.std.specs.Prelude.{◌↔◌}
use Rattle.std.specs.Ordering.{eq_by_cmp, nat_cmp}
use Rattle.std.specs.Cmp.Lexicographic.{bytes_decides, slice_cmp, texts_ties}
use Rattle.base_lemmas.proofs.Orders.{ordering_then_equal_parts as first_equal}
use Rattle.model.specs.Shares.{same_share}
use Rattle.model.specs.Tenant.{Share}
use Rattle.base_value.specs.Principals.{principal_cmp}
use Rattle.base_value.specs.declared.sharing.Principal.{Principal}

-- what `base_value` says of principals
abbrev pub SamePrincipals : Type 0
SamePrincipals = (p q : Principal) → IsTrue (eq_by_cmp principal_cmp p q) ↔ (p ≡ q)

pub one_place : SamePrincipals → (x s : Share) → same_share x s ≡ true → (x.item ≡ s.item) × (x.to ≡ s.to)
one_place same x s e =
    let p = first_equal (slice_cmp nat_cmp x.item s.item) (principal_cmp x.to s.to) e in
    ((bytes_decides x.item s.item).0 (texts_ties x.item s.item ∙ p.0), (same x.to s.to).0 p.1)
