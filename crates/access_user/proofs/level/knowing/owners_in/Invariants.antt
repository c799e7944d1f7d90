use Rattle.std.proofs.Common.{◌≡◌, ℕ, Bool, take}
use Rattle.std.specs.Prelude.{filter_map, option_copied}
use Rattle.model.specs.Tenant.{Tenant, User}
use Rattle.access_user.specs.level.Own.{IsSharerOf, MembersFor}
use Rattle.access_user.specs.level.inner.Parts.{owner_by_row}
use Rattle.access_user.proofs.level.knowing.owners_in.Given as goal

abbrev pub invariant-loop-row : goal.invariant-loop-row
invariant-loop-row l =
    (hierarchy : Bool) (org : ℕ) (t : Tenant) (u : User) → IsSharerOf org t u l.sharer → MembersFor hierarchy l.sharer.people u.id (option_copied l.members) → l.found ≡ filter_map (owner_by_row hierarchy t u l.object) (take l.row-index l.rules)
