-- What serving the present connection of a door leaves of the door.
use Rattle.std.specs.Prelude.{◌≡◌, Option, Some, None, ⊤, is_some}
use Rattle.std.proofs.Common.{◌∙◌}
use Rattle.base_io.specs.Doors.{DoorState}

-- the connections to come and the outputs of those that ended stay, and there is a present one exactly if there was one
abbrev pub PresentKeeps : Option DoorState → Option DoorState → Type 0
PresentKeeps None new = ⊤
PresentKeeps (Some a) None = ⊥
PresentKeeps (Some a) (Some b) = (b.coming ≡ a.coming) × (b.done ≡ a.done) × (is_some b.present ≡ is_some a.present)

pub PresentKeeps-refl : (a : Option DoorState) → PresentKeeps a a
PresentKeeps-refl None = tt
PresentKeeps-refl (Some a) = (λ i. a.coming, λ i. a.done, λ i. is_some a.present)

pub PresentKeeps-trans : (a b c : Option DoorState) → PresentKeeps a b → PresentKeeps b c → PresentKeeps a c
PresentKeeps-trans None b c h k = tt
PresentKeeps-trans (Some a) None c h k = absurd h
PresentKeeps-trans (Some a) (Some b) None h k = absurd k
PresentKeeps-trans (Some a) (Some b) (Some c) h k = (k.0 ∙ h.0, k.1 ∙ h.1, k.2 ∙ h.2)
