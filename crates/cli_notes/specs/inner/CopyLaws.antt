-- What reads leave of a copy adds up over calls.
use Rattle.std.proofs.Common.{◌∙◌, ℕ, List, Option, Some, None, refl}
use Rattle.cli_notes.specs.Copies.{CopyGoesOn}

pub CopyGoesOn-refl : (copy left : Option (List ℕ)) → CopyGoesOn copy left copy left
CopyGoesOn-refl None left = tt
CopyGoesOn-refl (Some c) None = tt
CopyGoesOn-refl (Some c) (Some l) = refl

pub CopyGoesOn-trans : (c l c2 l2 c3 l3 : Option (List ℕ)) → CopyGoesOn c l c2 l2 → CopyGoesOn c2 l2 c3 l3 → CopyGoesOn c l c3 l3
CopyGoesOn-trans c l c2 l2 None l3 h k = tt
CopyGoesOn-trans c l None l2 (Some x3) l3 h k = absurd k
CopyGoesOn-trans None l (Some x2) l2 (Some x3) l3 h k = absurd h
CopyGoesOn-trans (Some x) None (Some x2) l2 (Some x3) l3 h k = tt
CopyGoesOn-trans (Some x) (Some y) (Some x2) None (Some x3) l3 h k = absurd h
CopyGoesOn-trans (Some x) (Some y) (Some x2) (Some y2) (Some x3) None h k = absurd k
CopyGoesOn-trans (Some x) (Some y) (Some x2) (Some y2) (Some x3) (Some y3) h k = k ∙ h
