-- The characters of the names of fields that every object has.
use Rattle.std.proofs.Common.{◌≡◌, refl}
use Rattle.std.specs.Prelude.{codes}
use Rattle.std.specs.Str.{chars}

pub name_text : chars (codes "Name") ≡ codes "Name"
unfolding chars
name_text = refl

pub owner_text : chars (codes "OwnerId") ≡ codes "OwnerId"
unfolding chars
owner_text = refl
