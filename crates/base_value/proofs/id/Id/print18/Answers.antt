use Rattle.std.proofs.Common.{refl, ap, ◌∙◌}
use Rattle.base_value.specs.Id.{print18, suffix}
use Rattle.base_value.proofs.Ids.{filled}
use Rattle.base_value.proofs.id.Id.print18.Goals as goal

pub returns : goal.returns
returns c =
    let front = c.copy_from_slice.ensures.after in
    let last = c.copy_from_slice-2.ensures.after ∙ c.suffix_of.ensures in
    rw (front, last) (filled 15 3 c.self.inside.characters (suffix c.self.inside.characters) _ c.self.told refl ∙ ap print18 c.self.view_is)
