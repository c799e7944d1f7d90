use Rattle.model_invariant.proofs.DeletesSound.{delete_sound}
use Rattle.model_invariant.proofs.OtherFormulas.{delete_formulas}
use Rattle.model_invariant.proofs.SoundParts.{parts, whole}
use Rattle.model_invariant.proofs.deletes.deletes_sound.Goals as goal

pub returns : goal.returns
returns c = record { delete = λ a object key moment s. whole (delete_sound a object key moment (parts s)) (delete_formulas a s.formulas object key) }
