use Rattle.model_invariant.proofs.SoundParts.{parts, whole}
use Rattle.model_requests.proofs.RemovalsSound.{remove_group_formulas, remove_group_sound, remove_role_formulas, remove_role_sound}
use Rattle.model_requests.proofs.removals.removals_sound.Goals as goal

pub returns : goal.returns
returns c =
    record {
      remove_role = λ t role s. whole (remove_role_sound t role (parts s)) (remove_role_formulas t s.formulas role);
      remove_group = λ t group s. whole (remove_group_sound t group (parts s)) (remove_group_formulas t s.formulas group);
    }
