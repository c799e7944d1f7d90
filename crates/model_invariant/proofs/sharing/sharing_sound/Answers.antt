use Rattle.model_invariant.proofs.FormulasSound.{add_rule_formulas, remove_rule_formulas}
use Rattle.model_invariant.proofs.OtherFormulas.{share_formulas, unshare_formulas}
use Rattle.model_invariant.proofs.SharingSound.{add_rule_sound, remove_rule_sound, share_sound, unshare_sound}
use Rattle.model_invariant.proofs.SoundParts.{parts, whole}
use Rattle.model_invariant.proofs.sharing.sharing_sound.Goals as goal

pub returns-clause-add_rule : goal.returns-clause-add_rule
returns-clause-add_rule c = λ t b fit s. whole (add_rule_sound t b fit (parts s)) (add_rule_formulas t b s.formulas)

pub returns-clause-remove_rule : goal.returns-clause-remove_rule
returns-clause-remove_rule c = λ t name s. whole (remove_rule_sound t name (parts s)) (remove_rule_formulas t name s.formulas)

pub returns-clause-share : goal.returns-clause-share
returns-clause-share c = λ a b fit s. whole (share_sound a b fit (parts s)) (share_formulas a s.formulas b)

pub returns-clause-unshare : goal.returns-clause-unshare
returns-clause-unshare c = λ a item part to s. whole (unshare_sound a item part to (parts s)) (unshare_formulas a s.formulas item part to)
