use Rattle.model_invariant.proofs.AddsField.{add_field_sound}
use Rattle.model_invariant.proofs.AddsFormulas.{add_field_formulas, add_object_formulas}
use Rattle.model_invariant.proofs.FormulasSound.{add_validation_formulas, remove_validation_formulas, set_object_formulas}
use Rattle.model_invariant.proofs.NewObjects.{add_object_sound}
use Rattle.model_invariant.proofs.ObjectsSound.{add_validation_sound, remove_validation_sound, set_object_sound}
use Rattle.model_invariant.proofs.SoundParts.{parts, whole}
use Rattle.model_invariant.proofs.objects.objects_sound.Goals as goal

pub returns-clause-set_object : goal.returns-clause-set_object
returns-clause-set_object c = λ t object change e s. whole (set_object_sound t object change e (parts s)) (set_object_formulas c.text_laws.ensures.formulas.by_fields t object change s.formulas)

pub returns-clause-add_validation_rule : goal.returns-clause-add_validation_rule
returns-clause-add_validation_rule c = λ t b fit s. whole (add_validation_sound t b fit (parts s)) (add_validation_formulas c.text_laws.ensures.formulas.by_fields t b s.formulas)

pub returns-clause-add_object : goal.returns-clause-add_object
returns-clause-add_object c = λ t b fit s. whole (add_object_sound t b fit (parts s)) (add_object_formulas t b (parts s) s.formulas)

pub returns-clause-add_field : goal.returns-clause-add_field
returns-clause-add_field c = λ t b fit s. whole (add_field_sound t b fit (parts s)) (add_field_formulas c.text_laws.ensures.formulas.over_more t b (parts s) s.formulas)

pub returns-clause-remove_validation_rule : goal.returns-clause-remove_validation_rule
returns-clause-remove_validation_rule c = λ t object name s. whole (remove_validation_sound t object name (parts s)) (remove_validation_formulas c.text_laws.ensures.formulas.by_fields t object name s.formulas)
