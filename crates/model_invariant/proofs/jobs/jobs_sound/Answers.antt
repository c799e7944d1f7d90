use Rattle.model_invariant.proofs.BeginsSound.{begin_sound}
use Rattle.model_invariant.proofs.JobFormulas.{begin_formulas, cancel_formulas}
use Rattle.model_invariant.proofs.JobsSound.{cancel_sound}
use Rattle.model_invariant.proofs.SwitchFormulas.{any_step_formulas}
use Rattle.model_invariant.proofs.SwitchSound.{any_step_sound}
use Rattle.model_invariant.proofs.SoundParts.{parts, whole}
use Rattle.model_invariant.proofs.jobs.jobs_sound.Goals as goal

pub returns-clause-begin : goal.returns-clause-begin
returns-clause-begin c = λ t object field to bounds s. whole (begin_sound t object field to bounds (parts s)) (begin_formulas t s.formulas object field to)

pub returns-clause-cancel : goal.returns-clause-cancel
returns-clause-cancel c = λ t s. whole (cancel_sound t (parts s)) (cancel_formulas t s.formulas)

pub returns-clause-step : goal.returns-clause-step
returns-clause-step c = λ t s. whole (any_step_sound c.value_laws.ensures.converted t (parts s)) (any_step_formulas c.text_laws.ensures.formulas.other_types t (parts s) s.formulas)
