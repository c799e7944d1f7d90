use Rattle.model_requests.proofs.AnswersSound.{answer_sound}
use Rattle.model_requests.proofs.answers.answers_sound.Goals as goal

pub returns : goal.returns
returns c = record { answer = answer_sound c.tenant_laws.ensures.users c.verdicts_sound.ensures.step c.read_laws.ensures.same c.verdicts_sound.ensures.verdict c.requests_fit.ensures.request }
