use Rattle.model_requests.proofs.WorldSound.{world_sound}
use Rattle.model_requests.proofs.answers.world_sound.Goals as goal

pub returns : goal.returns
returns c = record { step = world_sound c.answers_sound.ensures.answer }
