use Rattle.std.proofs.Common.{ap, inl, refl}
use Rattle.model.specs.declared.refusal.Refusal.TheVariants.{InvalidSession}
use Rattle.model.specs.Step.{refusal_reply}
use Rattle.store_abstraction.specs.declared.judged.Judged.TheVariants.{Same}
use Rattle.server.proofs.request.refuse_uncalled.Goals as goal

pub returns-in-Ok-clause-form : goal.returns-in-Ok-clause-form
returns-in-Ok-clause-form c = (Same (refusal_reply InvalidSession), inl refl, ap (λ b. Same b) c.in-Ok.ensures)
