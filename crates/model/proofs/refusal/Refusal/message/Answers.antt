use Rattle.model.proofs.refusal.Refusal.message.Goals as goal

pub returns-in-FieldInUse : goal.returns-in-FieldInUse
returns-in-FieldInUse c = rw c.in-FieldInUse.is c.joined-in-FieldInUse.ensures
