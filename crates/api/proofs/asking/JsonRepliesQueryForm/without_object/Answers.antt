use Rattle.std.proofs.Common.{List, ℕ, subst}
use Rattle.query_json.specs.Answers.{Refuses}
use Rattle.model.specs.declared.refusal.Refusal.TheVariants.{InvalidType}
use Rattle.api.proofs.Refusing.{refused_object}
use Rattle.api.proofs.asking.JsonRepliesQueryForm.without_object.Goals as goal

pub returns-in-Ok-clause-what : goal.returns-in-Ok-clause-what
returns-in-Ok-clause-what c a none =
    refused_object a c.args.query.now c.refuse.result none (subst (λ (name : List ℕ). Refuses (InvalidType name) c.refuse.result) c.in-Ok.ensures c.refuse.ensures.value)
