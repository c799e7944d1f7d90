use Rattle.std.proofs.Common.{◌≡◌, Some, subst}
use Rattle.std.specs.Prelude.{IfSome}
use Rattle.model.specs.Metadata.{add_object}
use Rattle.model.specs.Rules.{Rule}
use Rattle.schema_edit.specs.Judging.{verdict_refusal}
use Rattle.schema_edit.proofs.Editing.{refused_so}
use Rattle.schema_edit.proofs.judging.addition.NewObjectAddition.refuse_early.Goals as goal

pub returns-in-Some-clause-fails : goal.returns-in-Some-clause-fails
returns-in-Some-clause-fails g c told q t s =
    let v = add_object t c.args.self.now in
    refused_so v c.in-Some.refusal (subst (λ (r : Rule). IfSome r (λ why. Some why ≡ verdict_refusal v)) c.in-Some.is (c.in_ok-refusal.ensures t))
