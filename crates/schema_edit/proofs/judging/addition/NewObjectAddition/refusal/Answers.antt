use Rattle.model.specs.Metadata.{add_object, object_rules}
use Rattle.model.specs.Rules.{first_refusal}
use Rattle.schema_edit.specs.Judging.{verdict_refusal}
use Rattle.schema_edit.proofs.ObjectEdits.{refusal_is}
use Rattle.schema_edit.proofs.judging.addition.NewObjectAddition.refusal.Goals as goal
use Rattle.base_lemmas.proofs.Results.{IfOk-same as if_ok}

pub returns : goal.returns
returns c =
    λ t h.
    let b = c.args.self.now in
    if_ok c.judge_object.result (first_refusal (object_rules t b)) (verdict_refusal (add_object t b)) (refusal_is t b) (c.judge_object.ensures t h)
