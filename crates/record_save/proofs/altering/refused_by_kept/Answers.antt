use Rattle.std.proofs.Common.{subst}
use Rattle.std.specs.Prelude.{Ok}
use Rattle.store_kv.specs.Draft.{tables_of}
use Rattle.model.specs.Rules.{Rule, first_refusal}
use Rattle.store_abstraction.specs.Layouts.{FindsOf}
use Rattle.record_save.specs.inner.Staying.{staying_rules}
use Rattle.record_save.proofs.AlteredRules.{kept_first, kept_then}
use Rattle.record_save.proofs.altering.refused_by_kept.Goals as goal

pub returns-in-Ok-None-clause-finds : goal.returns-in-Ok-None-clause-finds
returns-in-Ok-None-clause-finds g c told =
    let m = tables_of g.K.Keeper.state c.args.draft.now in
    let l = c.args.layout.now in
    kept_then l (g.R.Rights.whose c.args.rights.now) c.args.old.now c.args.new.now m c.refused_by_own.result
    (subst (λ (r : Rule). FindsOf l (λ t. first_refusal (staying_rules l c.args.old.now c.args.new.now t)) m (Ok r)) c.in-Ok-None.field-0-is (c.in-Ok-None.ensures.finds m)) (c.refused_by_own.ensures.finds told)

pub returns-in-Ok-Some-clause-finds : goal.returns-in-Ok-Some-clause-finds
returns-in-Ok-Some-clause-finds g c told =
    let m = tables_of g.K.Keeper.state c.args.draft.now in
    let l = c.args.layout.now in
    kept_first l (g.R.Rights.whose c.args.rights.now) c.args.old.now c.args.new.now m c.in-Ok-Some.refusal
    (subst (λ (r : Rule). FindsOf l (λ t. first_refusal (staying_rules l c.args.old.now c.args.new.now t)) m (Ok r)) c.in-Ok-Some.field-0-is (c.in-Ok-Some.ensures.finds m))
