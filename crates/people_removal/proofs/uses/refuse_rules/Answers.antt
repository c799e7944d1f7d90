use Rattle.std.proofs.Common.{◌≡◌, Bool, [], ◌∷◌, List, None, codes, subst}
use Rattle.std.specs.List.{list_any}
use Rattle.std.specs.Str.{chars}
use Rattle.store_rows.specs.declared.sharing.SharingRow.{SharingRow}
use Rattle.model.specs.Rules.{Rule, first_refusal}
use Rattle.store_edit.specs.Judging.{FailsRule, Passes}
use Rattle.store_edit.proofs.StepByStep.{passed_on}
use Rattle.model_requests.specs.Removals.{named_in}
use Rattle.people_removal.specs.inner.Naming.{is_from_part, names}
use Rattle.people_removal.proofs.Judging.{fails_first, then_passes}
use Rattle.people_removal.proofs.uses.refuse_rules.Goals as goal

pub returns-in_err-refuse-clause-passes : goal.returns-in_err-refuse-clause-passes
unfolding chars
returns-in_err-refuse-clause-passes c =
    let sought = names c.args.named.now in
    let a : List Rule = named_in (codes "sharing-rules") (codes "from") (list_any (λ (r : SharingRow). is_from_part sought r.source) c.args.rules.now) ∷ [] in
    let b : List Rule = named_in (codes "sharing-rules") (codes "to") (list_any (λ (r : SharingRow). sought r.to) c.args.rules.now) ∷ [] in
    let e = c.in_err-refuse.field-0.0 in
    passed_on (first_refusal (named_in (codes "sharing-rules") (codes "from") (list_any (λ (r : SharingRow). is_from_part sought r.source) c.args.rules.now) ∷ b)) (λ (x : Unit {0}). Unit {0}) c.from_residual.result e c.from_residual.ensures.1
    (fails_first a b e (subst (λ (x : Bool). FailsRule (first_refusal (named_in (codes "sharing-rules") (codes "from") x ∷ [])) e) c.is_from_any.ensures c.in_err-refuse.ensures.passes))

pub returns-clause-passes : goal.returns-clause-passes
unfolding chars
returns-clause-passes c =
    let sought = names c.args.named.now in
    let a : List Rule = named_in (codes "sharing-rules") (codes "from") (list_any (λ (r : SharingRow). is_from_part sought r.source) c.args.rules.now) ∷ [] in
    let b : List Rule = named_in (codes "sharing-rules") (codes "to") (list_any (λ (r : SharingRow). sought r.to) c.args.rules.now) ∷ [] in
    then_passes a b (λ (x : Unit {0}). Unit {0}) c.refuse-2.result
    (subst (λ (x : Bool). first_refusal (named_in (codes "sharing-rules") (codes "from") x ∷ []) ≡ None) c.is_from_any.ensures c.in_ok-refuse.ensures.passes.0)
    (subst (λ (x : Bool). Passes (first_refusal (named_in (codes "sharing-rules") (codes "to") x ∷ [])) (λ (x : Unit {0}). Unit {0}) c.refuse-2.result) c.is_to_any.ensures c.refuse-2.ensures.passes)
