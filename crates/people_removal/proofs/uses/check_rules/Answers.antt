use Rattle.std.proofs.Common.{◌∙◌, Bool, Some, [], ◌∷◌, ap, codes, subst}
use Rattle.std.specs.List.{list_any}
use Rattle.store_rows.specs.declared.sharing.SharingRow.{SharingRow}
use Rattle.model.specs.Rules.{first_refusal}
use Rattle.store_abstraction.specs.Metadata.{sharing_of}
use Rattle.store_edit.specs.Judging.{Passes}
use Rattle.model_requests.specs.Removals.{named_in}
use Rattle.people_removal.specs.inner.Naming.{is_from_part, names}
use Rattle.people_removal.proofs.Judging.{any_from, any_mapped}
use Rattle.people_removal.proofs.uses.check_rules.Goals as goal

pub returns-clause-passes : goal.returns-clause-passes
returns-clause-passes g c told q t s =
    let sought = names c.args.named.now in
    let rows = c.as_slice.ensures.value ∙ c.in_ok-rules.ensures.finds told q (Some t) s in
    let from = ap (list_any (λ (r : SharingRow). is_from_part sought r.source)) rows ∙ any_from c.args.org sought t.sharing_rules in
    let to = ap (list_any (λ (r : SharingRow). sought r.to)) rows ∙ any_mapped (sharing_of c.args.org) (λ (r : SharingRow). sought r.to) t.sharing_rules in
    subst (λ (x : Bool). Passes (first_refusal (named_in (codes "sharing-rules") (codes "from") x ∷ named_in (codes "sharing-rules") (codes "to") (list_any (λ r. sought r.to) t.sharing_rules) ∷ [])) (λ (x : Unit {0}). Unit {0}) c.refuse_rules.result) from
    (subst (λ (x : Bool). Passes (first_refusal (named_in (codes "sharing-rules") (codes "from") (list_any (λ (r : SharingRow). is_from_part sought r.source) c.as_slice.result.now) ∷ named_in (codes "sharing-rules") (codes "to") x ∷ [])) (λ (x : Unit {0}). Unit {0}) c.refuse_rules.result) to c.refuse_rules.ensures.passes)
