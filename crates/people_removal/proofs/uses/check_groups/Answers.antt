use Rattle.std.proofs.Common.{◌∙◌, Bool, Some, [], ◌∷◌, ap, codes, subst}
use Rattle.std.specs.List.{list_any}
use Rattle.std.specs.Str.{chars}
use Rattle.store_rows.specs.declared.group.GroupRow.{GroupRow}
use Rattle.model.specs.Rules.{first_refusal}
use Rattle.store_abstraction.specs.Metadata.{group_of}
use Rattle.store_edit.specs.Judging.{Passes}
use Rattle.model_requests.specs.Removals.{named_in}
use Rattle.people_removal.specs.inner.Naming.{is_in}
use Rattle.people_removal.proofs.Judging.{any_mapped}
use Rattle.people_removal.proofs.uses.check_groups.Goals as goal

pub returns-clause-passes : goal.returns-clause-passes
unfolding chars
returns-clause-passes g c told q t s =
    let sought = λ (g : GroupRow). is_in c.args.named.now g.id g.members in
    subst (λ (b : Bool). Passes (first_refusal (named_in (codes "groups") (codes "members") b ∷ [])) (λ (x : Unit {0}). Unit {0}) c.refuse.result)
    (c.is_in_any.ensures ∙ ap (list_any sought) (c.as_slice.ensures.value ∙ c.in_ok-groups.ensures.finds told q (Some t) s) ∙ any_mapped (group_of c.args.org) sought t.groups)
    c.refuse.ensures.passes
