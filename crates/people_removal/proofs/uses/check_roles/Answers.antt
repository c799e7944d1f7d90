use Rattle.std.proofs.Common.{◌∙◌, Bool, Some, [], ◌∷◌, ap, codes, subst}
use Rattle.std.specs.List.{list_any}
use Rattle.std.specs.Str.{chars}
use Rattle.store_rows.specs.declared.role.RoleRow.{RoleRow}
use Rattle.model.specs.Rules.{first_refusal}
use Rattle.store_abstraction.specs.Metadata.{role_of}
use Rattle.store_edit.specs.Judging.{Passes}
use Rattle.model_requests.specs.Removals.{is_id, named_in}
use Rattle.people_removal.proofs.Judging.{any_mapped}
use Rattle.people_removal.proofs.uses.check_roles.Goals as goal

pub returns-clause-passes : goal.returns-clause-passes
unfolding chars
returns-clause-passes g c told q t s =
    let sought = λ (r : RoleRow). is_id c.args.id.now r.parent in
    subst (λ (b : Bool). Passes (first_refusal (named_in (codes "roles") (codes "parent") b ∷ [])) (λ (x : Unit {0}). Unit {0}) c.refuse.result)
    (c.is_above_any.ensures ∙ ap (list_any sought) (c.as_slice.ensures.value ∙ c.in_ok-roles.ensures.finds told q (Some t) s) ∙ any_mapped (role_of c.args.org) sought t.roles)
    c.refuse.ensures.passes
