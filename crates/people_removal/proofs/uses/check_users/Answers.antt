use Rattle.std.proofs.Common.{◌∙◌, Bool, Some, [], ◌∷◌, ap, codes, subst}
use Rattle.std.specs.List.{list_any}
use Rattle.std.specs.Str.{chars}
use Rattle.store_rows.specs.declared.user.UserRow.{UserRow}
use Rattle.model.specs.Rules.{first_refusal}
use Rattle.store_abstraction.specs.Metadata.{user_of}
use Rattle.store_edit.specs.Judging.{Passes}
use Rattle.model_requests.specs.Removals.{is_id, named_in}
use Rattle.people_removal.proofs.Judging.{any_mapped}
use Rattle.people_removal.proofs.uses.check_users.Goals as goal

pub returns-clause-passes : goal.returns-clause-passes
unfolding chars
returns-clause-passes g c told q t s =
    let sought = λ (u : UserRow). is_id c.args.id.now u.role in
    subst (λ (b : Bool). Passes (first_refusal (named_in (codes "users") (codes "role") b ∷ [])) (λ (x : Unit {0}). Unit {0}) c.refuse.result)
    (c.is_role_of_any.ensures ∙ ap (list_any sought) (c.as_slice.ensures.value ∙ c.in_ok-users.ensures.finds told q (Some t) s) ∙ any_mapped (user_of c.args.org) sought t.users)
    c.refuse.ensures.passes
