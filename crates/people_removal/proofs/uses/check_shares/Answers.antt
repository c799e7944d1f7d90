use Rattle.std.proofs.Common.{Bool, Some, [], ◌∷◌, codes, subst}
use Rattle.std.specs.Str.{chars}
use Rattle.model.specs.Rules.{first_refusal}
use Rattle.store_edit.specs.Judging.{Passes}
use Rattle.model_requests.specs.Removals.{named_in}
use Rattle.people_removal.proofs.uses.check_shares.Goals as goal

pub returns-clause-passes : goal.returns-clause-passes
unfolding chars
returns-clause-passes g c told q t s =
    subst (λ (b : Bool). Passes (first_refusal (named_in (codes "shares") (codes "to") b ∷ [])) (λ (x : Unit {0}). Unit {0}) c.refuse.result)
    (c.in_ok-named.ensures.finds told q (Some t) s)
    c.refuse.ensures.passes
