use Rattle.std.proofs.Common.{◌∙◌, sym}
use Rattle.model.specs.Levels.{has_hierarchy}
use Rattle.access_user.proofs.Whole.{by_owner_id, of_owned, owned_is}
use Rattle.access_user.proofs.level.judging.owns.Goals as goal

pub returns-in-Some-clause-value : goal.returns-in-Some-clause-value
returns-in-Some-clause-value c = λ org t u r is e members.
    c.owns_id.ensures (has_hierarchy t r) org t u is (of_owned c.args.owner c.in-Some.owner c.in-Some.is members) ∙ sym (by_owner_id t u r _ (e ∙ c.in-Some.is))

pub returns-in-Some-clause-full : goal.returns-in-Some-clause-full
returns-in-Some-clause-full c = λ org t u r is e members holds.
    owned_is t u r (by_owner_id t u r _ (e ∙ c.in-Some.is) ∙ sym (c.owns_id.ensures (has_hierarchy t r) org t u is (of_owned c.args.owner c.in-Some.owner c.in-Some.is members)) ∙ holds)

pub returns-in-None-clause-value : goal.returns-in-None-clause-value
returns-in-None-clause-value c = λ org t u r is e members. sym (by_owner_id t u r _ (e ∙ c.in-None.is))
