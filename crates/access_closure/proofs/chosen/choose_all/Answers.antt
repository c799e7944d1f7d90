use Rattle.std.proofs.Common.{◌∙◌, sym, subst}
use Rattle.std.specs.Prelude.{MatchOption}
use Rattle.access_closure.specs.inner.Chosen.{IsAlone, IsWithBelow}
use Rattle.access_closure.proofs.Choosing.{all_below}
use Rattle.access_closure.proofs.chosen.choose_all.Goals as goal

pub returns-in-Some : goal.returns-in-Some
returns-in-Some c =
    all_below c.args.people.now c.args.up.now c.args.user.now c.in_ok-alone.alone c.in-Some.role c.with_below.result c.in_ok-alone.ensures (λ order. sym (c.role_of.ensures order) ∙ c.in-Some.is) c.with_below.ensures

pub returns-in-None : goal.returns-in-None
returns-in-None c = λ order.
    subst (λ o. MatchOption o (IsAlone c.args.people.now c.args.user.now c.in_ok-alone.alone) (IsWithBelow c.args.people.now c.args.up.now c.args.user.now c.in_ok-alone.alone))
    (sym (sym (c.role_of.ensures order) ∙ c.in-None.is)) (c.in_ok-alone.ensures order)
