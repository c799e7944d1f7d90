use Rattle.std.proofs.Common.{◌≡◌, ◌∙◌, ◌∷◌, List, ap, ap₂, map, sym, rules}
use Rattle.access_user.specs.declared.level.knowing.OwnerRule.{OwnerRule}
use Rattle.access_user.specs.level.Own.{greater}
use Rattle.access_user.specs.level.inner.Parts.{by_owner_rule}
use Rattle.model.specs.Levels.{greatest}
use Rattle.access_user.proofs.level.judging.+by_each_owner_rule.Goals as goal

pub returns-in-Some : goal.returns-in-Some
returns-in-Some t c = λ org t' x among members.
    let whole : c.args.rules.now ≡ c.in-Some.first.now ∷ c.in-Some.rest.now = search rules in
    c.greater.ensures ∙ ap₂ greater (c.by_owner_rule.ensures org t' x among members) (c.by_each_owner_rule.ensures org t' x among members)
    ∙ sym (ap (λ (all : List OwnerRule). greatest (map (by_owner_rule t' x) all)) whole)
