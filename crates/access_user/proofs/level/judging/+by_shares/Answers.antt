use Rattle.std.proofs.Common.{◌≡◌, ◌∙◌, ◌∷◌, List, ap, ap₂, map, sym, rules}
use Rattle.store_rows.specs.declared.share.ShareRow.{ShareRow}
use Rattle.access_user.specs.level.Own.{greater}
use Rattle.access_user.specs.level.inner.Parts.{by_share}
use Rattle.model.specs.Levels.{greatest}
use Rattle.access_user.proofs.level.judging.+by_shares.Goals as goal

pub returns-in-Some : goal.returns-in-Some
returns-in-Some t c = λ h org t' u is members.
    let whole : c.args.shares.now ≡ c.in-Some.first.now ∷ c.in-Some.rest.now = search rules in
    c.greater.ensures ∙ ap₂ greater (c.by_share.ensures h org t' u is members) (c.by_shares.ensures h org t' u is members)
    ∙ sym (ap (λ (all : List ShareRow). greatest (map (by_share h t' u) all)) whole)
