use Rattle.std.proofs.Common.{◌≡◌, refl, subst, sym, ◌∙◌}
use Rattle.std.specs.Ordering.{nat_cmp}
use Rattle.std.specs.Str.{chars}
use Rattle.std.specs.Str.Iter.{chars_steps}
use Rattle.std.specs.declared.str.Chars.{Chars}
use Rattle.std.proofs.lemmas.Iterator.Search.{cmp_from_yields_List}
use Rattle.std.proofs.lemmas.Str.{Chars-gives, encodes-chars}
use Rattle.caseless.specs.declared.CaseFold.{CaseFold}
use Rattle.caseless.specs.CaseFold.{FoldsCaseTo}
use Rattle.caseless.specs.Caseless.{default_case_fold}
use Rattle.caseless.proofs.CaselessLemmas.{Spells-CaseFold}
use Rattle.base_value.proofs.ordering.text_order.Goals as goal

pub returns : goal.returns
returns c =
    let a = c.default_case_fold.ensures.text _ (Chars-gives (chars c.args.a.now) _ (encodes-chars c.args.a.now c.utf8.a ∙ sym c.chars.ensures.rest)) in
    let b = c.default_case_fold-2.ensures.text _ (Chars-gives (chars c.args.b.now) _ (encodes-chars c.args.b.now c.utf8.b ∙ sym c.chars-2.ensures.rest)) in
    cmp_from_yields_List (λ x y. y ≡ x) _ nat_cmp _ c.cmp.ensures.ran (record { runs = Spells-CaseFold a })
    (λ it same. record { runs = Spells-CaseFold (subst (λ (s : CaseFold Chars). FoldsCaseTo chars_steps s (default_case_fold (chars c.args.b.now))) (sym same) b) }) (λ x y. refl)
