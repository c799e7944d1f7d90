use Rattle.std.proofs.Common.{chars, sym, ◌∙◌}
use Rattle.std.proofs.lemmas.Iterator.{items_from_collect}
use Rattle.std.proofs.lemmas.Str.{Chars-gives, encodes-chars}
use Rattle.std.specs.Str.Iter.{chars_steps}
use Rattle.caseless.specs.CaseFold.{CaseFoldSteps}
use Rattle.caseless.proofs.CaselessLemmas.{Spells-CaseFold}
use Rattle.soql.proofs.patterns.folded_text.Goals as goal

pub returns : goal.returns
returns c =
    let spelled = Chars-gives (chars c.args.text.now) c.chars.result (encodes-chars _ c.utf8.text ∙ sym c.chars.ensures.rest) in
    items_from_collect {steps = CaseFoldSteps chars_steps} {s = c.default_case_fold.result} _ c.collect.ensures.ran (record { runs = Spells-CaseFold (c.default_case_fold.ensures.text _ spelled) })
