use Rattle.std.proofs.Common.{Some}
use Rattle.std.proofs.lemmas.Iterator.{items_from_collect}
use Rattle.std.proofs.lemmas.Iterator.Adapters.{YieldsList-from_once}
use Rattle.std.specs.Iterator.Adapters.{once_steps}
use Rattle.caseless.specs.CaseFold.{CaseFoldSteps}
use Rattle.caseless.proofs.CaselessLemmas.{Spells-CaseFold}
use Rattle.soql.proofs.patterns.folded_char.Goals as goal

pub returns : goal.returns
returns c =
    items_from_collect {steps = CaseFoldSteps once_steps} {s = c.default_case_fold.result} _ c.collect.ensures.ran (record { runs = Spells-CaseFold (c.default_case_fold.ensures.text _ (YieldsList-from_once (Some c.args.c) c.once.ensures.item).runs) })
