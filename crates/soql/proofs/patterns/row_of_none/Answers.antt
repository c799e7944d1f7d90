use Rattle.std.proofs.Common.{rules, Some, true, false, sym, ◌∙◌}
use borrow.Author.Tests.{tests}
use Rattle.std.proofs.lemmas.Iterator.{items_from_collect, YieldsList-from_map, YieldsList-from_slice}
use Rattle.std.proofs.lemmas.Iterator.Adapters.{YieldsList-from_once}
use Rattle.std.proofs.lemmas.Iterator.Consumers.{YieldsList-from_chain, YieldsList-at}
use Rattle.std.proofs.lemmas.Result.{IfOk-weaker}
use Rattle.soql.proofs.Rows.{row_of-none}
use Rattle.soql.proofs.patterns.row_of_none.Goals as goal

pub returns : goal.returns
returns c =
    IfOk-weaker c.collect.result _ _ (λ row e. e ∙ sym (row_of-none c.args.backwards.now))
    (items_from_collect _ c.collect.ensures.ran
    (YieldsList-from_chain (YieldsList-at c.chain.ensures.first (YieldsList-from_once (Some true) c.once.ensures.item))
    (YieldsList-at c.chain.ensures.second (YieldsList-from_map _ (λ _. false) (YieldsList-from_slice c.args.backwards.now cc) c.map.ensures.closure (λ x r q k. search (rules, tests))))
    c.chain.ensures.first_done c.chain.ensures.second_done))
