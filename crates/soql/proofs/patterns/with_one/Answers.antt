use Rattle.std.proofs.Common.{rules, Some, false, ◌&&◌}
use borrow.Author.Tests.{tests}
use Rattle.std.proofs.lemmas.Iterator.{items_from_collect, YieldsList-from_map, YieldsList-from_slice, YieldsList-from_zip}
use Rattle.std.proofs.lemmas.Iterator.Adapters.{YieldsList-from_once}
use Rattle.std.proofs.lemmas.Iterator.Consumers.{YieldsList-from_chain, YieldsList-at}
use Rattle.soql.specs.inner.Rests.{suits}
use Rattle.soql.proofs.patterns.with_one.Goals as goal

pub returns : goal.returns
returns c =
    items_from_collect _ c.collect.ensures.ran
    (YieldsList-from_chain (YieldsList-at c.chain.ensures.first (YieldsList-from_once (Some false) c.once.ensures.item))
    (YieldsList-at c.chain.ensures.second
    (YieldsList-from_map _ (λ p. suits c.args.wanted p.0 && p.1)
    (YieldsList-at c.map.ensures.source (YieldsList-from_zip (YieldsList-from_slice c.args.backwards.now cc) (YieldsList-from_slice c.args.row.now cc)))
    c.map.ensures.closure (λ x r q k. search (rules, tests))))
    c.chain.ensures.first_done c.chain.ensures.second_done)
