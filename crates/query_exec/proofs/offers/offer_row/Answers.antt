use Rattle.query_exec.specs.Relatives.{by_relatives}
use Rattle.query_exec.proofs.Offering.{offers_none, offers_one}
use Rattle.query_exec.proofs.offers.offer_row.Goals as goal

pub returns-then-admits-clause-offered : goal.returns-then-admits-clause-offered
returns-then-admits-clause-offered g c told q w s h its r has made =
    let relatives = c.args.relatives.now in
    let row = by_relatives (g.L.Relatives.parents relatives) (g.L.Relatives.children relatives) (g.W.RowForm.written c.args.form.now) in
    offers_one (row w) c.args.progress.now c.admits.new.self r c.args.out.now.items c.take_row.new.out.items c.admits.result c.admits.ensures c.if-admits.true
    c.take_row.new.progress c.take_row.result (c.take_row.ensures.written told q w s h its r has made)

pub returns-else-admits-clause-offered : goal.returns-else-admits-clause-offered
returns-else-admits-clause-offered g c told q w s h its r has made =
    let relatives = c.args.relatives.now in
    let row = by_relatives (g.L.Relatives.parents relatives) (g.L.Relatives.children relatives) (g.W.RowForm.written c.args.form.now) in
    offers_none (row w) c.args.progress.now c.admits.new.self r c.args.out.now.items c.admits.result c.admits.ensures c.if-admits.false
