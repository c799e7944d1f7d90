use Rattle.std.proofs.Common.{◌+◌}
use Rattle.query_exec.specs.inner.Judging.{judging}
use Rattle.query_exec.proofs.Permitting.{page_failed, turns_page}
use Rattle.query_exec.proofs.permitted.next_permitted.Goals as goal

pub returns-in-Ok-clause-turns : goal.returns-in-Ok-clause-turns
returns-in-Ok-clause-turns g c =
    let l = c.args.layout.now in
    let relatives = c.args.relatives.now in
    let sees = g.S.Sight.sees c.args.sight.now l in
    let j = judging sees (g.L.Relatives.whose relatives l.org) (g.L.Relatives.parents relatives) (g.P.Keeps.keep c.args.keeps.now) (g.R.Ranks.ranked c.args.ranks.now) in
    let each = g.S.Sight.shown + g.L.Relatives.parents_shown relatives in
    turns_page l j g.K.Keeper.state each c.args.pages.now c.next_page.new.pages c.args.kept.now.items c.admit_rows.new.kept.items c.draft_laws.ensures.both c.call_laws.ensures.then
    c.in-Ok.rows c.args.draft.now c.next_page.new.draft c.admit_rows.new.draft c.in-Ok.ensures.calls c.in-Ok.ensures.page
    c.admit_rows.result c.admit_rows.ensures.calls c.admit_rows.ensures.sized c.admit_rows.ensures.admits

pub returns-in-Err-clause-turns : goal.returns-in-Err-clause-turns
returns-in-Err-clause-turns g c =
    let l = c.args.layout.now in
    let relatives = c.args.relatives.now in
    let sees = g.S.Sight.sees c.args.sight.now l in
    let j = judging sees (g.L.Relatives.whose relatives l.org) (g.L.Relatives.parents relatives) (g.P.Keeps.keep c.args.keeps.now) (g.R.Ranks.ranked c.args.ranks.now) in
    let each = g.S.Sight.shown + g.L.Relatives.parents_shown relatives in
    page_failed l j g.K.Keeper.state each c.args.pages.now c.next_page.new.pages c.args.kept.now.items c.args.kept.now.items c.draft_laws.ensures.reads_most
    c.args.draft.now c.next_page.new.draft c.next_page.result c.in-Err.fail c.in-Err.is c.in-Err.ensures.calls c.next_page.ensures.page
