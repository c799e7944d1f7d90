use Rattle.std.proofs.Common.{◌≡◌, ◌+◌, List, [], None, arith, length, refl, sym, subst}
use Rattle.base_lemmas.proofs.Results.{err_from_IsErrAnd as returned}
use Rattle.model.specs.declared.record.Record.{Record}
use Rattle.model.specs.Paths.{Asked}
use Rattle.store_abstraction.specs.Calls.{done}
use Rattle.query_exec.specs.declared.candidates.Candidate.{Candidate}
use Rattle.query_exec.specs.declared.pages.Pages.{Pages}
use Rattle.query_exec.specs.declared.ranked.Ranked.{Ranked}
use Rattle.query_exec.specs.inner.Gathering.{ReadsAll}
use Rattle.query_exec.specs.inner.Judging.{IsOf, judging, picked}
use Rattle.query_exec.proofs.Cutting.{GathersApart, gathers_none, gathers_page}
use Rattle.query_exec.proofs.Working.{UnderWay, all_read, begins, failed_all, gathered_all, page_unfound, reads_all, turn}
use Rattle.query_exec.proofs.sorted.gather_all.Goals as goal

pub pages-init : goal.pages-init
pages-init g c =
    let state = g.K.Keeper.state in
    let l = c.args.layout.now in
    let a = c.args.draft.now in
    let relatives = c.args.relatives.now in
    let whose = g.L.Relatives.whose relatives l.org in
    let parents = g.L.Relatives.parents relatives in
    let j = judging (g.S.Sight.sees c.args.sight.now l) whose parents (g.P.Keeps.keep c.args.keeps.now) (g.R.Ranks.ranked c.args.ranks.now) in
    let each = g.S.Sight.shown + g.L.Relatives.parents_shown relatives in
    let cmp = g.R.Rank.Ord.cmp in
    let total = g.met.R.Rank.Ord.total in
    let wanted = c.args.wanted in
    let items = c.new-gathered.result.items in
    let none : items ≡ [] = c.new-gathered.ensures.items in
    subst (λ (pages : Pages). UnderWay state l j each (λ (rs : List Record). ⊥) (λ (x : Asked) (rs : List Record). GathersApart cmp total (IsOf l (j.parents x)) (j.rank x) wanted items rs) pages (length items) done a a) (sym c.first_pages-pages.ensures)
    (subst (λ (xs : List (Ranked g.row.R-Rank.Denot Candidate)). UnderWay state l j each (λ (rs : List Record). ⊥) (λ (x : Asked) (rs : List Record). GathersApart cmp total (IsOf l (j.parents x)) (j.rank x) wanted xs rs) (record { after = None; left = 80 }) (length xs) done a a) (sym none)
    (begins state l j each (λ (x : Asked) (rs : List Record). GathersApart cmp total (IsOf l (j.parents x)) (j.rank x) wanted [] rs) a (c.call_laws.ensures.none done a refl) (λ x. gathers_none cmp total (IsOf l (j.parents x)) (j.rank x) wanted)))

pub returns-in_err-next_permitted-clause-what : goal.returns-in_err-next_permitted-clause-what
returns-in_err-next_permitted-clause-what g c told =
    let state = g.K.Keeper.state in
    let l = c.args.layout.now in
    let a = c.args.draft.now in
    let relatives = c.args.relatives.now in
    let whose = g.L.Relatives.whose relatives l.org in
    let parents = g.L.Relatives.parents relatives in
    let j = judging (g.S.Sight.sees c.args.sight.now l) whose parents (g.P.Keeps.keep c.args.keeps.now) (g.R.Ranks.ranked c.args.ranks.now) in
    let each = g.S.Sight.shown + g.L.Relatives.parents_shown relatives in
    let cmp = g.R.Rank.Ord.cmp in
    let total = g.met.R.Rank.Ord.total in
    let wanted = c.args.wanted in
    let items = c.pages.gathered.items in
    let Q = λ (x : Asked) (rs : List Record). GathersApart cmp total (IsOf l (j.parents x)) (j.rank x) wanted items rs in
    let laws = c.draft_laws.ensures in
    let then = c.call_laws.ensures.then in
    let turned = c.next_permitted.new.pages in
    let b = c.next_permitted.new.draft in
    let new = c.next_permitted.new.kept.items in
    let fail = c.in_err-next_permitted.field-0.0 in
    page_unfound state l j each laws.both then laws.reads_most Q c.pages.pages (length items) a c.pages.draft c.pages.invariant
    each 0 (omega arith) c.pages-test.true turned items new b fail c.in_err-next_permitted.ensures.turns cmp wanted told c.from_residual.result (returned c.from_residual.result fail c.from_residual.ensures.1)

pub returns-in_err-next_permitted-clause-reads : goal.returns-in_err-next_permitted-clause-reads
returns-in_err-next_permitted-clause-reads g c =
    let state = g.K.Keeper.state in
    let l = c.args.layout.now in
    let a = c.args.draft.now in
    let relatives = c.args.relatives.now in
    let whose = g.L.Relatives.whose relatives l.org in
    let parents = g.L.Relatives.parents relatives in
    let j = judging (g.S.Sight.sees c.args.sight.now l) whose parents (g.P.Keeps.keep c.args.keeps.now) (g.R.Ranks.ranked c.args.ranks.now) in
    let each = g.S.Sight.shown + g.L.Relatives.parents_shown relatives in
    let cmp = g.R.Rank.Ord.cmp in
    let total = g.met.R.Rank.Ord.total in
    let wanted = c.args.wanted in
    let items = c.pages.gathered.items in
    let Q = λ (x : Asked) (rs : List Record). GathersApart cmp total (IsOf l (j.parents x)) (j.rank x) wanted items rs in
    let laws = c.draft_laws.ensures in
    let then = c.call_laws.ensures.then in
    let turned = c.next_permitted.new.pages in
    let b = c.next_permitted.new.draft in
    let new = c.next_permitted.new.kept.items in
    let fail = c.in_err-next_permitted.field-0.0 in
    subst (ReadsAll l j state each a b) (sym (returned c.from_residual.result fail c.from_residual.ensures.1))
    (failed_all state l j each laws.both then laws.reads_most Q c.pages.pages (length items) a c.pages.draft c.pages.invariant
    each 0 (omega arith) c.pages-test.true turned items new b fail c.in_err-next_permitted.ensures.turns)

pub pages-preserved : goal.pages-preserved
pages-preserved g c =
    let state = g.K.Keeper.state in
    let l = c.args.layout.now in
    let a = c.args.draft.now in
    let relatives = c.args.relatives.now in
    let whose = g.L.Relatives.whose relatives l.org in
    let parents = g.L.Relatives.parents relatives in
    let j = judging (g.S.Sight.sees c.args.sight.now l) whose parents (g.P.Keeps.keep c.args.keeps.now) (g.R.Ranks.ranked c.args.ranks.now) in
    let each = g.S.Sight.shown + g.L.Relatives.parents_shown relatives in
    let cmp = g.R.Rank.Ord.cmp in
    let total = g.met.R.Rank.Ord.total in
    let wanted = c.args.wanted in
    let items = c.pages.gathered.items in
    let Q = λ (x : Asked) (rs : List Record). GathersApart cmp total (IsOf l (j.parents x)) (j.rank x) wanted items rs in
    let laws = c.draft_laws.ensures in
    let then = c.call_laws.ensures.then in
    let turned = c.next_permitted.new.pages in
    let b = c.next_permitted.new.draft in
    let new = c.next_permitted.new.kept.items in
    let cut = c.cut.new.gathered.items in
    let page = c.in_ok-next_permitted.ensures.turns in
    turn state l j each laws.both then laws.reads_most Q c.pages.pages (length items) a c.pages.draft c.pages.invariant
    each 0 (omega arith) turned items new b b page c.in_ok-next_permitted.ensures.less 0 (omega arith) done (c.call_laws.ensures.none done b refl) (λ x seen more goes enough. enough)
    (λ (x : Asked) (rs : List Record). GathersApart cmp total (IsOf l (j.parents x)) (j.rank x) wanted cut rs) (length cut) (omega (arith, page.sized, c.cut.ensures.long))
    (λ told q x s h its seen rows has gathers goes. gathers_page cmp total (IsOf l (j.parents x)) (j.rank x) wanted items new cut seen (picked j x rows) goes gathers c.cut.ensures.cuts)

pub returns-clause-what : goal.returns-clause-what
returns-clause-what g c told =
    let state = g.K.Keeper.state in
    let l = c.args.layout.now in
    let a = c.args.draft.now in
    let relatives = c.args.relatives.now in
    let whose = g.L.Relatives.whose relatives l.org in
    let parents = g.L.Relatives.parents relatives in
    let j = judging (g.S.Sight.sees c.args.sight.now l) whose parents (g.P.Keeps.keep c.args.keeps.now) (g.R.Ranks.ranked c.args.ranks.now) in
    let each = g.S.Sight.shown + g.L.Relatives.parents_shown relatives in
    let cmp = g.R.Rank.Ord.cmp in
    let total = g.met.R.Rank.Ord.total in
    let wanted = c.args.wanted in
    let items = c.pages.gathered.items in
    let Q = λ (x : Asked) (rs : List Record). GathersApart cmp total (IsOf l (j.parents x)) (j.rank x) wanted items rs in
    let laws = c.draft_laws.ensures in
    let then = c.call_laws.ensures.then in
    λ q x s h its. gathered_all l j cmp total wanted x items (all_read state l j each Q c.pages.pages (length items) done a c.pages.draft c.pages.invariant c.pages-test.false told q x s h its)

pub returns-clause-reads : goal.returns-clause-reads
returns-clause-reads g c =
    let state = g.K.Keeper.state in
    let l = c.args.layout.now in
    let a = c.args.draft.now in
    let relatives = c.args.relatives.now in
    let whose = g.L.Relatives.whose relatives l.org in
    let parents = g.L.Relatives.parents relatives in
    let j = judging (g.S.Sight.sees c.args.sight.now l) whose parents (g.P.Keeps.keep c.args.keeps.now) (g.R.Ranks.ranked c.args.ranks.now) in
    let each = g.S.Sight.shown + g.L.Relatives.parents_shown relatives in
    let cmp = g.R.Rank.Ord.cmp in
    let total = g.met.R.Rank.Ord.total in
    let wanted = c.args.wanted in
    let items = c.pages.gathered.items in
    let Q = λ (x : Asked) (rs : List Record). GathersApart cmp total (IsOf l (j.parents x)) (j.rank x) wanted items rs in
    let laws = c.draft_laws.ensures in
    let then = c.call_laws.ensures.then in
    reads_all state l j each laws.reads_most Q c.pages.pages c.pages.gathered a c.pages.draft c.pages.invariant
