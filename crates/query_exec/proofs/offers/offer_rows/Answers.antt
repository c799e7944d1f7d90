use Rattle.std.proofs.Common.{◌≡◌, ◌∙◌, ◌*◌, List, [], ◌∷◌, arith, length, ap, refl, subst, sym}
use Rattle.std.specs.Prelude.{Err}
use Rattle.base_lemmas.proofs.Lists.{nil_from_no_length as empty_of}
use Rattle.base_lemmas.proofs.Results.{err_from_IsErrAnd as returned}
use Rattle.store_kv.specs.Draft.{tables_of}
use Rattle.model.specs.declared.record.Record.{Record}
use Rattle.model.specs.Paths.{Asked}
use Rattle.store_abstraction.specs.Calls.{Calls, Ending, done}
use Rattle.query_exec.specs.declared.candidates.Candidate.{Candidate}
use Rattle.query_exec.specs.declared.ranked.Ranked.{Ranked}
use Rattle.query_exec.specs.Fails.{ended_exec}
use Rattle.query_exec.specs.Relatives.{by_relatives}
use Rattle.query_exec.specs.inner.Judging.{IsOf, OfRows}
use Rattle.query_exec.specs.inner.Offers.{Offered, WritesTaken}
use Rattle.query_exec.proofs.Offering.{goes_none, goes_on, goes_over, stops}
use Rattle.query_exec.proofs.Passing.{Passing, passed, passed_calls, passed_over, passes_first, passes_next, stops_calls, stops_here}
use Rattle.query_exec.proofs.offers.offer_rows.Goals as goal

pub rows-init : goal.rows-init
rows-init g c =
    let state = g.K.Keeper.state in
    let l = c.args.layout.now in
    let a = c.args.draft.now in
    let relatives = c.args.relatives.now in
    let who = g.L.Relatives.whose relatives l.org in
    let parents = g.L.Relatives.parents relatives in
    let row = by_relatives parents (g.L.Relatives.children relatives) (g.W.RowForm.written c.args.form.now) in
    let each = g.L.Relatives.children_shown relatives in
    let P = λ (w : Asked) (x : Ranked g.row.T.Denot Candidate). IsOf l (parents w) x.kept in
    let rows = c.args.rows.now in
    let p = c.args.progress.now in
    let out = c.args.out.now.items in
    passes_first state l who P each rows (λ (w : Asked) (seen : List Record). WritesTaken (row w) p p out out seen) a (c.call_laws.ensures.none done a refl) (λ w. goes_none (row w) p out)

pub rows-preserved : goal.rows-preserved
rows-preserved g c =
    let state = g.K.Keeper.state in
    let l = c.args.layout.now in
    let a = c.args.draft.now in
    let relatives = c.args.relatives.now in
    let who = g.L.Relatives.whose relatives l.org in
    let parents = g.L.Relatives.parents relatives in
    let row = by_relatives parents (g.L.Relatives.children relatives) (g.W.RowForm.written c.args.form.now) in
    let each = g.L.Relatives.children_shown relatives in
    let P = λ (w : Asked) (x : Ranked g.row.T.Denot Candidate). IsOf l (parents w) x.kept in
    let rows = c.args.rows.now in
    let p = c.args.progress.now in
    let out = c.args.out.now.items in
    let b = c.rows.draft in
    let so_far = c.rows.progress in
    let mid = c.rows.out.items in
    let Q = λ (w : Asked) (seen : List Record). WritesTaken (row w) p so_far out mid seen in
    let before = subst (λ (left : List (Ranked g.row.T.Denot Candidate)). Passing state l who P each rows left Q a b) c.in-Some.ensures.cases.0 c.rows.invariant in
    let d = c.offer_row.new.draft in
    let new = c.offer_row.new.progress in
    let end = c.offer_row.new.out.items in
    passes_next state l who P each c.draft_laws.ensures.both c.call_laws.ensures.then rows c.in-Some.more.now Q c.in-Some.row.now a b d before
    (λ (w : Asked) (seen : List Record). WritesTaken (row w) p new out end seen) c.in_ok-offer_row.ensures.calls
    (λ tell q w s h its r has made seen goes. goes_on (row w) p so_far out mid seen goes new end (r ∷ []) (c.in_ok-offer_row.ensures.offered tell q w s h its r has made))

pub returns-then-is_over-clause-offered : goal.returns-then-is_over-clause-offered
returns-then-is_over-clause-offered g c told =
    let state = g.K.Keeper.state in
    let l = c.args.layout.now in
    let a = c.args.draft.now in
    let relatives = c.args.relatives.now in
    let who = g.L.Relatives.whose relatives l.org in
    let parents = g.L.Relatives.parents relatives in
    let row = by_relatives parents (g.L.Relatives.children relatives) (g.W.RowForm.written c.args.form.now) in
    let each = g.L.Relatives.children_shown relatives in
    let P = λ (w : Asked) (x : Ranked g.row.T.Denot Candidate). IsOf l (parents w) x.kept in
    let rows = c.args.rows.now in
    let p = c.args.progress.now in
    let out = c.args.out.now.items in
    let b = c.rows.draft in
    let so_far = c.rows.progress in
    let mid = c.rows.out.items in
    let Q = λ (w : Asked) (seen : List Record). WritesTaken (row w) p so_far out mid seen in
    let before = subst (λ (left : List (Ranked g.row.T.Denot Candidate)). Passing state l who P each rows left Q a b) c.in-Some.ensures.cases.0 c.rows.invariant in
    passed_over state l who P each rows (c.in-Some.row.now ∷ c.in-Some.more.now) Q a b before (λ (w : Asked) (page : List Record). WritesTaken (row w) p so_far out mid page) told
    (λ w seen rest goes. goes_over (row w) p so_far out mid seen goes rest (sym c.is_over.ensures ∙ c.if-is_over.true))

pub returns-then-is_over-clause-calls : goal.returns-then-is_over-clause-calls
returns-then-is_over-clause-calls g c =
    let state = g.K.Keeper.state in
    let l = c.args.layout.now in
    let a = c.args.draft.now in
    let relatives = c.args.relatives.now in
    let who = g.L.Relatives.whose relatives l.org in
    let parents = g.L.Relatives.parents relatives in
    let row = by_relatives parents (g.L.Relatives.children relatives) (g.W.RowForm.written c.args.form.now) in
    let each = g.L.Relatives.children_shown relatives in
    let P = λ (w : Asked) (x : Ranked g.row.T.Denot Candidate). IsOf l (parents w) x.kept in
    let rows = c.args.rows.now in
    let p = c.args.progress.now in
    let out = c.args.out.now.items in
    let b = c.rows.draft in
    let so_far = c.rows.progress in
    let mid = c.rows.out.items in
    let Q = λ (w : Asked) (seen : List Record). WritesTaken (row w) p so_far out mid seen in
    passed_calls state l who P each rows c.rows.left.now Q a b c.rows.invariant c.draft_laws.ensures.reads_most

pub returns-in_err-offer_row-clause-offered : goal.returns-in_err-offer_row-clause-offered
returns-in_err-offer_row-clause-offered g c told =
    let state = g.K.Keeper.state in
    let l = c.args.layout.now in
    let a = c.args.draft.now in
    let relatives = c.args.relatives.now in
    let who = g.L.Relatives.whose relatives l.org in
    let parents = g.L.Relatives.parents relatives in
    let row = by_relatives parents (g.L.Relatives.children relatives) (g.W.RowForm.written c.args.form.now) in
    let each = g.L.Relatives.children_shown relatives in
    let P = λ (w : Asked) (x : Ranked g.row.T.Denot Candidate). IsOf l (parents w) x.kept in
    let rows = c.args.rows.now in
    let p = c.args.progress.now in
    let out = c.args.out.now.items in
    let b = c.rows.draft in
    let so_far = c.rows.progress in
    let mid = c.rows.out.items in
    let Q = λ (w : Asked) (seen : List Record). WritesTaken (row w) p so_far out mid seen in
    let before = subst (λ (left : List (Ranked g.row.T.Denot Candidate)). Passing state l who P each rows left Q a b) c.in-Some.ensures.cases.0 c.rows.invariant in
    let d = c.offer_row.new.draft in
    let new = c.offer_row.new.progress in
    let end = c.offer_row.new.out.items in
    let fail = c.in_err-offer_row.field-0.0 in
    subst (λ r. OfRows l who P rows (tables_of state a) (λ w page. Offered (row w) p new out end page r)) (sym (returned c.from_residual.result fail c.from_residual.ensures.1))
    (stops_here state l who P each c.draft_laws.ensures.both c.call_laws.ensures.then rows c.in-Some.more.now Q c.in-Some.row.now a b d before (ended_exec c.offer_row.result) c.offer_row.ensures.calls
    (λ (w : Asked) (page : List Record). Offered (row w) p new out end page (Err fail)) told
    (λ tell q w s h its r has made seen rest goes.
    stops (row w) p so_far out mid seen goes new end (r ∷ []) rest fail
    (subst (Offered (row w) so_far new mid end (r ∷ [])) c.in_err-offer_row.was (c.offer_row.ensures.offered tell q w s h its r has made))))

pub returns-in_err-offer_row-clause-calls : goal.returns-in_err-offer_row-clause-calls
returns-in_err-offer_row-clause-calls g c =
    let state = g.K.Keeper.state in
    let l = c.args.layout.now in
    let a = c.args.draft.now in
    let relatives = c.args.relatives.now in
    let who = g.L.Relatives.whose relatives l.org in
    let parents = g.L.Relatives.parents relatives in
    let row = by_relatives parents (g.L.Relatives.children relatives) (g.W.RowForm.written c.args.form.now) in
    let each = g.L.Relatives.children_shown relatives in
    let P = λ (w : Asked) (x : Ranked g.row.T.Denot Candidate). IsOf l (parents w) x.kept in
    let rows = c.args.rows.now in
    let p = c.args.progress.now in
    let out = c.args.out.now.items in
    let b = c.rows.draft in
    let so_far = c.rows.progress in
    let mid = c.rows.out.items in
    let Q = λ (w : Asked) (seen : List Record). WritesTaken (row w) p so_far out mid seen in
    let before = subst (λ (left : List (Ranked g.row.T.Denot Candidate)). Passing state l who P each rows left Q a b) c.in-Some.ensures.cases.0 c.rows.invariant in
    let d = c.offer_row.new.draft in
    let new = c.offer_row.new.progress in
    let end = c.offer_row.new.out.items in
    let fail = c.in_err-offer_row.field-0.0 in
    let e = ended_exec c.offer_row.result in
    let same : e ≡ ended_exec c.from_residual.result = ap ended_exec c.in_err-offer_row.was ∙ sym (ap ended_exec (returned c.from_residual.result fail c.from_residual.ensures.1)) in
    subst (λ (x : Ending). Calls state (each * length rows) x a d) same
    (stops_calls state l who P each c.draft_laws.ensures.both c.call_laws.ensures.then rows c.in-Some.more.now Q c.in-Some.row.now a b d before e c.offer_row.ensures.calls c.draft_laws.ensures.reads_most)

pub returns-clause-offered : goal.returns-clause-offered
returns-clause-offered g c told =
    let state = g.K.Keeper.state in
    let l = c.args.layout.now in
    let a = c.args.draft.now in
    let relatives = c.args.relatives.now in
    let who = g.L.Relatives.whose relatives l.org in
    let parents = g.L.Relatives.parents relatives in
    let row = by_relatives parents (g.L.Relatives.children relatives) (g.W.RowForm.written c.args.form.now) in
    let each = g.L.Relatives.children_shown relatives in
    let P = λ (w : Asked) (x : Ranked g.row.T.Denot Candidate). IsOf l (parents w) x.kept in
    let rows = c.args.rows.now in
    let p = c.args.progress.now in
    let out = c.args.out.now.items in
    let b = c.rows.draft in
    let so_far = c.rows.progress in
    let mid = c.rows.out.items in
    let Q = λ (w : Asked) (seen : List Record). WritesTaken (row w) p so_far out mid seen in
    let none : c.rows.left.now ≡ [] = empty_of c.rows.left.now (omega (arith, c.in_default.ensures.cases)) in
    passed state l who P each rows Q a b (subst (λ (left : List (Ranked g.row.T.Denot Candidate)). Passing state l who P each rows left Q a b) none c.rows.invariant) told

pub returns-clause-calls : goal.returns-clause-calls
returns-clause-calls g c =
    let state = g.K.Keeper.state in
    let l = c.args.layout.now in
    let a = c.args.draft.now in
    let relatives = c.args.relatives.now in
    let who = g.L.Relatives.whose relatives l.org in
    let parents = g.L.Relatives.parents relatives in
    let row = by_relatives parents (g.L.Relatives.children relatives) (g.W.RowForm.written c.args.form.now) in
    let each = g.L.Relatives.children_shown relatives in
    let P = λ (w : Asked) (x : Ranked g.row.T.Denot Candidate). IsOf l (parents w) x.kept in
    let rows = c.args.rows.now in
    let p = c.args.progress.now in
    let out = c.args.out.now.items in
    let b = c.rows.draft in
    let so_far = c.rows.progress in
    let mid = c.rows.out.items in
    let Q = λ (w : Asked) (seen : List Record). WritesTaken (row w) p so_far out mid seen in
    passed_calls state l who P each rows c.rows.left.now Q a b c.rows.invariant c.draft_laws.ensures.reads_most
