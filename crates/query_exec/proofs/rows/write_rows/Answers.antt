use Rattle.std.proofs.Common.{◌≡◌, ◌∙◌, ◌+◌, ◌*◌, ◌≤◌, List, [], ◌++◌, ap, arith, filter, length, refl, sym, subst}
use Rattle.std.specs.Prelude.{Err}
use Rattle.std.proofs.Math.Nat.{mul-le-mul_left}
use Rattle.base_lemmas.proofs.Results.{err_from_IsErrAnd as returned}
use Rattle.store_kv.specs.Draft.{DraftTells, removals_of, tables_of}
use Rattle.model.specs.declared.record.Record.{Record}
use Rattle.model.specs.Levels.{readable}
use Rattle.model.specs.Paths.{Asked}
use Rattle.store_abstraction.specs.Calls.{Calls, Ending, done}
use Rattle.query_exec.specs.declared.candidates.Candidate.{Candidate}
use Rattle.query_exec.specs.declared.fail.ExecFail.TheVariants.{Store}
use Rattle.query_exec.specs.declared.offers.Progress.{Progress}
use Rattle.query_exec.specs.declared.pages.Pages.{Pages}
use Rattle.query_exec.specs.declared.ranked.Ranked.{Ranked}
use Rattle.query_exec.specs.Fails.{ended_exec}
use Rattle.query_exec.specs.Relatives.{by_relatives}
use Rattle.query_exec.specs.Windows.{HasAll}
use Rattle.query_exec.specs.Written.{WritesRows, most_shown, rows_kept}
use Rattle.query_exec.specs.inner.Judging.{IsOf, OfRows, judging, unranked}
use Rattle.query_exec.specs.inner.Offers.{Offered, WritesTaken}
use Rattle.query_exec.proofs.Offering.{goes_none}
use Rattle.query_exec.proofs.Working.{Offers, Stopped, UnderWay, all_calls, any_early, any_shown, begins, failed_calls, has_no_types, offers_more, over_ends, page_undamaged, read_ends, stops_at, turn_offers, what_stopped, offers_few, what_unread, what_written}
use Rattle.query_exec.proofs.rows.write_rows.Goals as goal

pub returns-then-not-has_types-clause-what : goal.returns-then-not-has_types-clause-what
returns-then-not-has_types-clause-what g c told =
    let state = g.K.Keeper.state in
    let l = c.args.layout.now in
    let a = c.args.draft.now in
    let relatives = c.args.relatives.now in
    let whose = g.L.Relatives.whose relatives l.org in
    let parents = g.L.Relatives.parents relatives in
    let j = judging (g.S.Sight.sees c.args.sight.now l) whose parents (g.P.Keeps.keep c.args.keeps.now) unranked in
    let row = by_relatives parents (g.L.Relatives.children relatives) (g.W.RowForm.written c.args.form.now) in
    let own = g.S.Sight.shown + g.L.Relatives.parents_shown relatives in
    let kids = g.L.Relatives.children_shown relatives in
    let w = c.args.window in
    let room = c.args.room in
    let old = c.args.out.now.items in
    has_no_types c.data_laws.ensures.typed l j.who (tables_of state a) (sym c.has_types.ensures ∙ c.if-not-has_types.true)

pub pages-init : goal.pages-init
pages-init g c =
    let state = g.K.Keeper.state in
    let l = c.args.layout.now in
    let a = c.args.draft.now in
    let relatives = c.args.relatives.now in
    let whose = g.L.Relatives.whose relatives l.org in
    let parents = g.L.Relatives.parents relatives in
    let j = judging (g.S.Sight.sees c.args.sight.now l) whose parents (g.P.Keeps.keep c.args.keeps.now) unranked in
    let row = by_relatives parents (g.L.Relatives.children relatives) (g.W.RowForm.written c.args.form.now) in
    let own = g.S.Sight.shown + g.L.Relatives.parents_shown relatives in
    let kids = g.L.Relatives.children_shown relatives in
    let w = c.args.window in
    let room = c.args.room in
    let old = c.args.out.now.items in
    let first : Progress = record { window = w; room = room; count = 0 } in
    let Q = Offers row w room old first old in
    subst (λ (pages : Pages). UnderWay state l j (own + kids) (λ (rs : List Record). HasAll w.skip w.most (length rs)) Q pages 0 done a a) (sym c.first_pages-pages.ensures) (begins state l j (own + kids) Q a (c.call_laws.ensures.none done a refl) (λ x. goes_none (row x) first old))

-- a page that failed
pub returns-in_err-next_permitted-clause-what : goal.returns-in_err-next_permitted-clause-what
returns-in_err-next_permitted-clause-what g c told =
    let state = g.K.Keeper.state in
    let l = c.args.layout.now in
    let a = c.args.draft.now in
    let relatives = c.args.relatives.now in
    let whose = g.L.Relatives.whose relatives l.org in
    let parents = g.L.Relatives.parents relatives in
    let j = judging (g.S.Sight.sees c.args.sight.now l) whose parents (g.P.Keeps.keep c.args.keeps.now) unranked in
    let row = by_relatives parents (g.L.Relatives.children relatives) (g.W.RowForm.written c.args.form.now) in
    let own = g.S.Sight.shown + g.L.Relatives.parents_shown relatives in
    let kids = g.L.Relatives.children_shown relatives in
    let w = c.args.window in
    let room = c.args.room in
    let old = c.args.out.now.items in
    let p = c.pages.progress in
    let mid = c.pages.out.items in
    let Q = Offers row w room old p mid in
    let laws = c.draft_laws.ensures in
    let then = c.call_laws.ensures.then in
    let turned = c.next_permitted.new.pages in
    let b = c.next_permitted.new.draft in
    let rows = c.next_permitted.new.kept.items in
    let fail = c.in_err-next_permitted.field-0.0 in
    subst (WritesRows l j.who (rows_kept w j.keep l.object) row room old mid (tables_of state a)) (sym (returned c.from_residual.result (Store fail) c.from_residual.ensures.1))
    (what_unread row w room old l j.who (tables_of state a) (λ x. filter (j.keep x) (readable x.tenant x.user l.object)) mid fail
    (page_undamaged state l j (own + kids) laws.both then laws.reads_most Q c.pages.pages 0 a c.pages.draft c.pages.invariant
    own kids refl c.pages-test.true turned c.new-rows.result.items rows b fail c.in_err-next_permitted.ensures.turns told))

pub returns-in_err-next_permitted-clause-calls : goal.returns-in_err-next_permitted-clause-calls
returns-in_err-next_permitted-clause-calls g c =
    let state = g.K.Keeper.state in
    let l = c.args.layout.now in
    let a = c.args.draft.now in
    let relatives = c.args.relatives.now in
    let whose = g.L.Relatives.whose relatives l.org in
    let parents = g.L.Relatives.parents relatives in
    let j = judging (g.S.Sight.sees c.args.sight.now l) whose parents (g.P.Keeps.keep c.args.keeps.now) unranked in
    let row = by_relatives parents (g.L.Relatives.children relatives) (g.W.RowForm.written c.args.form.now) in
    let own = g.S.Sight.shown + g.L.Relatives.parents_shown relatives in
    let kids = g.L.Relatives.children_shown relatives in
    let w = c.args.window in
    let room = c.args.room in
    let old = c.args.out.now.items in
    let p = c.pages.progress in
    let mid = c.pages.out.items in
    let Q = Offers row w room old p mid in
    let laws = c.draft_laws.ensures in
    let then = c.call_laws.ensures.then in
    let turned = c.next_permitted.new.pages in
    let b = c.next_permitted.new.draft in
    let rows = c.next_permitted.new.kept.items in
    let fail = c.in_err-next_permitted.field-0.0 in
    subst (λ r. Calls state (most_shown (own + kids) (removals_of state 7 a)) (ended_exec r) a b) (sym (returned c.from_residual.result (Store fail) c.from_residual.ensures.1))
    (failed_calls state l j (own + kids) laws.both then laws.reads_most Q c.pages.pages 0 a c.pages.draft c.pages.invariant
    own kids refl c.pages-test.true turned c.new-rows.result.items rows b fail c.in_err-next_permitted.ensures.turns)

pub returns-in_err-offer_rows-clause-what : goal.returns-in_err-offer_rows-clause-what
returns-in_err-offer_rows-clause-what g c told =
    let state = g.K.Keeper.state in
    let l = c.args.layout.now in
    let a = c.args.draft.now in
    let relatives = c.args.relatives.now in
    let whose = g.L.Relatives.whose relatives l.org in
    let parents = g.L.Relatives.parents relatives in
    let j = judging (g.S.Sight.sees c.args.sight.now l) whose parents (g.P.Keeps.keep c.args.keeps.now) unranked in
    let row = by_relatives parents (g.L.Relatives.children relatives) (g.W.RowForm.written c.args.form.now) in
    let own = g.S.Sight.shown + g.L.Relatives.parents_shown relatives in
    let kids = g.L.Relatives.children_shown relatives in
    let w = c.args.window in
    let room = c.args.room in
    let old = c.args.out.now.items in
    let p = c.pages.progress in
    let mid = c.pages.out.items in
    let Q = Offers row w room old p mid in
    let laws = c.draft_laws.ensures in
    let then = c.call_laws.ensures.then in
    let turned = c.next_permitted.new.pages in
    let b = c.next_permitted.new.draft in
    let rows = c.next_permitted.new.kept.items in
    let d = c.offer_rows.new.draft in
    let new = c.offer_rows.new.progress in
    let out = c.offer_rows.new.out.items in
    let page = c.in_ok-next_permitted.ensures.turns in
    let not_yet = λ (x : Asked) (seen more : List Record) (goes : Q x (seen ++ more)). offers_few row w room old p mid (sym c.is_over.ensures ∙ c.if-not-is_over.true) x seen more goes in
    let none : c.new-rows.result.items ≡ [] = c.new-rows.ensures.items in
    let few : kids * length rows ≤ kids * page.count = mul-le-mul_left kids (omega (arith, page.sized, ap length none)) in
    let calls = subst (λ (slice : List (Ranked (Unit {0}) Candidate)). Calls state (kids * length slice) (ended_exec c.offer_rows.result) b d) c.as_slice.ensures.value c.offer_rows.ensures.calls in
    let fail = c.in_err-offer_rows.field-0.0 in
    let result = c.from_residual-in_err-offer_rows.result in
    let is = returned result fail c.from_residual-in_err-offer_rows.ensures.1 in
    let e = ended_exec c.offer_rows.result in
    let same : e ≡ ended_exec result = ap ended_exec c.in_err-offer_rows.was ∙ sym (ap ended_exec is) in
    let T = λ (x : Asked) (page : List Record). Offered (row x) p new mid out page (Err fail) in
    let offers = λ (tell : DraftTells state b d).
    subst (λ (slice : List (Ranked (Unit {0}) Candidate)). OfRows l whose (λ x (r : Ranked (Unit {0}) Candidate). IsOf l (parents x) r.kept) slice (tables_of state b) T)
    c.as_slice.ensures.value (subst (λ r. OfRows l whose (λ x (r : Ranked (Unit {0}) Candidate). IsOf l (parents x) r.kept) c.as_slice.result.now (tables_of state b)
    (λ x page. Offered (row x) p new mid out page r)) c.in_err-offer_rows.was (c.offer_rows.ensures.offered tell)) in
    let P = Stopped row w room old new out fail in
    let u =
    turn_offers state l j (own + kids) laws.both then laws.reads_most Q c.pages.pages 0 a c.pages.draft c.pages.invariant
    own kids refl turned c.new-rows.result.items rows b d page c.in_ok-next_permitted.ensures.less (kids * length rows) few e calls not_yet whose (λ q x its. its.1) none T offers P
    (λ x seen page goes stopped. stops_at row w room old p new mid out fail x seen page goes stopped) in
    subst (WritesRows l j.who (rows_kept w j.keep l.object) row room old out (tables_of state a)) (sym is)
    (what_stopped row w room old state l j (own + kids) turned a d told new out fail 0 e u)

pub returns-in_err-offer_rows-clause-shown : goal.returns-in_err-offer_rows-clause-shown
returns-in_err-offer_rows-clause-shown g c told =
    let state = g.K.Keeper.state in
    let l = c.args.layout.now in
    let a = c.args.draft.now in
    let relatives = c.args.relatives.now in
    let whose = g.L.Relatives.whose relatives l.org in
    let parents = g.L.Relatives.parents relatives in
    let j = judging (g.S.Sight.sees c.args.sight.now l) whose parents (g.P.Keeps.keep c.args.keeps.now) unranked in
    let row = by_relatives parents (g.L.Relatives.children relatives) (g.W.RowForm.written c.args.form.now) in
    let own = g.S.Sight.shown + g.L.Relatives.parents_shown relatives in
    let kids = g.L.Relatives.children_shown relatives in
    let w = c.args.window in
    let room = c.args.room in
    let old = c.args.out.now.items in
    let p = c.pages.progress in
    let mid = c.pages.out.items in
    let Q = Offers row w room old p mid in
    let laws = c.draft_laws.ensures in
    let then = c.call_laws.ensures.then in
    let turned = c.next_permitted.new.pages in
    let b = c.next_permitted.new.draft in
    let rows = c.next_permitted.new.kept.items in
    let d = c.offer_rows.new.draft in
    let new = c.offer_rows.new.progress in
    let out = c.offer_rows.new.out.items in
    let page = c.in_ok-next_permitted.ensures.turns in
    let not_yet = λ (x : Asked) (seen more : List Record) (goes : Q x (seen ++ more)). offers_few row w room old p mid (sym c.is_over.ensures ∙ c.if-not-is_over.true) x seen more goes in
    let none : c.new-rows.result.items ≡ [] = c.new-rows.ensures.items in
    let few : kids * length rows ≤ kids * page.count = mul-le-mul_left kids (omega (arith, page.sized, ap length none)) in
    let calls = subst (λ (slice : List (Ranked (Unit {0}) Candidate)). Calls state (kids * length slice) (ended_exec c.offer_rows.result) b d) c.as_slice.ensures.value c.offer_rows.ensures.calls in
    let fail = c.in_err-offer_rows.field-0.0 in
    let result = c.from_residual-in_err-offer_rows.result in
    let is = returned result fail c.from_residual-in_err-offer_rows.ensures.1 in
    let e = ended_exec c.offer_rows.result in
    let same : e ≡ ended_exec result = ap ended_exec c.in_err-offer_rows.was ∙ sym (ap ended_exec is) in
    let T = λ (x : Asked) (page : List Record). Offered (row x) p new mid out page (Err fail) in
    let offers = λ (tell : DraftTells state b d).
    subst (λ (slice : List (Ranked (Unit {0}) Candidate)). OfRows l whose (λ x (r : Ranked (Unit {0}) Candidate). IsOf l (parents x) r.kept) slice (tables_of state b) T)
    c.as_slice.ensures.value (subst (λ r. OfRows l whose (λ x (r : Ranked (Unit {0}) Candidate). IsOf l (parents x) r.kept) c.as_slice.result.now (tables_of state b)
    (λ x page. Offered (row x) p new mid out page r)) c.in_err-offer_rows.was (c.offer_rows.ensures.offered tell)) in
    let P = Stopped row w room old new out fail in
    let u =
    turn_offers state l j (own + kids) laws.both then laws.reads_most Q c.pages.pages 0 a c.pages.draft c.pages.invariant
    own kids refl turned c.new-rows.result.items rows b d page c.in_ok-next_permitted.ensures.less (kids * length rows) few e calls not_yet whose (λ q x its. its.1) none T offers P
    (λ x seen page goes stopped. stops_at row w room old p new mid out fail x seen page goes stopped) in
    any_shown state l j (own + kids) P turned 0 e a d u told (ended_exec result)

pub returns-in_err-offer_rows-clause-early : goal.returns-in_err-offer_rows-clause-early
returns-in_err-offer_rows-clause-early g c told =
    let state = g.K.Keeper.state in
    let l = c.args.layout.now in
    let a = c.args.draft.now in
    let relatives = c.args.relatives.now in
    let whose = g.L.Relatives.whose relatives l.org in
    let parents = g.L.Relatives.parents relatives in
    let j = judging (g.S.Sight.sees c.args.sight.now l) whose parents (g.P.Keeps.keep c.args.keeps.now) unranked in
    let row = by_relatives parents (g.L.Relatives.children relatives) (g.W.RowForm.written c.args.form.now) in
    let own = g.S.Sight.shown + g.L.Relatives.parents_shown relatives in
    let kids = g.L.Relatives.children_shown relatives in
    let w = c.args.window in
    let room = c.args.room in
    let old = c.args.out.now.items in
    let p = c.pages.progress in
    let mid = c.pages.out.items in
    let Q = Offers row w room old p mid in
    let laws = c.draft_laws.ensures in
    let then = c.call_laws.ensures.then in
    let turned = c.next_permitted.new.pages in
    let b = c.next_permitted.new.draft in
    let rows = c.next_permitted.new.kept.items in
    let d = c.offer_rows.new.draft in
    let new = c.offer_rows.new.progress in
    let out = c.offer_rows.new.out.items in
    let page = c.in_ok-next_permitted.ensures.turns in
    let not_yet = λ (x : Asked) (seen more : List Record) (goes : Q x (seen ++ more)). offers_few row w room old p mid (sym c.is_over.ensures ∙ c.if-not-is_over.true) x seen more goes in
    let none : c.new-rows.result.items ≡ [] = c.new-rows.ensures.items in
    let few : kids * length rows ≤ kids * page.count = mul-le-mul_left kids (omega (arith, page.sized, ap length none)) in
    let calls = subst (λ (slice : List (Ranked (Unit {0}) Candidate)). Calls state (kids * length slice) (ended_exec c.offer_rows.result) b d) c.as_slice.ensures.value c.offer_rows.ensures.calls in
    let fail = c.in_err-offer_rows.field-0.0 in
    let result = c.from_residual-in_err-offer_rows.result in
    let is = returned result fail c.from_residual-in_err-offer_rows.ensures.1 in
    let e = ended_exec c.offer_rows.result in
    let same : e ≡ ended_exec result = ap ended_exec c.in_err-offer_rows.was ∙ sym (ap ended_exec is) in
    let T = λ (x : Asked) (page : List Record). Offered (row x) p new mid out page (Err fail) in
    let offers = λ (tell : DraftTells state b d).
    subst (λ (slice : List (Ranked (Unit {0}) Candidate)). OfRows l whose (λ x (r : Ranked (Unit {0}) Candidate). IsOf l (parents x) r.kept) slice (tables_of state b) T)
    c.as_slice.ensures.value (subst (λ r. OfRows l whose (λ x (r : Ranked (Unit {0}) Candidate). IsOf l (parents x) r.kept) c.as_slice.result.now (tables_of state b)
    (λ x page. Offered (row x) p new mid out page r)) c.in_err-offer_rows.was (c.offer_rows.ensures.offered tell)) in
    let P = Stopped row w room old new out fail in
    let u =
    turn_offers state l j (own + kids) laws.both then laws.reads_most Q c.pages.pages 0 a c.pages.draft c.pages.invariant
    own kids refl turned c.new-rows.result.items rows b d page c.in_ok-next_permitted.ensures.less (kids * length rows) few e calls not_yet whose (λ q x its. its.1) none T offers P
    (λ x seen page goes stopped. stops_at row w room old p new mid out fail x seen page goes stopped) in
    any_early state l j (own + kids) P turned 0 e a d u told (ended_exec result)

pub returns-in_err-offer_rows-clause-calls : goal.returns-in_err-offer_rows-clause-calls
returns-in_err-offer_rows-clause-calls g c =
    let state = g.K.Keeper.state in
    let l = c.args.layout.now in
    let a = c.args.draft.now in
    let relatives = c.args.relatives.now in
    let whose = g.L.Relatives.whose relatives l.org in
    let parents = g.L.Relatives.parents relatives in
    let j = judging (g.S.Sight.sees c.args.sight.now l) whose parents (g.P.Keeps.keep c.args.keeps.now) unranked in
    let row = by_relatives parents (g.L.Relatives.children relatives) (g.W.RowForm.written c.args.form.now) in
    let own = g.S.Sight.shown + g.L.Relatives.parents_shown relatives in
    let kids = g.L.Relatives.children_shown relatives in
    let w = c.args.window in
    let room = c.args.room in
    let old = c.args.out.now.items in
    let p = c.pages.progress in
    let mid = c.pages.out.items in
    let Q = Offers row w room old p mid in
    let laws = c.draft_laws.ensures in
    let then = c.call_laws.ensures.then in
    let turned = c.next_permitted.new.pages in
    let b = c.next_permitted.new.draft in
    let rows = c.next_permitted.new.kept.items in
    let d = c.offer_rows.new.draft in
    let new = c.offer_rows.new.progress in
    let out = c.offer_rows.new.out.items in
    let page = c.in_ok-next_permitted.ensures.turns in
    let not_yet = λ (x : Asked) (seen more : List Record) (goes : Q x (seen ++ more)). offers_few row w room old p mid (sym c.is_over.ensures ∙ c.if-not-is_over.true) x seen more goes in
    let none : c.new-rows.result.items ≡ [] = c.new-rows.ensures.items in
    let few : kids * length rows ≤ kids * page.count = mul-le-mul_left kids (omega (arith, page.sized, ap length none)) in
    let calls = subst (λ (slice : List (Ranked (Unit {0}) Candidate)). Calls state (kids * length slice) (ended_exec c.offer_rows.result) b d) c.as_slice.ensures.value c.offer_rows.ensures.calls in
    let fail = c.in_err-offer_rows.field-0.0 in
    let result = c.from_residual-in_err-offer_rows.result in
    let is = returned result fail c.from_residual-in_err-offer_rows.ensures.1 in
    let e = ended_exec c.offer_rows.result in
    let same : e ≡ ended_exec result = ap ended_exec c.in_err-offer_rows.was ∙ sym (ap ended_exec is) in
    let T = λ (x : Asked) (page : List Record). Offered (row x) p new mid out page (Err fail) in
    let offers = λ (tell : DraftTells state b d).
    subst (λ (slice : List (Ranked (Unit {0}) Candidate)). OfRows l whose (λ x (r : Ranked (Unit {0}) Candidate). IsOf l (parents x) r.kept) slice (tables_of state b) T)
    c.as_slice.ensures.value (subst (λ r. OfRows l whose (λ x (r : Ranked (Unit {0}) Candidate). IsOf l (parents x) r.kept) c.as_slice.result.now (tables_of state b)
    (λ x page. Offered (row x) p new mid out page r)) c.in_err-offer_rows.was (c.offer_rows.ensures.offered tell)) in
    let P = Stopped row w room old new out fail in
    let u =
    turn_offers state l j (own + kids) laws.both then laws.reads_most Q c.pages.pages 0 a c.pages.draft c.pages.invariant
    own kids refl turned c.new-rows.result.items rows b d page c.in_ok-next_permitted.ensures.less (kids * length rows) few e calls not_yet whose (λ q x its. its.1) none T offers P
    (λ x seen page goes stopped. stops_at row w room old p new mid out fail x seen page goes stopped) in
    subst (λ (x : Ending). Calls state (most_shown (own + kids) (removals_of state 7 a)) x a d) same
    (all_calls state l j (own + kids) P turned 0 e a d u laws.reads_most)

pub pages-preserved : goal.pages-preserved
pages-preserved g c =
    let state = g.K.Keeper.state in
    let l = c.args.layout.now in
    let a = c.args.draft.now in
    let relatives = c.args.relatives.now in
    let whose = g.L.Relatives.whose relatives l.org in
    let parents = g.L.Relatives.parents relatives in
    let j = judging (g.S.Sight.sees c.args.sight.now l) whose parents (g.P.Keeps.keep c.args.keeps.now) unranked in
    let row = by_relatives parents (g.L.Relatives.children relatives) (g.W.RowForm.written c.args.form.now) in
    let own = g.S.Sight.shown + g.L.Relatives.parents_shown relatives in
    let kids = g.L.Relatives.children_shown relatives in
    let w = c.args.window in
    let room = c.args.room in
    let old = c.args.out.now.items in
    let p = c.pages.progress in
    let mid = c.pages.out.items in
    let Q = Offers row w room old p mid in
    let laws = c.draft_laws.ensures in
    let then = c.call_laws.ensures.then in
    let turned = c.next_permitted.new.pages in
    let b = c.next_permitted.new.draft in
    let rows = c.next_permitted.new.kept.items in
    let d = c.offer_rows.new.draft in
    let new = c.offer_rows.new.progress in
    let out = c.offer_rows.new.out.items in
    let page = c.in_ok-next_permitted.ensures.turns in
    let not_yet = λ (x : Asked) (seen more : List Record) (goes : Q x (seen ++ more)). offers_few row w room old p mid (sym c.is_over.ensures ∙ c.if-not-is_over.true) x seen more goes in
    let none : c.new-rows.result.items ≡ [] = c.new-rows.ensures.items in
    let few : kids * length rows ≤ kids * page.count = mul-le-mul_left kids (omega (arith, page.sized, ap length none)) in
    let calls = subst (λ (slice : List (Ranked (Unit {0}) Candidate)). Calls state (kids * length slice) done b d) c.as_slice.ensures.value c.in_ok-offer_rows.ensures.calls in
    let T = λ (x : Asked) (page : List Record). WritesTaken (row x) p new mid out page in
    let offers = λ (tell : DraftTells state b d).
    subst (λ (slice : List (Ranked (Unit {0}) Candidate)). OfRows l whose (λ x (r : Ranked (Unit {0}) Candidate). IsOf l (parents x) r.kept) slice (tables_of state b) T)
    c.as_slice.ensures.value (c.in_ok-offer_rows.ensures.offered tell) in
    let P = Offers row w room old new out in
    turn_offers state l j (own + kids) laws.both then laws.reads_most Q c.pages.pages 0 a c.pages.draft c.pages.invariant
    own kids refl turned c.new-rows.result.items rows b d page c.in_ok-next_permitted.ensures.less (kids * length rows) few done calls not_yet whose (λ q x its. its.1) none T offers P
    (λ x seen page goes taken. offers_more row w room old p new mid out x seen page goes taken)

pub returns-else-not-is_over-clause-what : goal.returns-else-not-is_over-clause-what
returns-else-not-is_over-clause-what g c told =
    let state = g.K.Keeper.state in
    let l = c.args.layout.now in
    let a = c.args.draft.now in
    let relatives = c.args.relatives.now in
    let whose = g.L.Relatives.whose relatives l.org in
    let parents = g.L.Relatives.parents relatives in
    let j = judging (g.S.Sight.sees c.args.sight.now l) whose parents (g.P.Keeps.keep c.args.keeps.now) unranked in
    let row = by_relatives parents (g.L.Relatives.children relatives) (g.W.RowForm.written c.args.form.now) in
    let own = g.S.Sight.shown + g.L.Relatives.parents_shown relatives in
    let kids = g.L.Relatives.children_shown relatives in
    let w = c.args.window in
    let room = c.args.room in
    let old = c.args.out.now.items in
    let p = c.pages.progress in
    let mid = c.pages.out.items in
    let Q = Offers row w room old p mid in
    let laws = c.draft_laws.ensures in
    let then = c.call_laws.ensures.then in
    what_written row w room old state l j (own + kids) c.pages.pages a c.pages.draft told p mid 0 done c.pages.invariant
    (over_ends j p c.pages.pages (sym c.is_over.ensures ∙ c.if-not-is_over.false))

pub returns-after-pages-clause-what : goal.returns-after-pages-clause-what
returns-after-pages-clause-what g c told =
    let state = g.K.Keeper.state in
    let l = c.args.layout.now in
    let a = c.args.draft.now in
    let relatives = c.args.relatives.now in
    let whose = g.L.Relatives.whose relatives l.org in
    let parents = g.L.Relatives.parents relatives in
    let j = judging (g.S.Sight.sees c.args.sight.now l) whose parents (g.P.Keeps.keep c.args.keeps.now) unranked in
    let row = by_relatives parents (g.L.Relatives.children relatives) (g.W.RowForm.written c.args.form.now) in
    let own = g.S.Sight.shown + g.L.Relatives.parents_shown relatives in
    let kids = g.L.Relatives.children_shown relatives in
    let w = c.args.window in
    let room = c.args.room in
    let old = c.args.out.now.items in
    let p = c.pages.progress in
    let mid = c.pages.out.items in
    let Q = Offers row w room old p mid in
    let laws = c.draft_laws.ensures in
    let then = c.call_laws.ensures.then in
    what_written row w room old state l j (own + kids) c.pages.pages a c.pages.draft told p mid 0 done c.pages.invariant
    (read_ends j p c.pages.pages c.pages-test.false)

pub returns-else-not-is_over-clause-shown : goal.returns-else-not-is_over-clause-shown
returns-else-not-is_over-clause-shown g c told =
    let state = g.K.Keeper.state in
    let l = c.args.layout.now in
    let a = c.args.draft.now in
    let relatives = c.args.relatives.now in
    let whose = g.L.Relatives.whose relatives l.org in
    let parents = g.L.Relatives.parents relatives in
    let j = judging (g.S.Sight.sees c.args.sight.now l) whose parents (g.P.Keeps.keep c.args.keeps.now) unranked in
    let row = by_relatives parents (g.L.Relatives.children relatives) (g.W.RowForm.written c.args.form.now) in
    let own = g.S.Sight.shown + g.L.Relatives.parents_shown relatives in
    let kids = g.L.Relatives.children_shown relatives in
    let w = c.args.window in
    let room = c.args.room in
    let old = c.args.out.now.items in
    let p = c.pages.progress in
    let mid = c.pages.out.items in
    let Q = Offers row w room old p mid in
    let laws = c.draft_laws.ensures in
    let then = c.call_laws.ensures.then in
    any_shown state l j (own + kids) Q c.pages.pages 0 done a c.pages.draft c.pages.invariant told done

pub returns-else-not-is_over-clause-early : goal.returns-else-not-is_over-clause-early
returns-else-not-is_over-clause-early g c told =
    let state = g.K.Keeper.state in
    let l = c.args.layout.now in
    let a = c.args.draft.now in
    let relatives = c.args.relatives.now in
    let whose = g.L.Relatives.whose relatives l.org in
    let parents = g.L.Relatives.parents relatives in
    let j = judging (g.S.Sight.sees c.args.sight.now l) whose parents (g.P.Keeps.keep c.args.keeps.now) unranked in
    let row = by_relatives parents (g.L.Relatives.children relatives) (g.W.RowForm.written c.args.form.now) in
    let own = g.S.Sight.shown + g.L.Relatives.parents_shown relatives in
    let kids = g.L.Relatives.children_shown relatives in
    let w = c.args.window in
    let room = c.args.room in
    let old = c.args.out.now.items in
    let p = c.pages.progress in
    let mid = c.pages.out.items in
    let Q = Offers row w room old p mid in
    let laws = c.draft_laws.ensures in
    let then = c.call_laws.ensures.then in
    any_early state l j (own + kids) Q c.pages.pages 0 done a c.pages.draft c.pages.invariant told done

pub returns-after-pages-clause-shown : goal.returns-after-pages-clause-shown
returns-after-pages-clause-shown g c told =
    let state = g.K.Keeper.state in
    let l = c.args.layout.now in
    let a = c.args.draft.now in
    let relatives = c.args.relatives.now in
    let whose = g.L.Relatives.whose relatives l.org in
    let parents = g.L.Relatives.parents relatives in
    let j = judging (g.S.Sight.sees c.args.sight.now l) whose parents (g.P.Keeps.keep c.args.keeps.now) unranked in
    let row = by_relatives parents (g.L.Relatives.children relatives) (g.W.RowForm.written c.args.form.now) in
    let own = g.S.Sight.shown + g.L.Relatives.parents_shown relatives in
    let kids = g.L.Relatives.children_shown relatives in
    let w = c.args.window in
    let room = c.args.room in
    let old = c.args.out.now.items in
    let p = c.pages.progress in
    let mid = c.pages.out.items in
    let Q = Offers row w room old p mid in
    let laws = c.draft_laws.ensures in
    let then = c.call_laws.ensures.then in
    any_shown state l j (own + kids) Q c.pages.pages 0 done a c.pages.draft c.pages.invariant told done

pub returns-after-pages-clause-early : goal.returns-after-pages-clause-early
returns-after-pages-clause-early g c told =
    let state = g.K.Keeper.state in
    let l = c.args.layout.now in
    let a = c.args.draft.now in
    let relatives = c.args.relatives.now in
    let whose = g.L.Relatives.whose relatives l.org in
    let parents = g.L.Relatives.parents relatives in
    let j = judging (g.S.Sight.sees c.args.sight.now l) whose parents (g.P.Keeps.keep c.args.keeps.now) unranked in
    let row = by_relatives parents (g.L.Relatives.children relatives) (g.W.RowForm.written c.args.form.now) in
    let own = g.S.Sight.shown + g.L.Relatives.parents_shown relatives in
    let kids = g.L.Relatives.children_shown relatives in
    let w = c.args.window in
    let room = c.args.room in
    let old = c.args.out.now.items in
    let p = c.pages.progress in
    let mid = c.pages.out.items in
    let Q = Offers row w room old p mid in
    let laws = c.draft_laws.ensures in
    let then = c.call_laws.ensures.then in
    any_early state l j (own + kids) Q c.pages.pages 0 done a c.pages.draft c.pages.invariant told done

pub returns-else-not-is_over-clause-calls : goal.returns-else-not-is_over-clause-calls
returns-else-not-is_over-clause-calls g c =
    let state = g.K.Keeper.state in
    let l = c.args.layout.now in
    let a = c.args.draft.now in
    let relatives = c.args.relatives.now in
    let whose = g.L.Relatives.whose relatives l.org in
    let parents = g.L.Relatives.parents relatives in
    let j = judging (g.S.Sight.sees c.args.sight.now l) whose parents (g.P.Keeps.keep c.args.keeps.now) unranked in
    let row = by_relatives parents (g.L.Relatives.children relatives) (g.W.RowForm.written c.args.form.now) in
    let own = g.S.Sight.shown + g.L.Relatives.parents_shown relatives in
    let kids = g.L.Relatives.children_shown relatives in
    let w = c.args.window in
    let room = c.args.room in
    let old = c.args.out.now.items in
    let p = c.pages.progress in
    let mid = c.pages.out.items in
    let Q = Offers row w room old p mid in
    let laws = c.draft_laws.ensures in
    let then = c.call_laws.ensures.then in
    all_calls state l j (own + kids) Q c.pages.pages 0 done a c.pages.draft c.pages.invariant laws.reads_most

pub returns-after-pages-clause-calls : goal.returns-after-pages-clause-calls
returns-after-pages-clause-calls g c =
    let state = g.K.Keeper.state in
    let l = c.args.layout.now in
    let a = c.args.draft.now in
    let relatives = c.args.relatives.now in
    let whose = g.L.Relatives.whose relatives l.org in
    let parents = g.L.Relatives.parents relatives in
    let j = judging (g.S.Sight.sees c.args.sight.now l) whose parents (g.P.Keeps.keep c.args.keeps.now) unranked in
    let row = by_relatives parents (g.L.Relatives.children relatives) (g.W.RowForm.written c.args.form.now) in
    let own = g.S.Sight.shown + g.L.Relatives.parents_shown relatives in
    let kids = g.L.Relatives.children_shown relatives in
    let w = c.args.window in
    let room = c.args.room in
    let old = c.args.out.now.items in
    let p = c.pages.progress in
    let mid = c.pages.out.items in
    let Q = Offers row w room old p mid in
    let laws = c.draft_laws.ensures in
    let then = c.call_laws.ensures.then in
    all_calls state l j (own + kids) Q c.pages.pages 0 done a c.pages.draft c.pages.invariant laws.reads_most
