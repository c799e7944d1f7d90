use Rattle.std.specs.Prelude.{Err}
use Rattle.std.proofs.Common.{◌≡◌, ◌∙◌, ◌+◌, ◌*◌, ◌≤◌, List, Some, ap, arith, filter, length, sym, subst}
use Rattle.std.proofs.Math.Nat.{mul-le-mul_left}
use Rattle.base_lemmas.proofs.Results.{err_from_IsErrAnd as returned}
use Rattle.store_kv.specs.Draft.{removals_of, tables_of}
use Rattle.store_kv.specs.Tables.{Tables}
use Rattle.model.specs.declared.record.Record.{Record}
use Rattle.model.specs.Levels.{readable}
use Rattle.model.specs.Ordered.{in_order}
use Rattle.model.specs.Paths.{Asked}
use Rattle.store_abstraction.specs.Calls.{Calls, Ending, done}
use Rattle.store_abstraction.specs.Layouts.{IsLayout}
use Rattle.store_abstraction.specs.Local.{StandsIn}
use Rattle.store_abstraction.specs.Plan.{OrgPlan}
use Rattle.query_exec.specs.declared.candidates.Candidate.{Candidate}
use Rattle.query_exec.specs.declared.fail.ExecFail.TheVariants.{Store}
use Rattle.query_exec.specs.declared.offers.Progress.{Progress}
use Rattle.query_exec.specs.declared.ranked.Ranked.{Ranked}
use Rattle.query_exec.specs.Fails.{ended_exec}
use Rattle.query_exec.specs.Ranks.{EachOf, by_rank}
use Rattle.query_exec.specs.Relatives.{by_relatives}
use Rattle.query_exec.specs.Windows.{in_window}
use Rattle.query_exec.specs.Written.{WritesRows, most_shown}
use Rattle.query_exec.specs.inner.Judging.{IsOf, judging}
use Rattle.query_exec.specs.inner.Offers.{Offered, WritesTaken}
use Rattle.query_exec.proofs.Offering.{same_taken}
use Rattle.query_exec.proofs.Working.{Taken, gathered_none, has_no_types, in_order_so, offered_calls, offered_shown, what_cut, what_offered}
use Rattle.query_exec.proofs.sorted.write_sorted_rows.Goals as goal

pub returns-then-not-has_types-clause-what : goal.returns-then-not-has_types-clause-what
returns-then-not-has_types-clause-what g c told =
    let state = g.K.Keeper.state in
    let l = c.args.layout.now in
    let a = c.args.draft.now in
    let relatives = c.args.relatives.now in
    let whose = g.L.Relatives.whose relatives l.org in
    let parents = g.L.Relatives.parents relatives in
    let j = judging (g.S.Sight.sees c.args.sight.now l) whose parents (g.P.Keeps.keep c.args.keeps.now) (g.R.Ranks.ranked c.args.ranks.now) in
    let row = by_relatives parents (g.L.Relatives.children relatives) (g.W.RowForm.written c.args.form.now) in
    let own = g.S.Sight.shown + g.L.Relatives.parents_shown relatives in
    let kids = g.L.Relatives.children_shown relatives in
    let w = c.args.window in
    let room = c.args.room in
    let old = c.args.out.now.items in
    has_no_types c.data_laws.ensures.typed l j.who (tables_of state a) (sym c.has_types.ensures ∙ c.if-not-has_types.true)

pub returns-in_err-gathered-clause-calls : goal.returns-in_err-gathered-clause-calls
returns-in_err-gathered-clause-calls g c =
    let state = g.K.Keeper.state in
    let l = c.args.layout.now in
    let a = c.args.draft.now in
    let relatives = c.args.relatives.now in
    let whose = g.L.Relatives.whose relatives l.org in
    let parents = g.L.Relatives.parents relatives in
    let j = judging (g.S.Sight.sees c.args.sight.now l) whose parents (g.P.Keeps.keep c.args.keeps.now) (g.R.Ranks.ranked c.args.ranks.now) in
    let row = by_relatives parents (g.L.Relatives.children relatives) (g.W.RowForm.written c.args.form.now) in
    let own = g.S.Sight.shown + g.L.Relatives.parents_shown relatives in
    let kids = g.L.Relatives.children_shown relatives in
    let w = c.args.window in
    let room = c.args.room in
    let old = c.args.out.now.items in
    let fail = c.in_err-gathered.field-0.0 in
    subst (λ r. Calls state (most_shown (own + kids) (removals_of state 7 a)) (ended_exec r) a c.gather_all.new.draft) (sym (returned c.from_residual.result (Store fail) c.from_residual.ensures.1))
    (gathered_none state l j own c.draft_laws.ensures.reads_most kids a c.gather_all.new.draft fail c.in_err-gathered.ensures.reads)

pub returns-in_err-offer_rows-clause-what : goal.returns-in_err-offer_rows-clause-what
returns-in_err-offer_rows-clause-what g c told =
    let state = g.K.Keeper.state in
    let l = c.args.layout.now in
    let a = c.args.draft.now in
    let relatives = c.args.relatives.now in
    let whose = g.L.Relatives.whose relatives l.org in
    let parents = g.L.Relatives.parents relatives in
    let j = judging (g.S.Sight.sees c.args.sight.now l) whose parents (g.P.Keeps.keep c.args.keeps.now) (g.R.Ranks.ranked c.args.ranks.now) in
    let row = by_relatives parents (g.L.Relatives.children relatives) (g.W.RowForm.written c.args.form.now) in
    let own = g.S.Sight.shown + g.L.Relatives.parents_shown relatives in
    let kids = g.L.Relatives.children_shown relatives in
    let w = c.args.window in
    let room = c.args.room in
    let old = c.args.out.now.items in
    let laws = c.draft_laws.ensures in
    let then = c.call_laws.ensures.then in
    let cmp = g.R.Rank.Ord.cmp in
    let chosen = λ (x : Asked). in_order (by_rank cmp (j.rank x)) (filter (j.keep x) (readable x.tenant x.user l.object)) in
    let wanted = c.wanted.result in
    let gathered = c.in_ok-gathered.gathered in
    let sorted = c.put_in_order.new.gathered.items in
    let b = c.gather_all.new.draft in
    let d = c.offer_rows.new.draft in
    let first : Progress = record { window = w; room = room; count = 0 } in
    let new = c.offer_rows.new.progress in
    let out = c.offer_rows.new.out.items in
    let e = ended_exec c.offer_rows.result in
    let reads = c.in_ok-gathered.ensures.reads in
    let same_length : length c.as_slice.result.now ≡ length gathered.items = ap length c.as_slice.ensures.value ∙ c.put_in_order.ensures.long in
    let few : kids * length c.as_slice.result.now ≤ kids * length gathered.items = mul-le-mul_left kids (omega (arith, same_length)) in
    let tell = laws.both _ _ a b d reads.calls.reads c.offer_rows.ensures.calls.reads told in
    let fail = c.in_err-offer_rows.field-0.0 in
    let offered = λ (q : OrgPlan) (x : Asked) (s : StandsIn l.org q (tables_of state a) (Some x.tenant)) (h : IsLayout q x.tenant l) (its : j.who q x).
    let its_order = in_order_so l j cmp g.met.R.Rank.Ord.total wanted x gathered.items sorted c.put_in_order.ensures.sorts (c.record_laws.ensures.rise x.tenant l.object s.sound) (c.in_ok-gathered.ensures.what tell.0 q x s h its) in
    let so = c.offer_rows.ensures.offered tell.1 q x (subst (λ (m : Tables). StandsIn l.org q m (Some x.tenant)) (sym tell.2) s) h its.1 its_order.rows
    (subst (λ (rows : List (Ranked g.row.R-Rank.Denot Candidate)). EachOf (λ (row : Ranked g.row.R-Rank.Denot Candidate) r. IsOf l (parents x) row.kept r) rows its_order.rows) (sym c.as_slice.ensures.value) its_order.each)
    its_order.has in
    let same : in_window w its_order.rows ≡ in_window w (chosen x) = same_taken w wanted its_order.rows (chosen x) c.wanted.ensures its_order.first in
    let taken : Taken w (chosen x) (λ (rs : List Record). Offered (row x) first new old out rs (Err fail)) =
    record { rows = its_order.rows; its = subst (Offered (row x) first new old out its_order.rows) c.in_err-offer_rows.was so; same = same } in
    taken in
    let result = c.from_residual-in_err-offer_rows.result in
    let is = returned result fail c.from_residual-in_err-offer_rows.ensures.1 in
    let same : e ≡ ended_exec result = ap ended_exec c.in_err-offer_rows.was ∙ sym (ap ended_exec is) in
    subst (WritesRows l j.who (λ x. in_window w (chosen x)) row room old out (tables_of state a)) (sym is)
    (what_cut row w room old l j.who (tables_of state a) chosen new out fail offered)

pub returns-in_err-offer_rows-clause-calls : goal.returns-in_err-offer_rows-clause-calls
returns-in_err-offer_rows-clause-calls g c =
    let state = g.K.Keeper.state in
    let l = c.args.layout.now in
    let a = c.args.draft.now in
    let relatives = c.args.relatives.now in
    let whose = g.L.Relatives.whose relatives l.org in
    let parents = g.L.Relatives.parents relatives in
    let j = judging (g.S.Sight.sees c.args.sight.now l) whose parents (g.P.Keeps.keep c.args.keeps.now) (g.R.Ranks.ranked c.args.ranks.now) in
    let row = by_relatives parents (g.L.Relatives.children relatives) (g.W.RowForm.written c.args.form.now) in
    let own = g.S.Sight.shown + g.L.Relatives.parents_shown relatives in
    let kids = g.L.Relatives.children_shown relatives in
    let w = c.args.window in
    let room = c.args.room in
    let old = c.args.out.now.items in
    let laws = c.draft_laws.ensures in
    let then = c.call_laws.ensures.then in
    let cmp = g.R.Rank.Ord.cmp in
    let chosen = λ (x : Asked). in_order (by_rank cmp (j.rank x)) (filter (j.keep x) (readable x.tenant x.user l.object)) in
    let wanted = c.wanted.result in
    let gathered = c.in_ok-gathered.gathered in
    let sorted = c.put_in_order.new.gathered.items in
    let b = c.gather_all.new.draft in
    let d = c.offer_rows.new.draft in
    let first : Progress = record { window = w; room = room; count = 0 } in
    let new = c.offer_rows.new.progress in
    let out = c.offer_rows.new.out.items in
    let e = ended_exec c.offer_rows.result in
    let reads = c.in_ok-gathered.ensures.reads in
    let same_length : length c.as_slice.result.now ≡ length gathered.items = ap length c.as_slice.ensures.value ∙ c.put_in_order.ensures.long in
    let few : kids * length c.as_slice.result.now ≤ kids * length gathered.items = mul-le-mul_left kids (omega (arith, same_length)) in
    let fail = c.in_err-offer_rows.field-0.0 in
    let result = c.from_residual-in_err-offer_rows.result in
    let is = returned result fail c.from_residual-in_err-offer_rows.ensures.1 in
    let same : e ≡ ended_exec result = ap ended_exec c.in_err-offer_rows.was ∙ sym (ap ended_exec is) in
    subst (λ (x : Ending). Calls state (most_shown (own + kids) (removals_of state 7 a)) x a d) same
    (offered_calls state l j own laws.both then laws.reads_most kids gathered (kids * length c.as_slice.result.now) few e a b d reads c.offer_rows.ensures.calls)

pub returns-in_err-offer_rows-clause-shown : goal.returns-in_err-offer_rows-clause-shown
returns-in_err-offer_rows-clause-shown g c told =
    let state = g.K.Keeper.state in
    let l = c.args.layout.now in
    let a = c.args.draft.now in
    let relatives = c.args.relatives.now in
    let whose = g.L.Relatives.whose relatives l.org in
    let parents = g.L.Relatives.parents relatives in
    let j = judging (g.S.Sight.sees c.args.sight.now l) whose parents (g.P.Keeps.keep c.args.keeps.now) (g.R.Ranks.ranked c.args.ranks.now) in
    let row = by_relatives parents (g.L.Relatives.children relatives) (g.W.RowForm.written c.args.form.now) in
    let own = g.S.Sight.shown + g.L.Relatives.parents_shown relatives in
    let kids = g.L.Relatives.children_shown relatives in
    let w = c.args.window in
    let room = c.args.room in
    let old = c.args.out.now.items in
    let laws = c.draft_laws.ensures in
    let then = c.call_laws.ensures.then in
    let cmp = g.R.Rank.Ord.cmp in
    let chosen = λ (x : Asked). in_order (by_rank cmp (j.rank x)) (filter (j.keep x) (readable x.tenant x.user l.object)) in
    let wanted = c.wanted.result in
    let gathered = c.in_ok-gathered.gathered in
    let sorted = c.put_in_order.new.gathered.items in
    let b = c.gather_all.new.draft in
    let d = c.offer_rows.new.draft in
    let first : Progress = record { window = w; room = room; count = 0 } in
    let new = c.offer_rows.new.progress in
    let out = c.offer_rows.new.out.items in
    let e = ended_exec c.offer_rows.result in
    let reads = c.in_ok-gathered.ensures.reads in
    let same_length : length c.as_slice.result.now ≡ length gathered.items = ap length c.as_slice.ensures.value ∙ c.put_in_order.ensures.long in
    let few : kids * length c.as_slice.result.now ≤ kids * length gathered.items = mul-le-mul_left kids (omega (arith, same_length)) in
    offered_shown state l j own laws.both then laws.reads_most kids gathered (kids * length c.as_slice.result.now) few e a b d reads c.offer_rows.ensures.calls told
    (ended_exec c.from_residual-in_err-offer_rows.result)

pub returns-clause-what : goal.returns-clause-what
returns-clause-what g c told =
    let state = g.K.Keeper.state in
    let l = c.args.layout.now in
    let a = c.args.draft.now in
    let relatives = c.args.relatives.now in
    let whose = g.L.Relatives.whose relatives l.org in
    let parents = g.L.Relatives.parents relatives in
    let j = judging (g.S.Sight.sees c.args.sight.now l) whose parents (g.P.Keeps.keep c.args.keeps.now) (g.R.Ranks.ranked c.args.ranks.now) in
    let row = by_relatives parents (g.L.Relatives.children relatives) (g.W.RowForm.written c.args.form.now) in
    let own = g.S.Sight.shown + g.L.Relatives.parents_shown relatives in
    let kids = g.L.Relatives.children_shown relatives in
    let w = c.args.window in
    let room = c.args.room in
    let old = c.args.out.now.items in
    let laws = c.draft_laws.ensures in
    let then = c.call_laws.ensures.then in
    let cmp = g.R.Rank.Ord.cmp in
    let chosen = λ (x : Asked). in_order (by_rank cmp (j.rank x)) (filter (j.keep x) (readable x.tenant x.user l.object)) in
    let wanted = c.wanted.result in
    let gathered = c.in_ok-gathered.gathered in
    let sorted = c.put_in_order.new.gathered.items in
    let b = c.gather_all.new.draft in
    let d = c.offer_rows.new.draft in
    let first : Progress = record { window = w; room = room; count = 0 } in
    let new = c.offer_rows.new.progress in
    let out = c.offer_rows.new.out.items in
    let e = ended_exec c.offer_rows.result in
    let reads = c.in_ok-gathered.ensures.reads in
    let same_length : length c.as_slice.result.now ≡ length gathered.items = ap length c.as_slice.ensures.value ∙ c.put_in_order.ensures.long in
    let few : kids * length c.as_slice.result.now ≤ kids * length gathered.items = mul-le-mul_left kids (omega (arith, same_length)) in
    let tell = laws.both _ _ a b d reads.calls.reads c.offer_rows.ensures.calls.reads told in
    let given = λ (q : OrgPlan) (x : Asked) (s : StandsIn l.org q (tables_of state a) (Some x.tenant)) (h : IsLayout q x.tenant l) (its : j.who q x).
    let its_order = in_order_so l j cmp g.met.R.Rank.Ord.total wanted x gathered.items sorted c.put_in_order.ensures.sorts (c.record_laws.ensures.rise x.tenant l.object s.sound) (c.in_ok-gathered.ensures.what tell.0 q x s h its) in
    let so = c.in_ok-offer_rows.ensures.offered tell.1 q x (subst (λ (m : Tables). StandsIn l.org q m (Some x.tenant)) (sym tell.2) s) h its.1 its_order.rows
    (subst (λ (rows : List (Ranked g.row.R-Rank.Denot Candidate)). EachOf (λ (row : Ranked g.row.R-Rank.Denot Candidate) r. IsOf l (parents x) row.kept r) rows its_order.rows) (sym c.as_slice.ensures.value) its_order.each)
    its_order.has in
    let same : in_window w its_order.rows ≡ in_window w (chosen x) = same_taken w wanted its_order.rows (chosen x) c.wanted.ensures its_order.first in
    let taken : Taken w (chosen x) (WritesTaken (row x) first new old out) = record { rows = its_order.rows; its = so; same = same } in
    taken in
    what_offered row w room old l j.who (tables_of state a) chosen new out given

pub returns-clause-calls : goal.returns-clause-calls
returns-clause-calls g c =
    let state = g.K.Keeper.state in
    let l = c.args.layout.now in
    let a = c.args.draft.now in
    let relatives = c.args.relatives.now in
    let whose = g.L.Relatives.whose relatives l.org in
    let parents = g.L.Relatives.parents relatives in
    let j = judging (g.S.Sight.sees c.args.sight.now l) whose parents (g.P.Keeps.keep c.args.keeps.now) (g.R.Ranks.ranked c.args.ranks.now) in
    let row = by_relatives parents (g.L.Relatives.children relatives) (g.W.RowForm.written c.args.form.now) in
    let own = g.S.Sight.shown + g.L.Relatives.parents_shown relatives in
    let kids = g.L.Relatives.children_shown relatives in
    let w = c.args.window in
    let room = c.args.room in
    let old = c.args.out.now.items in
    let laws = c.draft_laws.ensures in
    let then = c.call_laws.ensures.then in
    let cmp = g.R.Rank.Ord.cmp in
    let chosen = λ (x : Asked). in_order (by_rank cmp (j.rank x)) (filter (j.keep x) (readable x.tenant x.user l.object)) in
    let wanted = c.wanted.result in
    let gathered = c.in_ok-gathered.gathered in
    let sorted = c.put_in_order.new.gathered.items in
    let b = c.gather_all.new.draft in
    let d = c.offer_rows.new.draft in
    let first : Progress = record { window = w; room = room; count = 0 } in
    let new = c.offer_rows.new.progress in
    let out = c.offer_rows.new.out.items in
    let e = ended_exec c.offer_rows.result in
    let reads = c.in_ok-gathered.ensures.reads in
    let same_length : length c.as_slice.result.now ≡ length gathered.items = ap length c.as_slice.ensures.value ∙ c.put_in_order.ensures.long in
    let few : kids * length c.as_slice.result.now ≤ kids * length gathered.items = mul-le-mul_left kids (omega (arith, same_length)) in
    offered_calls state l j own laws.both then laws.reads_most kids gathered (kids * length c.as_slice.result.now) few done a b d reads c.in_ok-offer_rows.ensures.calls

pub returns-clause-shown : goal.returns-clause-shown
returns-clause-shown g c told =
    let state = g.K.Keeper.state in
    let l = c.args.layout.now in
    let a = c.args.draft.now in
    let relatives = c.args.relatives.now in
    let whose = g.L.Relatives.whose relatives l.org in
    let parents = g.L.Relatives.parents relatives in
    let j = judging (g.S.Sight.sees c.args.sight.now l) whose parents (g.P.Keeps.keep c.args.keeps.now) (g.R.Ranks.ranked c.args.ranks.now) in
    let row = by_relatives parents (g.L.Relatives.children relatives) (g.W.RowForm.written c.args.form.now) in
    let own = g.S.Sight.shown + g.L.Relatives.parents_shown relatives in
    let kids = g.L.Relatives.children_shown relatives in
    let w = c.args.window in
    let room = c.args.room in
    let old = c.args.out.now.items in
    let laws = c.draft_laws.ensures in
    let then = c.call_laws.ensures.then in
    let cmp = g.R.Rank.Ord.cmp in
    let chosen = λ (x : Asked). in_order (by_rank cmp (j.rank x)) (filter (j.keep x) (readable x.tenant x.user l.object)) in
    let wanted = c.wanted.result in
    let gathered = c.in_ok-gathered.gathered in
    let sorted = c.put_in_order.new.gathered.items in
    let b = c.gather_all.new.draft in
    let d = c.offer_rows.new.draft in
    let first : Progress = record { window = w; room = room; count = 0 } in
    let new = c.offer_rows.new.progress in
    let out = c.offer_rows.new.out.items in
    let e = ended_exec c.offer_rows.result in
    let reads = c.in_ok-gathered.ensures.reads in
    let same_length : length c.as_slice.result.now ≡ length gathered.items = ap length c.as_slice.ensures.value ∙ c.put_in_order.ensures.long in
    let few : kids * length c.as_slice.result.now ≤ kids * length gathered.items = mul-le-mul_left kids (omega (arith, same_length)) in
    offered_shown state l j own laws.both then laws.reads_most kids gathered (kids * length c.as_slice.result.now) few done a b d reads c.in_ok-offer_rows.ensures.calls told done
