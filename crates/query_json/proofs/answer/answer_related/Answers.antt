use Rattle.std.proofs.Common.{◌≡◌, ◌∙◌, ◌+◌, ℕ, List, [], ◌∷◌, ap, arith, inr, length, map, of_z, refl, rules, sym, to_z, w64}
use Rattle.std.proofs.lemmas.Int.{to_z-of_z}
use Rattle.std.specs.List.{sum_by}
use Rattle.std.proofs.lemmas.List.Sums.{sum_by-cons}
use Rattle.std.specs.Prelude.{FitsSigned}
use Rattle.base_lemmas.proofs.Options.{none_from_no_some as nothing_there}
use Rattle.base_value.specs.Printing.{day_of_moment}
use Rattle.store_kv.specs.Draft.{DraftReads, Held, removals_of}
use Rattle.store_kv.specs.State.{KeeperState}
use Rattle.model.specs.Paths.{Asked}
use Rattle.model.specs.declared.record.Record.{Record}
use Rattle.query_plan.specs.Plans.{child_shown, children_by}
use Rattle.query_plan.specs.declared.plan.ChildPlan.{ChildPlan}
use Rattle.store_abstraction.specs.Calls.{Calls, Ending, done, ended}
use Rattle.model.specs.Shown.{row_shown}
use Rattle.query_plan.specs.paths.Branches.{branch_records}
use Rattle.query_plan.specs.declared.paths.branches.Branch.{Branch}
use Rattle.query_exec.specs.Written.{most_shown}
use Rattle.query_related.specs.Children.{subqueries_shown}
use Rattle.query_json.proofs.Found.{Laws, its_layout, plan_answers, query_refused, wider_calls}
use Rattle.query_json.proofs.answer.answer_related.Goals as goal

pub returns-in-Some-clause-what : goal.returns-in-Some-clause-what
returns-in-Some-clause-what g c told p a over =
    let laws : Laws = record { rise = c.record_laws.ensures.rise; already = c.record_laws.ensures.already; named = c.object_laws.ensures.named; printable = c.data_laws.ensures.printable; found = c.plan_laws.ensures.found } in
    let l = c.args.layout.now in
    let asked = over.asked in
    query_refused laws l _ _ c.args.query.now _ p a asked c.in-Some.refusal c.refuse.result
    (sym c.in-Some.is ∙ c.in_ok-refusal.ensures l.org p a.tenant (its_layout laws l _ _ c.args.query.now _ p a asked) (inr (asked.stands.sound, over.all))) c.refuse.ensures.value

pub returns-clause-what : goal.returns-clause-what
returns-clause-what g c told p a over =
    let laws : Laws = record { rise = c.record_laws.ensures.rise; already = c.record_laws.ensures.already; named = c.object_laws.ensures.named; printable = c.data_laws.ensures.printable; found = c.plan_laws.ensures.found } in
    let l = c.args.layout.now in
    let asked = over.asked in
    let its = its_layout laws l _ _ c.args.query.now _ p a asked in
    let reaches = inr (asked.stands.sound, over.all) in
    let small : FitsSigned w64 c.day_of_moment.result = search rules in
    let day : to_z w64 (of_z w64 c.day_of_moment.result) ≡ day_of_moment a.now = to_z-of_z w64 c.day_of_moment.result small ∙ c.day_of_moment.ensures ∙ ap day_of_moment (to_z-of_z w64 c.args.now c.ranges.now ∙ sym asked.now) in
    let free = sym (c.in_ok-refusal.ensures l.org p a.tenant its reaches) ∙ nothing_there c.in_ok-refusal.field-0 c.in_default.not-Some in
    plan_answers laws l _ _ c.args.query.now _ p a asked c.in_ok-plan.plan
    (c.in_ok-plan.ensures.means l.org p a reaches its asked.stands.sound day free) free _ _ _
    (ap (λ (bs : List Branch). (λ (b : Asked) (r : Record). branch_records b r [] bs)) c.as_slice.ensures)
    (ap (λ (ps : List ChildPlan). (λ (b : Asked) (r : Record). map (children_by b r) ps)) c.as_slice-2.ensures)
    (asked.sight, (over.all, over.rights)) c.answer_plan.result (c.answer_plan.ensures.what told)

-- the two counts of what is shown for child subqueries are the same
shown_alike : (ps : List ChildPlan) → subqueries_shown ps ≡ sum_by child_shown ps
shown_alike [] = refl
shown_alike (p ∷ ps) = ap (λ (n : ℕ). child_shown p + n) (shown_alike ps) ∙ sym (sum_by-cons child_shown p ps)

pub returns-clause-calls : goal.returns-clause-calls
returns-clause-calls g c =
    let state = g.K.Keeper.state in
    let x = c.args.draft.now in
    let removed = removals_of state 7 x in
    let few = c.in_ok-plan.ensures.few in
    let branches = ap (λ (bs : List Branch). length bs) c.as_slice.ensures in
    let children = ap subqueries_shown c.as_slice-2.ensures ∙ shown_alike c.in_ok-plan.plan.children in
    wider_calls state c.draft_laws.ensures.reads_most _ (most_shown (g.S.Sight.shown + row_shown c.args.query.now) removed) (ended c.answer_plan.result) x c.answer_plan.new.draft
    (omega (arith, few.branches, few.children, branches, children)) c.answer_plan.ensures.calls

-- nothing was read
abbrev unread : {K : Type 0} (state : K → KeeperState) → ((e : Ending) (a : Held K) → e ≡ done → Calls state 0 e a a) → (a : Held K) → DraftReads state 0 a a
unread state none a = (none done a refl).reads

pub returns-in_err-refusal-clause-refused : goal.returns-in_err-refusal-clause-refused
returns-in_err-refusal-clause-refused g c p a asks why = unread g.K.Keeper.state c.call_laws.ensures.none c.args.draft.now

pub returns-in-Some-clause-refused : goal.returns-in-Some-clause-refused
returns-in-Some-clause-refused g c p a asks why = unread g.K.Keeper.state c.call_laws.ensures.none c.args.draft.now

pub returns-in_err-plan-clause-refused : goal.returns-in_err-plan-clause-refused
returns-in_err-plan-clause-refused g c p a asks why = unread g.K.Keeper.state c.call_laws.ensures.none c.args.draft.now

-- a query of which rows are read isn't refused
pub returns-clause-refused : goal.returns-clause-refused
returns-clause-refused g c p a over why =
    let laws : Laws = record { rise = c.record_laws.ensures.rise; already = c.record_laws.ensures.already; named = c.object_laws.ensures.named; printable = c.data_laws.ensures.printable; found = c.plan_laws.ensures.found } in
    let l = c.args.layout.now in
    let asked = over.asked in
    let its = its_layout laws l _ _ c.args.query.now _ p a asked in
    absurd (why (sym (c.in_ok-refusal.ensures l.org p a.tenant its (inr (asked.stands.sound, over.all))) ∙ nothing_there c.in_ok-refusal.field-0 c.in_default.not-Some))
