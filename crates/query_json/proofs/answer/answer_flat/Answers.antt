use Rattle.std.proofs.Common.{◌≡◌, ◌∙◌, ◌+◌, ℕ, List, [], ap, arith, inl, map, of_z, refl, rules, subst, sym, to_z, w64}
use Rattle.std.proofs.lemmas.Int.{to_z-of_z}
use Rattle.std.specs.Prelude.{FitsSigned}
use Rattle.base_lemmas.proofs.Options.{none_from_no_some as nothing_there}
use Rattle.base_value.specs.Printing.{day_of_moment}
use Rattle.store_kv.specs.Draft.{DraftReads, Held, removals_of}
use Rattle.store_kv.specs.State.{KeeperState}
use Rattle.model.specs.Paths.{Asked}
use Rattle.model.specs.declared.record.Record.{Record}
use Rattle.query_plan.specs.Plans.{children_by}
use Rattle.query_plan.specs.declared.plan.ChildPlan.{ChildPlan}
use Rattle.store_abstraction.specs.Calls.{Calls, Ending, done, ended}
use Rattle.query_plan.specs.paths.Branches.{branch_records}
use Rattle.query_plan.specs.declared.paths.branches.Branch.{Branch}
use Rattle.query_exec.specs.Written.{most_shown}
use Rattle.query_json.proofs.Found.{Laws, its_layout, plan_answers, query_refused, so_if_done, then_if_done}
use Rattle.query_json.proofs.answer.answer_flat.Goals as goal

pub returns-in-Some-clause-what : goal.returns-in-Some-clause-what
returns-in-Some-clause-what g c told p a asked flat =
    let laws : Laws = record { rise = c.record_laws.ensures.rise; already = c.record_laws.ensures.already; named = c.object_laws.ensures.named; printable = c.data_laws.ensures.printable; found = c.plan_laws.ensures.found } in
    query_refused laws c.args.layout.now _ _ c.args.query.now _ p a asked c.in-Some.refusal c.refuse.result
    (sym c.in-Some.is ∙ c.in_ok-refusal.ensures 0 p a.tenant (its_layout laws c.args.layout.now _ _ c.args.query.now _ p a asked) (inl flat)) c.refuse.ensures.value

pub returns-clause-what : goal.returns-clause-what
returns-clause-what g c told p a asked flat =
    let laws : Laws = record { rise = c.record_laws.ensures.rise; already = c.record_laws.ensures.already; named = c.object_laws.ensures.named; printable = c.data_laws.ensures.printable; found = c.plan_laws.ensures.found } in
    let its = its_layout laws c.args.layout.now _ _ c.args.query.now _ p a asked in
    let small : FitsSigned w64 c.day_of_moment.result = search rules in
    let day : to_z w64 (of_z w64 c.day_of_moment.result) ≡ day_of_moment a.now = to_z-of_z w64 c.day_of_moment.result small ∙ c.day_of_moment.ensures ∙ ap day_of_moment (to_z-of_z w64 c.args.now c.ranges.now ∙ sym asked.now) in
    let free = sym (c.in_ok-refusal.ensures 0 p a.tenant its (inl flat)) ∙ nothing_there c.in_ok-refusal.field-0 c.in_default.not-Some in
    let none = c.in_ok-plan.ensures.flat flat in
    plan_answers laws c.args.layout.now _ _ c.args.query.now _ p a asked c.in_ok-plan.plan
    (c.in_ok-plan.ensures.means 0 p a (inl flat) its asked.stands.sound day free) free _ _ _
    (sym (ap (λ (bs : List Branch). (λ (b : Asked) (r : Record). branch_records b r [] bs)) none.0))
    (sym (ap (λ (ps : List ChildPlan). (λ (b : Asked) (r : Record). map (children_by b r) ps)) none.1))
    (asked.sight, tt) c.answer_plan.result (c.answer_plan.ensures.what told)

-- nothing was read
abbrev unread : {K : Type 0} (state : K → KeeperState) → ((e : Ending) (a : Held K) → e ≡ done → Calls state 0 e a a) → (a : Held K) → DraftReads state 0 a a
unread state none a = (none done a refl).reads

pub returns-in_err-refusal-clause-shown : goal.returns-in_err-refusal-clause-shown
returns-in_err-refusal-clause-shown g c = record {
  records = λ told. so_if_done (ended c.from_residual.result) _ (λ q a s h its. omega arith);
  refused = λ p a asks why. unread g.K.Keeper.state c.call_laws.ensures.none c.args.draft.now;
}

-- a query that is refused is shown no record
pub returns-in-Some-clause-shown : goal.returns-in-Some-clause-shown
returns-in-Some-clause-shown g c = record {
  records = λ told. so_if_done (ended c.refuse.result) _ (λ q a s h its. omega arith);
  refused = λ p a asks why. unread g.K.Keeper.state c.call_laws.ensures.none c.args.draft.now;
}

pub returns-in_err-plan-clause-shown : goal.returns-in_err-plan-clause-shown
returns-in_err-plan-clause-shown g c = record {
  records = λ told. so_if_done (ended c.from_residual-in_err-plan.result) _ (λ q a s h its. omega arith);
  refused = λ p a asks why. unread g.K.Keeper.state c.call_laws.ensures.none c.args.draft.now;
}

pub returns-clause-shown : goal.returns-clause-shown
returns-clause-shown g c = record {
  records = λ told. then_if_done (ended c.answer_plan.result) _ _
      (λ h q a s its sight. let few = h q a s its (sight, tt) in omega (arith, few))
      (c.answer_plan.ensures.shown told);
  refused = λ p a asks why.
      let laws : Laws = record { rise = c.record_laws.ensures.rise; already = c.record_laws.ensures.already; named = c.object_laws.ensures.named; printable = c.data_laws.ensures.printable; found = c.plan_laws.ensures.found } in
      let its = its_layout laws c.args.layout.now _ _ c.args.query.now _ p a asks.0 in
      absurd (why (sym (c.in_ok-refusal.ensures 0 p a.tenant its (inl asks.1)) ∙ nothing_there c.in_ok-refusal.field-0 c.in_default.not-Some));
}

pub returns-clause-calls : goal.returns-clause-calls
returns-clause-calls g c =
    let state = g.K.Keeper.state in
    let x = c.args.draft.now in
    let removed = removals_of state 7 x in
    let same : most_shown (g.S.Sight.shown + 0 + 0) removed ≡ most_shown g.S.Sight.shown removed = omega arith in
    subst (λ (n : ℕ). Calls state n (ended c.answer_plan.result) x c.answer_plan.new.draft) same c.answer_plan.ensures.calls
