use Rattle.std.proofs.Common.{◌≡◌, ◌∙◌, arith, of_z, rules, sym, ap, to_z, w64}
use Rattle.std.proofs.lemmas.Int.{to_z-of_z}
use Rattle.std.specs.Prelude.{FitsSigned, ◌+◌}
use Rattle.base_lemmas.proofs.Options.{none_from_no_some as nothing_there}
use Rattle.base_value.specs.Printing.{day_of_moment}
use Rattle.store_kv.specs.Draft.{removals_of}
use Rattle.store_abstraction.specs.Calls.{done}
use Rattle.model.specs.Shown.{row_shown}
use Rattle.query_exec.specs.Written.{most_shown}
use Rattle.query_json.proofs.Found.{Laws, its_layout, wider_calls}
use Rattle.query_csv.proofs.Answering.{found_so, refused_so, serves_so}
use Rattle.query_csv.proofs.answer.answer_lines.Goals as goal

pub returns-in-Some-clause-what : goal.returns-in-Some-clause-what
returns-in-Some-clause-what g c told p a by =
    let laws : Laws = record { rise = c.record_laws.ensures.rise; already = c.record_laws.ensures.already; named = c.object_laws.ensures.named; printable = c.data_laws.ensures.printable; found = c.plan_laws.ensures.found } in
    let l = c.args.layout.now in
    refused_so laws c.args.layouts.now l _ _ _ c.args.query.now _ p a by c.in-Some.refusal
    (sym c.in-Some.is ∙ c.in_ok-refusal.ensures l.org p a.tenant (its_layout laws l _ _ c.args.query.now _ p a by.asked) by.reaches)

pub returns-in-Ok-clause-what : goal.returns-in-Ok-clause-what
returns-in-Ok-clause-what g c told p a by =
    let laws : Laws = record { rise = c.record_laws.ensures.rise; already = c.record_laws.ensures.already; named = c.object_laws.ensures.named; printable = c.data_laws.ensures.printable; found = c.plan_laws.ensures.found } in
    let l = c.args.layout.now in
    let q = c.args.query.now in
    let its = its_layout laws l _ _ q _ p a by.asked in
    let small : FitsSigned w64 c.day_of_moment.result = search rules in
    let day : to_z w64 (of_z w64 c.day_of_moment.result) ≡ day_of_moment a.now = to_z-of_z w64 c.day_of_moment.result small ∙ c.day_of_moment.ensures ∙ ap day_of_moment (to_z-of_z w64 c.args.now c.ranges.now ∙ sym by.asked.now) in
    let free = sym (c.in_ok-refusal.ensures l.org p a.tenant its by.reaches) ∙ nothing_there c.in_ok-refusal.field-0 c.in_default.not-Some in
    let plan = c.in_ok-plan.plan in
    let means = c.in_ok-plan.ensures.means l.org p a by.reaches its by.asked.stands.sound day free in
    let serve = serves_so laws c.args.layouts.now l _ _ _ q _ p a by plan means free c.in_ok-plan.ensures.few in
    found_so laws c.args.layouts.now l _ _ _ q _ p a by plan means free c.in_ok-text.text.items c.plan_lines.new.out.items c.from_vec.result c.from_vec.ensures
    (c.in-Ok.ensures.what told p a by.asked.stands its (by.asked.sight, serve)) c.in_ok-text.ensures

pub returns-clause-what : goal.returns-clause-what
returns-clause-what g c told p a by =
    let laws : Laws = record { rise = c.record_laws.ensures.rise; already = c.record_laws.ensures.already; named = c.object_laws.ensures.named; printable = c.data_laws.ensures.printable; found = c.plan_laws.ensures.found } in
    let l = c.args.layout.now in
    let q = c.args.query.now in
    let its = its_layout laws l _ _ q _ p a by.asked in
    let small : FitsSigned w64 c.day_of_moment.result = search rules in
    let day : to_z w64 (of_z w64 c.day_of_moment.result) ≡ day_of_moment a.now = to_z-of_z w64 c.day_of_moment.result small ∙ c.day_of_moment.ensures ∙ ap day_of_moment (to_z-of_z w64 c.args.now c.ranges.now ∙ sym by.asked.now) in
    let free = sym (c.in_ok-refusal.ensures l.org p a.tenant its by.reaches) ∙ nothing_there c.in_ok-refusal.field-0 c.in_default.not-Some in
    let plan = c.in_ok-plan.plan in
    let means = c.in_ok-plan.ensures.means l.org p a by.reaches its by.asked.stands.sound day free in
    let serve = serves_so laws c.args.layouts.now l _ _ _ q _ p a by plan means free c.in_ok-plan.ensures.few in
    c.in-Err.ensures.what told p a by.asked.stands its (by.asked.sight, serve)

pub returns-in-Ok-clause-calls : goal.returns-in-Ok-clause-calls
returns-in-Ok-clause-calls g c =
    let state = g.K.Keeper.state in
    let x = c.args.draft.now in
    let few = c.in_ok-plan.ensures.few in
    wider_calls state c.draft_laws.ensures.reads_most _ (most_shown (g.S.Sight.shown + row_shown c.args.query.now) (removals_of state 7 x))
    done x c.plan_lines.new.draft (omega (arith, few)) c.in-Ok.ensures.calls
