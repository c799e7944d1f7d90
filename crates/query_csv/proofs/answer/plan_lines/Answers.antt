use Rattle.std.proofs.Common.{◌≡◌, ◌∙◌, ◌+◌, ◌*◌, List, [], ap, arith, length, sym}
use Rattle.store_kv.specs.Draft.{removals_of, tables_of}
use Rattle.store_abstraction.specs.Calls.{ended}
use Rattle.model.specs.Shown.{readable_shown}
use Rattle.query_plan.specs.declared.paths.branches.Branch.{Branch}
use Rattle.query_exec.specs.Written.{most_shown}
use Rattle.query_json.proofs.Found.{wider_calls}
use Rattle.query_csv.specs.inner.Rows.{parents_of}
use Rattle.query_csv.proofs.Answering.{none_there, puts_so, some_there, there}
use Rattle.query_csv.proofs.answer.plan_lines.Goals as goal

pub returns-then-is_empty-clause-what : goal.returns-then-is_empty-clause-what
returns-then-is_empty-clause-what g c told =
    let bs = c.as_slice-branches.result.now in
    let none : c.args.plan.now.choice.branches ≡ [] = sym c.as_slice-branches.ensures ∙ none_there bs (sym c.is_empty.ensures ∙ c.if-is_empty.true) in
    puts_so c.args.layout.now _ _ _ _ c.args.plan.now c.args.out.now.items c.put_lines.new.out.items (tables_of g.K.Keeper.state c.args.draft.now) c.put_lines.result
    (λ q a who. (who.0, tt)) (sym (ap parents_of none)) (c.put_lines.ensures.what told)

pub returns-then-is_empty-clause-calls : goal.returns-then-is_empty-clause-calls
returns-then-is_empty-clause-calls g c =
    let state = g.K.Keeper.state in
    let x = c.args.draft.now in
    wider_calls state c.draft_laws.ensures.reads_most _ (most_shown (g.S.Sight.shown + readable_shown * length c.args.plan.now.choice.branches) (removals_of state 7 x))
    (ended c.put_lines.result) x c.put_lines.new.draft (omega arith) c.put_lines.ensures.calls

pub returns-clause-what : goal.returns-clause-what
returns-clause-what g c told =
    let bs = c.as_slice-branches.result.now in
    puts_so c.args.layout.now _ _ _ _ c.args.plan.now c.args.out.now.items c.put_lines-2.new.out.items (tables_of g.K.Keeper.state c.args.draft.now) c.put_lines-2.result
    (λ q a who. (who.0, there c.args.layouts.now c.args.layout.now (g.R.Rights.whose c.args.rights.now) c.args.plan.now q a (some_there bs c.args.plan.now.choice.branches (sym c.is_empty.ensures ∙ c.if-is_empty.false) c.as_slice-branches.ensures) who.1))
    (ap parents_of c.as_slice-branches.ensures) (c.put_lines-2.ensures.what told)

pub returns-clause-calls : goal.returns-clause-calls
returns-clause-calls g c =
    let state = g.K.Keeper.state in
    let x = c.args.draft.now in
    let same = ap (λ (bs : List Branch). length bs) c.as_slice-branches.ensures in
    wider_calls state c.draft_laws.ensures.reads_most _ (most_shown (g.S.Sight.shown + readable_shown * length c.args.plan.now.choice.branches) (removals_of state 7 x))
    (ended c.put_lines-2.result) x c.put_lines-2.new.draft (omega (arith, same)) c.put_lines-2.ensures.calls
