use Rattle.std.proofs.Common.{◌+◌, arith, subst, sym, w64, ℤ}
use Rattle.std.proofs.lemmas.Int.{to_z-of_z}
use Rattle.query_json.specs.Answers.{IsAskedOf}
use Rattle.query_exec.specs.Written.{most_shown}
use Rattle.store_kv.specs.Draft.{removals_of, tables_of}
use Rattle.store_abstraction.specs.Calls.{ended}
use Rattle.model.specs.Shown.{row_shown}
use Rattle.query_run.proofs.Wider.{wider_calls}
use Rattle.api.proofs.Refusing.{answer_of}
use Rattle.api.proofs.asking.JsonRepliesQueryForm.flat.Goals as goal

pub returns-clause-what : goal.returns-clause-what
returns-clause-what g c told p a is flat =
    let l = c.args.layout.now in
    let m = tables_of g.K.Keeper.state c.args.draft.now in
    answer_of a c.args.query.now c.answer_flat.result (c.answer_flat.ensures.what told p a
    (subst (λ (now : ℤ). IsAskedOf l (g.S.Sight.sees c.args.sight.now l) now c.args.query.now m p a) (sym (to_z-of_z w64 c.args.now c.ranges.now)) is) flat)

pub returns-clause-calls : goal.returns-clause-calls
returns-clause-calls g c =
    let state = g.K.Keeper.state in
    let x = c.args.draft.now in
    let shown = g.S.Sight.shown in
    let removed = removals_of state 7 x in
    wider_calls state c.draft_laws.ensures.reads_most (most_shown shown removed) (most_shown (shown + row_shown c.args.query.now) removed) (ended c.answer_flat.result) x c.answer_flat.new.draft (omega arith) c.answer_flat.ensures.calls
