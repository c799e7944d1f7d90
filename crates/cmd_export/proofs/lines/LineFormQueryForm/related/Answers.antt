use Rattle.std.proofs.Common.{inr, subst, sym, w64, ℤ}
use Rattle.std.proofs.lemmas.Int.{to_z-of_z}
use Rattle.query_json.specs.Answers.{IsAskedOf}
use Rattle.store_kv.specs.Draft.{tables_of}
use Rattle.cmd_export.proofs.Exported.{lines_of, over_all}
use Rattle.cmd_export.proofs.lines.LineFormQueryForm.related.Goals as goal

pub returns-clause-what : goal.returns-clause-what
returns-clause-what g c told p a is =
    let l = c.args.layout.now in
    let m = tables_of g.K.Keeper.state c.args.draft.now in
    lines_of a c.args.query.now c.answer_lines.result (c.answer_lines.ensures.what told p a
    (over_all l _ _ _ _ c.args.query.now m p a _ (sym (to_z-of_z w64 c.args.now c.ranges.now)) is))
