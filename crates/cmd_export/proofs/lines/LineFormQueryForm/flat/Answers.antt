use Rattle.std.proofs.Common.{subst, sym, w64, ℤ}
use Rattle.std.proofs.lemmas.Int.{to_z-of_z}
use Rattle.query_json.specs.Answers.{IsAskedOf}
use Rattle.store_kv.specs.Draft.{tables_of}
use Rattle.cmd_export.proofs.Exported.{asked_flat, lines_of}
use Rattle.cmd_export.proofs.lines.LineFormQueryForm.flat.Goals as goal

pub returns-clause-what : goal.returns-clause-what
returns-clause-what g c told p a is flat =
    let l = c.args.layout.now in
    let m = tables_of g.K.Keeper.state c.args.draft.now in
    lines_of a c.args.query.now c.answer_lines.result (c.answer_lines.ensures.what told p a
    (asked_flat l _ _ _ c.args.query.now m p a _ (subst (λ (now : ℤ). IsAskedOf l (g.S.Sight.sees c.args.sight.now l) now c.args.query.now m p a) (sym (to_z-of_z w64 c.args.now c.ranges.now)) is) flat))
