use Rattle.std.proofs.Common.{◌∙◌, ap, arith}
use Rattle.store_edit.proofs.Making.{edit_made, edit_passed}
use Rattle.store_edit.proofs.edit.make_edit.Goals as goal
use Rattle.store_kv.specs.Draft.{tables_of}
use Rattle.store_kv.specs.Tables.{after}

pub returns-in_err-decided-clause-what : goal.returns-in_err-decided-clause-what
returns-in_err-decided-clause-what g c told =
    let state = g.K.Keeper.state in
    let laws = c.local_laws.ensures in
    edit_passed laws.edited laws.kept c.args.org (omega arith) (tables_of state c.args.draft.now) (tables_of state c.judge.new.draft) g.E.Edit.answered (g.E.Edit.planned c.args.edit.now) (g.E.Edit.verdict c.args.edit.now) (g.E.Edit.fits c.args.edit.now)
    c.judge.result c.in_err-decided.field-0.0 c.from_residual.result c.in_err-decided.was c.from_residual.ensures.1 (c.judge.ensures.what told)

pub returns-clause-what : goal.returns-clause-what
returns-clause-what g c told =
    let state = g.K.Keeper.state in
    let a = c.args.draft.now in
    let b = c.judge.new.draft in
    let d = c.make_changes.new.draft in
    let laws = c.local_laws.ensures in
    let shown = g.E.Edit.shown in
    let first = c.draft_laws.ensures.told_first _ _ 0 a b d c.make_changes.ensures.works told in
    let same = c.draft_laws.ensures.tables shown a b c.judge.ensures.calls.reads first in
    edit_made laws.edited laws.kept c.args.org (omega arith) (tables_of state a) (tables_of state d) g.E.Edit.answered (g.E.Edit.planned c.args.edit.now) (g.E.Edit.verdict c.args.edit.now) (g.E.Edit.fits c.args.edit.now)
    c.judge.result c.in_ok-decided.decided c.in_ok-decided.was (c.judge.ensures.what first)
    (c.in_ok-make_changes.ensures.ok ∙ ap (after c.in_ok-decided.decided.changes.items) same)
