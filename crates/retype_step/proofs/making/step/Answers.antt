use Rattle.std.proofs.Common.{◌<◌, ◌≡◌, ◌^◌, ◌+◌, ◌∙◌, ap, arith, subst}
use Rattle.std.specs.Prelude.{Ok}
use Rattle.retype_step.proofs.Stepping.{steps_made}
use Rattle.retype_step.proofs.making.step.Goals as goal
use Rattle.store_kv.specs.Draft.{removals_of, tables_of}
use Rattle.store_kv.specs.Tables.{after}

pub returns-in_ok-make_changes-in-Ok-Some-clause-what : goal.returns-in_ok-make_changes-in-Ok-Some-clause-what
returns-in_ok-make_changes-in-Ok-Some-clause-what g c told =
    let state = g.K.Keeper.state in
    let a = c.args.draft.now in
    let b = c.judge.new.draft in
    let d = c.make_changes.new.draft in
    let laws = c.local_laws.ensures in
    let lo : c.args.org < 2 ^ 32 = omega arith in
    let first = c.draft_laws.ensures.told_first _ _ 0 a b d c.make_changes.ensures.works told in
    let same = c.draft_laws.ensures.tables (100 + removals_of state 7 a) a b c.judge.ensures.reads.calls.reads first in
    let changes = c.in-Ok-Some.changes in
    steps_made laws.edited laws.kept c.args.org lo (tables_of state a) (tables_of state d) c.judge.result changes
    (subst (λ x. c.judge.result ≡ Ok x) c.in-Ok-Some.field-0-is c.in-Ok-Some.is) c.judge.ensures.form
    (c.in_ok-make_changes-in-Ok-Some.ensures.ok ∙ ap (after changes.items) same) (c.judge.ensures.decides first)
