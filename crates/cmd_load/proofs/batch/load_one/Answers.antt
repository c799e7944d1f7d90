use Rattle.std.proofs.Common.{◌≡◌, ◌∙◌, Bor, List, ap, map, subst, ℕ}
use Rattle.cmd_auth.specs.Judging.{JudgesFor}
use Rattle.cmd_load_plan.specs.Rows.{refused_line}
use Rattle.store_kv.specs.Draft.{tables_of}
use Rattle.model.specs.Callers.{named_by}
use Rattle.model.specs.declared.refusal.Refusal.TheVariants.{InvalidSession}
use Rattle.cmd_load.specs.Batches.{row_asked}
use Rattle.cmd_load.specs.Inputs.{Cells}
use Rattle.cmd_load.proofs.batch.load_one.Goals as goal

pub returns-clause-what : goal.returns-clause-what
returns-clause-what g c told =
    let row = c.args.row.now in
    let loading = c.args.loading.now in
    let plan = loading.plan.now in
    let key = named_by loading.org.now loading.user.now loading.secret.now in
    let before = tables_of g.K.Keeper.state c.args.draft.now in
    let after = tables_of g.K.Keeper.state c.answer_asked.new.draft in
    let r = c.answer_asked.result in
    let given = map (λ (x : Bor (List ℕ)). x.now) c.as_slice.result.now in
    let cells : given ≡ row.cells = ap (λ (xs : List (Bor (List ℕ))). map (λ (x : Bor (List ℕ)). x.now) xs) c.as_slice.ensures.value ∙ c.in_ok-cells.ensures ∙ c.cells.ensures in
    subst (λ (n : ℕ). JudgesFor (row_asked plan n row.cells) (refused_line n InvalidSession) row.moment key before after r) c.number.ensures
    (subst (λ (cs : Cells). JudgesFor (row_asked plan c.number.result cs) (refused_line c.number.result InvalidSession) row.moment key before after r) cells
    (subst (λ (m : ℕ). JudgesFor (row_asked plan c.number.result given) (refused_line c.number.result InvalidSession) m key before after r) c.moment.ensures.same (c.answer_asked.ensures.what told)))
