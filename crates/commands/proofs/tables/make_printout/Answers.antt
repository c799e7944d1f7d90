use Rattle.std.proofs.Common.{rules, ◌≡◌, ◌⊎◌, inl, inr, IsTrue, length, subst, sym}
use Rattle.std.specs.Prelude.{IfOk, OnErr}
use Rattle.store_kv.specs.Draft.{removals_of, tables_of}
use Rattle.store_kv.specs.State.{Shows, Tells, data_table}
use Rattle.store_kv.specs.Tables.{Tables}
use Rattle.model.specs.World.{World}
use Rattle.store_abstraction.specs.Operations.{Does}
use Rattle.store_abstraction.specs.Stands.{Stands}
use Rattle.store_abstraction.proofs.Ended.{done, empty_tables, kept_if_failed, moved, told_draft, unchanged}
use Rattle.commands.proofs.Ends.{changed_stands, refused_kept}
use Rattle.commands.proofs.tables.make_printout.Goals as goal

pub returns-clause-does : goal.returns-clause-does
returns-clause-does g c =
    let state = g.K.Keeper.state in
    let d = c.new-draft.result in
    let e = c.judge-judged.new.draft in
    let new = state c.finish.new.draft.0 in
    let op = g.P.TableWork.does c.args.work.now in
    let empty = c.new-draft.ensures.empty in
    moved (λ x y. Tells (state x) (state y) → (w : World) → Stands (state x).tables w → length w ≡ c.args.organisations → Does Stands op w (state y) c.finish.result)
    d.keeper.now c.finish.new.draft.0 c.args.keeper.now _ c.new-draft.ensures.same (search rules)
    (λ told w s counted. done (state d.keeper.now).tables (tables_of state e) new Stands op w c.judge-judged.result c.finish.result
    (c.finish.ensures.ends d (g.P.TableWork.most c.args.work.now) 0 (g.P.TableWork.shown c.args.work.now (removals_of state data_table d)) empty c.judge-judged.ensures.works told)
    (c.judge-judged.ensures.judged (told_draft state d e new told c.finish.ensures.finishes.steps) w (subst (λ (m : Tables). Stands m w) (sym (empty_tables state d empty)) s) counted) s)

pub returns-clause-kept : goal.returns-clause-kept
returns-clause-kept g c =
    let state = g.K.Keeper.state in
    let d = c.new-draft.result in
    let e = c.judge-judged.new.draft in
    moved (λ x y. Tells (state x) (state y) → OnErr c.finish.result (Shows (state y) (state x).tables))
    d.keeper.now c.finish.new.draft.0 c.args.keeper.now _ c.new-draft.ensures.same (search rules)
    (λ told. kept_if_failed (state d.keeper.now).tables (tables_of state e) (state c.finish.new.draft.0) c.judge-judged.result c.finish.result
    (c.finish.ensures.ends d (g.P.TableWork.most c.args.work.now) 0 (g.P.TableWork.shown c.args.work.now (removals_of state data_table d)) c.new-draft.ensures.empty c.judge-judged.ensures.works told))

pub returns-clause-refused : goal.returns-clause-refused
returns-clause-refused g c keeps =
    let state = g.K.Keeper.state in
    let d = c.new-draft.result in
    let e = c.judge-judged.new.draft in
    let new = state c.finish.new.draft.0 in
    moved (λ x y. Tells (state x) (state y) → IfOk c.finish.result (λ p. p.status ≡ 65 → Shows (state y) (state x).tables))
    d.keeper.now c.finish.new.draft.0 c.args.keeper.now _ c.new-draft.ensures.same (search rules)
    (λ told. refused_kept (Shows new (state d.keeper.now).tables) c.judge-judged.result c.finish.result c.finish.ensures.finishes.returned (c.judge-judged.ensures.done keeps)
    (λ none. unchanged (state d.keeper.now).tables (tables_of state e) new c.judge-judged.result c.finish.result (c.finish.ensures.ends d (g.P.TableWork.most c.args.work.now) 0 (g.P.TableWork.shown c.args.work.now (removals_of state data_table d)) c.new-draft.ensures.empty c.judge-judged.ensures.works told) none))

pub returns-clause-crash : goal.returns-clause-crash
returns-clause-crash g c =
    let state = g.K.Keeper.state in
    let d = c.new-draft.result in
    let e = c.judge-judged.new.draft in
    let op = g.P.TableWork.does c.args.work.now in
    let empty = c.new-draft.ensures.empty in
    moved (λ x y. (state x).tells → IsTrue (state x).trusted → IsTrue (state y).is_clean → (w : World) → Stands (state x).tables w → length w ≡ c.args.organisations → (m : Tables) → (state y).may_leave m → (state x).may_leave m ⊎ Stands m (op w).1)
    d.keeper.now c.finish.new.draft.0 c.args.keeper.now _ c.new-draft.ensures.same (search rules)
    (λ tells stands clean w s counted m h.
    elim (c.finish.ensures.crash d (g.P.TableWork.most c.args.work.now) 0 (g.P.TableWork.shown c.args.work.now (removals_of state data_table d)) empty c.judge-judged.ensures.works c.judge-judged.ensures.stays tells stands clean m h) [
      | inl before ↦ inl before
      | inr (change, drafted, is) ↦ inr (subst (λ (t : Tables). Stands t (op w).1) (sym is) (changed_stands op w (tables_of state e) c.judge-judged.result change
          (c.judge-judged.ensures.judged drafted w (subst (λ (t : Tables). Stands t w) (sym (empty_tables state d empty)) s) counted)))
    ])
