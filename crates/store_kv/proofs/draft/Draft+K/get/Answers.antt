use Rattle.std.proofs.Common.{sym, ap, ◌∙◌, Some, None, option_copied}
use Rattle.std.proofs.lemmas.Result.{IfOk-weaker}
use Rattle.std.specs.FinMap.{get}
use Rattle.store_kv.specs.Laid.{laid}
use Rattle.store_kv.proofs.Laid.{laid_found, laid_missing}
use Rattle.store_kv.proofs.draft.Draft+K.get.Goals as goal

pub returns-in-Ok-clause-row : goal.returns-in-Ok-clause-row
returns-in-Ok-clause-row g c told =
    let es = c.args.self.now.changes.entries in
    let m = (g.K.Keeper.state c.args.self.now.keeper.now).tables in
    ap Some (c.in-Ok.ensures ∙ c.as_slice.ensures) ∙ laid_found es m c.in_ok-place.place (Some _) (sym c.get.ensures.value ∙ ap option_copied c.in-Some-Some.is ∙ ap Some c.in-Some-Some.field-0-is)
    ∙ ap (get (laid es m)) c.in_ok-place.ensures

pub returns-in-Some-None-clause-row : goal.returns-in-Some-None-clause-row
returns-in-Some-None-clause-row g c told =
    let es = c.args.self.now.changes.entries in
    let m = (g.K.Keeper.state c.args.self.now.keeper.now).tables in
    laid_found es m c.in_ok-place.place None (sym c.get.ensures.value ∙ ap option_copied c.in-Some-None.is ∙ ap Some c.in-Some-None.field-0-is) ∙ ap (get (laid es m)) c.in_ok-place.ensures

pub returns-clause-row : goal.returns-clause-row
returns-clause-row g c told =
    let es = c.args.self.now.changes.entries in
    let m = (g.K.Keeper.state c.args.self.now.keeper.now).tables in
    IfOk-weaker c.get-in-None.result _ _ (λ row is.
    is ∙ ap (get m) (sym c.in_ok-place.ensures) ∙ laid_missing es m c.in_ok-place.place (sym c.get.ensures.value ∙ ap option_copied c.in-None.is) ∙ ap (get (laid es m)) c.in_ok-place.ensures)
    (c.get-in-None.ensures.row told)
