use Rattle.std.proofs.Common.{◌∷◌, [], ◌++◌, take, sym, ap, ◌∙◌, arith}
use Rattle.std.proofs.lemmas.List.{take_more}
use Rattle.store_kv.specs.Tables.{after, after_change}
use Rattle.store_kv.specs.Memory.{tables_in}
use Rattle.store_kv.proofs.Moves.{after_push}
use Rattle.store_kv.proofs.changes.change_all.Goals as goal

pub loop-change-preserved : goal.loop-change-preserved
loop-change-preserved c =
    let all = c.args.changes.now in
    let i = c.loop-change.change-index in
    let change = c.change-item.result in
    let m = tables_in c.args.rows.now.entries in
    let more = take_more all i change (omega arith) ∙ ap (λ y. take i all ++ y ∷ []) (sym c.change-item.is) in (
      c.in_default.ensures.made ∙ ap (after_change change) c.loop-change.invariant.0 ∙ sym (ap (λ cs. after cs m) more ∙ after_push (take i all) change m),
      c.make_change.ensures.undone ∙ c.loop-change.invariant.1,
      c.make_change.ensures.has,
    )
