use Rattle.std.proofs.Common.{◌≡◌, ◌==◌, ◌∙◌, List, [], ◌∷◌, length, take, true, refl, sym, ap, eqb-true, arith}
use Rattle.std.proofs.lemmas.Result.{IfOk-weaker}
use Rattle.store_kv.specs.declared.keeper.KeptRow.{KeptRow}
use Rattle.store_kv.specs.inner.Merging.{merged}
use Rattle.store_kv.specs.Laid.{Entry}
use Rattle.store_kv.proofs.merge.lay_over.Goals as goal

-- rows without entries are as they are
without : (ks : List KeptRow) (es : List Entry) → (length es == 0) ≡ true → merged ks es ≡ ks
without [] [] h = refl
without (k ∷ ks) [] h = ap (λ rest. k ∷ rest) (without ks [] h)
without ks (e ∷ es) h = absurd (omega (arith, eqb-true (length (e ∷ es)) 0 h))

pub returns-then-is_empty : goal.returns-then-is_empty
returns-then-is_empty c =
    c.truncate.ensures.items
    ∙ ap (take c.args.limit) (sym (without c.args.rows.items c.args.held.now (sym c.is_empty.ensures ∙ c.if-is_empty.true)))

pub returns : goal.returns
returns c =
    IfOk-weaker c.merge.result _ _ (λ out e. e ∙ ap (λ ks. take c.args.limit (merged ks c.args.held.now)) c.from.ensures.0) c.merge.ensures
