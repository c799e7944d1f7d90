use Rattle.std.proofs.Common.{List, [], ◌∷◌, ◌++◌, ap, map, sym, take, ◌∙◌}
use Rattle.std.specs.List.{enumerate_from}
use Rattle.base_value.specs.declared.value.Value.{Value}
use Rattle.record_delete.specs.inner.Clearing.{value_left}
use Rattle.record_delete.proofs.Cleared.{left_more}
use Rattle.record_delete.proofs.clearing.values_left.Goals as goal

pub loop-position-preserved : goal.loop-position-preserved
loop-position-preserved c =
    let n = c.loop-position.position in
    let fields = c.args.fields.now in
    let ids = c.args.ids.now in
    let values = c.args.values.now in
    let v = c.index-values-position.result in
    c.in_ok-push.ensures.ok
    ∙ ap (λ (vs : List Value). vs ++ c.in_ok-value_left.field-0 ∷ []) c.loop-position.invariant
    ∙ ap (λ (x : Value). map (value_left fields ids) (enumerate_from 0 (take n values)) ++ x ∷ []) (c.in_ok-value_left.ensures ∙ ap (λ (x : Value). value_left fields ids (n, x)) c.index-values-position.is)
    ∙ sym (left_more fields ids values n v c.loop-position-test.true)
