use Rattle.std.proofs.Common.{IsTrue, List, ap, map, subst, sym, ◌∙◌}
use Rattle.std.specs.List.{enumerate_from}
use Rattle.record_read.specs.Decoding.{kinds_in}
use Rattle.model.specs.SoundRecords.{all_valid}
use Rattle.store_abstraction.specs.declared.layout.FieldPlace.{FieldPlace}
use Rattle.base_value.specs.declared.value.Value.{Value}
use Rattle.record_delete.specs.inner.Clearing.{value_left}
use Rattle.record_delete.proofs.Cleared.{left_valid}
use Rattle.record_delete.proofs.clearing.cleared_record.Goals as goal

pub returns-clause-valid : goal.returns-clause-valid
returns-clause-valid c =
    let fields = c.args.layout.now.fields in
    let gone = c.args.gone.now in
    let is =
    c.in_ok-values.ensures
    ∙ ap (λ (fs : List FieldPlace). map (value_left fs gone) (enumerate_from 0 c.as_slice.result.now)) c.as_slice-fields.ensures
    ∙ ap (λ (vs : List Value). map (value_left fields gone) (enumerate_from 0 vs)) c.as_slice.ensures
    in
    subst (λ (vs : List Value). IsTrue (all_valid (kinds_in fields) vs)) (sym is) (left_valid fields gone c.args.old.now.values c.requires)
