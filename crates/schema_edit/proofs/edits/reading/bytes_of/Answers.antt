use Rattle.std.proofs.Common.{◌≡◌, subst, sym}
use Rattle.std.proofs.Math.Facts.{Fits-lt-pow}
use Rattle.std.proofs.lemmas.Result.{IfOk-weaker}
use Rattle.base_value.specs.Bytes.{IsBytes}
use Rattle.schema_edit.proofs.edits.reading.bytes_of.Goals as goal

pub returns-clause-bytes : goal.returns-clause-bytes
returns-clause-bytes c =
    let text = c.as_bytes.result.now in
    let bytes : IsBytes text = subst IsBytes (sym c.as_bytes.ensures.value) (λ i. Fits-lt-pow (c.type_inv.text i)) in
    IfOk-weaker c.from_slice.result (λ b. b ≡ text) IsBytes (λ b same. subst IsBytes (sym same) bytes) c.from_slice.ensures
