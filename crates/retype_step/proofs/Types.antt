-- Types that rows of a step have.
use Rattle.std.proofs.Common.{◌≡◌, Bool, true, false, not, refl}
use Rattle.base_lemmas.proofs.Bools.{and_first as and_left, and_second as and_right}
use Rattle.retype_step.specs.inner.Rows.{is_plain}
use Rattle.store_codec.specs.Composed.{FitsType}
use Rattle.store_abstraction.proofs.Spelled.{plain_type_fits}
use Rattle.base_value.specs.Types.{is_reference, is_type}
use Rattle.base_value.specs.declared.value.FieldType.{FieldType}

pub plain_typed : (kind : FieldType) → is_plain kind ≡ true → is_type kind ≡ true
plain_typed kind h = and_left (is_type kind) (not (is_reference kind)) h

pub plain_fits : (kind : FieldType) → is_plain kind ≡ true → FitsType kind
plain_fits kind h = plain_type_fits kind (plain_typed kind h) (flipped (is_reference kind) (and_right (is_type kind) (not (is_reference kind)) h))
  where
    flipped : (b : Bool) → not b ≡ true → b ≡ false
    flipped true e = absurd cc
    flipped false e = refl
