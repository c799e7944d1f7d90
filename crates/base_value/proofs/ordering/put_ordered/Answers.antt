use Rattle.std.proofs.Common.{◌≡◌, sym, subst}
use Rattle.base_value.specs.Bytes.{IsBytes}
use Rattle.base_value.specs.OrderKeys.{order_key}
use Rattle.base_value.specs.declared.value.Value.{Value}
use Rattle.base_value.specs.declared.value.Value.TheVariants as value
use Rattle.base_value.proofs.KeyBytes.{HasBytes, key_bytes}
use Rattle.base_value.proofs.ordering.put_ordered.Goals as goal

-- the key of a value that is this one
along : (v w : Value) → v ≡ w → HasBytes w → IsBytes (order_key v)
along v w e h = subst (λ (x : Value). IsBytes (order_key x)) (sym e) (key_bytes w h)

pub returns-in-Null-clause-bytes : goal.returns-in-Null-clause-bytes
returns-in-Null-clause-bytes c = along _ value.Null c.in-Null.is tt

pub returns-in_ok-put_folded-in-Text-clause-bytes : goal.returns-in_ok-put_folded-in-Text-clause-bytes
returns-in_ok-put_folded-in-Text-clause-bytes c = along _ (value.Text c.in-Text.text) c.in-Text.is c.in_ok-put_folded-in-Text.ensures.scalars

pub returns-in_ok-extend_from_slice-in-Num-clause-bytes : goal.returns-in_ok-extend_from_slice-in-Num-clause-bytes
returns-in_ok-extend_from_slice-in-Num-clause-bytes c = along _ (value.Num c.in-Num.count) c.in-Num.is tt

pub returns-in_ok-extend_from_slice-in-Day-clause-bytes : goal.returns-in_ok-extend_from_slice-in-Day-clause-bytes
returns-in_ok-extend_from_slice-in-Day-clause-bytes c = along _ (value.Day c.in-Day.day) c.in-Day.is tt

pub returns-in_ok-extend_from_slice-in-Moment-clause-bytes : goal.returns-in_ok-extend_from_slice-in-Moment-clause-bytes
returns-in_ok-extend_from_slice-in-Moment-clause-bytes c = along _ (value.Moment c.in-Moment.second) c.in-Moment.is tt

pub returns-in_ok-extend_from_slice-in-Ref-clause-bytes : goal.returns-in_ok-extend_from_slice-in-Ref-clause-bytes
returns-in_ok-extend_from_slice-in-Ref-clause-bytes c = along _ (value.Ref c.in-Ref.id) c.in-Ref.is c.as_bytes.ensures.id

pub returns-in_ok-push-in-Bool-clause-bytes : goal.returns-in_ok-push-in-Bool-clause-bytes
returns-in_ok-push-in-Bool-clause-bytes c = along _ (value.Bool c.in-Bool.truth) c.in-Bool.is tt
