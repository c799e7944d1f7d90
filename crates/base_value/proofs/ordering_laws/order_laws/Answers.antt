use Rattle.base_value.proofs.KeyBytes.{valid_key_bytes}
use Rattle.base_value.proofs.ValueOrder.{key_order, same_keys, values_total}
use Rattle.base_value.proofs.ordering_laws.order_laws.Goals as goal

pub returns : goal.returns
returns c = record { ordered = key_order; same = same_keys; bytes = valid_key_bytes; total = values_total }
