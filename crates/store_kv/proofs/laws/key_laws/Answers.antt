use Rattle.store_kv.specs.Order.{places_total}
use Rattle.store_kv.proofs.Places as places
use Rattle.store_kv.proofs.Prefixes as prefixes
use Rattle.store_kv.proofs.laws.key_laws.Goals as goal

pub returns : goal.returns
returns c = record {
  total = places_total;
  exact = places.places_exact;
  bytes_exact = places.bytes_exact;
  interval = prefixes.interval;
  unbounded = prefixes.unbounded;
}
