-- The order of places is total.
use Rattle.std.specs.Cmp.{IsTotalOrder, nat_cmp_total, on_total, then_total}
use Rattle.std.specs.Cmp.Lexicographic.{nat_list_cmp_total}
use Rattle.store_kv.specs.Tables.{Place, place_cmp}

pub places_total : IsTotalOrder place_cmp
places_total = then_total (on_total (λ (p : Place). p.0) nat_cmp_total) (on_total (λ (p : Place). p.1) nat_list_cmp_total)
