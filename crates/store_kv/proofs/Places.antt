-- The order of places.
use Rattle.std.proofs.Common.{◌≡◌, Ordering, Less, Equal, Greater, nat_cmp, refl}
use Rattle.std.specs.Ordering.{ordering_then}
use Rattle.std.specs.FinMap.{IsAntisymmetric, nat_cmp-IsAntisymmetric, slice_cmp-IsAntisymmetric}
use Rattle.store_kv.specs.Tables.{place_cmp, bytes_cmp}

pub bytes_exact : IsAntisymmetric bytes_cmp
bytes_exact = slice_cmp-IsAntisymmetric nat_cmp-IsAntisymmetric

pub places_exact : IsAntisymmetric place_cmp
places_exact a b e = go (nat_cmp a.0 b.0) refl e
  where
    go : (o : Ordering) → nat_cmp a.0 b.0 ≡ o → ordering_then o (bytes_cmp a.1 b.1) ≡ Equal → a ≡ b
    go Less p e = absurd cc
    go Greater p e = absurd cc
    go Equal p e = let first = nat_cmp-IsAntisymmetric a.0 b.0 p in let second = bytes_exact a.1 b.1 e in λ i. (first i, second i)
