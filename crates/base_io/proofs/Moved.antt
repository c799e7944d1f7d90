-- What was moved in several calls.
use Rattle.std.proofs.Common.{◌≡◌, ℕ, ◌+◌, List, ◌++◌, length, take, drop, Option, sym, ap, ◌∙◌}
use Rattle.std.specs.Io.KnownBytes.{Appends}
use Rattle.std.proofs.KnownBytes.{Appends-trans}
use Rattle.std.proofs.Math.Seq.{take-add, take-append_seam}
use Rattle.std.proofs.lemmas.List.{take-append-drop, drop-drop}

-- the first i, and then n of the rest
pub Appends-more : (a b c : Option (List ℕ)) (xs : List ℕ) (i n : ℕ) → Appends a b (take i xs) → Appends b c (take n (drop i xs)) → Appends a c (take (i + n) xs)
Appends-more a b c xs i n p q = rw (take-add i n xs) (Appends-trans a b c _ _ p q)

-- a read copied n bytes from place i to the front
pub moved : (xs copied rest : List ℕ) (i n : ℕ) → copied ≡ take n (drop i xs) → length copied ≡ n → drop i xs ≡ take n (copied ++ rest) ++ drop (i + n) xs
moved xs copied rest i n e len =
    let front : take n (copied ++ rest) ≡ take n (drop i xs) = ap (λ k. take k (copied ++ rest)) (sym len) ∙ take-append_seam copied rest ∙ e in
    sym (rw (front, ← drop-drop n i xs) (take-append-drop n (drop i xs)))
