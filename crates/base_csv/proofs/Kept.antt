-- The first records of a table, as they are kept one by one.
use Rattle.std.proofs.Common.{◌≡◌, ◌≤◌, ◌<◌, ◌+◌, ℕ, zero, suc, List, [], ◌∷◌, ◌++◌, length, take, get_or, Some, None, refl, sym, ap, ◌∙◌, arith}
use Rattle.std.specs.Prelude.{slice_get}
use Rattle.std.proofs.Math.Seq.{take-suc}
use Rattle.std.proofs.lemmas.List.{take_all}
use Rattle.std.proofs.lemmas.Option.{get_or_from_slice_get, slice_get_within}

abbrev Cells : Type 0
Cells = List (List ℕ)

pub take_none : (n m : ℕ) (table : List Cells) → m ≡ 0 → let none : List Cells = [] in none ≡ take n (take m table)
take_none zero m table e = refl
take_none (suc n) m table e = sym (ap (λ (i : ℕ). take (suc n) (take i table)) e)

-- one record more is read
pub one_more : (table : List Cells) (n k most : ℕ) (f : Cells) (now then : List Cells) → Some f ≡ slice_get table n → k ≡ n + 1 → now ≡ take most (take n table)
    → ((all : List Cells) → now ≡ take most all → then ≡ take most (all ++ f ∷ [])) → then ≡ take most (take k table)
one_more table n k most f now then e next is kept =
    let within : n < length table = slice_get_within table n f (sym e) in
    let last : get_or table n [] ≡ f = get_or_from_slice_get table n f [] (sym e) in
    let same : k ≡ suc n = omega (arith, next) in
    let front : take (suc n) table ≡ take n table ++ f ∷ [] = take-suc table n [] within ∙ ap (λ (x : Cells). take n table ++ x ∷ []) last in
    kept (take n table) is ∙ ap (take most) (sym (ap (λ (i : ℕ). take i table) same ∙ front))

past : (table : List Cells) (n : ℕ) → slice_get table n ≡ None → length table ≤ n
past [] n e = omega arith
past (x ∷ table) zero e = cc e
past (x ∷ table) (suc n) e = let h = past table n e in omega (arith, h)

-- all are read
pub all_read : (table : List Cells) (n : ℕ) → None ≡ slice_get table n → take n table ≡ table
all_read table n e = take_all n table (past table n (sym e))
