-- How the row of some parts comes from that of those behind the first.
use Rattle.std.proofs.Common.{◌≡◌, ℕ, suc, ◌-◌, arith, nat_eq, if◌then◌else◌, slice_get, Bool, true, false, ◌&&◌, ◌||◌, List, [], ◌∷◌, ◌++◌, map, zip, reverse, length, drop, Some, None, refl, sym, ap, ap₂, ◌∙◌}
use Rattle.std.proofs.Math.Bool.{or-false, or_comm}
use Rattle.std.proofs.lemmas.List.{reverse-append, reverse-reverse, map-append}
use mathlib.Core.List.{reverse_aux}
use Rattle.std.specs.List.{list_any, scan, starts_with}
use Rattle.soql.specs.Like.{take_whole, rest_behind, rests}
use Rattle.soql.specs.declared.query.LikePart.{LikePart}
use Rattle.soql.specs.declared.query.LikePart.TheVariants as part
use Rattle.soql.specs.inner.Rests.{rests_from, row_of, row_behind, suits, with_one}

-- ---- no parts

none_longer : (c : ℕ) (rest before : List ℕ) → map (take_whole []) (rests_from (c ∷ rest) before) ≡ false ∷ map (λ _. false) before
none_longer c rest [] = refl
none_longer c rest (b ∷ before) = ap (λ bs. false ∷ bs) (none_longer b (c ∷ rest) before)

pub row_of-none : (backwards : List ℕ) → row_of [] backwards ≡ true ∷ map (λ _. false) backwards
row_of-none [] = refl
row_of-none (b ∷ before) = ap (λ bs. true ∷ bs) (none_longer b [] before)

-- ---- one character, and then what another test admits

one_more : (fits : ℕ → Bool) (after all : List ℕ → Bool) (each : (c : ℕ) (rest : List ℕ) → all (c ∷ rest) ≡ (fits c && after rest)) (rest before : List ℕ) → map all (rests_from rest before) ≡ all rest ∷ map (λ p. fits p.0 && p.1) (zip before (map after (rests_from rest before)))
one_more fits after all each rest [] = refl
one_more fits after all each rest (c ∷ before) =
    ap (λ bs. all rest ∷ bs) (one_more fits after all each (c ∷ rest) before ∙ ap (λ b. b ∷ map (λ p. fits p.0 && p.1) (zip before (map after (rests_from (c ∷ rest) before)))) (each c rest))

pub row_of-one : (parts : List LikePart) (backwards : List ℕ) → row_of (part.One ∷ parts) backwards ≡ with_one None backwards (row_of parts backwards)
row_of-one parts backwards = one_more (suits None) (take_whole parts) (take_whole (part.One ∷ parts)) (λ c rest. or-false (take_whole parts rest)) [] backwards

-- what is behind a character and then a prefix
behind_one : (parts : List LikePart) (d : ℕ) (prefix : List ℕ) (c : ℕ) (rest : List ℕ) → list_any (take_whole parts) (rest_behind (d ∷ prefix) (c ∷ rest)) ≡ (suits (Some d) c && list_any (take_whole parts) (rest_behind prefix rest))
behind_one parts d prefix c rest =
    elim (nat_eq d c) as (λ b. list_any (take_whole parts) (if◌then◌else◌ (b && starts_with nat_eq rest prefix) (drop (length prefix) rest ∷ []) []) ≡ (b && list_any (take_whole parts) (rest_behind prefix rest))) [ true ↦ refl | false ↦ refl ]

pub row_behind-one : (parts : List LikePart) (d : ℕ) (prefix backwards : List ℕ) → row_behind (d ∷ prefix) parts backwards ≡ with_one (Some d) backwards (row_behind prefix parts backwards)
row_behind-one parts d prefix backwards =
    one_more (suits (Some d)) (λ rest. list_any (take_whole parts) (rest_behind prefix rest)) (λ rest. list_any (take_whole parts) (rest_behind (d ∷ prefix) rest)) (behind_one parts d prefix) [] backwards

-- an empty prefix is in front of everything
behind_none : (after : List ℕ → Bool) (rest before : List ℕ) → map (λ cs. list_any after (rest_behind [] cs)) (rests_from rest before) ≡ map after (rests_from rest before)
behind_none after rest [] = ap (λ b. b ∷ []) (or-false (after rest))
behind_none after rest (c ∷ before) = ap₂ ◌∷◌ (or-false (after rest)) (behind_none after (c ∷ rest) before)

pub row_behind-none : (parts : List LikePart) (backwards : List ℕ) → row_behind [] parts backwards ≡ row_of parts backwards
row_behind-none parts backwards = behind_none (take_whole parts) [] backwards

-- ---- any characters, and then what another test admits

any_more : (after : List ℕ → Bool) (shorter : Bool) (rest before : List ℕ) → (shorter || after rest) ≡ list_any after (rests rest) → map (λ cs. list_any after (rests cs)) (rests_from rest before) ≡ scan ◌||◌ ◌||◌ shorter (map after (rests_from rest before))
any_more after shorter rest [] here = ap (λ b. b ∷ []) (sym here)
any_more after shorter rest (c ∷ before) here =
    ap₂ ◌∷◌ (sym here) (any_more after (shorter || after rest) (c ∷ rest) before (or_comm (shorter || after rest) (after (c ∷ rest)) ∙ ap (λ b. after (c ∷ rest) || b) here))

pub row_of-many : (parts : List LikePart) (backwards : List ℕ) → row_of (part.Many ∷ parts) backwards ≡ scan ◌||◌ ◌||◌ false (row_of parts backwards)
row_of-many parts backwards = any_more (take_whole parts) false [] backwards (sym (or-false (take_whole parts [])))

-- ---- the whole text is the last rest

last_more : (b : Bool) (bs : List Bool) (last : Bool) → slice_get bs (length bs - 1) ≡ Some last → slice_get (b ∷ bs) (length (b ∷ bs) - 1) ≡ Some last
last_more b [] last h = cc
last_more b (x ∷ bs) last h =
    let longer : suc (suc (length bs)) - 1 ≡ suc (length bs) = omega arith in
    let shorter : suc (length bs) - 1 ≡ length bs = omega arith in
    ap (slice_get (b ∷ x ∷ bs)) longer ∙ sym (ap (slice_get (x ∷ bs)) shorter) ∙ h

last_rest : (test : List ℕ → Bool) (rest before : List ℕ) → slice_get (map test (rests_from rest before)) (length (map test (rests_from rest before)) - 1) ≡ Some (test (reverse_aux before rest))
last_rest test rest [] = refl
last_rest test rest (c ∷ before) = last_more (test rest) (map test (rests_from (c ∷ rest) before)) _ (last_rest test (c ∷ rest) before)

pub slice_get-row_of : (parts : List LikePart) (folded : List ℕ) → slice_get (row_of parts (reverse folded)) (length (row_of parts (reverse folded)) - 1) ≡ Some (take_whole parts folded)
slice_get-row_of parts folded = last_rest (take_whole parts) [] (reverse folded) ∙ ap (λ cs. Some (take_whole parts cs)) (reverse-reverse folded)

-- ---- what a loop from the last to the first has had

pub reverse-map-push : {X Y : Type 0} (f : X → Y) (xs : List X) (x : X) → reverse (map f (xs ++ x ∷ [])) ≡ f x ∷ reverse (map f xs)
reverse-map-push f xs x = ap reverse (map-append f xs (x ∷ [])) ∙ reverse-append (map f xs) (f x ∷ [])
