-- The first bytes of what is written, in an array.
use Rattle.std.proofs.Common.{◌≡◌, ◌+◌, ◌-◌, ◌≤◌, ◌∙◌, ℕ, List, ◌++◌, sym, ap, min, take, length, length-take, arith}
use Rattle.std.proofs.lemmas.List.{take_min}
use Rattle.std.proofs.lemmas.Slice.{take-put_mid}
use Rattle.std.proofs.Math.Seq.{take-append-add}
use borrow.Rule.Slice.PartMut.{put_mid}
use Rattle.cli_notes.specs.Written.{first_room}

min-flip : (m a b : ℕ) → m ≡ min a b → m ≡ min b a
min-flip m a b h = grind arith

-- as many bytes more as there is room for
fills : (xs ys : List ℕ) (m : ℕ) → length xs ≤ first_room → m ≡ min (length ys) (first_room - length xs) → xs ++ take m ys ≡ take first_room (xs ++ ys)
fills xs ys m few is =
    let all : length xs + (first_room - length xs) ≡ first_room = omega arith in
    ap (λ (zs : List ℕ). xs ++ zs) (ap (λ (n : ℕ). take n ys) (min-flip m (length ys) (first_room - length xs) is) ∙ take_min (first_room - length xs) ys)
    ∙ sym (take-append-add xs ys (first_room - length xs))
    ∙ ap (λ (n : ℕ). take n (xs ++ ys)) all

-- bytes put behind the first ones of an array
pub pushed : (array part piece front : List ℕ) (l m k : ℕ) → length array ≡ first_room → l ≤ first_room → m ≡ min (length piece) (first_room - l) → part ≡ take m piece → take l array ≡ front → take (l + m) (put_mid l k array part) ≡ take first_room (front ++ piece)
pushed array part piece front l m k size few is copied kept =
    let long : length (take m piece) ≡ m = length-take m piece ∙ grind arith in
    let len : length front ≡ l = sym (ap length kept) ∙ (length-take l array ∙ grind arith) in
    let end : l + m ≡ l + length part = ap (λ (n : ℕ). l + n) (sym (ap length copied ∙ long)) in
    let room : l ≤ length array = omega arith in
    let short : length front ≤ first_room = omega arith in
    take-put_mid l k array part (l + m) end room
    ∙ ap (λ (zs : List ℕ). zs ++ part) kept ∙ ap (λ (zs : List ℕ). front ++ zs) copied
    ∙ fills front piece m short (is ∙ ap (λ (n : ℕ). min (length piece) (first_room - n)) (sym len))
