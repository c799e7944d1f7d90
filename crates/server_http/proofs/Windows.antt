-- The bytes at hand, as the buffer grows.
use Rattle.std.proofs.Common.{◌≡◌, ℕ, ◌+◌, ◌-◌, ◌<◌, ◌≤◌, List, ◌++◌, length, take, drop, sym, ap, ◌∙◌, arith, min, subst}
use Rattle.std.proofs.lemmas.List.{take_min, take_all, length-take, length-append, take-append-le, take-append-drop}
use Rattle.std.proofs.Common.{append_assoc, append-nil, inl, inr}
use Rattle.std.proofs.lemmas.Bool.{cases_lt}
use Rattle.std.proofs.Math.Seq.{take-append-add, take-append_seam}
use Rattle.httparse.specs.Grammar.{RequestHead, ReadsRequest, NeverHasRequest, print_request}
use Rattle.httparse.proofs.GrammarLemmas.{ReadsRequest-append}
use Rattle.server_http.specs.Item.{HasHead}
use Rattle.server_http.specs.Item.{window}

pub window_at_hand : (bytes seen : List ℕ) (hand : ℕ) → seen ≡ bytes → hand ≡ min (length bytes) 16384 → take hand seen ≡ window bytes
window_at_hand bytes seen hand same e =
    let swapped : hand ≡ min 16384 (length bytes) = omega arith in
    rw (same, swapped) (take_min 16384 bytes)

pub window_size : (bytes : List ℕ) → length (window bytes) ≤ 16384
window_size bytes = omega (arith, length-take 16384 bytes)

take_append : (n : ℕ) (xs ys : List ℕ) → take n (xs ++ ys) ≡ take n xs ++ take (n - length xs) ys
take_append n xs ys = elim (cases_lt n (length xs)) [
  | inl short ↦ (let none : n - length xs ≡ 0 = omega arith in rw none (take-append-le n xs ys (omega arith) ∙ sym (append-nil (take n xs))))
  | inr long ↦ (let whole : n ≡ length xs + (n - length xs) = omega arith in
      ap (λ k. take k (xs ++ ys)) whole ∙ take-append-add xs ys (n - length xs) ∙ ap (λ l. l ++ take (n - length xs) ys) (sym (take_all n xs long)))
]

-- what is at hand of a longer input
pub window_append : (xs ys : List ℕ) → window (xs ++ ys) ≡ window xs ++ take (16384 - length xs) ys
window_append xs ys = take_append 16384 xs ys

pub window_full : (xs ys : List ℕ) → 16384 ≤ length xs → window (xs ++ ys) ≡ window xs
window_full xs ys h = take-append-le 16384 xs ys h

pub window_all : (xs : List ℕ) → length xs < 16384 → window xs ≡ xs
window_all xs h = take_all 16384 xs (omega arith)

pub HasHead-append : (xs ys : List ℕ) (h : RequestHead) → HasHead xs h → HasHead (xs ++ ys) h
HasHead-append xs ys h (rest, reads) =
    let more = take (16384 - length xs) ys in
    let P : List ℕ → Type 0 = λ w. ReadsRequest w h (rest ++ more) in
    (rest ++ more, subst P (sym (window_append xs ys)) (ReadsRequest-append (window xs) h rest more reads))

-- a head within the bytes that come before others
pub HasHead-shorter : (xs ys : List ℕ) (h : RequestHead) → HasHead (xs ++ ys) h → length (print_request h) ≤ length xs → HasHead xs h
HasHead-shorter xs ys h (rest, reads) enough =
    let n = length (print_request h) in
    let text : window (xs ++ ys) ≡ print_request h ++ rest = reads.1 in
    let whole = ap length text in
    let parts = length-append (print_request h) rest in
    let most = window_size (xs ++ ys) in
    let size = length-take 16384 xs in
    let within : n ≤ length (window xs) = omega (arith, whole, parts, most, size, enough) in
    let front : take n (window xs) ≡ print_request h
    = sym (take-append-le n (window xs) (take (16384 - length xs) ys) within)
    ∙ ap (take n) (sym (window_append xs ys) ∙ text) ∙ take-append_seam (print_request h) rest in
    (drop n (window xs), (reads.0, sym (take-append-drop n (window xs)) ∙ ap (λ k. k ++ drop n (window xs)) front))

pub Never-append : (xs ys : List ℕ) → NeverHasRequest (window xs) → NeverHasRequest (window (xs ++ ys))
Never-append xs ys never more h rest reads =
    let first = take (16384 - length xs) ys in
    let P : List ℕ → Type 0 = λ w. ReadsRequest w h rest in
    never (first ++ more) h rest (subst P (ap (λ w. w ++ more) (window_append xs ys) ∙ append_assoc (window xs) first more) reads)
