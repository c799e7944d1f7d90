-- Forms of names over bytes and over characters, and names in lower case.
use Rattle.std.proofs.Common.{◌≡◌, ◌∙◌, ◌↔◌, ℕ, ltb, ◌<◌, ◌≤◌, ◌-◌, suc, Bool, true, false, ◌&&◌, IsTrue, List, [], ◌∷◌, ◌++◌, length, map, take, drop, get_or, refl, sym, ap, subst, arith}
use Rattle.std.specs.Prelude.{bytes_eq, codes, encode_utf8_all}
use Rattle.std.specs.Char.{encode_utf8, to_ascii_lowercase}
use Rattle.std.specs.Str.{IsAscii, IsUtf8, chars}
use Rattle.std.proofs.lemmas.Bool.{ltb-false, ltb-true, and_parts as both}
use Rattle.std.proofs.lemmas.Bool.Decides.{nat_tests, same_from_decides}
use Rattle.std.proofs.lemmas.List.{append-nil, map-append, take-append-drop}
use Rattle.std.proofs.lemmas.Slice.Eq.{bytes_eq-Decides}
use Rattle.std.proofs.lemmas.Str.{IsAscii-append, chars-IsAscii, encode_ascii, encodes-IsAscii, encodes-chars, encodes_same, inside_one}
use Rattle.std.proofs.lemmas.Str.Ascii.{IsAscii-cons, IsAscii-nil, lowercase_ascii, lowercase_is}
use Rattle.base_value.specs.Id.{is_digit62}
use Rattle.base_value.specs.Numerals.{is_within}
use Rattle.base_value.specs.Texts.{lower}
use Rattle.model.specs.Fields.{same_name}
use Rattle.model.specs.Names.{begins_with_letter, goes_on, in_stem, is_child_name, is_custom_name, is_stem, is_stem_with}

-- ---- forms

agree : (a b : Bool) → (a ≡ true → a ≡ b) → (b ≡ true → a ≡ b) → a ≡ b
agree true b f g = f refl
agree false true f g = g refl
agree false false f g = refl

-- a form that ASCII texts alone have is the same of a text's bytes and of its characters
same_form : (form : List ℕ → Bool) → ((cs : List ℕ) → form cs ≡ true → IsAscii cs) → (s : List ℕ) → IsUtf8 s → form s ≡ form (chars s)
same_form form ascii s u =
    agree (form s) (form (chars s)) (λ e. ap form (sym (chars-IsAscii s (ascii s e))))
    (λ e. ap form (sym (encodes-chars s u) ∙ encodes-IsAscii (chars s) (ascii (chars s) e)))

goes_small : (c d : ℕ) → goes_on c d ≡ true → c < 128
goes_small c d h = grind (arith, nat_tests)

digit_small : (c : ℕ) → is_digit62 c ≡ true → c < 128
digit_small c h = grind (arith, nat_tests)

stem_ascii : (cs : List ℕ) → in_stem cs ≡ true → IsAscii cs
stem_ascii [] h = IsAscii-nil
stem_ascii (c ∷ []) h = IsAscii-cons c [] (digit_small c h) IsAscii-nil
stem_ascii (c ∷ d ∷ cs) h =
    let p = both (goes_on c d) (in_stem (d ∷ cs)) h in
    IsAscii-cons c (d ∷ cs) (goes_small c d p.0) (stem_ascii (d ∷ cs) p.1)

is_stem_ascii : (cs : List ℕ) → is_stem cs ≡ true → IsAscii cs
unfolding is_stem
is_stem_ascii cs h =
    let p = both (is_within 1 40 (length cs)) (begins_with_letter cs && in_stem cs) h in
    stem_ascii cs (both (begins_with_letter cs) (in_stem cs) p.1).1

ending_ascii : (ending : List ℕ) → IsAscii ending → (cs : List ℕ) → is_stem_with ending cs ≡ true → IsAscii cs
ending_ascii ending small cs h =
    let n = length cs - 3 in
    let p = both (is_stem (take n cs)) (bytes_eq (drop n cs) ending) h in
    let end : drop n cs ≡ ending = (bytes_eq-Decides (drop n cs) ending).0 p.1 in
    let whole : IsAscii (take n cs ++ drop n cs) = IsAscii-append (take n cs) (drop n cs) (is_stem_ascii (take n cs) p.0) (subst IsAscii (sym end) small) in
    subst IsAscii (take-append-drop n cs) whole

pub stem_of_text : (s : List ℕ) → IsUtf8 s → is_stem s ≡ is_stem (chars s)
stem_of_text s u = same_form is_stem is_stem_ascii s u

c_ascii : IsAscii (codes "__c")
c_ascii = IsAscii-cons 95 (95 ∷ 99 ∷ []) (omega arith) (IsAscii-cons 95 (99 ∷ []) (omega arith) (IsAscii-cons 99 [] (omega arith) IsAscii-nil))

r_ascii : IsAscii (codes "__r")
r_ascii = IsAscii-cons 95 (95 ∷ 114 ∷ []) (omega arith) (IsAscii-cons 95 (114 ∷ []) (omega arith) (IsAscii-cons 114 [] (omega arith) IsAscii-nil))

pub custom_of_text : (s : List ℕ) → IsUtf8 s → is_stem_with (codes "__c") s ≡ is_custom_name (chars s)
unfolding is_custom_name
custom_of_text s u = same_form (is_stem_with (codes "__c")) (ending_ascii (codes "__c") c_ascii) s u

pub child_of_text : (s : List ℕ) → IsUtf8 s → is_stem_with (codes "__r") s ≡ is_child_name (chars s)
unfolding is_child_name
child_of_text s u = same_form (is_stem_with (codes "__r")) (ending_ascii (codes "__r") r_ascii) s u

-- ---- lower case

high_stays : (xs : List ℕ) → ((k : ℕ) → k < length xs → 128 ≤ get_or xs k 0) → map to_ascii_lowercase xs ≡ xs
high_stays [] h = refl
high_stays (x ∷ xs) h =
    let first : to_ascii_lowercase x ≡ x = (lowercase_is x).2 (omega (arith, h 0 (omega arith))) in
    let rest : map to_ascii_lowercase xs ≡ xs = high_stays xs (λ k l. h (suc k) (omega arith)) in
    cc

-- the bytes of a character that isn't ASCII aren't either
are_high : (c : ℕ) → 128 ≤ c → (k : ℕ) → k < length (encode_utf8 c) → 128 ≤ get_or (encode_utf8 c) k 0
are_high c h k l = by_test (ltb (get_or (encode_utf8 c) k 0) 128) refl
  where
    by_test : (small : Bool) → ltb (get_or (encode_utf8 c) k 0) 128 ≡ small → 128 ≤ get_or (encode_utf8 c) k 0
    by_test true e =
        let b : get_or (encode_utf8 c) k 0 < 128 = ltb-true (get_or (encode_utf8 c) k 0) 128 e in
        let same : c ≡ get_or (encode_utf8 c) k 0 = inside_one c [] (encode_utf8 c) k (sym (append-nil (encode_utf8 c))) l b in
        absurd (omega arith)
    by_test false e = ltb-false (get_or (encode_utf8 c) k 0) 128 e

-- a character of one byte, or of high ones
by_size : (c : ℕ) (small : Bool) → ltb c 128 ≡ small → map to_ascii_lowercase (encode_utf8 c) ≡ encode_utf8 (to_ascii_lowercase c)
by_size c true e =
    let l : c < 128 = ltb-true c 128 e in
    ap (map to_ascii_lowercase) (encode_ascii c l) ∙ sym (encode_ascii (to_ascii_lowercase c) (lowercase_ascii c l))
by_size c false e =
    let h : 128 ≤ c = ltb-false c 128 e in
    high_stays (encode_utf8 c) (are_high c h) ∙ ap encode_utf8 (sym ((lowercase_is c).2 (omega arith)))

lower_char : (c : ℕ) → map to_ascii_lowercase (encode_utf8 c) ≡ encode_utf8 (to_ascii_lowercase c)
lower_char c = by_size c (ltb c 128) refl

lower_text : (cs : List ℕ) → map to_ascii_lowercase (encode_utf8_all cs) ≡ encode_utf8_all (lower cs)
lower_text [] = refl
lower_text (c ∷ cs) =
    map-append to_ascii_lowercase (encode_utf8 c) (encode_utf8_all cs)
    ∙ ap (λ (x : List ℕ). x ++ map to_ascii_lowercase (encode_utf8_all cs)) (lower_char c)
    ∙ ap (λ (x : List ℕ). encode_utf8 (to_ascii_lowercase c) ++ x) (lower_text cs)

-- texts whose bytes are one in lower case are one in lower case
pub same_of_texts : (a b : List ℕ) → IsUtf8 a → IsUtf8 b → (r : Bool) → (IsTrue r ↔ (lower a ≡ lower b)) → r ≡ same_name (chars a) (chars b)
same_of_texts a b ua ub r h =
    let la : lower a ≡ encode_utf8_all (lower (chars a)) = ap lower (sym (encodes-chars a ua)) ∙ lower_text (chars a) in
    let lb : lower b ≡ encode_utf8_all (lower (chars b)) = ap lower (sym (encodes-chars b ub)) ∙ lower_text (chars b) in
    let d = bytes_eq-Decides (lower (chars a)) (lower (chars b)) in
    same_from_decides r (bytes_eq (lower (chars a)) (lower (chars b)))
    (λ e. h.0 e, λ e. h.1 e)
    (λ e. la ∙ ap encode_utf8_all (d.0 e) ∙ sym lb, λ e. d.1 (encodes_same (lower (chars a)) (lower (chars b)) (sym la ∙ e ∙ lb)))
