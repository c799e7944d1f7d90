-- Ids and their texts.
use Rattle.std.proofs.Common.{◌≡◌, ℕ, zero, suc, ◌+◌, ◌-◌, ◌≤◌, ◌<◌, ◌/◌, ◌%◌, ◌^◌, ◌==◌, ◌⊎◌, inl, inr, true, List, [], ◌∷◌, ◌++◌, length, take, drop, map, set, IsTrue, refl, sym, ap, subst, ◌∙◌, arith, eqb-true, append-nil, append_assoc, ap₂, take-append-drop}
use Rattle.std.specs.List.{list_all}
use Rattle.std.proofs.lemmas.List.{take_at, length-append, drop_at, drop-set, map-append, drop_all, length-map}
use Rattle.std.proofs.lemmas.List.Folds.{list_all-append}
use Rattle.std.proofs.lemmas.Bool.Decides.{nat_tests}
use Rattle.base_lemmas.proofs.Bools.{and_first as both_left}
use borrow.Rule.Slice.PartMut.{put_mid}
use Rattle.base_value.specs.Digits.{digits}
use Rattle.base_value.specs.Id.{IsTextOf, digit62, is_digit62, is_id, made, suffix}
use Rattle.base_value.proofs.Digits.{digits-last, digits-length, digits-none}

pub id_length : (id : List ℕ) → IsTrue (is_id id) → length id ≡ 15
id_length id h = eqb-true (length id) 15 (both_left (length id == 15) (list_all is_digit62 id) h)

-- an id in front of its text
pub front : (id text : List ℕ) → IsTrue (is_id id) → IsTextOf id text → (15 ≤ length text) × (take 15 text ≡ id) × ((drop 15 text ≡ []) ⊎ (drop 15 text ≡ suffix id))
front id text h (inl same) =
    let long : length text ≡ 15 = ap length same ∙ id_length id h in
    (omega arith, ap (take 15) (same ∙ sym (append-nil id)) ∙ take_at id [] 15 (id_length id h), inl (ap (drop 15) (same ∙ sym (append-nil id)) ∙ drop_at id [] 15 (id_length id h)))
front id text h (inr more) =
    let long : length text ≡ length id + 3 = ap length more ∙ length-append id (suffix id) in
    (omega (arith, long, id_length id h), ap (take 15) more ∙ take_at id (suffix id) 15 (id_length id h), inr (ap (drop 15) more ∙ drop_at id (suffix id) 15 (id_length id h)))

-- n characters and k behind them
pub filled : (n k : ℕ) (front last zeros : List ℕ) → length front ≡ n → length zeros ≡ k → put_mid n k (front ++ zeros) last ≡ front ++ last
filled n k front last zeros a b =
    let none : drop k (drop n (front ++ zeros)) ≡ [] = ap (drop k) (drop_at front zeros n a) ∙ drop_all k zeros (omega (arith, b)) in
    ap (λ (xs : List ℕ). xs ++ (last ++ drop k (drop n (front ++ zeros)))) (take_at front zeros n a)
    ∙ ap (λ (xs : List ℕ). front ++ (last ++ xs)) none
    ∙ ap (λ (xs : List ℕ). front ++ xs) (append-nil last)

-- one digit more is written before those that are
pub written_more : (cs all : List ℕ) (place n : ℕ) → 3 < place → place ≤ 15 → place ≤ length cs → map digit62 (digits 62 (place - 3) n) ++ drop place cs ≡ all
    → map digit62 (digits 62 (place - 1 - 3) (n / 62)) ++ drop (place - 1) (set cs (place - 1) (digit62 (n % 62))) ≡ all
written_more cs all place n above within long h =
    let before : place - 3 ≡ suc (place - 4) = omega arith in
    let now : place - 1 - 3 ≡ place - 4 = omega arith in
    let back : place - 1 + 1 ≡ place = omega arith in
    let last = digit62 (n % 62) in
    let here : drop (place - 1) (set cs (place - 1) last) ≡ last ∷ drop place cs =
    drop-set cs (place - 1) last (omega arith) ∙ ap (λ (i : ℕ). last ∷ drop i cs) back in
    let one : map digit62 (digits 62 (suc (place - 4)) n) ≡ map digit62 (digits 62 (place - 4) (n / 62)) ++ last ∷ [] =
    ap (map digit62) (digits-last 62 (place - 4) n) ∙ map-append digit62 (digits 62 (place - 4) (n / 62)) (n % 62 ∷ []) in
    let old : map digit62 (digits 62 (suc (place - 4)) n) ++ drop place cs ≡ all = subst (λ (i : ℕ). map digit62 (digits 62 i n) ++ drop place cs ≡ all) before h in
    ap (λ (i : ℕ). map digit62 (digits 62 i (n / 62)) ++ drop (place - 1) (set cs (place - 1) last)) now
    ∙ ap (λ (rest : List ℕ). map digit62 (digits 62 (place - 4) (n / 62)) ++ rest) here
    ∙ sym (append_assoc (map digit62 (digits 62 (place - 4) (n / 62))) (last ∷ []) (drop place cs))
    ∙ ap (λ (ds : List ℕ). ds ++ drop place cs) (sym one)
    ∙ old

-- where no digit is left to write, the id is made
pub all_written : (cs prefix all : List ℕ) (place rest : ℕ) → place ≤ 3 → 3 ≤ place → take 3 cs ≡ prefix → map digit62 (digits 62 (place - 3) rest) ++ drop place cs ≡ all → cs ≡ prefix ++ all
all_written cs prefix all place rest low high front written =
    let three : place ≡ 3 = omega arith in
    let behind : drop 3 cs ≡ all =
    ap (λ (ds : List ℕ). map digit62 ds ++ drop 3 cs) (sym (digits-none 62 rest)) ∙ ap (λ (i : ℕ). map digit62 (digits 62 (i - 3) rest) ++ drop i cs) (sym three) ∙ written in
    sym (take-append-drop 3 cs) ∙ ap₂ (λ (a b : List ℕ). a ++ b) front behind

digit_fits : (d : ℕ) → d < 62 → is_digit62 (digit62 d) ≡ true
digit_fits d h = grind (arith, nat_tests)

digits_fit : (k n : ℕ) → list_all is_digit62 (map digit62 (digits 62 k n)) ≡ true
unfolding digits
digits_fit zero n = refl
digits_fit (suc k) n = rw (digit_fits (n / 62 ^ k % 62) (omega arith), digits_fit k n) refl

pub made-is_id : (prefix : List ℕ) (n : ℕ) → length prefix ≡ 3 → list_all is_digit62 prefix ≡ true → is_id (made prefix n) ≡ true
unfolding made
made-is_id prefix n size h =
    let ds = digits 62 12 n in
    let long : length (prefix ++ map digit62 ds) ≡ 15 = length-append prefix (map digit62 ds) ∙ omega (arith, size, length-map ds digit62, digits-length 62 12 n) in
    rw (long, list_all-append is_digit62 prefix (map digit62 ds), h, digits_fit 12 n) refl

-- behind the whole of a list there is nothing
pub none_behind : (xs front zeros : List ℕ) (n : ℕ) → length front + length zeros ≤ n → xs ++ drop n (front ++ zeros) ≡ xs
none_behind xs front zeros n h =
    ap (λ (rest : List ℕ). xs ++ rest) (drop_all n (front ++ zeros) (omega (arith, length-append front zeros))) ∙ append-nil xs

pub made-written : (prefix : List ℕ) (n : ℕ) → made prefix n ≡ prefix ++ map digit62 (digits 62 12 n)
unfolding made
made-written prefix n = refl
