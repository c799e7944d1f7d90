-- The id that a text spells, as bytes and as characters.
use Rattle.std.proofs.Common.{◌≡◌, ℕ, zero, suc, ◌<◌, ◌≤◌, ◌^◌, ◌∷◌, arith, lit<, ◌==◌, Bool, true, false, ◌&&◌, ◌||◌, cond, IsTrue, List, [], ◌++◌, length, take, drop, Option, Some, None, refl, sym, ap, subst, ◌∙◌, inl, inr, eqb-true, append-nil, take-append-drop}
use Rattle.std.specs.List.{list_all}
use Rattle.std.specs.Str.{bytes_eq, IsAscii, IsUtf8, chars}
use Rattle.std.proofs.lemmas.Bool.Decides.{nat_tests}
use Rattle.std.proofs.Math.Nat.{one-le-pow, pow-succ'}
use Rattle.std.proofs.lemmas.List.{take_at, drop_at, length-take}
use Rattle.std.proofs.lemmas.Str.{chars-IsAscii, encodes-IsAscii, encodes-chars, IsAscii-append as ascii_append}
use Rattle.std.proofs.lemmas.Slice.Eq.{bytes_eq-Decides}
use Rattle.std.proofs.lemmas.Bool.{and_parts as both, or_right as either}
use Rattle.std.proofs.lemmas.Str.Ascii.{IsAscii-cons as ascii_cons, IsAscii-nil as none_ascii}
use Rattle.std.proofs.lemmas.Option.{cond_some as taken}
use Rattle.base_lemmas.proofs.Bools.{cond_at_most_one as one_or_none}
use Rattle.base_lemmas.proofs.Texts.{bytes_eq-self as same}
use Rattle.base_value.specs.Id.{IsTextOf, capitals, id_in, is_capital, is_digit62, is_id, suffix, suffix_char}

size : (id : List ℕ) → IsTrue (is_id id) → length id ≡ 15
size id h = eqb-true (length id) 15 (both (length id == 15) (list_all is_digit62 id) h).0

by_parts : (text id rest : List ℕ) → IsTrue (is_id id) → take 15 text ≡ id → drop 15 text ≡ rest → (bytes_eq rest [] || bytes_eq rest (suffix id)) ≡ true → id_in text ≡ Some id
unfolding id_in
by_parts text id rest h front behind e = rw (front, behind, h, e) refl

pub id_read : (text id : List ℕ) → IsTrue (is_id id) → IsTextOf id text → id_in text ≡ Some id
id_read text id h (inl e) =
    let parts : text ≡ id ++ [] = e ∙ sym (append-nil id) in
    by_parts text id [] h (ap (take 15) parts ∙ take_at id [] 15 (size id h)) (ap (drop 15) parts ∙ drop_at id [] 15 (size id h)) refl
id_read text id h (inr e) =
    by_parts text id (suffix id) h (ap (take 15) e ∙ take_at id (suffix id) 15 (size id h)) (ap (drop 15) e ∙ drop_at id (suffix id) 15 (size id h)) (either (bytes_eq (suffix id) []) (bytes_eq (suffix id) (suffix id)) (same (suffix id)))

-- what is behind the first fifteen characters of a text of an id
ends : (text : List ℕ) → (bytes_eq (drop 15 text) [] || bytes_eq (drop 15 text) (suffix (take 15 text))) ≡ true → IsTextOf (take 15 text) text
ends text h = by (bytes_eq (drop 15 text) []) refl
  where
    whole : take 15 text ++ drop 15 text ≡ text
    whole = take-append-drop 15 text

    by : (b : Bool) → bytes_eq (drop 15 text) [] ≡ b → IsTextOf (take 15 text) text
    by true e = inl (sym whole ∙ ap (λ (r : List ℕ). take 15 text ++ r) ((bytes_eq-Decides (drop 15 text) []).0 e) ∙ append-nil (take 15 text))
    by false e =
        let last : bytes_eq (drop 15 text) (suffix (take 15 text)) ≡ true = subst (λ (b : Bool). (b || bytes_eq (drop 15 text) (suffix (take 15 text))) ≡ true) e h in
        inr (sym whole ∙ ap (λ (r : List ℕ). take 15 text ++ r) ((bytes_eq-Decides (drop 15 text) (suffix (take 15 text))).0 last))

pub no_id : (text : List ℕ) → ((id : List ℕ) → IsTrue (is_id id) → IsTextOf id text → ⊥) → None ≡ id_in text
unfolding id_in
no_id text none = by (is_id (take 15 text) && (bytes_eq (drop 15 text) [] || bytes_eq (drop 15 text) (suffix (take 15 text)))) refl
  where
    by : (b : Bool) → (is_id (take 15 text) && (bytes_eq (drop 15 text) [] || bytes_eq (drop 15 text) (suffix (take 15 text)))) ≡ b → ◌≡◌ {A = Option (List ℕ)} None (cond (is_id (take 15 text) && (bytes_eq (drop 15 text) [] || bytes_eq (drop 15 text) (suffix (take 15 text)))) (Some (take 15 text)) None)
    by true e = let p = both (is_id (take 15 text)) (bytes_eq (drop 15 text) [] || bytes_eq (drop 15 text) (suffix (take 15 text))) e in absurd (none (take 15 text) p.0 (ends text p.1))
    by false e = rw e refl

-- ---- bytes and characters
digit_ascii : (c : ℕ) → is_digit62 c ≡ true → c < 128
digit_ascii c h = grind (arith, nat_tests)

all_ascii : (cs : List ℕ) → list_all is_digit62 cs ≡ true → IsAscii cs
all_ascii [] h = λ i. lit< tt
all_ascii (c ∷ cs) h = let p = both (is_digit62 c) (list_all is_digit62 cs) h in ascii_cons c cs (digit_ascii c p.0) (all_ascii cs p.1)

small_suffix : (n : ℕ) → n < 32 → suffix_char n < 128
small_suffix n h = grind (arith, nat_tests)

few_capitals : (k : ℕ) (cs : List ℕ) → length cs ≤ k → capitals cs < 2 ^ k
few_capitals k [] h = one-le-pow k 2 (lit< tt)
few_capitals zero (c ∷ cs) h = absurd (omega arith)
few_capitals (suc k) (c ∷ cs) h =
    let rest = few_capitals k cs (omega arith) in
    let first = one_or_none (is_capital c) in
    rw (pow-succ' 2 k) (omega (arith, rest, first))

short_take : (n : ℕ) (cs : List ℕ) → length (take n cs) ≤ n
short_take n cs = rw (length-take n cs) (omega arith)

group_ascii : (cs : List ℕ) → suffix_char (capitals (take 5 cs)) < 128
group_ascii cs = small_suffix (capitals (take 5 cs)) (few_capitals 5 (take 5 cs) (short_take 5 cs))

suffix_ascii : (id : List ℕ) → IsAscii (suffix id)
suffix_ascii id =
    let a : ℕ = suffix_char (capitals (take 5 id)) in
    let b : ℕ = suffix_char (capitals (take 5 (drop 5 id))) in
    let c : ℕ = suffix_char (capitals (take 5 (drop 10 id))) in
    ascii_cons a (b ∷ c ∷ []) (group_ascii id) (ascii_cons b (c ∷ []) (group_ascii (drop 5 id)) (ascii_cons c [] (group_ascii (drop 10 id)) none_ascii))

pub text_ascii : (id text : List ℕ) → IsTrue (is_id id) → IsTextOf id text → IsAscii text
text_ascii id text h (inl e) = rw e (all_ascii id (both (length id == 15) (list_all is_digit62 id) h).1)
text_ascii id text h (inr e) = rw e (ascii_append id (suffix id) (all_ascii id (both (length id == 15) (list_all is_digit62 id) h).1) (suffix_ascii id))

-- a text that spells an id is one of its two texts
pub spells : (text id : List ℕ) → id_in text ≡ Some id → IsTrue (is_id id) × IsTextOf id text
unfolding id_in
spells text id h =
    let t = taken _ (take 15 text) id h in
    let p = both (is_id (take 15 text)) (bytes_eq (drop 15 text) [] || bytes_eq (drop 15 text) (suffix (take 15 text))) t.0 in
    let same : take 15 text ≡ id = t.1 in
    subst (λ (x : List ℕ). IsTrue (is_id x) × IsTextOf x text) same (p.0, ends text p.1)

-- a text spells the same id by its bytes and by its characters
pub id_in-chars : (bs : List ℕ) → IsUtf8 bs → id_in (chars bs) ≡ id_in bs
id_in-chars bs u = go (id_in bs) (id_in (chars bs)) refl refl
  where
    by_bytes : (id : List ℕ) → id_in bs ≡ Some id → id_in (chars bs) ≡ id_in bs
    by_bytes id h = let s = spells bs id h in ap id_in (chars-IsAscii bs (text_ascii id bs s.0 s.1))

    by_chars : (id : List ℕ) → id_in (chars bs) ≡ Some id → id_in (chars bs) ≡ id_in bs
    by_chars id h =
        let s = spells (chars bs) id h in
        ap id_in (sym (encodes-IsAscii (chars bs) (text_ascii id (chars bs) s.0 s.1)) ∙ encodes-chars bs u)

    go : (x y : Option (List ℕ)) → id_in bs ≡ x → id_in (chars bs) ≡ y → id_in (chars bs) ≡ id_in bs
    go None None p q = q ∙ sym p
    go (Some id) y p q = by_bytes id p
    go None (Some id) p q = by_chars id q
