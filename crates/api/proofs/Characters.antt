-- A text cut at an ASCII character, by its bytes and by its characters.
use Rattle.std.proofs.Common.{◌≡◌, ◌≢◌, ℕ, ◌+◌, ◌<◌, Bool, true, false, cond, List, [], ◌∷◌, ◌++◌, length, get_or, map, take, drop, inl, inr, refl, ap, sym, ◌∙◌, subst, arith}
use Rattle.std.proofs.Math.Seq.{take-append_seam, take-length, drop-append-add}
use Rattle.std.proofs.Math.ListN.{drop_of_length-le}
use Rattle.std.proofs.Math.Utf8.{low_scalar, scalar, scalars, encode, encodes}
use Rattle.std.proofs.lemmas.Bool.Decides.{Decides-eqb, eqb_tells, same_from_decides}
use Rattle.std.proofs.lemmas.List.{append-nil, take-append-drop, length-drop}
use Rattle.std.proofs.lemmas.List.Elements.{All-from_get_or, All-head, All-tail}
use Rattle.std.proofs.lemmas.List.Splits.{slice_split-cons_yes, slice_split-cons_no}
use Rattle.std.proofs.lemmas.Slice.Eq.{bytes_eq-Decides}
use Rattle.std.proofs.lemmas.Str.{chars-nil, chars-append, encodes-chars, encode_ascii, chars_from_encodes, inside_one, scalars-chars, IsUtf8-take, IsCharBoundary-before_ascii}
use Rattle.std.specs.List.{All, slice_split, onto_first, position_or_len, before_first, after_first}
use Rattle.std.specs.Prelude.{◌==◌, if◌then◌else◌, bytes_eq, Some, None}
use Rattle.std.specs.Str.{chars, IsUtf8, NonePass}
use Rattle.std.specs.Str.Pattern.{FindsChar}
use Rattle.std.proofs.lemmas.Str.Pattern.{drop_at_char}
use Rattle.std.proofs.lemmas.Bool.{and_parts}
use Rattle.base_lemmas.proofs.Texts.{chars-encode as chars_more}
use Rattle.base_lemmas.proofs.Lists.{position_or_len-append as position-append}
use Rattle.form_urlencoded.specs.Form.{split, onto_first as put_first}

-- ---- equal texts

-- two texts are equal if their characters are
pub bytes_eq-chars : (xs ys : List ℕ) → IsUtf8 xs → IsUtf8 ys → bytes_eq (chars xs) (chars ys) ≡ bytes_eq xs ys
bytes_eq-chars xs ys u v =
    let d = bytes_eq-Decides (chars xs) (chars ys) in
    same_from_decides {P = xs ≡ ys} _ _
    (λ t. sym (encodes-chars xs u) ∙ ap encodes (d.0 t) ∙ encodes-chars ys v, λ e. d.1 (ap chars e))
    (bytes_eq-Decides xs ys)

-- ---- pieces

-- one element goes to the front of the first piece, in the words of both definitions
put_first-onto_first : (x : ℕ) (l : List (List ℕ)) → put_first x l ≡ onto_first x l
put_first-onto_first x [] = refl
put_first-onto_first x (l ∷ ls) = refl

-- the definition's pieces are the library's
pub split-slice_split : (c : ℕ) (xs : List ℕ) → split c xs ≡ slice_split (λ b. b == c) xs
unfolding split
split-slice_split c [] = refl
split-slice_split c (x ∷ xs) =
    elim (x == c) as (λ t. if◌then◌else◌ t ([] ∷ split c xs) (put_first x (split c xs))
    ≡ cond t ([] ∷ slice_split (λ b. b == c) xs) (onto_first x (slice_split (λ b. b == c) xs))) [
      | true ↦ ap (λ l. [] ∷ l) (split-slice_split c xs)
      | false ↦ put_first-onto_first x (split c xs) ∙ ap (onto_first x) (split-slice_split c xs)
    ]

-- pieces are never none
pub record HasPieces (p : ℕ → Bool) (xs : List ℕ) : Type 0 where
  pub first : List ℕ
  pub others : List (List ℕ)
  pub are : slice_split p xs ≡ first ∷ others

-- one element more
pieces_more : (p : ℕ → Bool) (x : ℕ) (xs : List ℕ) (t : Bool) → p x ≡ t → HasPieces p xs → HasPieces p (x ∷ xs)
pieces_more p x xs true e h = record { first = []; others = slice_split p xs; are = slice_split-cons_yes p x xs e }
pieces_more p x xs false e h =
    record { first = x ∷ h.first; others = h.others; are = slice_split-cons_no p x xs e ∙ ap (onto_first x) h.are }

pub pieces : (p : ℕ → Bool) (xs : List ℕ) → HasPieces p xs
pieces p [] = record { first = []; others = []; are = refl }
pieces p (x ∷ xs) = pieces_more p x xs (p x) refl (pieces p xs)

-- what has no separator goes to the front of the first piece
slice_split-append : (p : ℕ → Bool) (xs ys : List ℕ) (h : HasPieces p ys) → All (λ x. p x ≡ false) xs
    → slice_split p (xs ++ ys) ≡ (xs ++ h.first) ∷ h.others
slice_split-append p [] ys h none = h.are
slice_split-append p (x ∷ xs) ys h none =
    slice_split-cons_no p x (xs ++ ys) (All-head (λ x. p x ≡ false) x xs none)
    ∙ ap (onto_first x) (slice_split-append p xs ys h (All-tail (λ x. p x ≡ false) x xs none))

-- ---- characters

-- another character has no byte that is the separator's
encode_passes_none : (c d : ℕ) → d < 128 → c ≢ d → All (λ b. (b == d) ≡ false) (encode c)
encode_passes_none c d ascii other =
    All-from_get_or (λ b. (b == d) ≡ false) (encode c) 0
    (λ i within. elim (eqb_tells (get_or (encode c) i 0) d) [
      | inl h ↦ absurd (other (inside_one c [] (encode c) i (sym (append-nil (encode c))) within (omega (arith, h.1)) ∙ h.1))
      | inr h ↦ h.0
    ])

-- the first and the other characters of a text
scalar_first : (c : ℕ) (cs : List ℕ) → scalars (c ∷ cs) ≡ true → (scalar c ≡ true) × (scalars cs ≡ true)
scalar_first c cs h = and_parts (scalar c) (scalars cs) h

-- the pieces of a text that is spelled by its characters
chars-pieces : (d : ℕ) → d < 128 → (cs : List ℕ) → scalars cs ≡ true
    → map chars (slice_split (λ b. b == d) (encodes cs)) ≡ slice_split (λ b. b == d) cs
chars-pieces d ascii [] s = ap (λ l. l ∷ []) chars-nil
chars-pieces d ascii (c ∷ cs) s =
    let p : ℕ → Bool = λ b. b == d in
    let both = scalar_first c cs s in
    let more = chars-pieces d ascii cs both.1 in
    elim (eqb_tells c d) [
      | inl h ↦
          ap (λ l. map chars (slice_split p (l ++ encodes cs))) (encode_ascii c (omega (arith, h.1)))
          ∙ ap (map chars) (slice_split-cons_yes p c (encodes cs) h.0)
          ∙ ap (λ l. l ∷ map chars (slice_split p (encodes cs))) chars-nil
          ∙ ap (λ l. [] ∷ l) more
          ∙ sym (slice_split-cons_yes p c cs h.0)
      | inr h ↦
          let f = pieces p (encodes cs) in
          ap (map chars) (slice_split-append p (encode c) (encodes cs) f (encode_passes_none c d ascii h.1))
          ∙ ap (λ l. l ∷ map chars f.others) (chars_more c f.first both.0)
          ∙ ap (λ l. onto_first c (map chars l)) (sym f.are)
          ∙ ap (onto_first c) more
          ∙ sym (slice_split-cons_no p c cs h.0)
    ]

-- the characters of a text's pieces are the pieces of its characters
pub chars-split : (d : ℕ) → d < 128 → (bs : List ℕ) → IsUtf8 bs
    → map chars (slice_split (λ b. b == d) bs) ≡ split d (chars bs)
chars-split d ascii bs u =
    ap (λ l. map chars (slice_split (λ b. b == d) l)) (sym (encodes-chars bs u))
    ∙ chars-pieces d ascii (chars bs) (scalars-chars bs u)
    ∙ sym (split-slice_split d (chars bs))

-- ---- the first separator

position-none : (p : ℕ → Bool) (xs : List ℕ) → NonePass p xs → position_or_len p xs ≡ length xs
position-none p [] none = refl
position-none p (x ∷ xs) none = let e = position-none p xs none.1 in rw none.0 (omega arith)

-- what is before the first element that passes, and what is behind it
pub first-append : (p : ℕ → Bool) (xs : List ℕ) (y : ℕ) (ys : List ℕ) → NonePass p xs → p y ≡ true
    → (before_first p (xs ++ y ∷ ys) ≡ xs) × (after_first p (xs ++ y ∷ ys) ≡ ys)
first-append p xs y ys none t =
    let e = position-append p xs y ys none t in (
      ap (λ n. take n (xs ++ y ∷ ys)) e ∙ take-append_seam xs (y ∷ ys),
      ap (λ n. drop (n + 1) (xs ++ y ∷ ys)) e ∙ drop-append-add xs (y ∷ ys) 1,
    )

pub first-none : (p : ℕ → Bool) (xs : List ℕ) → NonePass p xs → (before_first p xs ≡ xs) × (after_first p xs ≡ [])
first-none p xs none =
    let e = position-none p xs none in (
      ap (λ n. take n xs) e ∙ take-length xs,
      ap (λ n. drop (n + 1) xs) e ∙ drop_of_length-le xs (omega arith),
    )

-- the same of the characters of a text in which an ASCII character is found, by the clause of `split_once`
pub chars-cut : (d : ℕ) → d < 128 → (bs : List ℕ) (i j : ℕ) → IsUtf8 bs → FindsChar d bs (Some (i, j))
    → (chars (take i bs) ≡ before_first (λ c. c == d) (chars bs)) × (chars (drop j bs) ≡ after_first (λ c. c == d) (chars bs))
chars-cut d ascii bs i j u found =
    let at : drop i bs ≡ d ∷ drop j bs = drop_at_char d bs i j found.1 ascii in
    let within : i < length bs = omega (arith, ap length at, length-drop i bs) in
    let front = IsUtf8-take bs i u (IsCharBoundary-before_ascii bs i within (omega (arith, found.1.byte ascii))) in
    let same = chars_from_encodes found.0.0 (take i bs) front found.0.1 in
    let P : List ℕ → Type 0 = NonePass (λ c. c == d) in
    let clean : NonePass (λ c. c == d) (chars (take i bs)) = subst P same found.0.2 in
    let tail : chars (d ∷ drop j bs) ≡ d ∷ chars (drop j bs) =
    ap (λ l. chars (l ++ drop j bs)) (sym (encode_ascii d ascii)) ∙ chars_more d (drop j bs) (low_scalar d (omega arith)) in
    let whole : chars bs ≡ chars (take i bs) ++ d ∷ chars (drop j bs) =
    ap chars (sym (take-append-drop i bs)) ∙ ap (λ l. chars (take i bs ++ l)) at
    ∙ chars-append (take i bs) (d ∷ drop j bs) front ∙ ap (λ l. chars (take i bs) ++ l) tail in
    let parts = first-append (λ c. c == d) (chars (take i bs)) d (chars (drop j bs)) clean ((Decides-eqb d d).1 refl) in (
      sym parts.0 ∙ ap (before_first (λ c. c == d)) (sym whole),
      sym parts.1 ∙ ap (after_first (λ c. c == d)) (sym whole),
    )

-- where it isn't found, all is before it
pub chars-whole : (d : ℕ) (bs : List ℕ) → IsUtf8 bs → FindsChar d bs None
    → (chars bs ≡ before_first (λ c. c == d) (chars bs)) × (chars [] ≡ after_first (λ c. c == d) (chars bs))
chars-whole d bs u none =
    let same = chars_from_encodes none.0 bs u none.1 in
    let P : List ℕ → Type 0 = NonePass (λ c. c == d) in
    let clean : NonePass (λ c. c == d) (chars bs) = subst P same none.2 in
    let parts = first-none (λ c. c == d) (chars bs) clean in
    (sym parts.0, chars-nil ∙ sym parts.1)
