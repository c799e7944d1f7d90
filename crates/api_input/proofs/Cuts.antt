-- A text cut at its first `:`, by its bytes and by its characters.
use Rattle.std.proofs.Common.{◌≡◌, ℕ, ◌+◌, ◌<◌, Bool, true, false, List, [], ◌∷◌, ◌++◌, length, take, drop, Option, Some, None, refl, ap, sym, ◌∙◌, subst, arith, lit<}
use Rattle.std.proofs.Math.Seq.{take-append_seam, drop-append-add}
use Rattle.std.proofs.Math.Utf8.{low_scalar}
use Rattle.std.proofs.lemmas.Bool.Decides.{Decides-eqb}
use Rattle.std.proofs.lemmas.List.{take-append-drop, length-drop}
use Rattle.std.proofs.lemmas.Str.{chars-append, encode_ascii, chars_from_encodes, IsUtf8-take, IsCharBoundary-before_ascii}
use Rattle.std.proofs.lemmas.Str.Pattern.{drop_at_char}
use Rattle.std.specs.Borrow.{Bor}
use Rattle.std.specs.List.{after_first, before_first, list_any}
use Rattle.std.specs.Prelude.{◌==◌, MatchOption}
use Rattle.std.specs.Str.{IsUtf8, NonePass, chars}
use Rattle.std.specs.Str.Pattern.{FindsChar, SplitsAroundMatch}
use Rattle.base_lemmas.proofs.Texts.{chars-encode as chars_more}
use Rattle.base_lemmas.proofs.Lists.{position_or_len-append as position-append}
use Rattle.base_lemmas.proofs.Bools.{or-true as or_true}
use Rattle.model.specs.Members.{is_colon}

-- ---- the first element that passes

any-append : (p : ℕ → Bool) (xs : List ℕ) (y : ℕ) (ys : List ℕ) → p y ≡ true → list_any p (xs ++ y ∷ ys) ≡ true
any-append p [] y ys t = rw t refl
any-append p (x ∷ xs) y ys t = rw (any-append p xs y ys t) (or_true (p x))

any-none : (p : ℕ → Bool) (xs : List ℕ) → NonePass p xs → list_any p xs ≡ false
any-none p [] none = refl
any-none p (x ∷ xs) none = rw none.0 (any-none p xs none.1)

-- a list with what is before the first that passes, and what is behind it
record IsCut (p : ℕ → Bool) (xs front back : List ℕ) : Type 0 where
  has : list_any p xs ≡ true
  before : front ≡ before_first p xs
  behind : back ≡ after_first p xs

cut-append : (p : ℕ → Bool) (front : List ℕ) (y : ℕ) (back : List ℕ) → NonePass p front → p y ≡ true → IsCut p (front ++ y ∷ back) front back
cut-append p front y back none t =
    let e = position-append p front y back none t in
    record {
      has = any-append p front y back t;
      before = sym (ap (λ n. take n (front ++ y ∷ back)) e ∙ take-append_seam front (y ∷ back));
      behind = sym (ap (λ n. drop (n + 1) (front ++ y ∷ back)) e ∙ drop-append-add front (y ∷ back) 1);
    }

-- ---- characters

-- the characters of a text in which an ASCII character is found
chars-cut : (d : ℕ) → d < 128 → (bs : List ℕ) (i j : ℕ) → IsUtf8 bs → FindsChar d bs (Some (i, j)) → IsCut (λ c. c == d) (chars bs) (chars (take i bs)) (chars (drop j bs))
chars-cut d ascii bs i j u found =
    let at : drop i bs ≡ d ∷ drop j bs = drop_at_char d bs i j found.1 ascii in
    let within : i < length bs = omega (arith, ap length at, length-drop i bs) in
    let front = IsUtf8-take bs i u (IsCharBoundary-before_ascii bs i within (omega (arith, found.1.byte ascii))) in
    let same = chars_from_encodes found.0.0 (take i bs) front found.0.1 in
    let P : List ℕ → Type 0 = NonePass (λ c. c == d) in
    let clean : NonePass (λ c. c == d) (chars (take i bs)) = subst P same found.0.2 in
    let tail : chars (d ∷ drop j bs) ≡ d ∷ chars (drop j bs) =
    ap (λ l. chars (l ++ drop j bs)) (sym (encode_ascii d ascii)) ∙ chars_more d (drop j bs) (low_scalar d (omega arith)) in
    let whole : chars bs ≡ chars (take i bs) ++ d ∷ chars (drop j bs) =
    ap chars (sym (take-append-drop i bs)) ∙ ap (λ l. chars (take i bs ++ l)) at
    ∙ chars-append (take i bs) (d ∷ drop j bs) front ∙ ap (λ l. chars (take i bs) ++ l) tail in
    subst (λ cs. IsCut (λ c. c == d) cs (chars (take i bs)) (chars (drop j bs))) (sym whole)
    (cut-append (λ c. c == d) (chars (take i bs)) d (chars (drop j bs)) clean ((Decides-eqb d d).1 refl))

-- where it isn't found, none is it
none-found : (d : ℕ) (bs : List ℕ) → IsUtf8 bs → FindsChar d bs None → list_any (λ c. c == d) (chars bs) ≡ false
none-found d bs u none =
    let P : List ℕ → Type 0 = NonePass (λ c. c == d) in
    any-none (λ c. c == d) (chars bs) (subst P (chars_from_encodes none.0 bs u none.1) none.2)

-- what `split_once` returns at `:`, of the characters of the text
pub cut_parts : (bs cs : List ℕ) (r : Option (Bor (List ℕ) × Bor (List ℕ))) → chars bs ≡ cs → IsUtf8 bs
    → MatchOption r (FindsChar 58 bs None) (λ x. SplitsAroundMatch (FindsChar 58) bs x.0.now x.1.now)
    → MatchOption r (list_any is_colon cs ≡ false) (λ x. (list_any is_colon cs ≡ true) × (chars x.0.now ≡ before_first is_colon cs) × (chars x.1.now ≡ after_first is_colon cs))
cut_parts bs cs None e u none = ap (list_any is_colon) (sym e) ∙ none-found 58 bs u none
cut_parts bs cs (Some x) e u parts =
    let (i, j, found, front, back, _, _, _) = parts in
    let cut = chars-cut 58 (lit< tt) bs i j u found in (
      ap (list_any is_colon) (sym e) ∙ cut.has,
      ap chars front ∙ cut.before ∙ ap (before_first is_colon) e,
      ap chars back ∙ cut.behind ∙ ap (after_first is_colon) e,
    )
