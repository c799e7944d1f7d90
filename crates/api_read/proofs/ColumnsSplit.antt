-- Pieces between separators, character by character.
use Rattle.std.proofs.Common.{◌≡◌, ◌≢◌, ℕ, Bool, true, false, cond, List, [], ◌∷◌, ◌++◌, refl, ap, sym, ◌∙◌, subst}
use Rattle.std.specs.Prelude.{◌==◌}
use Rattle.std.proofs.lemmas.Bool.{ne_eqb}
use Rattle.std.proofs.lemmas.List.{append-nil, append_assoc}
use Rattle.std.proofs.lemmas.Str.{IsUtf8-past_char, chars-append, chars-nil, chars_past_char, encodes-chars}
use Rattle.std.specs.Prelude.{encode_utf8, encode_utf8_all}
use Rattle.std.specs.Str.{IsUtf8, chars}
use Rattle.base_lemmas.proofs.Numbers.{eqb-self as eqb_same}
use Rattle.form_urlencoded.specs.Form.{onto_first, split}

-- one more character at the end of the last piece
abbrev pub at_end : ℕ → List (List ℕ) → List (List ℕ)
at_end c [] = []
at_end c (p ∷ []) = (p ++ c ∷ []) ∷ []
at_end c (p ∷ q ∷ ps) = p ∷ at_end c (q ∷ ps)

pub end_behind : (c : ℕ) (ps : List (List ℕ)) (p : List ℕ) → at_end c (ps ++ p ∷ []) ≡ ps ++ (p ++ c ∷ []) ∷ []
end_behind c [] p = refl
end_behind c (x ∷ []) p = refl
end_behind c (x ∷ y ∷ ps) p = ap (λ qs. x ∷ qs) (end_behind c (y ∷ ps) p)

-- there is a piece
data IsSome : List (List ℕ) → Type 0 where
  some : (p : List ℕ) (ps : List (List ℕ)) → IsSome (p ∷ ps)

onto_some : (b : ℕ) (ps : List (List ℕ)) → IsSome (onto_first b ps)
onto_some b [] = some (b ∷ []) []
onto_some b (p ∷ ps) = some (b ∷ p) ps

some_split : (d : ℕ) (xs : List ℕ) → IsSome (split d xs)
unfolding split
some_split d [] = some [] []
some_split d (x ∷ xs) = by (x == d)
  where
    by : (b : Bool) → IsSome (cond b ([] ∷ split d xs) (onto_first x (split d xs)))
    by true = some [] (split d xs)
    by false = onto_some x (split d xs)

onto_end : (b c : ℕ) (ps : List (List ℕ)) → IsSome ps → onto_first b (at_end c ps) ≡ at_end c (onto_first b ps)
onto_end b c [] h = elim h [ ]
onto_end b c (p ∷ []) h = refl
onto_end b c (p ∷ q ∷ ps) h = refl

new_end : (c : ℕ) (ps : List (List ℕ)) → IsSome ps → [] ∷ at_end c ps ≡ at_end c ([] ∷ ps)
new_end c [] h = elim h [ ]
new_end c (p ∷ ps) h = refl

onto_behind : (b : ℕ) (ps : List (List ℕ)) (p : List ℕ) → IsSome ps → onto_first b (ps ++ p ∷ []) ≡ onto_first b ps ++ p ∷ []
onto_behind b [] p h = elim h [ ]
onto_behind b (q ∷ ps) p h = refl

-- a separator begins a piece
pub split_more : (d : ℕ) (xs : List ℕ) → split d (xs ++ d ∷ []) ≡ split d xs ++ [] ∷ []
unfolding split
split_more d [] = ap (λ (b : Bool). cond b ([] ∷ [] ∷ []) ((d ∷ []) ∷ [])) (eqb_same d)
split_more d (x ∷ xs) = by (x == d) (split_more d xs)
  where
    by : (b : Bool) → split d (xs ++ d ∷ []) ≡ split d xs ++ [] ∷ []
        → cond b ([] ∷ split d (xs ++ d ∷ [])) (onto_first x (split d (xs ++ d ∷ []))) ≡ cond b ([] ∷ split d xs) (onto_first x (split d xs)) ++ [] ∷ []
    by true e = ap (λ (ps : List (List ℕ)). [] ∷ ps) e
    by false e = ap (onto_first x) e ∙ onto_behind x (split d xs) [] (some_split d xs)

-- another character joins the last one
pub split_longer : (d c : ℕ) (xs : List ℕ) → (c == d) ≡ false → split d (xs ++ c ∷ []) ≡ at_end c (split d xs)
unfolding split
split_longer d c [] e = ap (λ (b : Bool). cond b ([] ∷ [] ∷ []) ((c ∷ []) ∷ [])) e
split_longer d c (x ∷ xs) e = by (x == d) (split_longer d c xs e)
  where
    by : (b : Bool) → split d (xs ++ c ∷ []) ≡ at_end c (split d xs)
        → cond b ([] ∷ split d (xs ++ c ∷ [])) (onto_first x (split d (xs ++ c ∷ []))) ≡ at_end c (cond b ([] ∷ split d xs) (onto_first x (split d xs)))
    by true e = ap (λ (ps : List (List ℕ)). [] ∷ ps) e ∙ new_end c (split d xs) (some_split d xs)
    by false e = ap (onto_first x) e ∙ onto_end x c (split d xs) (some_split d xs)

-- ---- the names so far, and the last one

pub comma_begins : (d c : ℕ) (names more : List (List ℕ)) (last next xs : List ℕ) → names ++ last ∷ [] ≡ split d xs → more ≡ names ++ last ∷ [] → next ≡ [] → c ≡ d
    → more ++ next ∷ [] ≡ split d (xs ++ c ∷ [])
comma_begins d c names more last next xs so pushed none is =
    ap (λ (x : List ℕ). more ++ x ∷ []) none ∙ ap (λ (ps : List (List ℕ)). ps ++ [] ∷ []) (pushed ∙ so) ∙ sym (split_more d xs) ∙ ap (λ (y : ℕ). split d (xs ++ y ∷ [])) (sym is)

rest_utf8 : (ds ys : List ℕ) → IsUtf8 (encode_utf8_all ds ++ ys) → IsUtf8 ys
rest_utf8 [] ys u = u
rest_utf8 (d ∷ ds) ys u = rest_utf8 ds ys (IsUtf8-past_char (encode_utf8_all (d ∷ ds) ++ ys) (encode_utf8_all ds ++ ys) d u (rw append_assoc refl))

-- one more character
longer : (bytes next : List ℕ) (c : ℕ) → IsUtf8 bytes → IsUtf8 next → next ≡ bytes ++ encode_utf8 c → chars next ≡ chars bytes ++ c ∷ []
longer bytes next c u v is =
    let one : IsUtf8 (encode_utf8 c) = rest_utf8 (chars bytes) (encode_utf8 c) (subst IsUtf8 (is ∙ ap (λ (x : List ℕ). x ++ encode_utf8 c) (sym (encodes-chars bytes u))) v) in
    ap chars is ∙ chars-append bytes (encode_utf8 c) u
    ∙ ap (λ (x : List ℕ). chars bytes ++ x) (chars_past_char (encode_utf8 c) [] c one (sym (append-nil (encode_utf8 c))) ∙ ap (λ (x : List ℕ). c ∷ x) chars-nil)

pub other_joins : (d c : ℕ) (names : List (List ℕ)) (last next xs : List ℕ) → IsUtf8 last → IsUtf8 next → names ++ chars last ∷ [] ≡ split d xs → next ≡ last ++ encode_utf8 c → (c ≡ d → ⊥)
    → names ++ chars next ∷ [] ≡ split d (xs ++ c ∷ [])
other_joins d c names last next xs u v so joined other =
    ap (λ (x : List ℕ). names ++ x ∷ []) (longer last next c u v joined) ∙ sym (end_behind c names (chars last)) ∙ ap (at_end c) so ∙ sym (split_longer d c xs (ne_eqb c d other))

-- what is between no commas is one empty name
pub none_yet : chars [] ∷ [] ≡ split 44 []
unfolding split chars
none_yet = refl
