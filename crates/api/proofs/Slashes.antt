-- A path without one slash at its end, by its bytes and by its characters.
use Rattle.std.proofs.Common.{◌≡◌, ◌≢◌, ℕ, ◌<◌, inl, inr, List, [], ◌∷◌, ◌++◌, length, get_or, take, refl, ap, sym, ◌∙◌, subst, lit<, arith}
use Rattle.std.proofs.Math.Seq.{get_or-append_seam, take-append_seam}
use Rattle.std.proofs.Math.Utf8.{encodes, low_scalar}
use Rattle.std.proofs.lemmas.Bool.Decides.{eqb_tells}
use Rattle.std.proofs.lemmas.List.{length-append}
use Rattle.std.proofs.lemmas.Str.{chars-nil, chars-append, encodes-append, encodes-chars, encode_ascii, IsUtf8-take, IsCharBoundary-before_ascii}
use Rattle.std.specs.Str.{chars, IsUtf8}
use Rattle.base_lemmas.proofs.Texts.{chars-encode as chars_more}
use Rattle.model_requests.specs.Routing.{without_slash}

-- with a slash at the end
slash_goes : (cs : List ℕ) → without_slash (cs ++ 47 ∷ []) ≡ cs
slash_goes [] = refl
slash_goes (c ∷ []) = refl
slash_goes (c ∷ d ∷ cs) = ap (λ t. c ∷ t) (slash_goes (d ∷ cs))

-- without one
all_stays : (cs : List ℕ) → ((front : List ℕ) → cs ≢ front ++ 47 ∷ []) → without_slash cs ≡ cs
all_stays [] h = refl
all_stays (c ∷ []) h = elim (eqb_tells c 47) [
  | inl e ↦ absurd (h [] (ap (λ x. x ∷ []) e.1))
  | inr e ↦ rw e.0 refl
]
all_stays (c ∷ d ∷ cs) h = ap (λ t. c ∷ t) (all_stays (d ∷ cs) (λ front e. h (c ∷ front) (ap (λ t. c ∷ t) e)))

slash_chars : chars (47 ∷ []) ≡ 47 ∷ []
slash_chars = ap (λ l. chars (l ++ [])) (sym (encode_ascii 47 (lit< tt))) ∙ chars_more 47 [] (low_scalar 47 (lit< tt)) ∙ ap (λ t. 47 ∷ t) chars-nil

slash_bytes : encodes (47 ∷ []) ≡ 47 ∷ []
slash_bytes = ap (λ l. l ++ []) (encode_ascii 47 (lit< tt))

front_utf8 : (bs front : List ℕ) → IsUtf8 bs → bs ≡ front ++ 47 ∷ [] → IsUtf8 front
front_utf8 bs front u e =
    let within : length front < length bs = omega (arith, ap length e, length-append front (47 ∷ [])) in
    let at : get_or bs (length front) 0 ≡ 47 = ap (λ l. get_or l (length front) 0) e ∙ get_or-append_seam front 47 [] 0 in
    subst IsUtf8 (ap (take (length front)) e ∙ take-append_seam front (47 ∷ [])) (IsUtf8-take bs (length front) u (IsCharBoundary-before_ascii bs (length front) within (omega (arith, at))))

-- the same of the characters of a text
pub slash_taken : (bs front : List ℕ) → IsUtf8 bs → bs ≡ front ++ 47 ∷ [] → chars front ≡ without_slash (chars bs)
slash_taken bs front u e =
    sym (ap without_slash (ap chars e ∙ chars-append front (47 ∷ []) (front_utf8 bs front u e) ∙ ap (λ t. chars front ++ t) slash_chars) ∙ slash_goes (chars front))

pub no_slash_taken : (bs : List ℕ) → IsUtf8 bs → ((front : List ℕ) → bs ≢ front ++ 47 ∷ []) → chars bs ≡ without_slash (chars bs)
no_slash_taken bs u h =
    sym (all_stays (chars bs) (λ front e.
    h (encodes front) (sym (encodes-chars bs u) ∙ ap encodes e ∙ encodes-append front (47 ∷ []) ∙ ap (λ t. encodes front ++ t) slash_bytes)))
