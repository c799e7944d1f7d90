-- The values of the lines with a name, line by line.
use Rattle.std.proofs.Common.{◌≡◌, ℕ, ◌+◌, ◌<◌, Bool, true, false, cond, List, [], ◌∷◌, ◌++◌, length, take, map, get_or, refl, sym, ap, ◌∙◌, arith, append-nil, add-one, subst}
use Rattle.std.proofs.Math.Seq.{take-suc}
use Rattle.std.specs.List.{list_any}
use Rattle.std.proofs.Common.{◌&&◌, ◌||◌, zero, suc}
use Rattle.std.proofs.lemmas.Bool.{and_from as both, or_left as or_first, or_right as or_second}
use Rattle.std.proofs.lemmas.List.{map-append as map_append}
use Rattle.httparse.specs.Spans.{IsWithin, span_bytes, header_bytes, IsHeaderWithin}
use Rattle.httparse.specs.declared.spans.HeaderSpan.{HeaderSpan}
use Rattle.httparse.specs.declared.spans.Span.{Span}
use Rattle.server_http.specs.declared.lines.Found.{Found}
use Rattle.server_http.specs.declared.lines.Found.TheVariants.{None, One, Several}
use Rattle.server_http.specs.Framing.{is_named, values_named}
use Rattle.server_http.specs.Found.{FoundIs, more_found, found_after}

cond_append : {A : Type 0} (b : Bool) (x : A) (xs ys : List A) → cond b (x ∷ (xs ++ ys)) (xs ++ ys) ≡ cond b (x ∷ xs) xs ++ ys
cond_append true x xs ys = refl
cond_append false x xs ys = refl

map_cond : {A B : Type 0} (f : A → B) (b : Bool) (x : A) (xs : List A) → map f (cond b (x ∷ xs) xs) ≡ cond b (f x ∷ map f xs) (map f xs)
map_cond f true x xs = refl
map_cond f false x xs = refl

pub values_append : (name : List ℕ) (ls ks : List (List ℕ × List ℕ)) → values_named name (ls ++ ks) ≡ values_named name ls ++ values_named name ks
values_append name [] ks = refl
values_append name (l ∷ ls) ks =
    map_cond (λ line. line.1) (is_named name l) l _
    ∙ ap (λ vs. cond (is_named name l) (l.1 ∷ vs) vs) (values_append name ls ks)
    ∙ cond_append (is_named name l) l.1 _ _
    ∙ ap (λ vs. vs ++ values_named name ks) (sym (map_cond (λ line. line.1) (is_named name l) l _))

-- one more line
pub values_more : (name bytes : List ℕ) (lines : List HeaderSpan) (i : ℕ) (d : HeaderSpan) → i < length lines
    → values_named name (map (header_bytes bytes) (take (i + 1) lines))
    ≡ values_named name (map (header_bytes bytes) (take i lines)) ++ values_named name (header_bytes bytes (get_or lines i d) ∷ [])
values_more name bytes lines i d h =
    ap (λ ls. values_named name (map (header_bytes bytes) ls)) (ap (λ k. take k lines) (add-one i) ∙ take-suc lines i d h)
    ∙ ap (values_named name) (map_append (header_bytes bytes) (take i lines) (get_or lines i d ∷ []))
    ∙ values_append name _ _

pub found_more : (bytes : List ℕ) (values : List (List ℕ)) (found : Found) (span : Span) → FoundIs bytes values found → IsWithin (length bytes) span
    → FoundIs bytes (values ++ span_bytes bytes span ∷ []) (more_found found span)
found_more bytes values None span is within = (within, ap (λ l. l ++ span_bytes bytes span ∷ []) is)
found_more bytes values (One other) span is within = (span_bytes bytes other, span_bytes bytes span, [], ap (λ l. l ++ span_bytes bytes span ∷ []) is.1)
found_more bytes values Several span (a, b, more, e) within = (a, b, more ++ span_bytes bytes span ∷ [], ap (λ l. l ++ span_bytes bytes span ∷ []) e)

found_cond : (b : Bool) (bytes : List ℕ) (values : List (List ℕ)) (found : Found) (span : Span) → FoundIs bytes values found → IsWithin (length bytes) span
    → FoundIs bytes (values ++ cond b (span_bytes bytes span ∷ []) []) (cond b (more_found found span) found)
found_cond true bytes values found span is within = found_more bytes values found span is within
found_cond false bytes values found span is within = let P : List (List ℕ) → Type 0 = λ vs. FoundIs bytes vs found in subst P (sym (append-nil values)) is

pub found_step : (name bytes : List ℕ) (lines : List HeaderSpan) (i : ℕ) (d : HeaderSpan) (found : Found) → i < length lines
    → FoundIs bytes (values_named name (map (header_bytes bytes) (take i lines))) found
    → IsHeaderWithin (length bytes) (get_or lines i d)
    → FoundIs bytes (values_named name (map (header_bytes bytes) (take (i + 1) lines))) (found_after bytes name found (get_or lines i d))
found_step name bytes lines i d found h is within =
    let line = get_or lines i d in
    let b = is_named name (header_bytes bytes line) in
    let P : List (List ℕ) → Type 0 = λ vs. FoundIs bytes vs (found_after bytes name found line) in
    subst P (sym (values_more name bytes lines i d h ∙ ap (λ vs. values_named name (map (header_bytes bytes) (take i lines)) ++ vs) (map_cond (λ l. l.1) b (header_bytes bytes line) [])))
    (found_cond b bytes (values_named name (map (header_bytes bytes) (take i lines))) found line.value is within.1)

any_cond : (p : List ℕ → Bool) (b : Bool) (v : List ℕ) (vs : List (List ℕ)) → list_any p (cond b (v ∷ vs) vs) ≡ ((b && p v) || list_any p vs)
any_cond p true v vs = refl
any_cond p false v vs = refl

pub any_at : (p : List ℕ → Bool) (name bytes : List ℕ) (lines : List HeaderSpan) (i : ℕ) (d : HeaderSpan) → i < length lines
    → is_named name (header_bytes bytes (get_or lines i d)) ≡ true → p (header_bytes bytes (get_or lines i d)).1 ≡ true
    → list_any p (values_named name (map (header_bytes bytes) lines)) ≡ true
any_at p name bytes [] i d h named passes = absurd (omega arith)
any_at p name bytes (l ∷ ls) zero d h named passes =
    let line = header_bytes bytes l in
    ap (list_any p) (map_cond (λ k. k.1) (is_named name line) line _) ∙ any_cond p (is_named name line) line.1 _ ∙ or_first _ _ (both _ _ named passes)
any_at p name bytes (l ∷ ls) (suc i) d h named passes =
    let line = header_bytes bytes l in
    ap (list_any p) (map_cond (λ k. k.1) (is_named name line) line _) ∙ any_cond p (is_named name line) line.1 _ ∙ or_second _ _ (any_at p name bytes ls i d (omega arith) named passes)
