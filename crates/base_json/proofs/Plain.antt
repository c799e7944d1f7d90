-- Characters that stand for themselves in a string.
use Rattle.std.proofs.Common.{◌≡◌, ℕ, ◌<◌, ◌≤◌, ◌⊎◌, inl, inr, Bool, true, false, ◌==◌, nat_lt, List, [], ◌∷◌, ◌++◌, refl, sym, ◌∙◌, ap, subst, append_assoc, append-nil, arith, length, length-append, take, drop}
use Rattle.std.specs.List.{flat_map, list_all}
use Rattle.std.specs.Char.{encode_utf8}
use Rattle.std.specs.Str.{IsCharBoundary, IsUtf8, chars, encode_utf8_all}
use Rattle.std.proofs.lemmas.Bool.Decides.{nat_tests}
use Rattle.std.proofs.lemmas.Grind.{flat_map-append}
use Rattle.std.proofs.lemmas.List.Folds.{list_all-append}
use Rattle.std.proofs.lemmas.Str.{IsCharBoundary-from_take, IsUtf8-take, chars-append, encode_ascii, encodes-append, encodes-chars}
use Rattle.std.proofs.lemmas.List.{take-append-drop}
use Rattle.std.proofs.Math.Seq.{take-append_seam}
use Rattle.std.specs.Prelude.{slice_index}
use Rattle.std.specs.String.Boundary.{IsSplitPoint}
use Rattle.std.proofs.lemmas.Bool.{and_parts as both}
use Rattle.base_json.specs.Outcomes.{BeginsWith}
use Rattle.base_json.specs.Printing.{escaped, is_plain, printed_text}

escaped_plain : (c : ℕ) → is_plain c ≡ true → escaped c ≡ c ∷ []
unfolding escaped
escaped_plain c h =
    let quote : (c == 34) ≡ false = grind (arith, nat_tests, h) in
    let back : (c == 92) ≡ false = grind (arith, nat_tests, h) in
    let above : 32 ≤ c = grind (arith, nat_tests, h) in
    let b : (c == 8) ≡ false = grind (arith, nat_tests, above) in
    let t : (c == 9) ≡ false = grind (arith, nat_tests, above) in
    let n : (c == 10) ≡ false = grind (arith, nat_tests, above) in
    let f : (c == 12) ≡ false = grind (arith, nat_tests, above) in
    let r : (c == 13) ≡ false = grind (arith, nat_tests, above) in
    let low : nat_lt c 32 ≡ false = grind (arith, nat_tests, above) in
    rw (quote, back, b, t, n, f, r, low) refl

pub all_plain : (cs : List ℕ) → list_all is_plain cs ≡ true → flat_map escaped cs ≡ cs
all_plain [] h = refl
all_plain (c ∷ cs) h =
    let p = both (is_plain c) (list_all is_plain cs) h in
    rw (escaped_plain c p.0, all_plain cs p.1) refl

pub plain_printed : (text : List ℕ) → list_all is_plain text ≡ true → printed_text text ≡ 34 ∷ (text ++ 34 ∷ [])
plain_printed text h = ap (λ cs. 34 ∷ (cs ++ 34 ∷ [])) (all_plain text h)

order : (c : ℕ) → (c < 128) ⊎ (128 ≤ c)
order c = by_test (nat_lt c 128) refl
  where
    by_test : (b : Bool) → nat_lt c 128 ≡ b → (c < 128) ⊎ (128 ≤ c)
    by_test true e = inl (grind (arith, nat_tests, e))
    by_test false e = inr (grind (arith, nat_tests, e))

-- a character whose bytes are plain is plain
plain_char : (c : ℕ) → list_all is_plain (encode_utf8 c) ≡ true → is_plain c ≡ true
plain_char c h = by_order (order c)
  where
    by_order : (c < 128) ⊎ (128 ≤ c) → is_plain c ≡ true
    by_order (inl low) = (both (is_plain c) true (ap (list_all is_plain) (sym (encode_ascii c low)) ∙ h)).0
    by_order (inr high) = grind (arith, nat_tests, high)

plain_chars : (cs : List ℕ) → list_all is_plain (encode_utf8_all cs) ≡ true → list_all is_plain cs ≡ true
plain_chars [] h = refl
plain_chars (c ∷ cs) h =
    let p = both (list_all is_plain (encode_utf8 c)) (list_all is_plain (encode_utf8_all cs)) (sym (list_all-append is_plain (encode_utf8 c) (encode_utf8_all cs)) ∙ h) in
    rw (plain_char c p.0, plain_chars cs p.1) refl

-- a text whose bytes are plain
pub plain_text : (bytes : List ℕ) → IsUtf8 bytes → list_all is_plain bytes ≡ true → flat_map escaped (chars bytes) ≡ chars bytes
plain_text bytes u h = all_plain (chars bytes) (plain_chars (chars bytes) (ap (list_all is_plain) (encodes-chars bytes u) ∙ h))

-- a byte that isn't plain is a character
pub not_plain : (b : ℕ) → is_plain b ≡ false → b < 128
not_plain b h = grind (arith, nat_tests, h)

-- a text may be cut where a byte isn't plain
pub plain_cut : (bytes given : List ℕ) (n : ℕ) → given ≡ bytes → n ≤ length given → (n < length given → is_plain (slice_index given n) ≡ false) → IsCharBoundary bytes n
plain_cut bytes given n e within back =
    subst (λ (bs : List ℕ). IsCharBoundary bs n) e (within, λ l a. absurd (omega (arith, not_plain (slice_index given n) (back l), a)))

pub cut_chars : (bytes : List ℕ) (n : ℕ) → IsUtf8 bytes → IsCharBoundary bytes n → chars bytes ≡ chars (take n bytes) ++ chars (drop n bytes)
cut_chars bytes n u b = ap chars (sym (take-append-drop n bytes)) ∙ chars-append (take n bytes) (drop n bytes) (IsUtf8-take bytes n u b)

-- ---- what is appended

pub begins_same : (bytes : List ℕ) → BeginsWith bytes bytes
begins_same bytes = ([], sym (append-nil bytes))

pub begins_more : (old mid new more : List ℕ) → new ≡ mid ++ more → BeginsWith mid old → BeginsWith new old
begins_more old mid new more e b = (b.0 ++ more, e ∙ ap (λ bs. bs ++ more) b.1 ∙ append_assoc old b.0 more)

pub begins_far : (old mid new : List ℕ) → BeginsWith new mid → BeginsWith mid old → BeginsWith new old
begins_far old mid new f b = begins_more old mid new f.0 f.1 b

-- a front that is plain is written as it is
pub plain_value : (bytes : List ℕ) (n : ℕ) → IsUtf8 bytes → IsCharBoundary bytes n → list_all is_plain (take n bytes) ≡ true
    → encode_utf8_all (flat_map escaped (chars bytes)) ≡ take n bytes ++ encode_utf8_all (flat_map escaped (chars (drop n bytes)))
plain_value bytes n u b h =
    let front = chars (take n bytes) in
    let back = chars (drop n bytes) in
    let text = IsUtf8-take bytes n u b in
    ap (λ cs. encode_utf8_all (flat_map escaped cs)) (cut_chars bytes n u b) ∙ ap encode_utf8_all (flat_map-append escaped front back)
    ∙ encodes-append (flat_map escaped front) (flat_map escaped back)
    ∙ ap (λ cs. encode_utf8_all cs ++ encode_utf8_all (flat_map escaped back)) (plain_text (take n bytes) text h)
    ∙ ap (λ bs. bs ++ encode_utf8_all (flat_map escaped back)) (encodes-chars (take n bytes) text)

pub rest_shorter : (bytes : List ℕ) (n : ℕ) → IsUtf8 bytes → IsCharBoundary bytes n → length (chars (drop n bytes)) ≤ length (chars bytes)
rest_shorter bytes n u b =
    omega (arith, ap length (cut_chars bytes n u b), length-append (chars (take n bytes)) (chars (drop n bytes)))

-- ---- a turn: a plain front, and the character that ends it, of a content that is written to this target

pub run_ends : (old new plain rest after target : List ℕ) → new ≡ old ++ plain → encode_utf8_all (flat_map escaped rest) ≡ plain ++ encode_utf8_all (flat_map escaped after)
    → after ≡ [] → old ++ encode_utf8_all (flat_map escaped rest) ≡ target → new ≡ target
run_ends old new plain rest after target e v none h =
    e ∙ ap (λ bs. old ++ bs) (sym (v ∙ ap (λ cs. plain ++ encode_utf8_all (flat_map escaped cs)) none ∙ append-nil plain)) ∙ h

pub run_goes : (old mid new plain rest after : List ℕ) (c : ℕ) (tail target : List ℕ) → mid ≡ old ++ plain → encode_utf8_all (flat_map escaped rest) ≡ plain ++ encode_utf8_all (flat_map escaped after)
    → after ≡ c ∷ tail → new ≡ mid ++ encode_utf8_all (escaped c) → old ++ encode_utf8_all (flat_map escaped rest) ≡ target
    → new ++ encode_utf8_all (flat_map escaped tail) ≡ target
run_goes old mid new plain rest after c tail target e v a f h =
    ap (λ bs. bs ++ encode_utf8_all (flat_map escaped tail)) f ∙ append_assoc mid (encode_utf8_all (escaped c)) (encode_utf8_all (flat_map escaped tail))
    ∙ ap (λ bs. mid ++ bs) (sym (encodes-append (escaped c) (flat_map escaped tail)) ∙ ap (λ cs. encode_utf8_all (flat_map escaped cs)) (sym a))
    ∙ ap (λ bs. bs ++ encode_utf8_all (flat_map escaped after)) e ∙ append_assoc old plain (encode_utf8_all (flat_map escaped after))
    ∙ ap (λ bs. old ++ bs) (sym v) ∙ h

-- what was appended is undone by cutting it off
pub undone : (old new cut : List ℕ) (n : ℕ) → n ≡ length old → BeginsWith new old → cut ≡ take n new → cut ≡ old
undone old new cut n e b c = c ∙ ap (λ k. take k new) e ∙ ap (take (length old)) b.1 ∙ take-append_seam old b.0

pub may_cut : (old new : List ℕ) (n : ℕ) → n ≡ length old → IsUtf8 old → IsUtf8 new → BeginsWith new old → IsSplitPoint new n
may_cut old new n e u v b =
    let within : n ≤ length new = omega (arith, e, ap length b.1, length-append old b.0) in
    let cut = IsCharBoundary-from_take new n v within (subst IsUtf8 (sym (undone old new (take n new) n e b refl)) u) in
    (within, λ some l a. cut.1 l a)

-- a string: its content between quotation marks
pub quoted_all : (old first content last cs : List ℕ) → first ≡ old ++ encode_utf8 34 → content ≡ first ++ encode_utf8_all (flat_map escaped cs) → last ≡ content ++ encode_utf8 34
    → last ≡ old ++ encode_utf8_all (printed_text cs)
quoted_all old first content last cs e f g =
    let inner = flat_map escaped cs in
    let text : encode_utf8_all (printed_text cs) ≡ encode_utf8 34 ++ (encode_utf8_all inner ++ encode_utf8 34)
    = ap (λ bs. encode_utf8 34 ++ bs) (encodes-append inner (34 ∷ []) ∙ ap (λ bs. encode_utf8_all inner ++ bs) (append-nil (encode_utf8 34))) in
    g ∙ ap (λ bs. bs ++ encode_utf8 34) (f ∙ ap (λ bs. bs ++ encode_utf8_all inner) e)
    ∙ append_assoc (old ++ encode_utf8 34) (encode_utf8_all inner) (encode_utf8 34) ∙ append_assoc old (encode_utf8 34) (encode_utf8_all inner ++ encode_utf8 34)
    ∙ ap (λ bs. old ++ bs) (sym text)
