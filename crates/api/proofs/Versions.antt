-- The version of a path, by its bytes and by its characters.
use Rattle.std.proofs.Common.{◌≡◌, ◌≢◌, ℕ, zero, suc, ◌≤◌, Bool, true, ◌&&◌, inl, inr, List, [], ◌∷◌, ◌++◌, length, get_or, take, drop, refl, ap, sym, ◌∙◌, subst, lit<, arith, Some, None}
use Rattle.std.proofs.Math.Utf8.{encodes, low_scalar}
use Rattle.std.proofs.lemmas.Bool.{and_parts, and_from, both_ways, cases_Bool, leb-true, eqb-true}
use Rattle.std.proofs.lemmas.List.{take-append-drop}
use Rattle.std.proofs.lemmas.Slice.Eq.{bytes_eq-Decides}
use Rattle.std.proofs.lemmas.Str.{chars-nil, chars-append, chars-IsAscii, encodes-append, encodes-chars, encodes-IsAscii, encode_ascii, IsUtf8-from_ascii, IsUtf8-from_is_utf8}
use Rattle.std.proofs.lemmas.Str.Ascii.{IsAscii-cons, IsAscii-nil}
use Rattle.std.specs.Char.{encode_utf8}
use Rattle.std.specs.Prelude.{bytes_eq, codes, nat_le, ◌==◌, Option}
use Rattle.std.specs.Str.{chars, IsUtf8, IsAscii, is_utf8}
use Rattle.std.specs.Str.Pattern.{FindsText}
use Rattle.base_lemmas.proofs.Texts.{chars-encode as chars_more}
use Rattle.model_requests.specs.Routing.{as_served, begins_with_version, is_part_end, is_version}

-- ---- a version

-- two digits, `.0`, and the end of a path or of a part of it
record Version (text : List ℕ) : Type 0 where
  first : ℕ
  second : ℕ
  rest : List ℕ
  is : text ≡ first ∷ second ∷ 46 ∷ 48 ∷ rest
  counts : is_version first second ≡ true
  ends : is_part_end rest ≡ true

-- the first character is a digit, and so is the second
digits_of : (c d : ℕ) → is_version c d ≡ true → ((48 ≤ c) × (c ≤ 57)) × ((48 ≤ d) × (d ≤ 57))
digits_of c d h =
    let two = and_parts _ _ h in
    let one = and_parts (nat_le 48 c) (nat_le c 57) two.0 in
    let other = and_parts (nat_le 48 d) (nat_le d 57) (and_parts _ _ two.1).0 in
    ((leb-true 48 c one.0, leb-true c 57 one.1), (leb-true 48 d other.0, leb-true d 57 other.1))

version_of : (text : List ℕ) → begins_with_version text ≡ true → Version text
version_of [] h = cc
version_of (c ∷ []) h = cc
version_of (c ∷ d ∷ []) h = cc
version_of (c ∷ d ∷ e ∷ []) h = cc
version_of (c ∷ d ∷ e ∷ f ∷ rest) h =
    let counts = and_parts (is_version c d) _ h in
    let point = and_parts (e == 46) _ counts.1 in
    let zero = and_parts (f == 48) _ point.1 in
    record {
      first = c;
      second = d;
      rest = rest;
      is = ap (λ n. c ∷ d ∷ n ∷ f ∷ rest) (eqb-true e 46 point.0) ∙ ap (λ n. c ∷ d ∷ 46 ∷ n ∷ rest) (eqb-true f 48 zero.0);
      counts = counts.0;
      ends = zero.1;
    }

begins : (c d : ℕ) (rest : List ℕ) → is_version c d ≡ true → is_part_end rest ≡ true → begins_with_version (c ∷ d ∷ 46 ∷ 48 ∷ rest) ≡ true
begins c d rest counts ends = and_from (is_version c d) (is_part_end rest) counts ends

-- ---- a path with a version

-- the test of the definition
abbrev has_version : List ℕ → Bool
has_version path = bytes_eq (take 16 path) (codes "/services/data/v") && begins_with_version (drop 16 path)

-- a path with a version that is served
record Versioned (path : List ℕ) : Type 0 where
  text : List ℕ
  is : path ≡ codes "/services/data/v" ++ text
  version : Version text

versioned : (path : List ℕ) → has_version path ≡ true → Versioned path
versioned path h =
    let both = and_parts (bytes_eq (take 16 path) (codes "/services/data/v")) (begins_with_version (drop 16 path)) h in
    record {
      text = drop 16 path;
      is = sym (take-append-drop 16 path) ∙ ap (λ l. l ++ drop 16 path) ((bytes_eq-Decides (take 16 path) (codes "/services/data/v")).0 both.0);
      version = version_of (drop 16 path) both.1;
    }

has : (path : List ℕ) → Versioned path → has_version path ≡ true
has path v =
    ap has_version (v.is ∙ ap (λ l. codes "/services/data/v" ++ l) v.version.is)
    ∙ begins v.version.first v.version.second v.version.rest v.version.counts v.version.ends

-- it is served with version 59
changed_here : (c d : ℕ) (rest : List ℕ) → is_version c d ≡ true → is_part_end rest ≡ true
    → as_served (codes "/services/data/v" ++ c ∷ d ∷ 46 ∷ 48 ∷ rest) ≡ codes "/services/data/v59.0" ++ rest
changed_here c d rest counts ends = rw counts (rw ends refl)

changed : (path : List ℕ) (v : Versioned path) → as_served path ≡ codes "/services/data/v59.0" ++ v.version.rest
changed path v =
    ap as_served (v.is ∙ ap (λ l. codes "/services/data/v" ++ l) v.version.is)
    ∙ changed_here v.version.first v.version.second v.version.rest v.version.counts v.version.ends

-- any other path is served as it is
stays : (path : List ℕ) → (Versioned path → ⊥) → as_served path ≡ path
stays path none = elim (cases_Bool (has_version path)) [
  | inl h ↦ absurd (none (versioned path h))
  | inr h ↦ rw h refl
]

-- ---- its characters

-- what begins a path with a version is ASCII
front_utf8 : IsUtf8 (codes "/services/data/v")
unfolding is_utf8 chars encode_utf8
front_utf8 = IsUtf8-from_is_utf8 (codes "/services/data/v") refl

front_chars : (text : List ℕ) → chars (codes "/services/data/v" ++ text) ≡ codes "/services/data/v" ++ chars text
unfolding chars
front_chars text = chars-append (codes "/services/data/v") text front_utf8

served_utf8 : IsUtf8 (codes "/services/data/v59.0")
unfolding is_utf8 chars encode_utf8
served_utf8 = IsUtf8-from_is_utf8 (codes "/services/data/v59.0") refl

served_chars : (text : List ℕ) → chars (codes "/services/data/v59.0" ++ text) ≡ codes "/services/data/v59.0" ++ chars text
unfolding chars
served_chars text = chars-append (codes "/services/data/v59.0") text served_utf8

front_bytes : (text : List ℕ) → encodes (codes "/services/data/v" ++ text) ≡ codes "/services/data/v" ++ encodes text
unfolding encode_utf8
front_bytes text = encodes-append (codes "/services/data/v") text

-- and so is a version
version_ascii : (c d : ℕ) → is_version c d ≡ true → IsAscii (c ∷ d ∷ 46 ∷ 48 ∷ [])
version_ascii c d counts =
    let digits = digits_of c d counts in
    IsAscii-cons c (d ∷ 46 ∷ 48 ∷ []) (omega (arith, digits.0.1)) (IsAscii-cons d (46 ∷ 48 ∷ []) (omega (arith, digits.1.1)) (IsAscii-cons 46 (48 ∷ []) (lit< tt) (IsAscii-cons 48 [] (lit< tt) IsAscii-nil)))

slash_first : (bs : List ℕ) → chars (47 ∷ bs) ≡ 47 ∷ chars bs
slash_first bs = ap (λ l. chars (l ++ bs)) (sym (encode_ascii 47 (lit< tt))) ∙ chars_more 47 bs (low_scalar 47 (lit< tt))

end_chars : (rest : List ℕ) → is_part_end rest ≡ true → is_part_end (chars rest) ≡ true
end_chars [] h = ap is_part_end chars-nil
end_chars (b ∷ bs) h = ap is_part_end (ap (λ n. chars (n ∷ bs)) (eqb-true b 47 h) ∙ slash_first bs)

end_bytes : (rest : List ℕ) → is_part_end rest ≡ true → is_part_end (encodes rest) ≡ true
end_bytes [] h = refl
end_bytes (c ∷ cs) h = ap (λ n. is_part_end (encodes (n ∷ cs))) (eqb-true c 47 h) ∙ ap (λ l. is_part_end (l ++ encodes cs)) (encode_ascii 47 (lit< tt))

version_chars : (text : List ℕ) → Version text → Version (chars text)
version_chars text v =
    let ascii = version_ascii v.first v.second v.counts in
    let four = v.first ∷ v.second ∷ 46 ∷ 48 ∷ [] in
    record {
      first = v.first;
      second = v.second;
      rest = chars v.rest;
      is = ap chars v.is ∙ chars-append four v.rest (IsUtf8-from_ascii four ascii) ∙ ap (λ l. l ++ chars v.rest) (chars-IsAscii four ascii);
      counts = v.counts;
      ends = end_chars v.rest v.ends;
    }

version_bytes : (text : List ℕ) → Version text → Version (encodes text)
version_bytes text v =
    let four = v.first ∷ v.second ∷ 46 ∷ 48 ∷ [] in
    record {
      first = v.first;
      second = v.second;
      rest = encodes v.rest;
      is = ap encodes v.is ∙ encodes-append four v.rest ∙ ap (λ l. l ++ encodes v.rest) (encodes-IsAscii four (version_ascii v.first v.second v.counts));
      counts = v.counts;
      ends = end_bytes v.rest v.ends;
    }

versioned_chars : (bs : List ℕ) → Versioned bs → Versioned (chars bs)
versioned_chars bs v = record { text = chars v.text; is = ap chars v.is ∙ front_chars v.text; version = version_chars v.text v.version }

versioned_bytes : (bs : List ℕ) → IsUtf8 bs → Versioned (chars bs) → Versioned bs
versioned_bytes bs u v =
    record {
      text = encodes v.text;
      is = sym (encodes-chars bs u) ∙ ap encodes v.is ∙ front_bytes v.text;
      version = version_bytes v.text v.version;
    }

-- what is served for a text is served for its characters
pub as_served-chars : (bs : List ℕ) → IsUtf8 bs → chars (as_served bs) ≡ as_served (chars bs)
unfolding versioned_chars version_chars
as_served-chars bs u = elim (cases_Bool (has_version bs)) [
  | inl h ↦
      let v = versioned bs h in
      ap chars (changed bs v) ∙ served_chars v.version.rest ∙ sym (changed (chars bs) (versioned_chars bs v))
  | inr h ↦
      ap chars (stays bs (λ v. both_ways (has_version bs) h (has bs v)))
      ∙ sym (stays (chars bs) (λ v. both_ways (has_version bs) h (has bs (versioned_bytes bs u v))))
]

-- ---- the text of a version is cut at its `.0`

abbrev Point : List ℕ → Option (ℕ × ℕ) → Type 0
Point text r = FindsText (46 ∷ 48 ∷ []) text r

cut_here : (c d : ℕ) (rest : List ℕ) → is_version c d ≡ true → (i j : ℕ) → Point (c ∷ d ∷ 46 ∷ 48 ∷ rest) (Some (i, j)) → i ≡ 2
cut_here c d rest counts zero j found =
    let digits = digits_of c d counts in
    absurd (omega (arith, digits.0.0, ap (λ l. get_or l 0 0) found.1.split))
cut_here c d rest counts (suc zero) j found =
    let digits = digits_of c d counts in
    absurd (omega (arith, digits.1.0, ap (λ l. get_or l 0 0) found.1.split))
cut_here c d rest counts (suc (suc zero)) j found = refl
cut_here c d rest counts (suc (suc (suc n))) j found = absurd (found.0 2 (omega arith) rest refl)

cut : (text : List ℕ) (v : Version text) (i j : ℕ) → Point text (Some (i, j)) → (i ≡ 2) × (j ≡ 4)
cut text v i j found =
    let at : i ≡ 2 = cut_here v.first v.second v.rest v.counts i j (subst (λ l. Point l (Some (i, j))) v.is found) in
    (at, omega (arith, at, found.1.ends))

text_of : (path text : List ℕ) → path ≡ codes "/services/data/v" ++ text → Versioned path → Version text
text_of path text is v = subst Version (ap (drop 16) (sym v.is ∙ is)) v.version

-- a path that begins otherwise
pub lacks_front : (path : List ℕ) → ((rest : List ℕ) → path ≢ codes "/services/data/v" ++ rest) → as_served path ≡ path
lacks_front path lacks = stays path (λ v. lacks v.text v.is)

-- a path without `.0`
pub lacks_point : (path text : List ℕ) → path ≡ codes "/services/data/v" ++ text → Point text None → as_served path ≡ path
lacks_point path text is lacks = stays path (λ v.
    let w = text_of path text is v in
    lacks 2 (omega (arith, ap length w.is)) w.rest (ap (drop 2) w.is))

-- a path whose version isn't served, or goes on
pub lacks_version : (path text : List ℕ) (i j : ℕ) → path ≡ codes "/services/data/v" ++ text → Point text (Some (i, j))
    → ((c d : ℕ) → take i text ≡ c ∷ d ∷ [] → is_version c d ≡ true → is_part_end (drop j text) ≡ true → ⊥)
    → as_served path ≡ path
lacks_version path text i j is found none = stays path (λ v.
    let w = text_of path text is v in
    let at = cut text w i j found in
    none w.first w.second
    (ap (λ n. take n text) at.0 ∙ ap (take 2) w.is)
    w.counts
    (ap (λ n. is_part_end (drop n text)) at.1 ∙ ap (λ l. is_part_end (drop 4 l)) w.is ∙ w.ends))

-- ---- version 59

-- a version that is served as itself is this one
fifty_nine : (path : List ℕ) (v : Versioned path) → as_served path ≡ path → (53 ≡ v.version.first) × (57 ≡ v.version.second)
fifty_nine path v e =
    let is : codes "/services/data/v59.0" ++ v.version.rest ≡ codes "/services/data/v" ++ v.version.first ∷ v.version.second ∷ 46 ∷ 48 ∷ v.version.rest =
    sym (changed path v) ∙ e ∙ v.is ∙ ap (λ l. codes "/services/data/v" ++ l) v.version.is in
    (ap (λ l. get_or l 16 0) is, ap (λ l. get_or l 17 0) is)

-- so any other one is served as another path
pub other : (path text : List ℕ) (i j : ℕ) → path ≡ codes "/services/data/v" ++ text → Point text (Some (i, j))
    → (c d : ℕ) → take i text ≡ c ∷ d ∷ [] → is_version c d ≡ true → is_part_end (drop j text) ≡ true
    → c ∷ d ∷ [] ≢ codes "59" → as_served (chars path) ≢ chars path
unfolding versioned_chars version_chars
other path text i j is found c d digits counts ends no_59 e =
    let whole : text ≡ c ∷ d ∷ 46 ∷ 48 ∷ drop j text = sym (take-append-drop i text) ∙ ap (λ l. l ++ drop i text) digits ∙ ap (λ l. c ∷ d ∷ l) found.1.split in
    let v : Version text = record { first = c; second = d; rest = drop j text; is = whole; counts = counts; ends = ends } in
    let w : Versioned path = record { text = text; is = is; version = v } in
    let h = fifty_nine (chars path) (versioned_chars path w) e in
    no_59 (ap (λ n. n ∷ d ∷ []) (sym h.0) ∙ ap (λ n. 53 ∷ n ∷ []) (sym h.1))
