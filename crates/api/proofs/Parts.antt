-- A path against a pattern of the definition, by the bytes of its segments.
use Rattle.std.proofs.Common.{◌≡◌, ◌<◌, ℕ, suc, drop, Bool, true, false, cond, List, [], ◌∷◌, length, map, refl, ap, sym, ◌∙◌, arith, ltb, ◌==◌}
use Rattle.std.proofs.Math.Utf8.{encodes}
use Rattle.std.proofs.lemmas.Bool.Decides.{nat_tests}
use Rattle.std.proofs.lemmas.List.Elements.{All-cons, All-nil}
use Rattle.std.proofs.lemmas.Str.{chars-IsAscii, chars-nil, encodes-chars, IsUtf8-from_ascii}
use Rattle.std.proofs.lemmas.Str.Ascii.{IsAscii-from_all}
use Rattle.std.specs.List.{All, list_all}
use Rattle.std.specs.Option.{option_map}
use Rattle.std.specs.Prelude.{bytes_eq, codes, if◌then◌else◌, Option, Some, None}
use Rattle.std.specs.Str.{chars, IsAscii, IsUtf8}
use Rattle.std.proofs.lemmas.Bool.{and_parts as both}
use Rattle.model_requests.specs.Routing.{is_empty, part, parts_by}
use Rattle.api.specs.router.Cuts.{AllUtf8}
use Rattle.api.specs.router.Find.{path_parts}
use Rattle.api.specs.router.Pick.{Piece, text, param}
use Rattle.api.specs.inner.Places.{taken}
use Rattle.api.proofs.Characters.{bytes_eq-chars}

-- ---- texts in ASCII

abbrev pub is_ascii : List ℕ → Bool
is_ascii bs = list_all (λ b. ltb b 128) bs

below : (b : ℕ) → ltb b 128 ≡ true → b < 128
below b h = grind (arith, nat_tests)

all-below : (bs : List ℕ) → is_ascii bs ≡ true → All (λ b. b < 128) bs
all-below [] h = All-nil (λ b. b < 128)
all-below (b ∷ bs) h =
    let h2 = both (ltb b 128) (is_ascii bs) h in
    All-cons (λ x. x < 128) b bs (below b h2.0) (all-below bs h2.1)

ascii : (bs : List ℕ) → is_ascii bs ≡ true → IsAscii bs
ascii bs h = IsAscii-from_all bs (all-below bs h)

-- an ASCII text is a text if it is its characters
bytes_eq-ascii : (ys xs : List ℕ) → IsUtf8 xs → is_ascii ys ≡ true → bytes_eq ys (chars xs) ≡ bytes_eq ys xs
bytes_eq-ascii ys xs u h =
    let a = ascii ys h in
    ap (λ l. bytes_eq l (chars xs)) (sym (chars-IsAscii ys a)) ∙ bytes_eq-chars ys xs (IsUtf8-from_ascii ys a) u

-- ---- empty texts

some-encodes : (cs : List ℕ) (b : ℕ) (bs : List ℕ) → encodes cs ≡ b ∷ bs → is_empty cs ≡ false
some-encodes [] b bs e = cc
some-encodes (c ∷ cs) b bs e = refl

-- a text with bytes has characters
pub some-chars : (b : ℕ) (bs : List ℕ) → IsUtf8 (b ∷ bs) → is_empty (chars (b ∷ bs)) ≡ false
some-chars b bs u = some-encodes (chars (b ∷ bs)) b bs (encodes-chars (b ∷ bs) u)

-- ---- pieces

-- the piece of a pattern that the definition spells so
abbrev pub piece_of : List ℕ → Piece
piece_of p = cond (bytes_eq p (codes "{}")) param (text p)

abbrev Parts : Type 0
Parts = Option (List (List ℕ))

parts-empty : (s : List ℕ) (more : Parts) → s ≡ [] → (if is_empty s then None else option_map (λ l. s ∷ l) more) ≡ None
parts-empty s more e = rw e refl

parts-some : (s : List ℕ) (more : Parts) → is_empty s ≡ false
    → (if is_empty s then None else option_map (λ l. s ∷ l) more) ≡ option_map (λ l. s ∷ l) more
parts-some s more e = rw e refl

onto : (s : List ℕ) (more : Parts) → option_map (λ l. chars s ∷ l) (option_map (map chars) more) ≡ option_map (map chars) (option_map (λ l. s ∷ l) more)
onto s None = refl
onto s (Some l) = refl

if-text : (v : Bool) (more : Parts) → (if v then option_map (map chars) more else None) ≡ option_map (map chars) (cond v more None)
if-text true more = refl
if-text false more = refl

-- one segment, at a piece that is or isn't a parameter
one-segment : (p s : List ℕ) (ps : List Piece) (ss : List (List ℕ)) (more : Parts) → more ≡ option_map (map chars) (path_parts ps ss)
    → is_ascii p ≡ true → IsUtf8 s → (v : Bool)
    → (if v then (if is_empty (chars s) then None else option_map (λ l. chars s ∷ l) more) else (if bytes_eq p (chars s) then more else None))
    ≡ option_map (map chars) (path_parts (cond v param (text p) ∷ ps) (s ∷ ss))
one-segment p [] ps ss more e a u true = parts-empty (chars []) more chars-nil
one-segment p (b ∷ bs) ps ss more e a u true =
    parts-some (chars (b ∷ bs)) more (some-chars b bs u)
    ∙ ap (option_map (λ l. chars (b ∷ bs) ∷ l)) e
    ∙ onto (b ∷ bs) (path_parts ps ss)
one-segment p s ps ss more e a u false =
    ap (λ w. if w then more else None) (bytes_eq-ascii p s u a)
    ∙ ap (λ m. if bytes_eq p s then m else None) e
    ∙ if-text (bytes_eq p s) (path_parts ps ss)

-- the parts of a path by the definition are the characters of its parts by bytes
pub parts-chars : (ps ss : List (List ℕ)) → list_all is_ascii ps ≡ true → AllUtf8 ss
    → parts_by ps (map chars ss) ≡ option_map (map chars) (path_parts (map piece_of ps) ss)
parts-chars [] [] h u = refl
parts-chars [] (s ∷ ss) h u = refl
parts-chars (p ∷ ps) [] h u = by (bytes_eq p (codes "{}"))
  where
    by : (v : Bool) → None ≡ option_map (map chars) (path_parts (cond v param (text p) ∷ map piece_of ps) [])
    by true = refl
    by false = refl
parts-chars (p ∷ ps) (s ∷ ss) h u =
    let h2 = both (is_ascii p) (list_all is_ascii ps) h in
    one-segment p s (map piece_of ps) ss (parts_by ps (map chars ss)) (parts-chars ps ss h2.1 u.1) h2.0 u.0 (bytes_eq p (codes "{}"))

-- ---- parts in turn

pub next-texts : (parts : List (List ℕ × List ℕ)) → AllUtf8 (taken parts) → AllUtf8 (taken (drop 1 parts))
next-texts [] u = tt
next-texts (x ∷ parts) u = u.1

pub none-left : (parts : List (List ℕ × List ℕ)) → (length parts == 0) ≡ true → parts ≡ []
none-left [] e = refl
none-left (x ∷ parts) e = absurd (zero-not (length parts) e)
  where
    zero-not : (n : ℕ) → (suc n == 0) ≡ true → ⊥
    zero-not n e = grind (arith, nat_tests)

pub second-part : (parts : List (List ℕ × List ℕ)) → part 0 (map chars (taken (drop 1 parts))) ≡ part 1 (map chars (taken parts))
second-part [] = refl
second-part (x ∷ parts) = refl

pub third-part : (parts : List (List ℕ × List ℕ)) → part 0 (map chars (taken (drop 1 (drop 1 parts)))) ≡ part 2 (map chars (taken parts))
third-part [] = refl
third-part (x ∷ []) = refl
third-part (x ∷ (y ∷ parts)) = refl
