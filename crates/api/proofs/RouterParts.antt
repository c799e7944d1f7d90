-- The parts that parameters took are the segments where the pattern has parameters.
use Rattle.std.proofs.Common.{◌≡◌, ℕ, zero, suc, ◌+◌, ◌-◌, ◌<◌, ◌≤◌, List, [], ◌∷◌, ◌++◌, length, take, drop, get_or, map, Option, Some, None, Bool, true, false, cond, refl, sym, ap, ◌∙◌, arith, ltb, leb, ◌&&◌, length-append as length-both, lt-ltb as below, le-leb as within, le-ltb as not-below}
use Rattle.std.specs.Cmp.Lexicographic.{bytes_decides}
use Rattle.std.specs.Prelude.{is_some}
use Rattle.matchit.specs.Params.{walk, wild_from, wild_stop, part_of, after_token, next_at}
use Rattle.matchit.specs.Rows.{param_token}
use Rattle.matchit.specs.Seek.{segment, same_text}
use Rattle.api.specs.router.Pick.{Piece, text, param, piece_tokens, tokens, slashed, IsPlain, AllPlain, IsPlainPattern}
use Rattle.api.specs.router.Find.{path_parts, with_part, arity}
use Rattle.api.proofs.Walks.{segment-slash, length-more}

drop-more : (n m : ℕ) (xs : List ℕ) → drop (n + m) xs ≡ drop m (drop n xs)
drop-more zero m xs = ap (λ k. drop k xs) (omega arith)
drop-more (suc n) m [] = by m
  where
    by : (m : ℕ) → drop {A = ℕ} (suc n + m) [] ≡ drop m []
    by m = grind arith
drop-more (suc n) m (x ∷ xs) =
    let e : suc n + m ≡ suc (n + m) = omega arith in
    ap (λ k. drop k (x ∷ xs)) e ∙ drop-more n m xs

drop-front : (t r : List ℕ) → drop (length t) (t ++ r) ≡ r
drop-front [] r = refl
drop-front (x ∷ t) r = drop-front t r

take-front : (t r : List ℕ) → take (length t) (t ++ r) ≡ t
take-front [] r = refl
take-front (x ∷ t) r = ap (λ l. x ∷ l) (take-front t r)

get-front : (n : ℕ) (xs : List ℕ) (x : ℕ) (r : List ℕ) → drop n xs ≡ x ∷ r → get_or xs n 0 ≡ x
get-front zero (y ∷ xs) x r e = cc
get-front zero [] x r e = cc
get-front (suc n) [] x r e = cc
get-front (suc n) (y ∷ xs) x r e = get-front n xs x r e

-- bytes of the pattern and of the path pass together
wild-slash : (r : List ℕ) (len token at : ℕ) → at < len → wild_from (47 ∷ r) len token at ≡ wild_from r len (token + 1) (at + 1)
wild-slash r len token at h = ap (λ v. wild_from r len (token + 1) (cond v (at + 1) at)) (below at len h)

wild-literal : (t r : List ℕ) (len token at : ℕ) → IsPlain t → at + length t ≤ len
    → wild_from (t ++ r) len token at ≡ wild_from r len (token + length t) (at + length t)
wild-literal [] r len token at p h =
    ap (λ n. wild_from r len n at) (omega arith) ∙ ap (λ n. wild_from r len (token + 0) n) (omega arith)
wild-literal (x ∷ t) r len token at p h =
    ap (λ v. cond v (wild_from (t ++ r) len (token + 1) (next_at len at)) (token, at)) (below x param_token p.0)
    ∙ ap (λ v. wild_from (t ++ r) len (token + 1) (cond v (at + 1) at)) (below at len (omega arith))
    ∙ wild-literal t r len (token + 1) (at + 1) p.2 (omega arith)
    ∙ ap (λ n. wild_from r len n ((at + 1) + length t)) (omega arith)
    ∙ ap (λ n. wild_from r len (token + suc (length t)) n) (omega arith)

-- the walk goes by what is behind the literals
walk-same : (pattern spelled path : List ℕ) (names : List (ℕ × ℕ)) (token at later_token later_at : ℕ)
    → wild_from (drop token pattern) (length path) token at ≡ wild_from (drop later_token pattern) (length path) later_token later_at
    → walk pattern spelled path names token at ≡ walk pattern spelled path names later_token later_at
walk-same pattern spelled path [] token at later_token later_at e = refl
walk-same pattern spelled path (name ∷ rest) token at later_token later_at e =
    ap (λ w. (part_of spelled name.0 name.1, part_of path w.1 (wild_stop pattern w.0 path w.1))
    ∷ walk pattern spelled path rest (after_token w.0) (wild_stop pattern w.0 path w.1)) e

stop-by : (pattern path : List ℕ) (token at : ℕ) (v : Bool) → ltb token (length pattern) ≡ true → get_or pattern token 0 ≡ param_token
    → ltb (token + 1) (length pattern) ≡ v
    → wild_stop pattern token path at
    ≡ cond v (at + length (segment (drop at path)) - length (segment (drop (token + 1) pattern))) (length path)
stop-by pattern path token at v e f g = rw (e, f, g) refl

-- where a parameter's part ends
stop-at : (ps : List Piece) (s : List ℕ) (ss : List (List ℕ)) (pattern path : List ℕ) (token at : ℕ) → IsPlain s → is_some (path_parts ps ss) ≡ true
    → drop token pattern ≡ param_token ∷ tokens ps → token + length (param_token ∷ tokens ps) ≡ length pattern
    → drop (token + 1) pattern ≡ tokens ps → drop at path ≡ s ++ slashed ss → at + length (s ++ slashed ss) ≡ length path
    → wild_stop pattern token path at ≡ at + length s
stop-at [] s [] pattern path token at p fits pattern_rest pattern_length pattern_after path_rest path_length =
    let lengths = length-both s [] in
    stop-by pattern path token at false (below token (length pattern) (omega (arith, pattern_length))) (get-front token pattern param_token [] pattern_rest) (not-below (token + 1) (length pattern) (omega (arith, pattern_length)))
    ∙ omega (arith, path_length, lengths)
stop-at [] s (after ∷ ss) pattern path token at p fits pattern_rest pattern_length pattern_after path_rest path_length = cc
stop-at (x ∷ ps) s [] pattern path token at p fits pattern_rest pattern_length pattern_after path_rest path_length = cc
stop-at (x ∷ ps) s (after ∷ ss) pattern path token at p fits pattern_rest pattern_length pattern_after path_rest path_length =
    let tail = piece_tokens x ++ tokens ps in
    let q : length pattern ≡ token + suc (suc (length tail)) = sym pattern_length in
    let seg : length (segment (drop at path)) ≡ suc (length s) =
    ap (λ l. length (segment l)) path_rest ∙ ap length (segment-slash s (after ++ slashed ss) p) ∙ length-more s in
    let one : length (segment (drop (token + 1) pattern)) ≡ 1 = ap (λ l. length (segment l)) pattern_after in
    stop-by pattern path token at true (below token (length pattern) (omega (arith, q))) (get-front token pattern param_token (tokens (x ∷ ps)) pattern_rest) (below (token + 1) (length pattern) (omega (arith, q)))
    ∙ omega (arith, seg, one)

part-at : (s r path : List ℕ) (at : ℕ) → drop at path ≡ s ++ r → at + length (s ++ r) ≡ length path → part_of path at (at + length s) ≡ s
part-at s r path at path_rest path_length =
    let lengths = length-both s r in
    ap (λ v. cond (v && leb (at + length s) (length path)) (take (at + length s - at) (drop at path)) []) (within at (at + length s) (omega arith))
    ∙ ap (λ v. cond v (take (at + length s - at) (drop at path)) []) (within (at + length s) (length path) (omega (arith, lengths, path_length)))
    ∙ ap (λ n. take n (drop at path)) (omega arith)
    ∙ ap (take (length s)) path_rest
    ∙ take-front s r

is_true : (v : Bool) (m : Option (List (List ℕ))) → is_some (cond v m None) ≡ true → v ≡ true
is_true true m f = refl
is_true false m f = cc

-- the parts of the walk are the parts by the pattern
pub parts-walk : (ps : List Piece) (ss : List (List ℕ)) (names : List (ℕ × ℕ)) (pattern spelled path : List ℕ) (token at : ℕ)
    → IsPlainPattern ps → AllPlain ss → is_some (path_parts ps ss) ≡ true → length names ≡ arity ps
    → length pattern < 18446744073709551615
    → drop token pattern ≡ tokens ps → token + length (tokens ps) ≡ length pattern
    → drop at path ≡ slashed ss → at + length (slashed ss) ≡ length path
    → Some (map (λ p. p.1) (walk pattern spelled path names token at)) ≡ path_parts ps ss
parts-walk [] [] [] pattern spelled path token at plain_pattern plain_segments fits as_many is_short pattern_rest pattern_length path_rest path_length = refl
parts-walk [] [] (name ∷ names) pattern spelled path token at plain_pattern plain_segments fits as_many is_short pattern_rest pattern_length path_rest path_length = absurd (omega (arith, as_many))
parts-walk [] (s ∷ ss) names pattern spelled path token at plain_pattern plain_segments fits as_many is_short pattern_rest pattern_length path_rest path_length = cc
parts-walk (x ∷ ps) [] names pattern spelled path token at plain_pattern plain_segments fits as_many is_short pattern_rest pattern_length path_rest path_length = by x fits
  where
    by : (x : Piece) → is_some (path_parts (x ∷ ps) []) ≡ true → Some (map (λ p. p.1) (walk pattern spelled path names token at)) ≡ path_parts (x ∷ ps) []
    by x f = cc
parts-walk (text t ∷ ps) (s ∷ ss) names pattern spelled path token at plain_pattern plain_segments fits as_many is_short pattern_rest pattern_length path_rest path_length =
    let e : same_text t s ≡ true = is_true (same_text t s) (path_parts ps ss) fits in
    let rest_fits : is_some (path_parts ps ss) ≡ true = sym (ap (λ v. is_some (cond v (path_parts ps ss) None)) e) ∙ fits in
    let same : t ≡ s = (bytes_decides t s).0 e in
    let path_by_pattern : drop at path ≡ 47 ∷ (t ++ slashed ss) = path_rest ∙ ap (λ l. 47 ∷ (l ++ slashed ss)) (sym same) in
    let length_by_pattern : at + suc (length (t ++ slashed ss)) ≡ length path = ap (λ l. at + suc (length (l ++ slashed ss))) same ∙ path_length in
    let pattern_lengths = length-both t (tokens ps) in
    let path_lengths = length-both t (slashed ss) in
    let pattern_after : drop (token + suc (length t)) pattern ≡ tokens ps =
    drop-more token (suc (length t)) pattern ∙ ap (drop (suc (length t))) pattern_rest ∙ drop-front t (tokens ps) in
    let path_after : drop (at + suc (length t)) path ≡ slashed ss =
    drop-more at (suc (length t)) path ∙ ap (drop (suc (length t))) path_by_pattern ∙ drop-front t (slashed ss) in
    let passed =
    ap (λ r. wild_from r (length path) token at) pattern_rest
    ∙ wild-slash (t ++ tokens ps) (length path) token at (omega (arith, length_by_pattern))
    ∙ wild-literal t (tokens ps) (length path) (token + 1) (at + 1) plain_pattern.0 (omega (arith, length_by_pattern, path_lengths))
    ∙ ap (λ k. wild_from (tokens ps) (length path) k ((at + 1) + length t)) (omega arith)
    ∙ ap (λ k. wild_from (tokens ps) (length path) (token + suc (length t)) k) (omega arith)
    ∙ ap (λ r. wild_from r (length path) (token + suc (length t)) (at + suc (length t))) (sym pattern_after) in
    ap (λ l. Some (map (λ p. p.1) l)) (walk-same pattern spelled path names token at (token + suc (length t)) (at + suc (length t)) passed)
    ∙ parts-walk ps ss names pattern spelled path (token + suc (length t)) (at + suc (length t)) plain_pattern.1 plain_segments.1 rest_fits as_many is_short pattern_after (omega (arith, pattern_length, pattern_lengths)) path_after (omega (arith, length_by_pattern, path_lengths))
    ∙ sym (ap (λ v. cond v (path_parts ps ss) None) e)
parts-walk (param ∷ ps) ([] ∷ ss) names pattern spelled path token at plain_pattern plain_segments fits as_many is_short pattern_rest pattern_length path_rest path_length = cc
parts-walk (param ∷ ps) ((c ∷ s) ∷ ss) [] pattern spelled path token at plain_pattern plain_segments fits as_many is_short pattern_rest pattern_length path_rest path_length = absurd (omega (arith, as_many))
parts-walk (param ∷ ps) ((c ∷ s) ∷ ss) (name ∷ names) pattern spelled path token at plain_pattern plain_segments fits as_many is_short pattern_rest pattern_length path_rest path_length =
    let segment_here = c ∷ s in
    let rest_fits : is_some (path_parts ps ss) ≡ true = sym (some_with (path_parts ps ss)) ∙ fits in
    let path_lengths = length-both segment_here (slashed ss) in
    let pattern_at_token : drop (token + 1) pattern ≡ param_token ∷ tokens ps = drop-more token 1 pattern ∙ ap (drop 1) pattern_rest in
    let pattern_after : drop ((token + 1) + 1) pattern ≡ tokens ps = drop-more (token + 1) 1 pattern ∙ ap (drop 1) pattern_at_token in
    let path_at_segment : drop (at + 1) path ≡ segment_here ++ slashed ss = drop-more at 1 path ∙ ap (drop 1) path_rest in
    let length_at_segment : (at + 1) + length (segment_here ++ slashed ss) ≡ length path = omega (arith, path_length) in
    let path_after : drop ((at + 1) + length segment_here) path ≡ slashed ss =
    drop-more (at + 1) (length segment_here) path ∙ ap (drop (length segment_here)) path_at_segment ∙ drop-front segment_here (slashed ss) in
    let passed : wild_from (drop token pattern) (length path) token at ≡ (token + 1, at + 1) =
    ap (λ r. wild_from r (length path) token at) pattern_rest ∙ wild-slash (param_token ∷ tokens ps) (length path) token at (omega (arith, path_length)) in
    let stop = stop-at ps segment_here ss pattern path (token + 1) (at + 1) plain_segments.0 rest_fits pattern_at_token (omega (arith, pattern_length)) pattern_after path_at_segment length_at_segment in
    let after : after_token (token + 1) ≡ (token + 1) + 1 = omega (arith, pattern_length, is_short) in
    ap (λ w. Some (part_of path w.1 (wild_stop pattern w.0 path w.1) ∷ map (λ p. p.1) (walk pattern spelled path names (after_token w.0) (wild_stop pattern w.0 path w.1)))) passed
    ∙ ap (λ st. Some (part_of path (at + 1) st ∷ map (λ p. p.1) (walk pattern spelled path names (after_token (token + 1)) st))) stop
    ∙ ap (λ k. Some (part_of path (at + 1) ((at + 1) + length segment_here) ∷ map (λ p. p.1) (walk pattern spelled path names k ((at + 1) + length segment_here)))) after
    ∙ ap (λ x. Some (x ∷ map (λ p. p.1) (walk pattern spelled path names ((token + 1) + 1) ((at + 1) + length segment_here)))) (part-at segment_here (slashed ss) path (at + 1) path_at_segment length_at_segment)
    ∙ ap (with_part segment_here) (parts-walk ps ss names pattern spelled path ((token + 1) + 1) ((at + 1) + length segment_here) plain_pattern plain_segments.1 rest_fits (omega (arith, as_many)) is_short pattern_after (omega (arith, pattern_length)) path_after (omega (arith, length_at_segment, path_lengths)))
  where
    some_with : (m : Option (List (List ℕ))) → is_some (with_part (c ∷ s) m) ≡ is_some m
    some_with None = refl
    some_with (Some parts) = refl
