-- A path cut at its slashes, and the walk over a whole path.
use Rattle.std.proofs.Common.{◌≡◌, ◌≢◌, ◌⊎◌, ℕ, ◌+◌, ◌/◌, ◌%◌, Bool, true, false, cond, List, [], ◌∷◌, ◌++◌, length, get_or, Option, Some, None, inl, inr, refl, sym, ap, ◌∙◌, subst, arith, ◌==◌, ltb, ne_eqb as no}
use Rattle.std.proofs.Math.Seq.{take-append_seam, drop-append-add}
use Rattle.std.proofs.Math.Utf8.{encode, encodes, scalar, scalars}
use Rattle.std.proofs.lemmas.Bool.Decides.{eqb_tells, nat_tests}
use Rattle.std.proofs.lemmas.List.{append-nil, length-append}
use Rattle.std.proofs.lemmas.List.Splits.{slice_split-cons_yes, slice_split-cons_no}
use Rattle.std.proofs.lemmas.Str.{IsUtf8-take, IsUtf8-drop, IsCharBoundary-before_ascii, IsCharBoundary-after_ascii}
use Rattle.std.specs.List.{slice_split, onto_first}
use Rattle.std.specs.Str.{IsUtf8}
use Rattle.std.proofs.lemmas.Bool.{and_parts as both}
use Rattle.base_lemmas.proofs.Texts.{scalar_below as top}
use Rattle.matchit.specs.Level.{IsText}
use Rattle.matchit.specs.Rows.{param_token, catch_all_token}
use Rattle.matchit.specs.Seek.{first, same_text, seek, step}
use Rattle.api.specs.router.Pick.{Piece, text, param, PatternOf, IsPlain, AllPlain, ArePlain, router_rows, slashed}
use Rattle.api.specs.router.Find.{all_clear, path_parts, with_part}
use Rattle.api.specs.router.Cuts.{AllUtf8, Cut, find_from, is_slash}
use Rattle.api.proofs.Walks.{only-bytes, seek-empty, wild-router_rows}
use Rattle.api.proofs.FindLaws.{first-finds}

-- ---- the bytes of a text

-- each byte of a character
encode-bytes : (c : ℕ) → scalar c ≡ true → (more : List ℕ) → IsText more → IsText (encode c ++ more)
unfolding encode
encode-bytes c s more m = by (ltb c 128) refl (ltb c 2048) refl (ltb c 65536) refl
  where
    by : (x : Bool) → ltb c 128 ≡ x → (y : Bool) → ltb c 2048 ≡ y → (z : Bool) → ltb c 65536 ≡ z
        → IsText (cond x (c ∷ []) (cond y ((192 + c / 64) ∷ (128 + c % 64) ∷ []) (cond z ((224 + c / 4096) ∷ (128 + (c / 64) % 64) ∷ (128 + c % 64) ∷ []) ((240 + c / 262144) ∷ (128 + (c / 4096) % 64) ∷ (128 + (c / 64) % 64) ∷ (128 + c % 64) ∷ []))) ++ more)
    by true e y f z g = (grind (arith, nat_tests), m)
    by false e true f z g = (grind (arith, nat_tests), (omega arith, m))
    by false e false f true g = (grind (arith, nat_tests), (omega arith, (omega arith, m)))
    by false e false f false g = (omega (arith, top c s), (omega arith, (omega arith, (omega arith, m))))

encodes-bytes : (cs : List ℕ) → scalars cs ≡ true → IsText (encodes cs)
encodes-bytes [] s = tt
encodes-bytes (c ∷ cs) s =
    let h = both (scalar c) (scalars cs) s in
    encode-bytes c h.0 (encodes cs) (encodes-bytes cs h.1)

pub text-bytes : (bs : List ℕ) → IsUtf8 bs → IsText bs
text-bytes bs u = subst IsText u.1.1 (encodes-bytes u.0 u.1.0)

-- ---- segments

-- the pieces of a text at ASCII bytes are texts
utf8-pieces : (front : List ℕ) (segments : List (List ℕ)) → IsUtf8 (front ++ slashed segments) → IsUtf8 front × AllUtf8 segments
utf8-pieces front [] u = (subst IsUtf8 (append-nil front) u, tt)
utf8-pieces front (s ∷ ss) u =
    let rest = s ++ slashed ss in
    let bs = front ++ 47 ∷ rest in
    let at : get_or bs (length front) 0 ≡ 47 = at-seam front 47 rest in
    let size = length-append front (47 ∷ rest) in
    let before = IsUtf8-take bs (length front) u (IsCharBoundary-before_ascii bs (length front) (omega (arith, size)) (omega (arith, at))) in
    let behind = IsUtf8-drop bs (length front + 1) u (IsCharBoundary-after_ascii bs (length front) u (omega (arith, size)) (omega (arith, at))) in
    (subst IsUtf8 (take-append_seam front (47 ∷ rest)) before, utf8-pieces s ss (subst IsUtf8 (drop-append-add front (47 ∷ rest) 1) behind))
  where
    at-seam : (xs : List ℕ) (y : ℕ) (ys : List ℕ) → get_or (xs ++ y ∷ ys) (length xs) 0 ≡ y
    at-seam [] y ys = refl
    at-seam (x ∷ xs) y ys = at-seam xs y ys

record Pieces (path : List ℕ) : Type 0 where
  front : List ℕ
  segments : List (List ℕ)
  are : slice_split is_slash path ≡ front ∷ segments
  whole : path ≡ front ++ slashed segments
  plain : IsPlain front
  all_plain : AllPlain segments

cut_bytes : (path : List ℕ) → IsText path → Pieces path
cut_bytes [] t = record { front = []; segments = []; are = refl; whole = refl; plain = tt; all_plain = tt }
cut_bytes (b ∷ path) t = by (eqb_tells b 47) (cut_bytes path t.1)
  where
    by : (((b == 47) ≡ true) × (b ≡ 47)) ⊎ (((b == 47) ≡ false) × (b ≢ 47)) → Pieces path → Pieces (b ∷ path)
    by (inl h) p = record {
      front = [];
      segments = p.front ∷ p.segments;
      are = slice_split-cons_yes is_slash b path h.0 ∙ ap (λ l. [] ∷ l) p.are;
      whole = ap (λ x. x ∷ path) h.1 ∙ ap (λ l. 47 ∷ l) p.whole;
      plain = tt;
      all_plain = (p.plain, p.all_plain);
    }
    by (inr h) p = record {
      front = b ∷ p.front;
      segments = p.segments;
      are = slice_split-cons_no is_slash b path h.0 ∙ ap (onto_first b) p.are;
      whole = ap (λ l. b ∷ l) p.whole;
      plain = (t.0, h.1, p.plain);
      all_plain = p.all_plain;
    }

-- a path is cut at its slashes
pub cut : (path : List ℕ) → IsUtf8 path → Cut path
cut path u =
    let p = cut_bytes path (text-bytes path u) in
    let pieces = utf8-pieces p.front p.segments (subst IsUtf8 p.whole u) in
    record {
      front = p.front;
      segments = p.segments;
      are = p.are;
      whole = p.whole;
      plain = p.plain;
      all_plain = p.all_plain;
      text = pieces.0;
      all_text = pieces.1;
    }

-- the parts of a path are some of its segments
pub parts-text : (ps : List Piece) (ss parts : List (List ℕ)) → AllUtf8 ss → path_parts ps ss ≡ Some parts → AllUtf8 parts
parts-text [] [] parts u e =
    let none : [] ≡ parts = cc in
    subst AllUtf8 none tt
parts-text [] (s ∷ ss) parts u e = cc
parts-text (text t ∷ ps) [] parts u e = cc
parts-text (param ∷ ps) [] parts u e = cc
parts-text (text t ∷ ps) (s ∷ ss) parts u e = parts-text ps ss parts u.1 (kept (same_text t s) (path_parts ps ss) e)
  where
    kept : (v : Bool) (m : Option (List (List ℕ))) → cond v m None ≡ Some parts → m ≡ Some parts
    kept true m e = e
    kept false m e = cc
parts-text (param ∷ ps) ([] ∷ ss) parts u e = cc
parts-text (param ∷ ps) ((b ∷ s) ∷ ss) parts u e = by (path_parts ps ss) e (λ more f. parts-text ps ss more u.1 f)
  where
    by : (m : Option (List (List ℕ))) → with_part (b ∷ s) m ≡ Some parts → ((more : List (List ℕ)) → m ≡ Some more → AllUtf8 more) → AllUtf8 parts
    by None e h = cc
    by (Some more) e h =
        let same : (b ∷ s) ∷ more ≡ parts = cc in
        subst AllUtf8 same (u.0, h more refl)

module _ {K : Type 0} where
  -- ---- a path that doesn't begin with a slash

  step-other : (b : ℕ) (ls : List (PatternOf K)) → b ≢ 47 → step b (router_rows ls) ≡ []
  step-other b [] n = refl
  step-other b (([], k) ∷ r) n = step-other b r n
  step-other b ((p ∷ ps, k) ∷ r) n =
      let e = no 47 b (λ e. n (sym e)) in
      rw e (step-other b r n)

  first-other : (b : ℕ) (q : List ℕ) (ls : List (PatternOf K)) → b ≢ 47 → first (router_rows ls) (b ∷ q) ≡ None
  first-other b q ls n =
      only-bytes (router_rows ls) b q (wild-router_rows param_token ls (omega arith)) (wild-router_rows catch_all_token ls (omega arith))
      ∙ ap (λ r. seek 0 r q) (step-other b ls n)
      ∙ seek-empty 0 q

  -- the walk over a whole path
  pub first-from : (ls : List (PatternOf K)) (path front : List ℕ) (segments : List (List ℕ)) → ArePlain ls → all_clear ls ≡ true
      → path ≡ front ++ slashed segments → IsPlain front → AllPlain segments → first (router_rows ls) path ≡ find_from ls front segments
  first-from ls path [] segments a h e p q = ap (first (router_rows ls)) e ∙ first-finds ls segments a h q
  first-from ls path (b ∷ s) segments a h e p q = ap (first (router_rows ls)) e ∙ first-other b (s ++ slashed segments) ls p.1
