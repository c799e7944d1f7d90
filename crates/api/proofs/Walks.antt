-- The walk over rows of whole segments, byte by byte.
use Rattle.std.proofs.Common.{◌≡◌, ◌≢◌, ℕ, zero, suc, ◌-◌, ◌<◌, List, [], ◌∷◌, ◌++◌, length, drop, Option, Some, None, Bool, true, false, cond, refl, sym, ap, ◌∙◌, arith, nat_eq, ◌==◌, ltb, ◌&&◌, append-nil, ne_eqb as no}
use Rattle.std.proofs.lemmas.Bool.Decides.{nat_tests}
use Rattle.matchit.specs.Rows.{RowsOf, param_token, catch_all_token}
use Rattle.matchit.specs.Seek.{own, step, or_else, seek, first, param_step, has_slash, segment, better, cuts, longest_from, longest_suffix, with_suffix, same_text}
use Rattle.api.specs.router.Pick.{text, param, piece_tokens, tokens, slashed, IsPlain, AllPlain, PatternOf, ArePlain, router_rows, ends_here, past_text, past_param, pick}

-- a slash that ends the segment is the longer suffix
better-slash : (seg : List ℕ) → cuts seg (47 ∷ []) ≡ true → better seg [] (47 ∷ []) ≡ 47 ∷ []
better-slash seg e = rw e refl

better-plain : (seg : List ℕ) → cuts seg (47 ∷ []) ≡ false → better seg [] (47 ∷ []) ≡ []
better-plain seg e = rw e refl

minus-one : (n : ℕ) → suc n - 1 ≡ n
minus-one n = omega arith

-- nothing is a proper end of a slash
empty-best : (t : List ℕ) → better (47 ∷ []) [] t ≡ []
empty-best t = grind (arith, nat_tests)

-- ---- segments

pub segment-slash : (s q : List ℕ) → IsPlain s → segment (s ++ 47 ∷ q) ≡ s ++ 47 ∷ []
segment-slash [] q p = refl
segment-slash (b ∷ s) q p =
    let e = no b 47 p.1 in
    rw e (ap (λ x. b ∷ x) (segment-slash s q p.2))

slash-there : (s q : List ℕ) → has_slash (s ++ 47 ∷ q) ≡ true
slash-there [] q = refl
slash-there (b ∷ s) q =
    elim (b == 47) as (λ v. cond v true (has_slash (s ++ 47 ∷ q)) ≡ true) [
      | true ↦ refl
      | false ↦ slash-there s q
    ]

pub segment-plain : (s : List ℕ) → IsPlain s → segment s ≡ s
segment-plain [] p = refl
segment-plain (b ∷ s) p =
    let e = no b 47 p.1 in
    rw e (ap (λ x. b ∷ x) (segment-plain s p.2))

slash-none : (s : List ℕ) → IsPlain s → has_slash s ≡ false
slash-none [] p = refl
slash-none (b ∷ s) p =
    let e = no b 47 p.1 in
    rw e (slash-none s p.2)

pub length-more : (s : List ℕ) → length (s ++ 47 ∷ []) ≡ suc (length s)
length-more [] = refl
length-more (b ∷ s) = ap suc (length-more s)

drop-last : (s : List ℕ) → drop (length s) (s ++ 47 ∷ []) ≡ 47 ∷ []
drop-last [] = refl
drop-last (b ∷ s) = drop-last s

-- whether a segment of two bytes or more ends in a slash
cuts-at : (seg : List ℕ) (n : ℕ) (v : Bool) → 1 < length seg → length seg - 1 ≡ n → same_text (47 ∷ []) (drop n seg) ≡ v
    → cuts seg (47 ∷ []) ≡ v
cuts-at seg n v l d h =
    let e : ltb 1 (length seg) ≡ true = grind (arith, nat_tests) in
    ap (λ w. w && same_text (47 ∷ []) (drop (length seg - 1) seg)) e ∙ ap (λ k. same_text (47 ∷ []) (drop k seg)) d ∙ h

cuts-slash : (b : ℕ) (s : List ℕ) → cuts (b ∷ (s ++ 47 ∷ [])) (47 ∷ []) ≡ true
cuts-slash b s =
    let l = length-more s in
    cuts-at (b ∷ (s ++ 47 ∷ [])) (suc (length s)) true (omega (arith, l)) (omega (arith, l)) (ap (same_text (47 ∷ [])) (drop-last s))

last-plain : (b : ℕ) (s : List ℕ) → IsPlain (b ∷ s) → (same_text (47 ∷ []) (drop (length s) (b ∷ s))) ≡ false
last-plain b [] p =
    let e : nat_eq 47 b ≡ false = no 47 b (λ e. p.1 (sym e)) in
    rw e refl
last-plain b (c ∷ s) p = last-plain c s p.2

cuts-plain : (b : ℕ) (s : List ℕ) → IsPlain (b ∷ s) → cuts (b ∷ s) (47 ∷ []) ≡ false
cuts-plain b [] p = refl
cuts-plain b (c ∷ s) p = cuts-at (b ∷ (c ∷ s)) (suc (length s)) false (omega arith) (omega arith) (last-plain b (c ∷ s) p)

module _ {K : Type 0} where
  -- ---- the library's walk, at any rows

  or_else-none : (a : Option K) → or_else a None ≡ a
  or_else-none None = refl
  or_else-none (Some k) = refl

  param_step-empty : (p : List ℕ) → (param_step {K = K} [] p).1 ≡ []
  unfolding param_step
  param_step-empty p =
      elim (has_slash p) as (λ v. (cond {A = ℕ × RowsOf K} v (0, []) (length p, [])).1 ≡ []) [
        | true ↦ refl
        | false ↦ refl
      ]

  pub seek-empty : (k : ℕ) (p : List ℕ) → seek {K = K} k [] p ≡ None
  unfolding seek
  seek-empty k [] = refl
  seek-empty (suc k) (b ∷ p) = seek-empty k p
  seek-empty zero (b ∷ p) = simp (seek-empty 0 p, param_step-empty (b ∷ p), seek-empty (((param_step {K = K} [] (b ∷ p)).0) - 1) p)

  -- no parameter and no catch-all here
  pub only-bytes : (rs : RowsOf K) (b : ℕ) (p : List ℕ) → step param_token rs ≡ [] → step catch_all_token rs ≡ []
      → seek 0 rs (b ∷ p) ≡ seek 0 (step b rs) p
  unfolding seek
  only-bytes rs b p e f =
      simp (e, f, param_step-empty (b ∷ p), seek-empty ((param_step {K = K} [] (b ∷ p)).0 - 1) p, or_else-none)

  -- bytes are skipped
  seek-skip : (s : List ℕ) (rs : RowsOf K) (q : List ℕ) → seek (length s) rs (s ++ q) ≡ seek 0 rs q
  unfolding seek
  seek-skip [] rs q = refl
  seek-skip (b ∷ s) rs q = seek-skip s rs q

  -- ---- rows within a text

  -- ---- rows within a text: what is left of it, and the pieces behind it

  abbrev mid_rows : List (List ℕ × PatternOf K) → RowsOf K
  mid_rows [] = []
  mid_rows ((t, (ps, k)) ∷ r) = (t ++ tokens ps, k) ∷ mid_rows r

  abbrev mid_step : ℕ → List (List ℕ × PatternOf K) → List (List ℕ × PatternOf K)
  mid_step b [] = []
  mid_step b (([], l) ∷ r) = mid_step b r
  mid_step b ((c ∷ t, l) ∷ r) = cond (c == b) ((t, l) ∷ mid_step b r) (mid_step b r)

  abbrev mid_steps : List ℕ → List (List ℕ × PatternOf K) → List (List ℕ × PatternOf K)
  mid_steps [] m = m
  mid_steps (b ∷ s) m = mid_steps s (mid_step b m)

  abbrev done : List (List ℕ × PatternOf K) → List (PatternOf K)
  done [] = []
  done (([], l) ∷ r) = l ∷ done r
  done ((c ∷ t, l) ∷ r) = done r

  abbrev IsMid : List (List ℕ × PatternOf K) → Type 0
  IsMid [] = Unit {0}
  IsMid ((t, l) ∷ r) = IsPlain t × IsMid r

  step-mid : (b : ℕ) (m : List (List ℕ × PatternOf K)) → b ≢ 47 → step b (mid_rows m) ≡ mid_rows (mid_step b m)
  step-mid b [] n = refl
  step-mid b (([], ([], k)) ∷ r) n = step-mid b r n
  step-mid b (([], (p ∷ ps, k)) ∷ r) n =
      let e = no 47 b (λ e. n (sym e)) in
      rw e (step-mid b r n)
  step-mid b ((c ∷ t, (ps, k)) ∷ r) n =
      elim (c == b) as (λ v. cond v ((t ++ tokens ps, k) ∷ step b (mid_rows r)) (step b (mid_rows r))
      ≡ mid_rows (cond v ((t, (ps, k)) ∷ mid_step b r) (mid_step b r))) [
        | true ↦ ap (λ x. (t ++ tokens ps, k) ∷ x) (step-mid b r n)
        | false ↦ step-mid b r n
      ]

  -- a wild token is in none of them here
  wild-mid : (w : ℕ) (m : List (List ℕ × PatternOf K)) → 255 < w → IsMid m → step w (mid_rows m) ≡ []
  wild-mid w [] h i = refl
  wild-mid w (([], ([], k)) ∷ r) h i = wild-mid w r h i.1
  wild-mid w (([], (p ∷ ps, k)) ∷ r) h i =
      let e = no 47 w (λ e. omega arith) in
      rw e (wild-mid w r h i.1)
  wild-mid w ((c ∷ t, (ps, k)) ∷ r) h i =
      let below = i.0.0 in
      let e = no c w (λ e. omega (arith, below)) in
      rw e (wild-mid w r h i.1)

  pub wild-router_rows : (w : ℕ) (ls : List (PatternOf K)) → 255 < w → step w (router_rows ls) ≡ []
  wild-router_rows w [] h = refl
  wild-router_rows w (([], k) ∷ r) h = wild-router_rows w r h
  wild-router_rows w ((p ∷ ps, k) ∷ r) h =
      let e = no 47 w (λ e. omega arith) in
      rw e (wild-router_rows w r h)

  own-mid : (m : List (List ℕ × PatternOf K)) → own (mid_rows m) ≡ own (router_rows (done m))
  own-mid [] = refl
  own-mid (([], ([], k)) ∷ r) = refl
  own-mid (([], (p ∷ ps, k)) ∷ r) = own-mid r
  own-mid ((c ∷ t, (ps, k)) ∷ r) = own-mid r

  slash-mid : (m : List (List ℕ × PatternOf K)) → IsMid m → step 47 (mid_rows m) ≡ step 47 (router_rows (done m))
  slash-mid [] i = refl
  slash-mid (([], ([], k)) ∷ r) i = slash-mid r i.1
  slash-mid (([], (p ∷ ps, k)) ∷ r) i = ap (λ x. (piece_tokens p ++ tokens ps, k) ∷ x) (slash-mid r i.1)
  slash-mid ((c ∷ t, (ps, k)) ∷ r) i =
      let e = no c 47 i.0.1 in
      rw e (slash-mid r i.1)

  IsMid-step : (b : ℕ) (m : List (List ℕ × PatternOf K)) → IsMid m → IsMid (mid_step b m)
  IsMid-step b [] i = tt
  IsMid-step b (([], l) ∷ r) i = IsMid-step b r i.1
  IsMid-step b ((c ∷ t, l) ∷ r) i =
      elim (c == b) as (λ v. IsMid (cond v ((t, l) ∷ mid_step b r) (mid_step b r))) [
        | true ↦ (i.0.2, IsMid-step b r i.1)
        | false ↦ IsMid-step b r i.1
      ]

  IsMid-steps : (s : List ℕ) (m : List (List ℕ × PatternOf K)) → IsMid m → IsMid (mid_steps s m)
  IsMid-steps [] m i = i
  IsMid-steps (b ∷ s) m i = IsMid-steps s (mid_step b m) (IsMid-step b m i)

  -- the walk over a text
  walk-text : (s q : List ℕ) (m : List (List ℕ × PatternOf K)) → IsPlain s → IsMid m
      → seek 0 (mid_rows m) (s ++ q) ≡ seek 0 (mid_rows (mid_steps s m)) q
  walk-text [] q m p i = refl
  walk-text (b ∷ s) q m p i =
      only-bytes (mid_rows m) b (s ++ q) (wild-mid param_token m (omega arith) i) (wild-mid catch_all_token m (omega arith) i)
      ∙ ap (λ r. seek 0 r (s ++ q)) (step-mid b m p.1)
      ∙ walk-text s q (mid_step b m) p.2 (IsMid-step b m i)

  -- a text is done where the path has a slash or ends
  text-done : (ss : List (List ℕ)) (m : List (List ℕ × PatternOf K)) → IsMid m
      → seek 0 (mid_rows m) (slashed ss) ≡ seek 0 (router_rows (done m)) (slashed ss)
  unfolding seek
  text-done [] m i = own-mid m
  text-done (s ∷ ss) m i =
      only-bytes (mid_rows m) 47 (s ++ slashed ss) (wild-mid param_token m (omega arith) i) (wild-mid catch_all_token m (omega arith) i)
      ∙ ap (λ r. seek 0 r (s ++ slashed ss)) (slash-mid m i)
      ∙ sym (only-bytes (router_rows (done m)) 47 (s ++ slashed ss) (wild-router_rows param_token (done m) (omega arith)) (wild-router_rows catch_all_token (done m) (omega arith)))

  -- ---- rows behind a slash

  abbrev opened : List (PatternOf K) → RowsOf K
  opened [] = []
  opened (([], k) ∷ r) = opened r
  opened ((p ∷ ps, k) ∷ r) = (piece_tokens p ++ tokens ps, k) ∷ opened r

  step-slash : (ls : List (PatternOf K)) → step 47 (router_rows ls) ≡ opened ls
  step-slash [] = refl
  step-slash (([], k) ∷ r) = step-slash r
  step-slash ((p ∷ ps, k) ∷ r) = ap (λ x. (piece_tokens p ++ tokens ps, k) ∷ x) (step-slash r)

  abbrev open_texts : List (PatternOf K) → List (List ℕ × PatternOf K)
  open_texts [] = []
  open_texts (([], k) ∷ r) = open_texts r
  open_texts ((text t ∷ ps, k) ∷ r) = (t, (ps, k)) ∷ open_texts r
  open_texts ((param ∷ ps, k) ∷ r) = open_texts r

  IsMid-past_text : (ls : List (PatternOf K)) → ArePlain ls → IsMid (open_texts ls)
  IsMid-past_text [] a = tt
  IsMid-past_text (([], k) ∷ r) a = IsMid-past_text r a.1
  IsMid-past_text ((text t ∷ ps, k) ∷ r) a = (a.0.0, IsMid-past_text r a.1)
  IsMid-past_text ((param ∷ ps, k) ∷ r) a = IsMid-past_text r a.1

  step-opened : (b : ℕ) (ls : List (PatternOf K)) → b < 256 → b ≢ 47 → step b (opened ls) ≡ mid_rows (mid_step b (open_texts ls))
  step-opened b [] h n = refl
  step-opened b (([], k) ∷ r) h n = step-opened b r h n
  step-opened b ((text [] ∷ [], k) ∷ r) h n = step-opened b r h n
  step-opened b ((text [] ∷ (p ∷ ps), k) ∷ r) h n =
      let e = no 47 b (λ e. n (sym e)) in
      rw e (step-opened b r h n)
  step-opened b ((text (c ∷ t) ∷ ps, k) ∷ r) h n =
      elim (c == b) as (λ v. cond v ((t ++ tokens ps, k) ∷ step b (opened r)) (step b (opened r))
      ≡ mid_rows (cond v ((t, (ps, k)) ∷ mid_step b (open_texts r)) (mid_step b (open_texts r)))) [
        | true ↦ ap (λ x. (t ++ tokens ps, k) ∷ x) (step-opened b r h n)
        | false ↦ step-opened b r h n
      ]
  step-opened b ((param ∷ ps, k) ∷ r) h n =
      let e = no param_token b (λ e. omega arith) in
      rw e (step-opened b r h n)

  step-param : (ls : List (PatternOf K)) → ArePlain ls → step param_token (opened ls) ≡ router_rows (past_param ls)
  step-param [] a = refl
  step-param (([], k) ∷ r) a = step-param r a.1
  step-param ((text [] ∷ [], k) ∷ r) a = step-param r a.1
  step-param ((text [] ∷ (p ∷ ps), k) ∷ r) a = step-param r a.1
  step-param ((text (c ∷ t) ∷ ps, k) ∷ r) a =
      let below = a.0.0.0 in
      let e = no c param_token (λ e. omega (arith, below)) in
      rw e (step-param r a.1)
  step-param ((param ∷ ps, k) ∷ r) a = ap (λ x. (tokens ps, k) ∷ x) (step-param r a.1)

  step-catch : (ls : List (PatternOf K)) → ArePlain ls → step catch_all_token (opened ls) ≡ []
  step-catch [] a = refl
  step-catch (([], k) ∷ r) a = step-catch r a.1
  step-catch ((text [] ∷ [], k) ∷ r) a = step-catch r a.1
  step-catch ((text [] ∷ (p ∷ ps), k) ∷ r) a = step-catch r a.1
  step-catch ((text (c ∷ t) ∷ ps, k) ∷ r) a =
      let below = a.0.0.0 in
      let e = no c catch_all_token (λ e. omega (arith, below)) in
      rw e (step-catch r a.1)
  step-catch ((param ∷ ps, k) ∷ r) a = step-catch r a.1

  -- the lines whose text this is
  abbrev same : List ℕ → List (List ℕ × PatternOf K) → List (PatternOf K)
  same s [] = []
  same s ((t, l) ∷ r) = cond (same_text t s) (l ∷ same s r) (same s r)

  same-step : (b : ℕ) (s : List ℕ) (m : List (List ℕ × PatternOf K)) → same s (mid_step b m) ≡ same (b ∷ s) m
  same-step b s [] = refl
  same-step b s (([], l) ∷ r) = same-step b s r
  same-step b s ((c ∷ t, l) ∷ r) =
      elim (c == b) as (λ v. same s (cond v ((t, l) ∷ mid_step b r) (mid_step b r))
      ≡ cond (v && same_text t s) (l ∷ same (b ∷ s) r) (same (b ∷ s) r)) [
        | true ↦ ap (λ x. cond (same_text t s) (l ∷ x) x) (same-step b s r)
        | false ↦ same-step b s r
      ]

  done-same : (s : List ℕ) (m : List (List ℕ × PatternOf K)) → done (mid_steps s m) ≡ same s m
  done-same [] [] = refl
  done-same [] (([], l) ∷ r) = ap (λ x. l ∷ x) (done-same [] r)
  done-same [] ((c ∷ t, l) ∷ r) = done-same [] r
  done-same (b ∷ s) m = done-same s (mid_step b m) ∙ same-step b s m

  same-past_text : (s : List ℕ) (ls : List (PatternOf K)) → same s (open_texts ls) ≡ past_text s ls
  same-past_text s [] = refl
  same-past_text s (([], k) ∷ r) = same-past_text s r
  same-past_text s ((text t ∷ ps, k) ∷ r) = ap (λ x. cond (same_text t s) ((ps, k) ∷ x) x) (same-past_text s r)
  same-past_text s ((param ∷ ps, k) ∷ r) = same-past_text s r

  ArePlain-past_text : (s : List ℕ) (ls : List (PatternOf K)) → ArePlain ls → ArePlain (past_text s ls)
  ArePlain-past_text s [] a = tt
  ArePlain-past_text s (([], k) ∷ r) a = ArePlain-past_text s r a.1
  ArePlain-past_text s ((text t ∷ ps, k) ∷ r) a =
      elim (same_text t s) as (λ v. ArePlain (cond v ((ps, k) ∷ past_text s r) (past_text s r))) [
        | true ↦ (a.0.1, ArePlain-past_text s r a.1)
        | false ↦ ArePlain-past_text s r a.1
      ]
  ArePlain-past_text s ((param ∷ ps, k) ∷ r) a = ArePlain-past_text s r a.1

  ArePlain-past_param : (ls : List (PatternOf K)) → ArePlain ls → ArePlain (past_param ls)
  ArePlain-past_param [] a = tt
  ArePlain-past_param (([], k) ∷ r) a = ArePlain-past_param r a.1
  ArePlain-past_param ((text t ∷ ps, k) ∷ r) a = ArePlain-past_param r a.1
  ArePlain-past_param ((param ∷ ps, k) ∷ r) a = (a.0, ArePlain-past_param r a.1)

  -- ---- a parameter's segment

  -- some line goes on
  abbrev goes_on : List (PatternOf K) → Bool
  goes_on [] = false
  goes_on (([], k) ∷ r) = goes_on r
  goes_on ((p ∷ ps, k) ∷ r) = true

  longest-stays : (seg : List ℕ) (ls : List (PatternOf K)) → longest_from seg (47 ∷ []) (router_rows ls) ≡ 47 ∷ []
  longest-stays seg [] = refl
  longest-stays seg (([], k) ∷ r) = longest-stays seg r
  longest-stays seg ((p ∷ ps, k) ∷ r) = longest-stays seg r

  longest-slash : (seg : List ℕ) (ls : List (PatternOf K)) → cuts seg (47 ∷ []) ≡ true
      → longest_suffix seg (router_rows ls) ≡ cond (goes_on ls) (47 ∷ []) []
  longest-slash seg [] e = refl
  longest-slash seg (([], k) ∷ r) e = longest-slash seg r e
  longest-slash seg ((p ∷ ps, k) ∷ r) e = ap (λ x. longest_from seg x (router_rows r)) (better-slash seg e) ∙ longest-stays seg r

  longest-plain : (seg : List ℕ) (ls : List (PatternOf K)) → cuts seg (47 ∷ []) ≡ false → longest_suffix seg (router_rows ls) ≡ []
  longest-plain seg [] e = refl
  longest-plain seg (([], k) ∷ r) e = longest-plain seg r e
  longest-plain seg ((p ∷ ps, k) ∷ r) e = ap (λ x. longest_from seg x (router_rows r)) (better-plain seg e) ∙ longest-plain seg r e

  step-going : (ls : List (PatternOf K)) → step 47 (with_suffix (47 ∷ []) (router_rows ls)) ≡ step 47 (router_rows ls)
  step-going [] = refl
  step-going (([], k) ∷ r) = step-going r
  step-going ((p ∷ ps, k) ∷ r) = ap (λ x. (piece_tokens p ++ tokens ps, k) ∷ x) (step-going r)

  wild-going : (w : ℕ) (ls : List (PatternOf K)) → 255 < w → step w (with_suffix (47 ∷ []) (router_rows ls)) ≡ []
  wild-going w [] h = refl
  wild-going w (([], k) ∷ r) h = wild-going w r h
  wild-going w ((p ∷ ps, k) ∷ r) h =
      let e = no 47 w (λ e. omega arith) in
      rw e (wild-going w r h)

  step-none : (ls : List (PatternOf K)) → goes_on ls ≡ false → step 47 (router_rows ls) ≡ []
  step-none [] e = refl
  step-none (([], k) ∷ r) e = step-none r e
  step-none ((p ∷ ps, k) ∷ r) e = cc

  own-all : (s : List ℕ) (rs : RowsOf K) → seek (length s) rs s ≡ own rs
  unfolding seek
  own-all [] rs = refl
  own-all (b ∷ s) rs = own-all s rs

  -- no parameter takes an empty segment
  param-none : (q : List ℕ) (rs : RowsOf K) → param_step rs (47 ∷ q) ≡ (0, [])
  unfolding param_step
  param-none q rs = ap (λ best. cond {A = ℕ × RowsOf K} (ltb 0 (length best)) (1 - length best, with_suffix best rs) (0, [])) (longest rs)
    where
      longest : (rs : RowsOf K) → longest_from (47 ∷ []) [] rs ≡ []
      longest [] = refl
      longest ((t, k) ∷ r) = ap (λ x. longest_from (47 ∷ []) x r) (empty-best (segment t)) ∙ longest r

  -- what a parameter takes, by what its tests give
  param-by : (rs : RowsOf K) (path seg best : List ℕ) (h : Bool) → segment path ≡ seg → longest_suffix seg rs ≡ best → has_slash path ≡ h
      → param_step rs path ≡ cond (ltb 0 (length best)) (length seg - length best, with_suffix best rs) (cond h (0, []) (length path, rs))
  unfolding param_step
  param-by rs path seg best h e f g = rw (e, f, g) refl

  skip-by : (rs next : RowsOf K) (path q : List ℕ) (n : ℕ) → param_step rs path ≡ (suc n, next)
      → seek ((param_step rs path).0 - 1) (param_step rs path).1 q ≡ seek n next q
  skip-by rs next path q n e =
      ap (λ r. seek (r.0 - 1) r.1 q) e ∙ ap (λ k. seek k next q) (minus-one n)

  -- a parameter takes the whole segment
  param-takes : (b : ℕ) (s : List ℕ) (ss : List (List ℕ)) (ls : List (PatternOf K)) → IsPlain (b ∷ s)
      → seek ((param_step (router_rows ls) (b ∷ (s ++ slashed ss))).0 - 1) (param_step (router_rows ls) (b ∷ (s ++ slashed ss))).1 (s ++ slashed ss)
      ≡ seek 0 (router_rows ls) (slashed ss)
  unfolding seek
  param-takes b s [] ls p =
      rw (append-nil s) (skip-by (router_rows ls) (router_rows ls) (b ∷ s) s (length s)
      (param-by (router_rows ls) (b ∷ s) (b ∷ s) [] false (segment-plain (b ∷ s) p) (longest-plain (b ∷ s) ls (cuts-plain b s p)) (slash-none (b ∷ s) p))
      ∙ own-all s (router_rows ls))
  param-takes b s (s2 ∷ ss) ls p = by (goes_on ls) refl
    where
      by : (v : Bool) → goes_on ls ≡ v
          → seek ((param_step (router_rows ls) (b ∷ (s ++ 47 ∷ (s2 ++ slashed ss)))).0 - 1) (param_step (router_rows ls) (b ∷ (s ++ 47 ∷ (s2 ++ slashed ss)))).1 (s ++ 47 ∷ (s2 ++ slashed ss))
          ≡ seek 0 (router_rows ls) (47 ∷ (s2 ++ slashed ss))
      by true e =
          let tail = s2 ++ slashed ss in
          let seg = b ∷ (s ++ 47 ∷ []) in
          let longest = longest-slash seg ls (cuts-slash b s) ∙ ap (λ v. cond v (47 ∷ []) []) e in
          let takes = param-by (router_rows ls) (b ∷ (s ++ 47 ∷ tail)) seg (47 ∷ []) true (segment-slash (b ∷ s) tail p) longest (slash-there (b ∷ s) tail) in
          let count = minus-one (suc (length s)) in
          let size = ap (λ n. suc n - 1) (length-more s) ∙ count in
          skip-by (router_rows ls) (with_suffix (47 ∷ []) (router_rows ls)) (b ∷ (s ++ 47 ∷ tail)) (s ++ 47 ∷ tail) (length s) (takes ∙ ap (λ n. (n, with_suffix (47 ∷ []) (router_rows ls))) size)
          ∙ seek-skip s (with_suffix (47 ∷ []) (router_rows ls)) (47 ∷ tail)
          ∙ only-bytes (with_suffix (47 ∷ []) (router_rows ls)) 47 tail (wild-going param_token ls (omega arith)) (wild-going catch_all_token ls (omega arith))
          ∙ ap (λ r. seek 0 r tail) (step-going ls)
          ∙ sym (only-bytes (router_rows ls) 47 tail (wild-router_rows param_token ls (omega arith)) (wild-router_rows catch_all_token ls (omega arith)))
      by false e =
          let tail = s2 ++ slashed ss in
          let seg = b ∷ (s ++ 47 ∷ []) in
          let longest = longest-slash seg ls (cuts-slash b s) ∙ ap (λ v. cond v (47 ∷ []) []) e in
          let takes = param-by (router_rows ls) (b ∷ (s ++ 47 ∷ tail)) seg [] true (segment-slash (b ∷ s) tail p) longest (slash-there (b ∷ s) tail) in
          ap (λ r. seek (r.0 - 1) r.1 (s ++ 47 ∷ tail)) takes
          ∙ seek-empty 0 (s ++ 47 ∷ tail)
          ∙ sym (seek-empty 0 tail)
          ∙ sym (ap (λ r. seek 0 r tail) (step-none ls e))
          ∙ sym (only-bytes (router_rows ls) 47 tail (wild-router_rows param_token ls (omega arith)) (wild-router_rows catch_all_token ls (omega arith)))

  -- ---- a whole segment

  own-opened : (ls : List (PatternOf K)) → own (opened ls) ≡ own (router_rows (past_text [] ls))
  own-opened [] = refl
  own-opened (([], k) ∷ r) = own-opened r
  own-opened ((text [] ∷ [], k) ∷ r) = refl
  own-opened ((text [] ∷ (p ∷ ps), k) ∷ r) = own-opened r
  own-opened ((text (c ∷ t) ∷ ps, k) ∷ r) = own-opened r
  own-opened ((param ∷ ps, k) ∷ r) = own-opened r

  slash-opened : (ls : List (PatternOf K)) → ArePlain ls → step 47 (opened ls) ≡ step 47 (router_rows (past_text [] ls))
  slash-opened [] a = refl
  slash-opened (([], k) ∷ r) a = slash-opened r a.1
  slash-opened ((text [] ∷ [], k) ∷ r) a = slash-opened r a.1
  slash-opened ((text [] ∷ (p ∷ ps), k) ∷ r) a = ap (λ x. (piece_tokens p ++ tokens ps, k) ∷ x) (slash-opened r a.1)
  slash-opened ((text (c ∷ t) ∷ ps, k) ∷ r) a =
      let e = no c 47 a.0.0.1 in
      rw e (slash-opened r a.1)
  slash-opened ((param ∷ ps, k) ∷ r) a = slash-opened r a.1

  opened-empty : (ss : List (List ℕ)) (ls : List (PatternOf K)) → ArePlain ls
      → seek 0 (opened ls) (slashed ss) ≡ seek 0 (router_rows (past_text [] ls)) (slashed ss)
  unfolding seek
  opened-empty [] ls a = own-opened ls
  opened-empty (s ∷ ss) ls a =
      let tail = s ++ slashed ss in
      ap (λ r. or_else (seek 0 (step 47 (opened ls)) tail) (or_else (seek (r.0 - 1) r.1 tail) (own (step catch_all_token (opened ls)))))
      (param-none tail (step param_token (opened ls)))
      ∙ ap (λ r. or_else (seek 0 (step 47 (opened ls)) tail) (or_else r (own (step catch_all_token (opened ls))))) (seek-empty 0 tail)
      ∙ ap (λ r. or_else (seek 0 (step 47 (opened ls)) tail) (own r)) (step-catch ls a)
      ∙ or_else-none (seek 0 (step 47 (opened ls)) tail)
      ∙ ap (λ r. seek 0 r tail) (slash-opened ls a)
      ∙ sym (only-bytes (router_rows (past_text [] ls)) 47 tail (wild-router_rows param_token (past_text [] ls) (omega arith)) (wild-router_rows catch_all_token (past_text [] ls) (omega arith)))

  text-part : (b : ℕ) (s : List ℕ) (ss : List (List ℕ)) (ls : List (PatternOf K)) → IsPlain (b ∷ s) → ArePlain ls
      → seek 0 (step b (opened ls)) (s ++ slashed ss) ≡ seek 0 (router_rows (past_text (b ∷ s) ls)) (slashed ss)
  text-part b s ss ls p a =
      let m = mid_step b (open_texts ls) in
      let i = IsMid-step b (open_texts ls) (IsMid-past_text ls a) in
      ap (λ r. seek 0 r (s ++ slashed ss)) (step-opened b ls p.0 p.1)
      ∙ walk-text s (slashed ss) m p.2 i
      ∙ text-done ss (mid_steps s m) (IsMid-steps s m i)
      ∙ ap (λ r. seek 0 (router_rows r) (slashed ss)) (done-same (b ∷ s) (open_texts ls) ∙ same-past_text (b ∷ s) ls)

  opened-some : (b : ℕ) (s : List ℕ) (ss : List (List ℕ)) (ls : List (PatternOf K)) → IsPlain (b ∷ s) → ArePlain ls
      → seek 0 (opened ls) (b ∷ (s ++ slashed ss))
      ≡ or_else (seek 0 (router_rows (past_text (b ∷ s) ls)) (slashed ss)) (seek 0 (router_rows (past_param ls)) (slashed ss))
  unfolding seek
  opened-some b s ss ls p a =
      let tail = s ++ slashed ss in
      let left = seek 0 (step b (opened ls)) tail in
      ap (λ r. or_else left (or_else (seek ((param_step r (b ∷ tail)).0 - 1) (param_step r (b ∷ tail)).1 tail) (own (step catch_all_token (opened ls))))) (step-param ls a)
      ∙ ap (λ r. or_else left (or_else r (own (step catch_all_token (opened ls))))) (param-takes b s ss ls' p)
      ∙ ap (λ r. or_else left (or_else (seek 0 (router_rows (past_param ls)) (slashed ss)) (own r))) (step-catch ls a)
      ∙ ap (or_else left) (or_else-none (seek 0 (router_rows (past_param ls)) (slashed ss)))
      ∙ ap (λ r. or_else r (seek 0 (router_rows (past_param ls)) (slashed ss))) (text-part b s ss ls p a)
    where
      ls' : List (PatternOf K)
      ls' = past_param ls

  own-ends : (ls : List (PatternOf K)) → own (router_rows ls) ≡ ends_here ls
  own-ends [] = refl
  own-ends (([], k) ∷ r) = refl
  own-ends ((x ∷ ps, k) ∷ r) = own-ends r

  first-slash : (q : List ℕ) (ls : List (PatternOf K)) → seek 0 (router_rows ls) (47 ∷ q) ≡ seek 0 (opened ls) q
  first-slash q ls =
      only-bytes (router_rows ls) 47 q (wild-router_rows param_token ls (omega arith)) (wild-router_rows catch_all_token ls (omega arith))
      ∙ ap (λ r. seek 0 r q) (step-slash ls)

  or_else-none-right : (a : Option K) → a ≡ or_else a None
  or_else-none-right a = sym (or_else-none a)

  -- the walk picks the line by segments
  pub first-picks : (ls : List (PatternOf K)) (path : List (List ℕ)) → ArePlain ls → AllPlain path → first (router_rows ls) (slashed path) ≡ pick ls path
  unfolding seek
  first-picks ls [] a p = own-ends ls
  first-picks ls ([] ∷ ss) a p =
      first-slash (slashed ss) ls
      ∙ opened-empty ss ls a
      ∙ first-picks (past_text [] ls) ss (ArePlain-past_text [] ls a) p.1
      ∙ or_else-none-right (pick (past_text [] ls) ss)
  first-picks ls ((b ∷ s) ∷ ss) a p =
      first-slash (b ∷ (s ++ slashed ss)) ls
      ∙ opened-some b s ss ls p.0 a
      ∙ ap (λ x. or_else x (seek 0 (router_rows (past_param ls)) (slashed ss))) (first-picks (past_text (b ∷ s) ls) ss (ArePlain-past_text (b ∷ s) ls a) p.1)
      ∙ ap (or_else (pick (past_text (b ∷ s) ls) ss)) (first-picks (past_param ls) ss (ArePlain-past_param ls a) p.1)
