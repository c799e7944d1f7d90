-- Where no two lines meet a segment both as a text and as a parameter, texts before parameters is the order of the table.
use Rattle.std.proofs.Common.{◌≡◌, ℕ, List, [], ◌∷◌, Option, Some, None, Bool, true, false, cond, refl, sym, ap, ◌∙◌}
use Rattle.std.specs.Prelude.{is_some}
use Rattle.std.specs.Cmp.Lexicographic.{bytes_decides}
use Rattle.std.proofs.lemmas.Bool.{and_parts as both}
use Rattle.matchit.specs.Seek.{first, or_else, same_text}
use Rattle.matchit.proofs.ParamLemmas.{same_text-self}
use Rattle.api.specs.router.Pick.{Piece, text, param, PatternOf, ArePlain, AllPlain, router_rows, slashed, ends_here, past_text, past_param, if_some, pick}
use Rattle.api.specs.router.Find.{path_parts, with_part, clear_of, find, clear_of_all, all_clear}
use Rattle.api.proofs.Walks.{first-picks}

some_with : (c : ℕ) (s : List ℕ) (m : Option (List (List ℕ))) → is_some (with_part (c ∷ s) m) ≡ is_some m
some_with c s None = refl
some_with c s (Some parts) = refl

-- two texts that are the same as a third
clear_of-same : (a b s : List ℕ) (p q : List Piece) → same_text a s ≡ true → same_text b s ≡ true
    → clear_of (text a ∷ p) (text b ∷ q) ≡ true → clear_of p q ≡ true
clear_of-same a b s p q e f h =
    let x : a ≡ s = (bytes_decides a s).0 e in
    let y : b ≡ s = (bytes_decides b s).0 f in
    let z : same_text a b ≡ true = ap (λ w. same_text a w) (y ∙ sym x) ∙ same_text-self a in
    rw z at h

module _ {K : Type 0} where
  or_some : (k : K) (x : Option K) → x ≡ None → or_else x (Some k) ≡ Some k
  or_some k x e = ap (λ y. or_else y (Some k)) e

  -- beside a parameter there is no text
  no-past_text : (s : List ℕ) (ps : List Piece) (r : List (PatternOf K)) → clear_of_all (param ∷ ps) r ≡ true → past_text s r ≡ []
  no-past_text s ps [] h = refl
  no-past_text s ps (([], k) ∷ r) h = no-past_text s ps r h
  no-past_text s ps ((text t ∷ q, k) ∷ r) h = cc
  no-past_text s ps ((param ∷ q, k) ∷ r) h = no-past_text s ps r (both (clear_of ps q) (clear_of_all (param ∷ ps) r) h).1

  clear_of-past_text : (a s : List ℕ) (p : List Piece) (r : List (PatternOf K)) → same_text a s ≡ true → clear_of_all (text a ∷ p) r ≡ true
      → clear_of_all p (past_text s r) ≡ true
  clear_of-past_text a s p [] e h = refl
  clear_of-past_text a s p (([], k) ∷ r) e h = clear_of-past_text a s p r e h
  clear_of-past_text a s p ((text t ∷ q, k) ∷ r) e h =
      let halves = both (clear_of (text a ∷ p) (text t ∷ q)) (clear_of_all (text a ∷ p) r) h in
      by (clear_of-past_text a s p r e halves.1) halves.0 (same_text t s) refl
    where
      by : clear_of_all p (past_text s r) ≡ true → clear_of (text a ∷ p) (text t ∷ q) ≡ true
          → (v : Bool) → same_text t s ≡ v → clear_of_all p (cond v ((q, k) ∷ past_text s r) (past_text s r)) ≡ true
      by more here true f = rw (clear_of-same a t s p q e f here) more
      by more here false f = more
  clear_of-past_text a s p ((param ∷ q, k) ∷ r) e h = cc

  clear_of-past_param : (p : List Piece) (r : List (PatternOf K)) → clear_of_all (param ∷ p) r ≡ true → clear_of_all p (past_param r) ≡ true
  clear_of-past_param p [] h = refl
  clear_of-past_param p (([], k) ∷ r) h = clear_of-past_param p r h
  clear_of-past_param p ((text t ∷ q, k) ∷ r) h = cc
  clear_of-past_param p ((param ∷ q, k) ∷ r) h =
      let halves = both (clear_of p q) (clear_of_all (param ∷ p) r) h in
      rw halves.0 (clear_of-past_param p r halves.1)

  all_clear-past_text : (s : List ℕ) (ls : List (PatternOf K)) → all_clear ls ≡ true → all_clear (past_text s ls) ≡ true
  all_clear-past_text s [] h = refl
  all_clear-past_text s (([], k) ∷ r) h = all_clear-past_text s r (both (clear_of_all [] r) (all_clear r) h).1
  all_clear-past_text s ((text t ∷ q, k) ∷ r) h =
      let halves = both (clear_of_all (text t ∷ q) r) (all_clear r) h in
      by (all_clear-past_text s r halves.1) halves.0 (same_text t s) refl
    where
      by : all_clear (past_text s r) ≡ true → clear_of_all (text t ∷ q) r ≡ true
          → (v : Bool) → same_text t s ≡ v → all_clear (cond v ((q, k) ∷ past_text s r) (past_text s r)) ≡ true
      by more here true f = rw (clear_of-past_text t s q r f here) more
      by more here false f = more
  all_clear-past_text s ((param ∷ q, k) ∷ r) h = all_clear-past_text s r (both (clear_of_all (param ∷ q) r) (all_clear r) h).1

  all_clear-past_param : (ls : List (PatternOf K)) → all_clear ls ≡ true → all_clear (past_param ls) ≡ true
  all_clear-past_param [] h = refl
  all_clear-past_param (([], k) ∷ r) h = all_clear-past_param r (both (clear_of_all [] r) (all_clear r) h).1
  all_clear-past_param ((text t ∷ q, k) ∷ r) h = all_clear-past_param r (both (clear_of_all (text t ∷ q) r) (all_clear r) h).1
  all_clear-past_param ((param ∷ q, k) ∷ r) h =
      let halves = both (clear_of_all (param ∷ q) r) (all_clear r) h in
      rw (clear_of-past_param q r halves.0) (all_clear-past_param r halves.1)

  find-ends_here : (ls : List (PatternOf K)) → ends_here ls ≡ find ls []
  find-ends_here [] = refl
  find-ends_here (([], k) ∷ r) = refl
  find-ends_here ((p ∷ ps, k) ∷ r) = find-ends_here r

  -- one segment
  find-split : (s : List ℕ) (ss : List (List ℕ)) (ls : List (PatternOf K)) → all_clear ls ≡ true
      → or_else (find (past_text s ls) ss) (if_some s (find (past_param ls) ss)) ≡ find ls (s ∷ ss)
  find-split [] ss [] h = refl
  find-split (c ∷ s) ss [] h = refl
  find-split s ss (([], k) ∷ r) h = find-split s ss r (both (clear_of_all [] r) (all_clear r) h).1
  find-split s ss ((text t ∷ q, k) ∷ r) h =
      by (find-split s ss r (both (clear_of_all (text t ∷ q) r) (all_clear r) h).1) (same_text t s) (is_some (path_parts q ss)) refl
    where
      by : or_else (find (past_text s r) ss) (if_some s (find (past_param r) ss)) ≡ find r (s ∷ ss)
          → (v w : Bool) → is_some (path_parts q ss) ≡ w
          → or_else (find (cond v ((q, k) ∷ past_text s r) (past_text s r)) ss) (if_some s (find (past_param r) ss))
          ≡ cond (is_some (cond v (path_parts q ss) None)) (Some k) (find r (s ∷ ss))
      by more true true e = rw e refl
      by more true false e = rw e more
      by more false w e = more
  find-split [] ss ((param ∷ q, k) ∷ r) h = find-split [] ss r (both (clear_of_all (param ∷ q) r) (all_clear r) h).1
  find-split (c ∷ s) ss ((param ∷ q, k) ∷ r) h =
      let halves = both (clear_of_all (param ∷ q) r) (all_clear r) h in
      by halves.0 (find-split (c ∷ s) ss r halves.1) (is_some (path_parts q ss)) refl
      ∙ ap (λ v. cond v (Some k) (find r ((c ∷ s) ∷ ss))) (sym (some_with c s (path_parts q ss)))
    where
      by : clear_of_all (param ∷ q) r ≡ true
          → or_else (find (past_text (c ∷ s) r) ss) (find (past_param r) ss) ≡ find r ((c ∷ s) ∷ ss) → (w : Bool) → is_some (path_parts q ss) ≡ w
          → or_else (find (past_text (c ∷ s) r) ss) (cond (is_some (path_parts q ss)) (Some k) (find (past_param r) ss))
          ≡ cond (is_some (path_parts q ss)) (Some k) (find r ((c ∷ s) ∷ ss))
      by here more true e = rw e (or_some k (find (past_text (c ∷ s) r) ss) (ap (λ l. find l ss) (no-past_text (c ∷ s) q r here)))
      by here more false e = rw e more

  pick-find : (path : List (List ℕ)) (ls : List (PatternOf K)) → all_clear ls ≡ true → pick ls path ≡ find ls path
  pick-find [] ls h = find-ends_here ls
  pick-find (s ∷ ss) ls h =
      ap (λ x. or_else x (if_some s (pick (past_param ls) ss))) (pick-find ss (past_text s ls) (all_clear-past_text s ls h))
      ∙ ap (λ x. or_else (find (past_text s ls) ss) (if_some s x)) (pick-find ss (past_param ls) (all_clear-past_param ls h))
      ∙ find-split s ss ls h

  -- the walk finds the line of the table whose segments the path has
  pub first-finds : (ls : List (PatternOf K)) (path : List (List ℕ)) → ArePlain ls → all_clear ls ≡ true → AllPlain path
      → first (router_rows ls) (slashed path) ≡ find ls path
  first-finds ls path a h p = first-picks ls path a p ∙ pick-find path ls h
