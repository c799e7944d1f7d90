-- A table of lines answers by the lines of the pattern that the path has.
use Rattle.std.proofs.Common.{◌≡◌, ℕ, List, [], ◌∷◌, Option, Some, None, Bool, true, false, cond, refl, sym, ap, ◌∙◌, ◌||◌}
use Rattle.std.specs.Prelude.{is_some, bytes_eq}
use Rattle.std.specs.Option.{option_map}
use Rattle.std.specs.Cmp.Lexicographic.{bytes_decides}
use Rattle.std.proofs.lemmas.Bool.{and_parts as both}
use Rattle.matchit.specs.Seek.{same_text}
use Rattle.matchit.proofs.ParamLemmas.{same_text-self}
use Rattle.api.specs.router.Pick.{Piece, text, param}
use Rattle.api.specs.router.Find.{path_parts, with_part, find}
use Rattle.api.specs.router.Ways.{MethodWay, same_pieces, never_both, or_way, by_method, first_by_path, any_by_path, first_by_pattern, any_by_pattern, decides, agrees, has_pattern, has_patterns}

some_with : (c : ℕ) (s : List ℕ) (m : Option (List (List ℕ))) → is_some (with_part (c ∷ s) m) ≡ is_some m
some_with c s None = refl
some_with c s (Some parts) = refl

none_with : (c : ℕ) (s : List ℕ) (m : Option (List (List ℕ))) → m ≡ None → with_part (c ∷ s) m ≡ None
none_with c s m e = ap (with_part (c ∷ s)) e

is_true : (v : Bool) (m : Option (List (List ℕ))) → is_some (cond v m None) ≡ true → (v ≡ true) × (is_some m ≡ true)
is_true true m f = (refl, f)
is_true false m f = (cc, cc)

same-path_parts : (p q : List Piece) (path : List (List ℕ)) → same_pieces p q ≡ true → path_parts q path ≡ path_parts p path
same-path_parts [] [] path h = refl
same-path_parts [] (y ∷ q) path h = cc
same-path_parts (x ∷ p) [] path h = cc
same-path_parts (text a ∷ p) (text b ∷ q) [] h = refl
same-path_parts (text a ∷ p) (text b ∷ q) (s ∷ ss) h =
    let halves = both (same_text a b) (same_pieces p q) h in
    let e : a ≡ b = (bytes_decides a b).0 halves.0 in
    ap (λ t. cond (same_text t s) (path_parts q ss) None) (sym e) ∙ ap (λ m. cond (same_text a s) m None) (same-path_parts p q ss halves.1)
same-path_parts (text a ∷ p) (param ∷ q) path h = cc
same-path_parts (param ∷ p) (text b ∷ q) path h = cc
same-path_parts (param ∷ p) (param ∷ q) [] h = refl
same-path_parts (param ∷ p) (param ∷ q) (s ∷ ss) h = ap (with_part s) (same-path_parts p q ss h)

never_both-path_parts : (p q : List Piece) (path : List (List ℕ)) → never_both p q ≡ true → is_some (path_parts p path) ≡ true → path_parts q path ≡ None
never_both-path_parts [] [] path h f = cc
never_both-path_parts [] (y ∷ q) [] h f = refl
never_both-path_parts [] (y ∷ q) (s ∷ ss) h f = cc
never_both-path_parts (x ∷ p) [] [] h f = by x f
  where
    by : (x : Piece) → is_some (path_parts (x ∷ p) []) ≡ true → path_parts [] [] ≡ None
    by x f = cc
never_both-path_parts (x ∷ p) [] (s ∷ ss) h f = refl
never_both-path_parts (text a ∷ p) (text b ∷ q) [] h f = cc
never_both-path_parts (text a ∷ p) (text b ∷ q) (s ∷ ss) h f =
    let g = is_true (same_text a s) (path_parts p ss) f in
    by (λ d. never_both-path_parts p q ss d g.1) g.0 (same_text b s) refl
  where
    by : (never_both p q ≡ true → path_parts q ss ≡ None) → same_text a s ≡ true → (v : Bool) → same_text b s ≡ v → cond v (path_parts q ss) None ≡ None
    by more e false w = refl
    by more e true w =
        let x : a ≡ s = (bytes_decides a s).0 e in
        let y : b ≡ s = (bytes_decides b s).0 w in
        let z : same_text a b ≡ true = ap (same_text a) (y ∙ sym x) ∙ same_text-self a in
        more (sym (ap (λ v. cond v (never_both p q) true) z) ∙ h)
never_both-path_parts (text a ∷ p) (param ∷ q) path h f = cc
never_both-path_parts (param ∷ p) (text b ∷ q) path h f = cc
never_both-path_parts (param ∷ p) (param ∷ q) [] h f = cc
never_both-path_parts (param ∷ p) (param ∷ q) ([] ∷ ss) h f = refl
never_both-path_parts (param ∷ p) (param ∷ q) ((c ∷ s) ∷ ss) h f =
    none_with c s (path_parts q ss) (never_both-path_parts p q ss h (sym (some_with c s (path_parts p ss)) ∙ f))

is_none : (m : Option (List (List ℕ))) → is_some m ≡ false → m ≡ None
is_none None e = refl
is_none (Some x) e = cc

module _ {R : Type 0} where
  no_way : (b : Bool) → by_method {R = R} b None ≡ None
  no_way true = refl
  no_way false = refl

  pub lines-answer : (method : List ℕ) (path parts : List (List ℕ)) (p : List Piece) (ls : List (MethodWay R)) → decides p ls ≡ true → path_parts p path ≡ Some parts
      → first_by_path method path ls ≡ first_by_pattern method parts p ls
  lines-answer method path parts p [] d f = refl
  lines-answer method path parts p ((m, (q, made)) ∷ r) d f =
      let halves = both (cond (same_pieces p q) true (never_both p q)) (decides p r) d in
      by (lines-answer method path parts p r halves.1 f) (same_pieces p q) refl halves.0
    where
      by : first_by_path method path r ≡ first_by_pattern method parts p r → (v : Bool) → same_pieces p q ≡ v → cond v true (never_both p q) ≡ true
          → or_way (by_method (bytes_eq method m) (option_map made (path_parts q path))) (first_by_path method path r)
          ≡ cond v (or_way (by_method (bytes_eq method m) (Some (made parts))) (first_by_pattern method parts p r)) (first_by_pattern method parts p r)
      by more true e x =
          ap (λ o. or_way (by_method (bytes_eq method m) (option_map made o)) (first_by_path method path r)) (same-path_parts p q path e ∙ f)
          ∙ ap (or_way (by_method (bytes_eq method m) (Some (made parts)))) more
      by more false e x =
          ap (λ o. or_way (by_method (bytes_eq method m) (option_map made o)) (first_by_path method path r)) (never_both-path_parts p q path x (ap is_some f))
          ∙ ap (λ o. or_way o (first_by_path method path r)) (no_way (bytes_eq method m))
          ∙ more

  pub lines-path : (path parts : List (List ℕ)) (p : List Piece) (ls : List (MethodWay R)) → decides p ls ≡ true → path_parts p path ≡ Some parts
      → any_by_path path ls ≡ any_by_pattern p ls
  lines-path path parts p [] d f = refl
  lines-path path parts p ((m, (q, made)) ∷ r) d f =
      let halves = both (cond (same_pieces p q) true (never_both p q)) (decides p r) d in
      by (lines-path path parts p r halves.1 f) (same_pieces p q) refl halves.0
    where
      by : any_by_path path r ≡ any_by_pattern p r → (v : Bool) → same_pieces p q ≡ v → cond v true (never_both p q) ≡ true
          → (is_some (path_parts q path) || any_by_path path r) ≡ cond v true (any_by_pattern p r)
      by more true e x = ap (λ o. is_some o || any_by_path path r) (same-path_parts p q path e ∙ f)
      by more false e x = ap (λ o. is_some o || any_by_path path r) (never_both-path_parts p q path x (ap is_some f)) ∙ more

module _ {K : Type 0} where
  -- what is found has its pattern
  pub find-path_parts : (f : K → List Piece) (ls : List (List Piece × K)) (path : List (List ℕ)) (k : K) → agrees f ls ≡ true → find ls path ≡ Some k
      → is_some (path_parts (f k) path) ≡ true
  find-path_parts f [] path k a e = cc
  find-path_parts f ((ps, x) ∷ r) path k a e =
      let halves = both (same_pieces (f x) ps) (agrees f r) a in
      by (λ g. find-path_parts f r path k halves.1 g) halves.0 (is_some (path_parts ps path)) refl e
    where
      by : (find r path ≡ Some k → is_some (path_parts (f k) path) ≡ true) → same_pieces (f x) ps ≡ true → (v : Bool) → is_some (path_parts ps path) ≡ v
          → cond v (Some x) (find r path) ≡ Some k → is_some (path_parts (f k) path) ≡ true
      by more s true w g =
          let same : x ≡ k = cc in
          ap (λ y. is_some (path_parts (f y) path)) (sym same) ∙ sym (ap is_some (same-path_parts (f x) ps path s)) ∙ w
      by more s false w g = more g

  -- where nothing is found, the path has none of the patterns
  find-none : (ls : List (List Piece × K)) (q : List Piece) (path : List (List ℕ)) → has_pattern ls q ≡ true → find ls path ≡ None → path_parts q path ≡ None
  find-none [] q path c e = cc
  find-none ((ps, x) ∷ r) q path c e =
      by (λ d g. find-none r q path d g) (is_some (path_parts ps path)) refl e (same_pieces ps q) refl c
    where
      by : (has_pattern r q ≡ true → find r path ≡ None → path_parts q path ≡ None) → (v : Bool) → is_some (path_parts ps path) ≡ v
          → cond v (Some x) (find r path) ≡ None → (s : Bool) → same_pieces ps q ≡ s → cond s true (has_pattern r q) ≡ true → path_parts q path ≡ None
      by more true w g s t d = cc
      by more false w g true t d = same-path_parts ps q path t ∙ is_none (path_parts ps path) w
      by more false w g false t d = more d g

module _ {K R : Type 0} where
  pub lines-none : (method : List ℕ) (path : List (List ℕ)) (table : List (List Piece × K)) (ls : List (MethodWay R)) → has_patterns table ls ≡ true
      → find table path ≡ None → (first_by_path method path ls ≡ None) × (any_by_path path ls ≡ false)
  lines-none method path table [] c e = (refl, refl)
  lines-none method path table ((m, (q, made)) ∷ r) c e =
      let c2 = both (has_pattern table q) (has_patterns table r) c in
      let more = lines-none method path table r c2.1 e in
      let none = find-none table q path c2.0 e in (
        ap (λ o. or_way (by_method (bytes_eq method m) (option_map made o)) (first_by_path method path r)) none
            ∙ ap (λ o. or_way o (first_by_path method path r)) (no_way (bytes_eq method m)) ∙ more.0,
        ap (λ o. is_some o || any_by_path path r) none ∙ more.1,
      )
