-- What a router of routes finds for a whole path, with the parts that the parameters took.
use Rattle.std.proofs.Common.{◌≡◌, ℕ, ◌<◌, Bool, true, false, cond, List, [], ◌∷◌, ◌++◌, length, map, Some, None, refl, sym, ap, ◌∙◌, subst, arith, ◌==◌, ltb, ◌&&◌, eqb-true as same-number, ltb-true as below}
use Rattle.std.specs.Cmp.Lexicographic.{bytes_decides}
use Rattle.std.specs.List.{list_all}
use Rattle.std.specs.Prelude.{is_some}
use Rattle.std.proofs.lemmas.Bool.{and_parts as both}
use Rattle.matchit.specs.Params.{walk}
use Rattle.matchit.specs.Router.{RouteOf}
use Rattle.matchit.specs.Seek.{first, same_text}
use Rattle.api.specs.router.Pick.{Piece, text, param, PatternOf, IsPlain, AllPlain, IsPlainPattern, ArePlain, router_rows, slashed, tokens}
use Rattle.api.specs.router.Find.{all_clear, arity, find, path_parts}
use Rattle.api.specs.router.Routes.{are_routes, is_route_of}
use Rattle.api.specs.router.Ways.{same_pieces}
use Rattle.api.proofs.Cuts.{first-from}
use Rattle.api.proofs.RouterParts.{parts-walk}

pieces-same : (p q : List Piece) → same_pieces p q ≡ true → p ≡ q
pieces-same [] [] h = refl
pieces-same [] (y ∷ q) h = cc
pieces-same (x ∷ p) [] h = cc
pieces-same (text a ∷ p) (text b ∷ q) h =
    let halves = both (same_text a b) (same_pieces p q) h in
    ap (λ t. text t ∷ p) ((bytes_decides a b).0 halves.0) ∙ ap (λ r. text b ∷ r) (pieces-same p q halves.1)
pieces-same (text a ∷ p) (param ∷ q) h = cc
pieces-same (param ∷ p) (text b ∷ q) h = cc
pieces-same (param ∷ p) (param ∷ q) h = ap (λ r. param ∷ r) (pieces-same p q h)

-- what is found passes each test that all lines of the table pass
pub find-passes : {K : Type 0} (test : K → Bool) (table : List (PatternOf K)) (path : List (List ℕ)) (k : K)
    → list_all (λ l. test l.1) table ≡ true → find table path ≡ Some k → test k ≡ true
find-passes test [] path k t e = cc
find-passes {K} test ((ps, x) ∷ rest) path k t e =
    let halves = both (test x) (list_all (λ l. test l.1) rest) t in
    by (λ f. find-passes test rest path k halves.1 f) halves.0 (is_some (path_parts ps path)) e
  where
    by : (find rest path ≡ Some k → test k ≡ true) → test x ≡ true → (v : Bool) → cond v (Some x) (find rest path) ≡ Some k → test k ≡ true
    by more h true g =
        let same : x ≡ k = cc in
        sym (ap test same) ∙ h
    by more h false g = more g

module _ {V : Type 0} where
  record IsFound (ps : List Piece) (r : RouteOf V) (path : List (List ℕ)) : Type 0 where
    fits : is_some (path_parts ps path) ≡ true
    plain : IsPlainPattern ps
    pattern : r.pattern ≡ tokens ps
    names : length r.names ≡ arity ps
    short : length (tokens ps) < 18446744073709551615

  found : (ps : List Piece) (r : RouteOf V) (path : List (List ℕ)) → is_some (path_parts ps path) ≡ true → IsPlainPattern ps
      → is_route_of ps r ≡ true → IsFound ps r path
  found ps r path f p t =
      let halves = both (same_text r.pattern (tokens ps)) ((length r.names == arity ps) && ltb (length (tokens ps)) 18446744073709551615) t in
      let inner = both (length r.names == arity ps) (ltb (length (tokens ps)) 18446744073709551615) halves.1 in
      record {
        fits = f;
        plain = p;
        pattern = (bytes_decides r.pattern (tokens ps)).0 halves.0;
        names = same-number (length r.names) (arity ps) inner.0;
        short = below (length (tokens ps)) 18446744073709551615 inner.1;
      }

  -- what is found has the pattern of its value
  find-route : (of : V → List Piece) (table : List (PatternOf (RouteOf V))) (path : List (List ℕ)) (r : RouteOf V) → ArePlain table
      → are_routes of table ≡ true → find table path ≡ Some r → IsFound (of r.value) r path
  find-route of [] path r a t e = cc
  find-route of ((ps, x) ∷ rest) path r a t e =
      let halves = both (same_pieces (of x.value) ps && is_route_of ps x) (are_routes of rest) t in
      let inner = both (same_pieces (of x.value) ps) (is_route_of ps x) halves.0 in
      by (λ f. find-route of rest path r a.1 halves.1 f) (pieces-same (of x.value) ps inner.0) inner.1 (is_some (path_parts ps path)) refl e
    where
      by : (find rest path ≡ Some r → IsFound (of r.value) r path) → of x.value ≡ ps → is_route_of ps x ≡ true
          → (v : Bool) → is_some (path_parts ps path) ≡ v → cond v (Some x) (find rest path) ≡ Some r → IsFound (of r.value) r path
      by more s i true f g =
          let same : x ≡ r = cc in
          subst (λ (y : RouteOf V). IsFound (of y.value) y path) same
          (subst (λ (p : List Piece). IsFound p x path) (sym s) (found ps x path f a.0 i))
      by more s i false f g = more g

  -- the parts that its parameters took
  found-parts : (ps : List Piece) (r : RouteOf V) (path : List (List ℕ)) → AllPlain path → IsFound ps r path
      → path_parts ps path ≡ Some (map (λ p. p.1) (walk r.pattern r.text (slashed path) r.names 0 0))
  found-parts ps r path q f =
      sym (ap (λ t. Some (map (λ p. p.1) (walk t r.text (slashed path) r.names 0 0))) f.pattern
      ∙ parts-walk ps path r.names (tokens ps) r.text (slashed path) 0 0 f.plain q f.fits f.names f.short refl (omega arith) refl (omega arith))

  -- a whole path: nothing is before its first slash, and the parameters took its parts
  pub first-takes : (of : V → List Piece) (table : List (PatternOf (RouteOf V))) (path front : List ℕ) (segments : List (List ℕ)) (r : RouteOf V)
      → ArePlain table → all_clear table ≡ true → are_routes of table ≡ true
      → path ≡ front ++ slashed segments → IsPlain front → AllPlain segments → first (router_rows table) path ≡ Some r
      → (front ≡ []) × (find table segments ≡ Some r)
      × (path_parts (of r.value) segments ≡ Some (map (λ p. p.1) (walk r.pattern r.text path r.names 0 0)))
  first-takes of table path [] segments r a c t e p q f =
      let g = sym (first-from table path [] segments a c e p q) ∙ f in
      let parts = found-parts (of r.value) r segments q (find-route of table segments r a t g) in
      (refl, g, parts ∙ ap (λ l. Some (map (λ p. p.1) (walk r.pattern r.text l r.names 0 0))) (sym e))
  first-takes of table path (b ∷ s) segments r a c t e p q f =
      let g : None ≡ Some r = sym (first-from table path (b ∷ s) segments a c e p q) ∙ f in
      cc
