-- The lines of the definition's table by the places of this crate.
use Rattle.std.proofs.Common.{◌≡◌, ℕ, Bool, true, false, cond, List, [], ◌∷◌, map, drop, refl, ap, ◌∙◌, ◌&&◌, ◌||◌}
use Rattle.std.specs.List.{list_all}
use Rattle.std.specs.Option.{option_map}
use Rattle.std.specs.Prelude.{bytes_eq, if◌then◌else◌, is_some, Option, Some, None}
use Rattle.std.specs.Str.{chars}
use Rattle.std.proofs.lemmas.Bool.{and_parts as both}
use Rattle.form_urlencoded.specs.Form.{split}
use Rattle.model_requests.specs.declared.routed.Routed.{Routed}
use Rattle.model_requests.specs.Routing.{Line, first_route, is_empty, is_path, lines, or_else, parts_by, parts_of, path_of, query_of, route_by, segments}
use Rattle.api.specs.router.Cuts.{AllUtf8}
use Rattle.api.specs.router.Find.{path_parts}
use Rattle.api.specs.router.Ways.{MethodWay, any_by_path, any_by_pattern, by_method, decides, first_by_path, first_by_pattern, has_patterns, or_way, same_pieces}
use Rattle.api.specs.declared.kind.Kind.{Kind}
use Rattle.api.specs.declared.place.Place.{Place}
use Rattle.api.specs.inner.Kinds.{KindLine, kind_in, kind_lines, made_by}
use Rattle.api.specs.inner.Places.{pieces_of, table}
use Rattle.api.proofs.Parts.{is_ascii, parts-chars, piece_of}

-- ---- lines by bytes

-- a line of the definition, and one of this crate: the request is made of a query string and of the parts' characters
abbrev pub way_of : (query : List ℕ) → Line → MethodWay Routed
way_of query l = (l.method, (map piece_of (drop 1 (segments l.pattern)), λ parts. l.made query (map chars parts)))

abbrev pub way : (query : List ℕ) → KindLine → MethodWay Routed
way query (m, (p, k)) = (m, (pieces_of p, λ parts. made_by k query (map chars parts)))

abbrev pub ways : (query : List ℕ) → List (MethodWay Routed)
ways query = map (way query) kind_lines

pub lines-ways : (query : List ℕ) → map (way_of query) lines ≡ ways query
unfolding split lines kind_lines
lines-ways query = refl

-- the first piece of each pattern is empty, and the others are in ASCII
abbrev is_slashed : List (List ℕ) → Bool
is_slashed [] = false
is_slashed ([] ∷ ps) = list_all is_ascii ps
is_slashed ((c ∷ s) ∷ ps) = false

abbrev are_slashed : List Line → Bool
are_slashed ls = list_all (λ l. is_slashed (segments l.pattern)) ls

pub lines-slashed : are_slashed lines ≡ true
unfolding split lines
lines-slashed = refl

-- ---- a path that begins with a slash

parts-line : (pattern ss : List (List ℕ)) → is_slashed pattern ≡ true → AllUtf8 ss
    → parts_by pattern ([] ∷ map chars ss) ≡ option_map (map chars) (path_parts (map piece_of (drop 1 pattern)) ss)
parts-line [] ss h u = cc
parts-line ([] ∷ ps) ss h u = parts-chars ps ss h u
parts-line ((c ∷ s) ∷ ps) ss h u = cc

mapped : (made : List (List ℕ) → Routed) (m : Option (List (List ℕ))) → option_map made (option_map (map chars) m) ≡ option_map (λ parts. made (map chars parts)) m
mapped made None = refl
mapped made (Some parts) = refl

mapped-some : (m : Option (List (List ℕ))) → is_some (option_map (map chars) m) ≡ is_some m
mapped-some None = refl
mapped-some (Some parts) = refl

or_else-way : (a b : Option Routed) → or_else a b ≡ or_way a b
or_else-way None b = refl
or_else-way (Some r) b = refl

module _ (method target : List ℕ) (ss : List (List ℕ)) (is : segments (path_of target) ≡ [] ∷ map chars ss) (texts : AllUtf8 ss) where
  parts-of : (l : Line) → is_slashed (segments l.pattern) ≡ true
      → parts_of target l ≡ option_map (map chars) (path_parts (map piece_of (drop 1 (segments l.pattern))) ss)
  parts-of l h = ap (parts_by (segments l.pattern)) is ∙ parts-line (segments l.pattern) ss h texts

  pub first-ways : (ls : List Line) → are_slashed ls ≡ true → first_route method target ls ≡ first_by_path method ss (map (way_of (query_of target)) ls)
  first-ways [] h = refl
  first-ways (l ∷ ls) h =
      let h2 = both (is_slashed (segments l.pattern)) (are_slashed ls) h in
      let pieces = map piece_of (drop 1 (segments l.pattern)) in
      let rest = first_by_path method ss (map (way_of (query_of target)) ls) in
      ap (or_else (route_by method target l)) (first-ways ls h2.1)
      ∙ or_else-way (route_by method target l) rest
      ∙ ap (λ m. or_way (by_method (bytes_eq method l.method) (option_map (l.made (query_of target)) m)) rest) (parts-of l h2.0)
      ∙ ap (λ m. or_way (by_method (bytes_eq method l.method) m) rest) (mapped (l.made (query_of target)) (path_parts pieces ss))

  pub any-ways : (ls : List Line) → are_slashed ls ≡ true → is_path target ls ≡ any_by_path ss (map (way_of (query_of target)) ls)
  any-ways [] h = refl
  any-ways (l ∷ ls) h =
      let h2 = both (is_slashed (segments l.pattern)) (are_slashed ls) h in
      let pieces = map piece_of (drop 1 (segments l.pattern)) in
      ap (λ b. is_some (parts_of target l) || b) (any-ways ls h2.1)
      ∙ ap (λ m. is_some m || any_by_path ss (map (way_of (query_of target)) ls)) (parts-of l h2.0)
      ∙ ap (λ b. b || any_by_path ss (map (way_of (query_of target)) ls)) (mapped-some (path_parts pieces ss))

-- ---- a path with something before its first slash

not-empty : (cs : List ℕ) → is_empty cs ≡ false → bytes_eq [] cs ≡ false
not-empty [] h = cc
not-empty (c ∷ cs) h = refl

parts-none : (pattern ss : List (List ℕ)) (cs : List ℕ) → is_slashed pattern ≡ true → is_empty cs ≡ false → parts_by pattern (cs ∷ ss) ≡ None
parts-none [] ss cs h e = cc
parts-none ([] ∷ ps) ss cs h e = ap (λ b. if b then parts_by ps ss else None) (not-empty cs e)
parts-none ((c ∷ s) ∷ ps) ss cs h e = cc

either : (b : Bool) (r : Option Routed) → (if b then r else r) ≡ r
either true r = refl
either false r = refl

module _ (method target cs : List ℕ) (ss : List (List ℕ)) (is : segments (path_of target) ≡ cs ∷ ss) (some : is_empty cs ≡ false) where
  none-of : (l : Line) → is_slashed (segments l.pattern) ≡ true → parts_of target l ≡ None
  none-of l h = ap (parts_by (segments l.pattern)) is ∙ parts-none (segments l.pattern) ss cs h some

  pub first-none : (ls : List Line) → are_slashed ls ≡ true → first_route method target ls ≡ None
  first-none [] h = refl
  first-none (l ∷ ls) h =
      let h2 = both (is_slashed (segments l.pattern)) (are_slashed ls) h in
      ap (or_else (route_by method target l)) (first-none ls h2.1)
      ∙ ap (λ m. or_else (if bytes_eq method l.method then option_map (l.made (query_of target)) m else None) None) (none-of l h2.0)
      ∙ ap (λ r. or_else r None) (either (bytes_eq method l.method) None)

  pub any-none : (ls : List Line) → are_slashed ls ≡ true → is_path target ls ≡ false
  any-none [] h = refl
  any-none (l ∷ ls) h =
      let h2 = both (is_slashed (segments l.pattern)) (are_slashed ls) h in
      ap (λ b. is_some (parts_of target l) || b) (any-none ls h2.1)
      ∙ ap (λ m. is_some m || false) (none-of l h2.0)

-- ---- the lines of a place

-- the table has each line's pattern
pub table-has : (query : List ℕ) → has_patterns table (ways query) ≡ true
unfolding table kind_lines
table-has query = refl

-- each place's pattern is that of a line, and no path has it and another one
abbrev pub has_lines : (query : List ℕ) → Place → Bool
has_lines query p = decides (pieces_of p) (ways query) && any_by_pattern (pieces_of p) (ways query)

pub places-have : (query : List ℕ) → list_all (λ l. has_lines query l.1.value) table ≡ true
unfolding table kind_lines
places-have query = refl

-- the request of a place's parts is that of the place's kind
pub kinds-first : (method query : List ℕ) (parts : List (List ℕ)) (p : Place) (ls : List KindLine)
    → first_by_pattern method parts (pieces_of p) (map (way query) ls) ≡ option_map (λ k. made_by k query (map chars parts)) (kind_in method p ls)
kinds-first method query parts p [] = refl
kinds-first method query parts p ((m, (q, k)) ∷ ls) =
    by (first_by_pattern method parts (pieces_of p) (map (way query) ls)) (kind_in method p ls) (kinds-first method query parts p ls) (same_pieces (pieces_of p) (pieces_of q)) (bytes_eq method m)
  where
    by : (first : Option Routed) (kind : Option Kind) → first ≡ option_map (λ k. made_by k query (map chars parts)) kind → (s b : Bool)
        → cond s (or_way (by_method b (Some (made_by k query (map chars parts)))) first) first
        ≡ option_map (λ k. made_by k query (map chars parts)) (cond (s && b) (Some k) kind)
    by first kind e true true = refl
    by first kind e true false = e
    by first kind e false b = e
