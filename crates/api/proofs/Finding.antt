-- What the router finds is what the definition says.
use Rattle.std.proofs.Common.{◌≡◌, ℕ, true, false, List, [], ◌∷◌, map, refl, ap, sym, ◌∙◌, subst, lit<}
use Rattle.std.proofs.lemmas.Str.{chars-nil}
use Rattle.std.specs.Option.{option_map}
use Rattle.std.specs.Prelude.{Option, Some, None}
use Rattle.std.specs.Str.{chars, IsUtf8}
use Rattle.std.proofs.lemmas.Bool.{and_parts as both}
use Rattle.matchit.specs.Params.{walk}
use Rattle.matchit.specs.Router.{RouteOf}
use Rattle.matchit.specs.Seek.{first}
use Rattle.model_requests.specs.declared.routed.Routed.TheVariants.{NotFound}
use Rattle.model_requests.specs.Routing as model
use Rattle.api.specs.router.Cuts.{AllUtf8, Cut, find_from}
use Rattle.api.specs.router.Find.{find, path_parts}
use Rattle.api.specs.router.Pick.{router_rows}
use Rattle.api.specs.router.Ways.{any_by_path, any_by_pattern, decides, first_by_path}
use Rattle.api.proofs.Cuts.{cut, first-from, parts-text}
use Rattle.api.proofs.RouteLaws.{find-passes, first-takes}
use Rattle.api.proofs.WayLaws.{lines-answer, lines-path, lines-none}
use Rattle.api.specs.declared.kind.Kind.{Kind}
use Rattle.api.specs.declared.place.Place.{Place}
use Rattle.api.specs.inner.Kinds.{kind_in, kind_lines, made_by, made_with, routed_at}
use Rattle.api.specs.inner.Places.{pieces_of, table, taken}
use Rattle.api.proofs.Characters.{chars-split}
use Rattle.api.proofs.Parts.{some-chars}
use Rattle.api.proofs.Tables.{table-clear, table-plain, table-routes}
use Rattle.api.proofs.Ways.{any-none, any-ways, first-none, first-ways, has_lines, kinds-first, lines-slashed, lines-ways, places-have, table-has, ways}

-- the segments of a target by the segments of its path
pub segments-chars : (path target : List ℕ) (c : Cut path) → IsUtf8 path → chars path ≡ model.path_of target
    → model.segments (model.path_of target) ≡ chars c.front ∷ map chars c.segments
segments-chars path target c u e = sym (ap (map chars) (sym c.are) ∙ chars-split 47 (lit< tt) path u ∙ ap model.segments e)

-- by the lines of this crate
by-ways : (method target : List ℕ) (ss : List (List ℕ)) → model.segments (model.path_of target) ≡ [] ∷ map chars ss → AllUtf8 ss
    → model.routed_as method target ≡ model.or_none (any_by_path ss (ways (model.query_of target))) (first_by_path method ss (ways (model.query_of target)))
unfolding model.routed_as
by-ways method target ss is texts =
    ap (λ b. model.or_none b (model.first_route method target model.lines)) (any-ways method target ss is texts model.lines lines-slashed)
    ∙ ap (model.or_none (any_by_path ss _)) (first-ways method target ss is texts model.lines lines-slashed)
    ∙ ap (λ ls. model.or_none (any_by_path ss ls) (first_by_path method ss ls)) (lines-ways (model.query_of target))

answered : (found : Option Kind) (query : List ℕ) (parts : List (List ℕ))
    → model.or_none true (option_map (λ k. made_by k query parts) found) ≡ routed_at found query parts
answered None query parts = refl
answered (Some k) query parts = refl

pub made-same : (k : Kind) (q a b c query : List ℕ) (parts : List (List ℕ)) → q ≡ query → a ≡ model.part 0 parts → b ≡ model.part 1 parts
    → c ≡ model.part 2 parts → made_with k q a b c ≡ made_by k query parts
made-same k q a b c query parts e x y z =
    ap (λ l. made_with k l a b c) e ∙ ap (λ l. made_with k query l b c) x
    ∙ ap (λ l. made_with k query (model.part 0 parts) l c) y ∙ ap (made_with k query (model.part 0 parts) (model.part 1 parts)) z

-- ---- no pattern is found

lost-front : (method target front : List ℕ) (ss : List (List ℕ)) → IsUtf8 front → AllUtf8 ss
    → model.segments (model.path_of target) ≡ chars front ∷ map chars ss → find_from table front ss ≡ None → NotFound ≡ model.routed_as method target
unfolding model.routed_as
lost-front method target [] ss u texts is none =
    let q = model.query_of target in
    let e = lines-none method ss table (ways q) (table-has q) none in
    sym (by-ways method target ss (is ∙ ap (λ l. l ∷ map chars ss) chars-nil) texts
    ∙ ap (λ b. model.or_none b (first_by_path method ss (ways q))) e.1
    ∙ ap (model.or_none false) e.0)
lost-front method target (b ∷ bs) ss u texts is none =
    let some = some-chars b bs u in
    sym (ap (λ x. model.or_none x (model.first_route method target model.lines)) (any-none method target (chars (b ∷ bs)) (map chars ss) is some model.lines lines-slashed)
    ∙ ap (model.or_none false) (first-none method target (chars (b ∷ bs)) (map chars ss) is some model.lines lines-slashed))

pub lost : (method path target : List ℕ) → IsUtf8 path → chars path ≡ model.path_of target → first (router_rows table) path ≡ None
    → NotFound ≡ model.routed_as method target
lost method path target u e none =
    let c = cut path u in
    lost-front method target c.front c.segments c.text c.all_text (segments-chars path target c u e)
    (sym (first-from table path c.front c.segments table-plain table-clear c.whole c.plain c.all_plain) ∙ none)

-- ---- a pattern is found

record IsTaken (method target : List ℕ) (place : Place) (parts : List (List ℕ)) : Type 0 where
  texts : AllUtf8 parts
  routed : routed_at (kind_in method place kind_lines) (model.query_of target) (map chars parts) ≡ model.routed_as method target

found-at : (method target : List ℕ) (ss parts : List (List ℕ)) (r : RouteOf Place) → AllUtf8 ss
    → model.segments (model.path_of target) ≡ [] ∷ map chars ss → find table ss ≡ Some r → path_parts (pieces_of r.value) ss ≡ Some parts
    → IsTaken method target r.value parts
found-at method target ss parts r texts is found takes =
    let q = model.query_of target in
    let p = pieces_of r.value in
    let has = both (decides p (ways q)) (any_by_pattern p (ways q)) (find-passes (λ x. has_lines q x.value) table ss r (places-have q) found) in
    record {
      texts = parts-text p ss parts texts takes;
      routed =
          sym (by-ways method target ss is texts
          ∙ ap (λ b. model.or_none b (first_by_path method ss (ways q))) (lines-path ss parts p (ways q) has.0 takes ∙ has.1)
          ∙ ap (model.or_none true) (lines-answer method ss parts p (ways q) has.0 takes ∙ kinds-first method q parts r.value kind_lines)
          ∙ answered (kind_in method r.value kind_lines) q (map chars parts));
    }

found : (method path target : List ℕ) (r : RouteOf Place) → IsUtf8 path → chars path ≡ model.path_of target → first (router_rows table) path ≡ Some r
    → IsTaken method target r.value (taken (walk r.pattern r.text path r.names 0 0))
found method path target r u e is =
    let c = cut path u in
    let t = first-takes pieces_of table path c.front c.segments r table-plain table-clear table-routes c.whole c.plain c.all_plain is in
    found-at method target c.segments (taken (walk r.pattern r.text path r.names 0 0)) r c.all_text
    (segments-chars path target c u e ∙ ap (λ l. chars l ∷ map chars c.segments) t.0 ∙ ap (λ l. l ∷ map chars c.segments) chars-nil)
    t.1 t.2

-- by what an iterator over the parameters gives
pub found-parts : (method path query target : List ℕ) (r : RouteOf Place) (params_path : List ℕ) (params : List (List ℕ × List ℕ))
    → IsUtf8 path → chars path ≡ model.path_of target → chars query ≡ model.query_of target
    → first (router_rows table) path ≡ Some r → params_path ≡ path → params ≡ walk r.pattern r.text params_path r.names 0 0
    → AllUtf8 (taken params)
    × (routed_at (kind_in method r.value kind_lines) (chars query) (map chars (taken params)) ≡ model.routed_as method target)
found-parts method path query target r params_path params u e f is same are =
    let all = taken (walk r.pattern r.text path r.names 0 0) in
    let h = found method path target r u e is in
    let all_same = ap taken are ∙ ap (λ l. taken (walk r.pattern r.text l r.names 0 0)) same in (
      subst AllUtf8 (sym all_same) h.texts,
      ap (λ l. routed_at (kind_in method r.value kind_lines) l (map chars (taken params))) f
          ∙ ap (λ l. routed_at (kind_in method r.value kind_lines) (model.query_of target) (map chars l)) all_same
          ∙ h.routed,
    )
