-- What members give to fields, as they are taken from the last to the first.
use Rattle.std.proofs.Common.{◌≡◌, ℕ, Bool, true, false, not, List, [], ◌∷◌, ◌++◌, map, filter, reverse, refl, sym, ap, ◌∙◌, append-nil, append_assoc}
use Rattle.std.specs.Prelude.{bytes_eq, codes}
use Rattle.std.specs.Str.{chars}
use Rattle.std.proofs.lemmas.List.{map-append, reverse-append}
use Rattle.std.proofs.lemmas.List.Elements.{filter-append}
use Rattle.base_json.specs.declared.tree.Json.{Json}
use Rattle.base_json.specs.declared.tree.Member.{Member, out-Member}
use Rattle.model.specs.declared.record_bodies.Assignment.{Assignment}
use Rattle.model.specs.declared.record_bodies.Given.TheVariants as gives
use Rattle.api_input.specs.inner.Given.{given_by}
use Rattle.api_input.specs.inner.Spelled.{body_of}

-- whether a member gives a value
abbrev pub is_given : List ℕ × Json → Bool
is_given m = not (bytes_eq m.0 (codes "attributes"))

-- the value that a member gives
abbrev pub value_of : List ℕ × Json → Assignment
value_of m = record { field = m.0; given = gives.Json m.1 }

-- of members and one more
given_more : (ms : List Member) (m : Member) → given_by (body_of (ms ++ m ∷ [])) ≡ given_by (body_of ms) ++ given_by (body_of (m ∷ []))
given_more ms m =
    ap given_by (map-append (λ (x : Member). ((out-Member x).name, (out-Member x).value)) ms (m ∷ []))
    ∙ ap (map value_of) (filter-append is_given (body_of ms) (body_of (m ∷ [])))
    ∙ map-append value_of (filter is_given (body_of ms)) (filter is_given (body_of (m ∷ [])))

-- the last is passed over
pub last_passed : (all : List Assignment) (old new : List Member) (m : Member) (values : List Assignment) (same : Bool) → old ≡ new ++ m ∷ []
    → same ≡ bytes_eq (out-Member m).name (chars (codes "attributes")) → same ≡ true → given_by (body_of old) ++ reverse values ≡ all → given_by (body_of new) ++ reverse values ≡ all
unfolding chars
last_passed all old new m values same e is passed h =
    let attributes : bytes_eq (out-Member m).name (codes "attributes") ≡ true = sym is ∙ passed in
    let none : given_by (body_of (m ∷ [])) ≡ [] = rw attributes refl in
    let values_stay : given_by (body_of old) ≡ given_by (body_of new) =
    ap (λ (ms : List Member). given_by (body_of ms)) e ∙ given_more new m
    ∙ ap (λ (vs : List Assignment). given_by (body_of new) ++ vs) none ∙ append-nil (given_by (body_of new)) in
    ap (λ (vs : List Assignment). vs ++ reverse values) (sym values_stay) ∙ h

-- the last gives a value
pub last_given : (all : List Assignment) (old new : List Member) (m : Member) (values : List Assignment) (same : Bool) → old ≡ new ++ m ∷ []
    → same ≡ bytes_eq (out-Member m).name (chars (codes "attributes")) → same ≡ false → given_by (body_of old) ++ reverse values ≡ all
    → given_by (body_of new) ++ reverse (values ++ value_of ((out-Member m).name, (out-Member m).value) ∷ []) ≡ all
unfolding chars
last_given all old new m values same e is given h =
    let other : bytes_eq (out-Member m).name (codes "attributes") ≡ false = sym is ∙ given in
    let v = value_of ((out-Member m).name, (out-Member m).value) in
    let one : given_by (body_of (m ∷ [])) ≡ v ∷ [] = rw other refl in
    let one_more : given_by (body_of old) ≡ given_by (body_of new) ++ v ∷ [] =
    ap (λ (ms : List Member). given_by (body_of ms)) e ∙ given_more new m ∙ ap (λ (vs : List Assignment). given_by (body_of new) ++ vs) one in
    ap (λ (vs : List Assignment). given_by (body_of new) ++ vs) (reverse-append values (v ∷ []))
    ∙ sym (append_assoc (given_by (body_of new)) (v ∷ []) (reverse values))
    ∙ ap (λ (vs : List Assignment). vs ++ reverse values) (sym one_more)
    ∙ h
