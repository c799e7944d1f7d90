-- Options in steps.
use Rattle.std.proofs.Common.{◌≡◌, ℕ, Bool, true, false, List, [], ◌∷◌, ◌++◌, map, Option, Some, None, cond, refl, ap, sym, subst}
use Rattle.std.specs.Prelude.{Result, Ok, Err, bytes_eq}
use Rattle.std.specs.List.{find}
use Rattle.std.specs.Option.{option_map}
use Rattle.base_json.specs.Reading.{◌>>=◌}
use Rattle.model.specs.Members.{entry_named}
use Rattle.api_input.specs.declared.fail.BodyFail.{BodyFail}
use Rattle.api_input.specs.declared.fail.BodyFail.TheVariants.{Form, Memory}
use Rattle.api_input.specs.inner.Outcomes.{Gives}

-- what is read, after what was read before
abbrev pub after : {A : Type 0} → List A → Option (List A) → Option (List A)
after front all = option_map (λ xs. front ++ xs) all

-- a table whose things are made from those of another
pub entry-map : {X Y : Type 0} (f : X → Y) (table : List (List ℕ × X)) (name : List ℕ)
    → entry_named (map (λ r. (r.0, f r.1)) table) name ≡ option_map f (entry_named table name)
entry-map f [] name = refl
entry-map {X} {Y} f (row ∷ rows) name = by_test (bytes_eq row.0 name) (entry-map f rows name)
  where
    by_test : (b : Bool) → entry_named (map (λ r. (r.0, f r.1)) rows) name ≡ option_map f (entry_named rows name)
        → option_map {T = List ℕ × Y} (λ x. x.1) (cond b (Some (row.0, f row.1)) (find (λ x. bytes_eq x.0 name) (map (λ r. (r.0, f r.1)) rows)))
        ≡ option_map f (option_map {T = List ℕ × X} (λ x. x.1) (cond b (Some row) (find (λ x. bytes_eq x.0 name) rows)))
    by_test true h = refl
    by_test false h = h

gives_mapped : {X Y : Type 0} (f : X → Y) (r : Result X BodyFail) (o : Option X) → Gives (λ x. x) r o → Gives f r (option_map f o)
gives_mapped f (Ok x) o h = ap (option_map f) h
gives_mapped f (Err Form) o h = ap (option_map f) h
gives_mapped f (Err Memory) o h = tt

-- what such a table gives of a text
pub gives_by_table : {X Y : Type 0} (f : X → Y) (table : List (List ℕ × X)) (r : Result X BodyFail) (o : Option (List ℕ))
    → Gives (λ x. x) r (o >>= entry_named table) → Gives f r (o >>= entry_named (map (λ r. (r.0, f r.1)) table))
gives_by_table f table r None h = gives_mapped f r None h
gives_by_table f table r (Some name) h =
    subst (λ (o : Option _). Gives f r o) (sym (entry-map f table name)) (gives_mapped f r (entry_named table name) h)
