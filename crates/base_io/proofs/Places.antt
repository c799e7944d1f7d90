-- What calls of a door in memory make of its connections, by their places.
use Rattle.std.proofs.Common.{◌≡◌, ◌≢◌, ℕ, ◌+◌, ◌<◌, ◌≤◌, true, List, [], ◌∷◌, ◌++◌, length, take, drop, get_or, set, Option, Some, None, zero, suc, refl, sym, ap₂, ◌∙◌, arith}
use Rattle.std.specs.Option.{is_some}
use Rattle.std.proofs.lemmas.List.{get_or-set_other, get_or-set_same, take-set, take_more}
use Rattle.base_io.specs.Doors.{outputs}
use Rattle.base_io.specs.Memory.{with_written}
use Rattle.base_io.specs.inner.Places.{came, state_at}

-- the outputs are those of the connections that came
pub outputs-came : (ins outs : List (List ℕ)) (n : ℕ) (at : Option ℕ) → came n at ≤ length outs → outputs (state_at ins outs n at) ≡ take (came n at) outs
outputs-came ins outs n None h = refl
outputs-came ins outs n (Some at) h = sym (take_more outs n [] (omega arith))

-- bytes are written to the present connection
pub puts : (ins outs : List (List ℕ)) (n : ℕ) (at : Option ℕ) (bytes : List ℕ) → is_some at ≡ true → n < length outs → state_at ins (set outs n (get_or outs n [] ++ bytes)) n at ≡ with_written (state_at ins outs n at) bytes
puts ins outs n None bytes h lt = cc
puts ins outs n (Some at) bytes h lt =
    let output = get_or outs n [] ++ bytes in
    ap₂ (λ (now : List ℕ) (done : List (List ℕ)). record {
      coming = drop (n + 1) ins;
      present = Some (record { input = drop at (get_or ins n []); output = now });
      done = done;
    }) (get_or-set_same outs n output [] lt) (take-set outs n output)

-- no output of a connection to come is touched by it
pub unused-set : (outs : List (List ℕ)) (n : ℕ) (at : Option ℕ) (output : List ℕ) → is_some at ≡ true → ((k : ℕ) → came n at ≤ k → get_or outs k [] ≡ []) → (k : ℕ) → came n at ≤ k → get_or (set outs n output) k [] ≡ []
unused-set outs n None output h unused k more = cc
unused-set outs n (Some at) output h unused k more =
    let other : k ≢ n = omega arith in
    get_or-set_other outs n k output [] other ∙ unused k more

-- one more output that is empty as all before it
pub unused-push : (outs : List (List ℕ)) → ((k : ℕ) → get_or outs k [] ≡ []) → (k : ℕ) → get_or (outs ++ [] ∷ []) k [] ≡ []
unused-push [] unused zero = refl
unused-push [] unused (suc k) = refl
unused-push (output ∷ outs) unused zero = unused zero
unused-push (output ∷ outs) unused (suc k) = unused-push outs (λ j. unused (suc j)) k

pub came-present : (n : ℕ) (at : Option ℕ) → is_some at ≡ true → came n at ≡ n + 1
came-present n None h = cc
came-present n (Some at) h = refl
