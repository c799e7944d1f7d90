-- What is in a slot by a layout, and that a change without a value for a record has nothing there.
use Rattle.std.proofs.Common.{◌≡◌, ℕ, ◌+◌, ◌&&◌, cond, eqb, List, [], ◌∷◌, map, Option, Some, None, refl}
use Rattle.std.specs.List.{enumerate_from, find}
use Rattle.std.specs.Prelude.{slice_get}
use Rattle.std.specs.Option.{option_and_then, option_map}
use Rattle.std.proofs.lemmas.Bool.{eqb-true}
use Rattle.base_lemmas.proofs.Bools.{by_answer as pick}
use Rattle.model.specs.declared.record.Record.{Record}
use Rattle.model.specs.Tenant.{Field, Job, Object}
use Rattle.store_abstraction.specs.Entries.{Entry, job_entry, job_value, other_entry}
use Rattle.store_abstraction.specs.Layouts.{place_of}
use Rattle.store_abstraction.specs.Plan.{OrgPlan}
use Rattle.store_abstraction.specs.declared.layout.FieldPlace.{FieldPlace}

-- the field with a slot, and its place in the layout
pub found_same : (p : OrgPlan) (n s k : ℕ) (fs : List Field)
    → find (λ (f : ℕ × FieldPlace). eqb f.1.slot s) (enumerate_from k (map (place_of p n) (enumerate_from k fs)))
    ≡ option_map {U = ℕ × FieldPlace} (λ (f : ℕ × Field). (f.0, place_of p n f)) (find (λ (f : ℕ × Field). eqb (p.slot n f.0) s) (enumerate_from k fs))
found_same p n s k [] = refl
found_same p n s k (f ∷ fs) =
    pick (eqb (p.slot n k) s)
    (λ b. cond b (Some (k, place_of p n (k, f))) (find (λ (f : ℕ × FieldPlace). eqb f.1.slot s) (enumerate_from (k + 1) (map (place_of p n) (enumerate_from (k + 1) fs))))
    ≡ option_map {U = ℕ × FieldPlace} (λ (f : ℕ × Field). (f.0, place_of p n f)) (cond b (Some (k, f)) (find (λ (f : ℕ × Field). eqb (p.slot n f.0) s) (enumerate_from (k + 1) fs))))
    (λ _. refl)
    (λ _. found_same p n s (k + 1) fs)

pub entry_none : (p : OrgPlan) (j : Job) (r : Record) → job_value p j j.phase r ≡ None → (x : Option Field) → option_and_then (job_entry p j r) x ≡ None
entry_none p j r e None = refl
entry_none p j r e (Some f) = rw e refl

pub nothing_there : (p : OrgPlan) (n : ℕ) (o : Object) (r : Record) (s : ℕ) (job : Option Job) → ((j : Job) → job ≡ Some j → j.object ≡ n → job_value p j j.phase r ≡ None) → other_entry p job n o r s ≡ None
nothing_there p n o r s None none = refl
nothing_there p n o r s (Some j) none =
    pick (eqb j.object n)
    (λ b. cond (b && eqb p.other s) (option_and_then (job_entry p j r) (slice_get o.fields j.field)) None ≡ None)
    (λ is. rw (entry_none p j r (none j refl (eqb-true j.object n is)) (slice_get o.fields j.field)) (pick (eqb p.other s) (λ b. cond {A = Option Entry} b None None ≡ None) (λ _. refl) (λ _. refl)))
    (λ _. refl)
