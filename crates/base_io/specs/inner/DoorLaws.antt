-- What reads or writes leave of a door adds up over calls.
use Rattle.std.proofs.Common.{◌≡◌, ℕ, List, Option, Some, None, refl, ap, ◌∙◌}
use Rattle.base_io.specs.Doors.{Connection, DoorState, ReadKeeps, WriteKeeps, input_left, output_so_far, with_input, with_output}

with_input-same : (c : Option Connection) → c ≡ with_input c (input_left c)
with_input-same None = refl
with_input-same (Some c) = refl

with_input-twice : (c : Option Connection) (xs ys : List ℕ) → with_input (with_input c xs) ys ≡ with_input c ys
with_input-twice None xs ys = refl
with_input-twice (Some c) xs ys = refl

with_output-same : (c : Option Connection) → c ≡ with_output c (output_so_far c)
with_output-same None = refl
with_output-same (Some c) = refl

with_output-twice : (c : Option Connection) (xs ys : List ℕ) → with_output (with_output c xs) ys ≡ with_output c ys
with_output-twice None xs ys = refl
with_output-twice (Some c) xs ys = refl

pub ReadKeeps-refl : (a : Option DoorState) → ReadKeeps a a
ReadKeeps-refl None = tt
ReadKeeps-refl (Some a) = ap (λ (c : Option Connection). record a { present = c }) (with_input-same a.present)

pub ReadKeeps-trans : (a b c : Option DoorState) → ReadKeeps a b → ReadKeeps b c → ReadKeeps a c
ReadKeeps-trans None b c h k = tt
ReadKeeps-trans (Some a) None c h k = absurd h
ReadKeeps-trans (Some a) (Some b) None h k = absurd k
ReadKeeps-trans (Some a) (Some b) (Some c) h k =
    let left = input_left c.present in
    k ∙ ap (λ (x : DoorState). record x { present = with_input x.present left }) h
    ∙ ap (λ (p : Option Connection). record a { present = p }) (with_input-twice a.present (input_left b.present) left)

pub WriteKeeps-refl : (a : Option DoorState) → WriteKeeps a a
WriteKeeps-refl None = tt
WriteKeeps-refl (Some a) = ap (λ (c : Option Connection). record a { present = c }) (with_output-same a.present)

pub WriteKeeps-trans : (a b c : Option DoorState) → WriteKeeps a b → WriteKeeps b c → WriteKeeps a c
WriteKeeps-trans None b c h k = tt
WriteKeeps-trans (Some a) None c h k = absurd h
WriteKeeps-trans (Some a) (Some b) None h k = absurd k
WriteKeeps-trans (Some a) (Some b) (Some c) h k =
    let output = output_so_far c.present in
    k ∙ ap (λ (x : DoorState). record x { present = with_output x.present output }) h
    ∙ ap (λ (p : Option Connection). record a { present = p }) (with_output-twice a.present (output_so_far b.present) output)
