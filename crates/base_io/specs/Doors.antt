-- What a door holds, and what calls leave of it.
use Rattle.std.specs.Prelude.{◌≡◌, ℕ, Bool, true, false, List, [], ◌∷◌, ◌++◌, Option, Some, None, ⊤, Result, Ok, Err}
use Rattle.std.specs.Option.{option_map}

-- a connection
pub record Connection : Type 0 where
  -- the input left
  pub input : List ℕ
  -- the output so far
  pub output : List ℕ

-- the connections of a door, in the order in which they come
pub record DoorState : Type 0 where
  -- the inputs of the connections still to come
  pub coming : List (List ℕ)
  -- the present connection, if there is one
  pub present : Option Connection
  -- the outputs of the connections that ended
  pub done : List (List ℕ)

-- the input left: nothing without a connection
abbrev pub input_left : Option Connection → List ℕ
input_left None = []
input_left (Some c) = c.input

-- the output so far: nothing without a connection
abbrev pub output_so_far : Option Connection → List ℕ
output_so_far None = []
output_so_far (Some c) = c.output

-- the input left of the present connection, where the door tells it
abbrev pub input_of : Option DoorState → Option (List ℕ)
input_of held = option_map (λ d. input_left d.present) held

-- the output so far of the present connection, where the door tells it
abbrev pub output_of : Option DoorState → Option (List ℕ)
output_of held = option_map (λ d. output_so_far d.present) held

-- the door tells that there is no present connection
abbrev pub IsUnconnected : Option DoorState → Type 0
IsUnconnected None = ⊥
IsUnconnected (Some d) = d.present ≡ None

-- outputs, and behind them that of a connection
abbrev pub with_last : List (List ℕ) → Option Connection → List (List ℕ)
with_last done None = done
with_last done (Some c) = done ++ c.output ∷ []

-- the outputs of all connections so far
abbrev pub outputs : DoorState → List (List ℕ)
outputs d = with_last d.done d.present

-- a door whose connections so far have ended, with the next one brought where one is to come
abbrev pub brought : List (List ℕ) → List (List ℕ) → DoorState
brought [] done = record { coming = []; present = None; done = done }
brought (input ∷ coming) done =
    record { coming = coming; present = Some (record { input = input; output = [] }); done = done }

abbrev pub after_next : DoorState → DoorState
after_next d = brought d.coming (outputs d)

abbrev pub has_next : List (List ℕ) → Bool
has_next [] = false
has_next (input ∷ coming) = true

-- `next` ended the present connection and brought the next one, or said that none is to come
abbrev pub Nexts : {E : Type 0} → Option DoorState → Option DoorState → Result Bool E → Type 0
Nexts None new result = ⊤
Nexts (Some a) None result = ⊥
Nexts (Some a) (Some b) (Ok found) = (found ≡ has_next a.coming) × (b ≡ after_next a)
Nexts (Some a) (Some b) (Err e) = b ≡ a

-- a told state stays as it was
abbrev pub KeepsDoor : Option DoorState → Option DoorState → Type 0
KeepsDoor None new = ⊤
KeepsDoor (Some a) None = ⊥
KeepsDoor (Some a) (Some b) = b ≡ a

-- a connection with this input left
abbrev pub with_input : Option Connection → List ℕ → Option Connection
with_input None input = None
with_input (Some c) input = Some (record c { input = input })

-- a connection with this output
abbrev pub with_output : Option Connection → List ℕ → Option Connection
with_output None output = None
with_output (Some c) output = Some (record c { output = output })

-- reads change the input of the present connection alone
abbrev pub ReadKeeps : Option DoorState → Option DoorState → Type 0
ReadKeeps None new = ⊤
ReadKeeps (Some a) None = ⊥
ReadKeeps (Some a) (Some b) =
    b ≡ record a { present = with_input a.present (input_left b.present) }

-- writes change the output of the present connection alone
abbrev pub WriteKeeps : Option DoorState → Option DoorState → Type 0
WriteKeeps None new = ⊤
WriteKeeps (Some a) None = ⊥
WriteKeeps (Some a) (Some b) =
    b ≡ record a { present = with_output a.present (output_so_far b.present) }
