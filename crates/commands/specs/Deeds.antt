-- What commands print, and how far one came. A deed is what is written and the world behind it: a command that prints a printout
-- has one.
use Rattle.std.specs.Prelude.{ℕ, ◌≡◌, ◌⊎◌, ◌≤◌, List, [], ◌∷◌, ◌++◌, length, take, Option, Result, Ok, Err}
use Rattle.std.specs.Io.KnownBytes.{Appends}
use Rattle.model.specs.World.{World}
use Rattle.commands.specs.Printed.{PrintoutText}
use Rattle.commands.specs.declared.stop.Stop.{Stop}
use Rattle.commands.specs.declared.stop.Stop.TheVariants.{Damaged, DoorFailed, KeeperFailed, NoMemory, SinkFailed, SourceFailed, UnknownVersion}

-- one thing that a command does: what it writes, and the world that it leaves
pub record Deed : Type 0 where
  pub text : List ℕ
  pub world : World

-- what a command does in turn, and its status if all of it is done: 0, or 65 if it is refused
pub record Printed : Type 0 where
  pub deeds : List Deed
  pub status : ℕ

-- a command that is done at once
abbrev pub one_deed : PrintoutText → World → Printed
one_deed p next = record { deeds = record { text = p.text; world = next } ∷ []; status = p.status }

-- the whole text
abbrev pub text_of : List Deed → List ℕ
text_of [] = []
text_of (d ∷ ds) = d.text ++ text_of ds

-- the world behind deeds
abbrev pub world_of : World → List Deed → World
world_of w [] = w
world_of w (d ∷ ds) = world_of d.world ds

-- the command stopped before a deed: those before it were written whole, and it did nothing
pub record StopsBefore (w : World) (p : Printed) (old new : Option (List ℕ)) (end : World) : Type 0 where
  pub past : List Deed
  pub next : Deed
  pub rest : List Deed
  pub all : p.deeds ≡ past ++ next ∷ rest
  pub text : Appends old new (text_of past)
  pub world : end ≡ world_of w past

-- the sink failed at the text of a deed that was done
pub record StopsWithin (p : Printed) (old new : Option (List ℕ)) (end : World) : Type 0 where
  pub past : List Deed
  pub next : Deed
  pub rest : List Deed
  pub all : p.deeds ≡ past ++ next ∷ rest
  pub taken : ℕ
  pub front : taken ≤ length next.text
  pub text : Appends old new (text_of past ++ take taken next.text)
  pub world : end ≡ next.world

-- how a command ended that is to print p from w: its status, what the sink got, and the world that it left
abbrev pub Prints : World → Printed → Option (List ℕ) → Option (List ℕ) → Result ℕ Stop → World → Type 0
Prints w p old new (Ok status) end = (status ≡ p.status) × Appends old new (text_of p.deeds) × (end ≡ world_of w p.deeds)
Prints w p old new (Err SinkFailed) end = StopsWithin p old new end
Prints w p old new (Err NoMemory) end = StopsBefore w p old new end
Prints w p old new (Err KeeperFailed) end = StopsBefore w p old new end
Prints w p old new (Err SourceFailed) end = StopsBefore w p old new end
Prints w p old new (Err DoorFailed) end = ⊥
Prints w p old new (Err Damaged) end = ⊥
Prints w p old new (Err UnknownVersion) end = ⊥

-- the world behind the first of these deeds, if there is one
abbrev pub IsBehindNext : List Deed → World → Type 0
IsBehindNext [] end = ⊥
IsBehindNext (d ∷ rest) end = end ≡ d.world

-- the store fell: the deeds that were written whole are done, no other was written, and the next one may be done as well
pub record CutShort (w : World) (p : Printed) (old new : Option (List ℕ)) (end : World) : Type 0 where
  pub past : List Deed
  pub rest : List Deed
  pub all : p.deeds ≡ past ++ rest
  pub text : Appends old new (text_of past)
  pub world : (end ≡ world_of w past) ⊎ IsBehindNext rest end
