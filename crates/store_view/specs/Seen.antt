-- What contracts see of the parts of a row that are read in its bytes.
use Rattle.std.specs.Prelude.{ℕ, ℤ, IsTrue, List, [], Option, Some, None, is_some}
use Rattle.std.specs.Borrow.{Bor}
use Rattle.std.specs.Option.{option_map}
use Rattle.std.specs.Str.{chars}
use Rattle.store_codec.specs.Composed.{in_turn_at, slot_count}
use Rattle.store_codec.specs.Plain.{optional_at, text_at, whole}
use Rattle.store_codec.specs.Shapes.{Shape, Both, Characters, Identity, Maybe, Signed64, Times}

-- a text or nothing, and what follows
abbrev pub optional_text : Option (Bor (List ℕ)) × Bor (List ℕ) → Option (List ℕ) × List ℕ
optional_text x = (option_map (λ t. chars t.now) x.0, x.1.now)

-- the slots that bytes spell, all of them
abbrev pub slots_in : List ℕ → Option (List (Option (List ℕ)))
slots_in bytes = whole (in_turn_at (optional_at text_at) slot_count) bytes

-- bytes that spell slots
abbrev pub is_whole : List ℕ → Type 0
is_whole bytes = IsTrue (is_some (slots_in bytes))

-- what was read, or none
abbrev pub or_none : {A : Type 0} → Option (List A) → List A
or_none None = []
or_none (Some texts) = texts

-- the parts of a row from the moments on, from the owner on, and all of them
abbrev pub Dated : Shape
Dated = Both Signed64 (Both Signed64 (Times slot_count (Maybe Characters)))

abbrev pub Owned : Shape
Owned = Both (Maybe Identity) Dated

abbrev pub dated : ℤ × (ℤ × Bor (List ℕ)) → ℤ × (ℤ × List (Option (List ℕ)))
dated x = (x.0, (x.1.0, or_none (slots_in x.1.1.now)))

abbrev pub owned : Option (List ℕ) × (ℤ × (ℤ × Bor (List ℕ))) → Option (List ℕ) × (ℤ × (ℤ × List (Option (List ℕ))))
owned x = (x.0, dated x.1)

abbrev pub rest : Option (Bor (List ℕ)) × (Option (List ℕ) × (ℤ × (ℤ × Bor (List ℕ)))) → Option (List ℕ) × (Option (List ℕ) × (ℤ × (ℤ × List (Option (List ℕ)))))
rest x = (option_map (λ t. chars t.now) x.0, owned x.1)
