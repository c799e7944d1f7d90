-- Rows done in turn: their lines, and whether anything was changed.
use Rattle.std.specs.Prelude.{Bool, true, false}
use Rattle.store_abstraction.specs.declared.judged.Judged.{Judged}
use Rattle.store_abstraction.specs.declared.judged.Judged.TheVariants.{Changed, Same}

abbrev pub is_changed : {X : Type 0} → Judged X → Bool
is_changed (Same x) = false
is_changed (Changed x) = true

abbrev pub line_in : {X : Type 0} → Judged X → X
line_in (Same x) = x
line_in (Changed x) = x

abbrev pub judged_so : {X : Type 0} → (changed : Bool) → X → Judged X
judged_so false x = Same x
judged_so true x = Changed x
