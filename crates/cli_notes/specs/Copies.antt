-- A source whose bytes are copied as they are read.
use Rattle.std.specs.Prelude.{◌≡◌, List, ◌++◌, Option, None, Some, ℕ}
use Rattle.std.specs.Option.{option_map}
use Rattle.cli_notes.specs.declared.kept_source.KeptSource.{KeptSource}

abbrev pub inner_source : {S : Type 0} → KeptSource S → S
inner_source k = k.source

-- what was read so far, if it is kept
abbrev pub copy_of : {S : Type 0} → KeptSource S → Option (List ℕ)
copy_of k = option_map (λ v. v.items) k.copy

-- these bytes were added, or the copy was dropped
abbrev pub AddsOrDrops : (copy copy2 : Option (List ℕ)) → (bytes : List ℕ) → Type 0
AddsOrDrops copy None bytes = Unit {0}
AddsOrDrops None (Some new) bytes = ⊥
AddsOrDrops (Some old) (Some new) bytes = new ≡ old ++ bytes

-- What reads leave of a copy and of the bytes left: a copy that was dropped doesn't come again, and where the source tells
-- the bytes left, the copy and these are together what they were.
abbrev pub CopyGoesOn : (copy left copy2 left2 : Option (List ℕ)) → Type 0
CopyGoesOn copy left None left2 = Unit {0}
CopyGoesOn None left (Some new) left2 = ⊥
CopyGoesOn (Some old) None (Some new) left2 = Unit {0}
CopyGoesOn (Some old) (Some before) (Some new) None = ⊥
CopyGoesOn (Some old) (Some before) (Some new) (Some after) = new ++ after ≡ old ++ before
