-- A batch's changes as entries. No public contract reaches these words.
use Rattle.std.specs.Prelude.{ℕ, List, [], ◌∷◌, Option, Some, None, IsSome}
use Rattle.std.specs.BTreeMap.{BTreeMap, get}
use Rattle.store_kv.specs.declared.keeper.Change.{Change}
use Rattle.store_kv.specs.declared.keeper.Change.TheVariants.{Put, Remove}
use Rattle.store_kv.specs.Tables.{Place, place_cmp}
use Rattle.store_kv.specs.Laid.{Entry}

-- the change that sets a place's row, or removes it
abbrev pub change_at : Place → Option (List ℕ) → Change
change_at p (Some r) = Put p.0 p.1 r
change_at p None = Remove p.0 p.1

-- the change that an entry is
abbrev pub change_of : Entry → Change
change_of e = change_at e.0 e.1

-- what a change makes of its place
abbrev pub entry_for : Change → Entry
entry_for (Put t k r) = ((t, k), Some r)
entry_for (Remove t k) = ((t, k), None)

-- the map has each of the entries' places
abbrev pub HasPlaces : BTreeMap Place (Option (List ℕ)) → List Entry → Type 0
HasPlaces m [] = Unit {0}
HasPlaces m (e ∷ es) = IsSome (get place_cmp m e.0) × HasPlaces m es
