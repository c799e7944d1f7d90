-- The rows of the references in a slot, and whether one of them is sought. No public contract reaches these words.
use Rattle.std.specs.Prelude.{◌≡◌, ℕ, Bool, true, false, not, ◌&&◌, List, Option, Result, Ok, Err}
use Rattle.store_kv.specs.declared.keeper.KeptRow.{KeptRow}
use Rattle.store_kv.specs.Prefixes.{raised}
use Rattle.store_kv.specs.Tables.{Has, Tables}
use Rattle.store_rows.specs.declared.fail.StoreFail.{StoreFail}
use Rattle.store_rows.specs.declared.fail.StoreFail.TheVariants.{Damaged, Keeper, Memory}
use Rattle.store_rows.specs.declared.relation.RelationRow.{RelationRow}
use Rattle.store_rows.specs.Forms.{FitsForm, kept_as}
use Rattle.store_rows.specs.Keys.{slot_key}
use Rattle.store_rows.specs.Listings.{rows_to, start_of}
use Rattle.store_rows.specs.Rows.{relation_form}
use Rattle.store_codec.specs.Shapes.{Both, FitsIn, Identity, Number16, Number32, Number8, Shape, spelled}
use Rattle.record_references.specs.Referring.{is_among}

-- an organisation, an object, and a slot
abbrev pub place_key : Shape
place_key = Both Number32 (Both Number16 Number8)

abbrev pub FitsPlace : ℕ × (ℕ × ℕ) → Type 0
FitsPlace p = FitsIn place_key p

-- what the keys begin with
abbrev pub place_bytes : ℕ × (ℕ × ℕ) → List ℕ
place_bytes p = spelled place_key p

-- the parts of a key, and its bytes
abbrev pub Parts : Type 0
Parts = ℕ × (ℕ × (ℕ × (List ℕ × List ℕ)))

abbrev pub FitsParts : Parts → Type 0
FitsParts key = FitsIn (slot_key (Both Identity Identity)) key

abbrev pub parts_bytes : Parts → List ℕ
parts_bytes key = spelled (slot_key (Both Identity Identity)) key

-- what is kept in a slot: all, or what is after a key
abbrev pub kept_after : Tables → ℕ × (ℕ × ℕ) → Option (List ℕ) → List KeptRow
kept_after m p after = rows_to m 10 (start_of (place_bytes p) after) (raised (place_bytes p))

-- the row refers to one of the targets, and is of a record that isn't left out
abbrev pub is_sought : (targets without : List (List ℕ)) → RelationRow → Bool
is_sought targets without row = is_among targets row.target && not (is_among without row.id)

-- what is kept there is the spelling of a row
abbrev pub IsRelation : KeptRow → Type 0
IsRelation kept = (row : RelationRow) × FitsForm relation_form row × (kept_as relation_form row ≡ kept)

-- whether some row is sought of those that are kept; `Damaged` only where something is kept that is no row's spelling
abbrev pub Scans : List KeptRow → (targets without : List (List ℕ)) → Result Bool StoreFail → Type 0
Scans kept targets without (Ok true) =
    (row : RelationRow) × FitsForm relation_form row × Has kept (kept_as relation_form row) × (is_sought targets without row ≡ true)
Scans kept targets without (Ok false) =
    (row : RelationRow) → FitsForm relation_form row → Has kept (kept_as relation_form row) → is_sought targets without row ≡ false
Scans kept targets without (Err Damaged) = ((one : KeptRow) → Has kept one → IsRelation one) → ⊥
Scans kept targets without (Err Keeper) = Unit {0}
Scans kept targets without (Err Memory) = Unit {0}
