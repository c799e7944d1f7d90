-- The rows of an organisation's manual shares, and whether one of them is sought. No public contract reaches these words.
use Rattle.std.specs.Prelude.{◌≡◌, ◌++◌, ℕ, Bool, true, false, List, Option, Result, Ok, Err}
use Rattle.std.specs.List.{list_any}
use Rattle.base_value.specs.declared.sharing.Principal.{Principal}
use Rattle.store_kv.specs.declared.keeper.KeptRow.{KeptRow}
use Rattle.store_kv.specs.Prefixes.{raised}
use Rattle.store_kv.specs.Tables.{Has, Tables}
use Rattle.store_rows.specs.declared.fail.StoreFail.{StoreFail}
use Rattle.store_rows.specs.declared.fail.StoreFail.TheVariants.{Damaged, Keeper, Memory}
use Rattle.store_rows.specs.declared.share.ShareRow.{ShareRow}
use Rattle.store_rows.specs.Forms.{FitsForm, kept_as}
use Rattle.store_rows.specs.Listings.{rows_to, start_of}
use Rattle.store_rows.specs.Rows.{share_form}
use Rattle.store_codec.specs.Plain.{number32, number8}
use Rattle.store_codec.specs.Shapes.{FitsIn, Val, spelled}
use Rattle.model.specs.Cases.{in_case}
use Rattle.model.specs.Tenant.{Tenant}

-- what the keys of the shares of the organisation with this number begin with
abbrev pub shares_front : (org : ℕ) → List ℕ
shares_front org = number32 org ++ number8 0

-- the parts of a key, and its bytes
abbrev pub Parts : Type 0
Parts = Val share_form.key

abbrev pub FitsParts : Parts → Type 0
FitsParts key = FitsIn share_form.key key

abbrev pub parts_bytes : Parts → List ℕ
parts_bytes key = spelled share_form.key key

-- what is kept there: all, or what is after a key
abbrev pub kept_after : Tables → (org : ℕ) → Option (List ℕ) → List KeptRow
kept_after m org after = rows_to m 12 (start_of (shares_front org) after) (raised (shares_front org))

-- what is kept there is the spelling of a row
abbrev pub IsShare : KeptRow → Type 0
IsShare kept = (row : ShareRow) × FitsForm share_form row × (kept_as share_form row ≡ kept)

-- whether some row of those that are kept is with such a principal; `Damaged` only where something is kept that is no row's spelling
abbrev pub Scans : List KeptRow → (Principal → Bool) → Result Bool StoreFail → Type 0
Scans kept is (Ok true) =
    (row : ShareRow) × FitsForm share_form row × Has kept (kept_as share_form row) × (is row.to ≡ true)
Scans kept is (Ok false) =
    (row : ShareRow) → FitsForm share_form row → Has kept (kept_as share_form row) → is row.to ≡ false
Scans kept is (Err Damaged) = ((one : KeptRow) → Has kept one → IsShare one) → ⊥
Scans kept is (Err Keeper) = Unit {0}
Scans kept is (Err Memory) = Unit {0}

-- some share of an organisation is with such a principal; none where there is no organisation
abbrev pub any_with : (Principal → Bool) → Option Tenant → Bool
any_with is t = in_case t false (λ u. list_any (λ s. is s.to) u.shares)
