-- What is answered of callers and of new organisations.
use Rattle.std.specs.Prelude.{◌≡◌, ◌&&◌, ◌<◌, ◌≤◌, ◌^◌, ℕ, if◌then◌else◌, IfOk, IfSome, List, Option, Some, None, Result, Ok}
use Rattle.std.specs.Option.{option_and_then}
use Rattle.std.specs.Str.{bytes_eq}
use Rattle.std.specs.FinMap as map
use Rattle.store_kv.specs.Tables.{Tables}
use Rattle.store_rows.specs.declared.fail.StoreFail.{StoreFail}
use Rattle.store_rows.specs.Forms.{row_bytes}
use Rattle.store_rows.specs.Keys.{Org, User, Version, spell}
use Rattle.store_rows.specs.Rows.{org_form, user_form, version_form}
use Rattle.store_rows.specs.declared.user.UserRow.{UserRow}
use Rattle.model.specs.Callers.{Named, caller_of}
use Rattle.model.specs.Organisations.{administrator, first_user, fresh}
use Rattle.model.specs.Tenant.{Tenant}
use Rattle.model.specs.declared.caller.Caller.{Caller}
use Rattle.store_abstraction.specs.Local.{FindsIn}
use Rattle.store_abstraction.specs.Metadata.{org_of, user_of}
use Rattle.store_abstraction.specs.Stands.{known_version}

-- the caller whom a user's row in the organisation with this number gives, if the user is active and it has this digest
abbrev pub admitted_row : (org : ℕ) → List ℕ → UserRow → Option Caller
admitted_row org digest row = if row.active && bytes_eq row.digest digest then Some (record { org = org; user = row.id; admin = row.admin }) else None

-- the caller of whom these are named, in an organisation that is this tenant or isn't there
abbrev pub caller_among : Named → Option Tenant → Option Caller
caller_among n t = option_and_then (caller_of n) t

-- what is found where a key names these: whatever the tables have, a caller of the organisation that is named, and none for a
-- number that no organisation has; and where the organisation's rows stand, the caller is the definition's
pub record FindsNamed (n : Named) (m : Tables) (result : Result (Option Caller) StoreFail) : Type 0 where
  pub own : IfOk result (λ found. IfSome found (λ c. c.org ≡ n.org))
  pub none : 2 ^ 32 ≤ n.org → result ≡ Ok None
  pub finds : n.org < 2 ^ 32 → FindsIn n.org (λ q t. caller_among n t) m result

-- without such there is no caller
abbrev pub FindsCaller : Option Named → Tables → Result (Option Caller) StoreFail → Type 0
FindsCaller None m result = result ≡ Ok None
FindsCaller (Some n) m result = FindsNamed n m result

-- tables with the three rows of a new organisation of this number
abbrev pub with_rows : ℕ → List ℕ → List ℕ → Tables → Tables
with_rows n name digest m =
    map.insert (map.insert (map.insert m
    (spell Version) (row_bytes version_form (record { version = known_version; organisations = n })))
    (spell (Org n)) (row_bytes org_form (org_of n (fresh name digest))))
    (spell (User n first_user)) (row_bytes user_form (user_of n (administrator name digest)))
