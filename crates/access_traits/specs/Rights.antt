-- What a user may do with records, as it is asked over the tables of an organisation.
-- Source: Salesforce, "Record-Level Security".
use Rattle.std.specs.Prelude.{◌≡◌, ℕ, Bool, List, Option, Some, Result, Ok, Err}
use Rattle.record_read.specs.Decoding.{record_from}
use Rattle.store_kv.specs.Tables.{Tables}
use Rattle.store_kv.specs.declared.keeper.KeptRow.{KeptRow}
use Rattle.store_rows.specs.Forms.{read_row}
use Rattle.store_rows.specs.Rows.{data_form}
use Rattle.store_rows.specs.declared.fail.StoreFail.{StoreFail}
use Rattle.store_rows.specs.declared.fail.StoreFail.TheVariants.{Damaged, Keeper, Memory}
use Rattle.model.specs.Cases.{in_case}
use Rattle.model.specs.Levels.{can_read, level}
use Rattle.model.specs.Membership.{Has}
use Rattle.model.specs.Objects.{records_of}
use Rattle.model.specs.Rights.{record_of_object}
use Rattle.model.specs.Tenant.{Tenant, User}
use Rattle.model.specs.declared.record.Record.{Record}
use Rattle.store_codec.specs.Plain.{◌>>=◌}
use Rattle.store_abstraction.specs.Layouts.{IsLayout}
use Rattle.store_abstraction.specs.Local.{StandsIn}
use Rattle.store_abstraction.specs.Plan.{OrgPlan}
use Rattle.store_abstraction.specs.declared.layout.Layout.{Layout}
use Rattle.base_value.specs.declared.sharing.Level.{Level}
use Rattle.base_value.specs.declared.sharing.Level.TheVariants.{Nothing}

-- whose rights they are: those of a user of a tenant
abbrev pub Whose : Type 1
Whose = Tenant → User → Type 0

-- ---- by an id

-- the level on the record of an object that has this id; nothing where there is none
abbrev pub level_there : Tenant → User → (object : ℕ) → (id : List ℕ) → Level
level_there t u n id = in_case (record_of_object t n id) Nothing (level t u)

-- the data rows that are shown for a level at most: the record's, and those of its masters
abbrev pub level_shown : ℕ
level_shown = 4

-- what is found is so for each user whose rights they are, of a tenant for which the organisation's rows stand, and such are never
-- damaged
abbrev pub FindsFor : {X : Type 0} → (org : ℕ) → Whose → (Tenant → User → X) → Tables → Result X StoreFail → Type 0
FindsFor org whose value m (Ok x) = (q : OrgPlan) (t : Tenant) (u : User) → StandsIn org q m (Some t) → whose t u → x ≡ value t u
FindsFor org whose value m (Err Damaged) = (q : OrgPlan) (t : Tenant) (u : User) → StandsIn org q m (Some t) → whose t u → ⊥
FindsFor org whose value m (Err Keeper) = Unit {0}
FindsFor org whose value m (Err Memory) = Unit {0}

-- ---- by a row

-- the record that a key and bytes spell by a layout, if they spell one
abbrev pub kept_record : Layout → KeptRow → Option Record
kept_record l kept = read_row data_form kept.key kept.row >>= record_from l

-- so it is of each user whose rights they are, of a tenant for which the organisation's rows stand, whose layout it is and whose
-- record the row spells
abbrev pub OfRecord : Layout → Whose → KeptRow → Tables → (Tenant → User → Record → Type 0) → Type 0
OfRecord l whose row m P =
    (q : OrgPlan) (t : Tenant) (u : User) (r : Record) → StandsIn l.org q m (Some t) → IsLayout q t l → whose t u
    → Has (records_of t l.object) r → kept_record l row ≡ Some r → P t u r

-- whether the row's record may be read
abbrev pub TellsReadable : Layout → Whose → KeptRow → Tables → Result Bool StoreFail → Type 0
TellsReadable l whose row m (Ok b) = OfRecord l whose row m (λ t u r. b ≡ can_read t u r)
TellsReadable l whose row m (Err Damaged) = OfRecord l whose row m (λ t u r. ⊥)
TellsReadable l whose row m (Err Keeper) = Unit {0}
TellsReadable l whose row m (Err Memory) = Unit {0}
