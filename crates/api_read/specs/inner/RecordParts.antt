-- A record in JSON by the layout of its object, and the record that a read finds. No public contract reaches these words.
use Rattle.std.specs.Prelude.{◌≡◌, ◌≢◌, ℕ, suc, if◌then◌else◌, List, [], ◌∷◌, map, codes, Option, Some, None, Result, Ok, Err}
use Rattle.std.specs.Option.{option_and_then}
use Rattle.api_read.specs.declared.records.finding.Readable.{Readable}
use Rattle.api_read.specs.inner.Columns.{Sites, sites_asked}
use Rattle.api_read.specs.Tells.{TellsSo}
use Rattle.access_traits.specs.Rights.{Whose}
use Rattle.base_json.specs.declared.tree.Json.{Json}
use Rattle.base_json.specs.declared.tree.Json.TheVariants as json
use Rattle.base_json.specs.declared.tree.Member.{Member}
use Rattle.base_json_tree.specs.Words.{member, object, text}
use Rattle.base_value.specs.Id.{id_in}
use Rattle.base_value.specs.Printing.{is_printable, print_value}
use Rattle.base_value.specs.declared.sharing.Level.{Level}
use Rattle.base_value.specs.declared.sharing.Level.TheVariants.{Read}
use Rattle.base_value.specs.declared.value.Value.{Value}
use Rattle.model.specs.Cases.{in_case}
use Rattle.model.specs.Fields.{value_in}
use Rattle.model.specs.Given.{record_by_value}
use Rattle.model.specs.Levels.{at_least, level}
use Rattle.model.specs.Objects.{Numbered, object_numbered}
use Rattle.model.specs.Paths.{Asked, if_readable}
use Rattle.model.specs.Rights.{record_of_object}
use Rattle.model.specs.RowsJson.{url}
use Rattle.model.specs.Tenant.{Tenant}
use Rattle.model.specs.Upserts.{declared_name, key_value, unique_named}
use Rattle.model.specs.declared.record.Record.{Record}
use Rattle.model.specs.declared.refusal.Refusal.TheVariants.{InvalidField, MalformedId, NotFound}
use Rattle.model_reads.specs.Parts.{value_part}
use Rattle.model_reads.specs.PeopleJson.{principal_json}
use Rattle.model_reads.specs.Reads.{with_value}
use Rattle.model_reads.specs.RecordJson.{fields_text, record_asked, value_json}
use Rattle.model_reads.specs.SettingsJson.{level_name}
use Rattle.model_reads.specs.Told.{Telling, of_readable}
use Rattle.query_check.specs.Columns.{name_at}
use Rattle.query_plan.specs.Checks.{site_of}
use Rattle.query_plan.specs.declared.check.Site.{Site}
use Rattle.record_save.specs.declared.upsert.finding.FoundKey.{FoundKey}
use Rattle.record_target.specs.declared.kept.KeptRecord.{KeptRecord}
use Rattle.store_abstraction.specs.Layouts.{layout_of}
use Rattle.store_abstraction.specs.Local.{StandsIn}
use Rattle.store_abstraction.specs.Plan.{OrgPlan}
use Rattle.store_abstraction.specs.declared.fail.EditFail.{EditFail}
use Rattle.store_abstraction.specs.declared.fail.EditFail.TheVariants.{Refused, Store}
use Rattle.store_abstraction.specs.declared.layout.Layout.{Layout}
use Rattle.store_kv.specs.Tables.{Tables}
use Rattle.store_rows.specs.declared.fail.StoreFail.{StoreFail}
use Rattle.store_rows.specs.declared.fail.StoreFail.TheVariants.{Damaged}
use Rattle.store_rows.specs.declared.share.ShareRow.{ShareRow}

-- ---- in JSON

-- the text of a value, and null where it has none
abbrev pub printed_text : Value → Json
printed_text v = if is_printable v then text (print_value v) else json.Null

-- a value that has a text, and null for any other
abbrev pub printed_json : Value → Json
printed_json v = if is_printable v then value_json v else json.Null

abbrev pub site_member : Layout → Record → Site → Member
site_member l r s = member (name_at l s) (printed_json (value_in (site_of s) r))

-- its type, its address, and this level on it
abbrev pub attributes_by : Layout → Record → Level → Json
attributes_by l r level =
    object
    (member (codes "type") (text l.name)
    ∷ member (codes "url") (text (url l.name r.id))
    ∷ member (codes "level") (text (level_name level))
    ∷ [])

-- with the fields that are there
abbrev pub record_by : Layout → Record → Level → List Site → Json
record_by l r level sites = object (member (codes "attributes") (attributes_by l r level) ∷ map (site_member l r) sites)

-- with those that are found, or why they can't be shown
abbrev pub with_sites : Layout → Record → Level → Sites → Telling
with_sites l r level (Ok sites) = Ok (record_by l r level sites)
with_sites l r level (Err refusal) = Err refusal

-- with those that a query string asks for
abbrev pub asked_by : Layout → (pairs : List ℕ) → Readable → Telling
asked_by l pairs x = with_sites l x.kept.item x.level (sites_asked l (fields_text pairs))

-- ---- the record

-- the layout is that of this object of the tenant
pub record IsOf (q : OrgPlan) (t : Tenant) (o : Numbered) (l : Layout) : Type 0 where
  pub laid : l ≡ layout_of l.org q t o
  pub there : object_numbered t o.number ≡ Some o.object

-- it is the object's record that is looked for, or there is none
abbrev pub IsFound : Tenant → Layout → Option Record → Option KeptRecord → Type 0
IsFound t l x None = x ≡ None
IsFound t l x (Some k) = (x ≡ Some k.item) × (record_of_object t l.object k.item.id ≡ Some k.item)

-- the same with the level on it, if it may be read by that: NOT_FOUND otherwise
abbrev pub readable_by : KeptRecord → Result Level StoreFail → Result Readable EditFail
readable_by k (Ok level) = if at_least Read level then Ok (record { kept = k; level = level }) else Err (Refused NotFound)
readable_by k (Err e) = Err (Store e)

-- the record that is looked for, one of the object with this number, which the user may read, with their level on it
pub record IsReadable (a : Asked) (n : ℕ) (found : Option Record) (x : Readable) : Type 0 where
  pub is : option_and_then (if_readable a) found ≡ Some x.kept.item
  pub there : record_of_object a.tenant n x.kept.item.id ≡ Some x.kept.item
  pub level : x.level ≡ level a.tenant a.user x.kept.item

-- it is so, or there is none, or the work on the tables stopped
abbrev pub FindsReadable : Asked → (n : ℕ) → Option Record → Result Readable EditFail → Type 0
FindsReadable a n found (Ok x) = IsReadable a n found x
FindsReadable a n found (Err (Refused r)) = (option_and_then (if_readable a) found ≡ None) × (r ≡ NotFound)
FindsReadable a n found (Err (Store e)) = e ≢ Damaged

-- ---- what is told

-- of the object's record with this id
abbrev pub told_at : Asked → Numbered → (id pairs : List ℕ) → Telling
told_at a o id pairs = of_readable a (record_of_object a.tenant o.number id) (record_asked a o.object pairs)

-- of the one that a text names
abbrev pub told_named : Asked → Numbered → (key pairs : List ℕ) → Telling
told_named a o key pairs =
    in_case (id_in key) (Err (MalformedId key)) (λ id. told_at a o id pairs)

-- of the one that has a value in a unique field
abbrev pub told_with : Asked → Numbered → (field part pairs : List ℕ) → Telling
told_with a o field part pairs =
    in_case (unique_named o.object field) (Err (InvalidField (declared_name o.object field))) (λ f.
    with_value (key_value f.1 (value_part part)) (λ v.
    of_readable a (record_by_value a.tenant o.number f.0 v) (record_asked a o.object pairs)))

-- of the one that has this value in this field
abbrev pub told_by : Asked → Numbered → FoundKey → (pairs : List ℕ) → Telling
told_by a o k pairs = of_readable a (record_by_value a.tenant o.number (suc k.number) k.value) (record_asked a o.object pairs)

-- it is told so of each object whose layout it is, to whose rights these are
abbrev pub TellsOn : Layout → Whose → (Asked → Numbered → Telling) → Tables → Result Json EditFail → Type 0
TellsOn l whose tell m result =
    (q : OrgPlan) (a : Asked) (o : Numbered) → StandsIn l.org q m (Some a.tenant) → whose a.tenant a.user → IsOf q a.tenant o l → TellsSo (tell a o) result

-- ---- manual shares

-- a share in JSON, by its row
abbrev pub share_row_json : ShareRow → Json
share_row_json row = object (member (codes "to") (principal_json row.to) ∷ member (codes "level") (text (level_name row.level)) ∷ [])
