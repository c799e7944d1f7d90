-- What a row shows by a plan, in JSON.
-- Source of the form: Salesforce, REST API, "Query".
use Rattle.std.specs.Prelude.{◌≡◌, ℕ, List, [], ◌∷◌, codes, map, Option, Some, slice_get}
use Rattle.base_json.specs.Printing.{printed_null, printed_text}
use Rattle.base_value.specs.declared.value.Value.{Value}
use Rattle.base_value.specs.declared.value.Value.TheVariants as value
use Rattle.model.specs.declared.record.Record.{Record}
use Rattle.model.specs.Cases.{in_case}
use Rattle.model.specs.Fields.{Site, value_in}
use Rattle.model.specs.Membership.{Has}
use Rattle.model.specs.RowsJson.{children_json, member_json, object_json, url, value_json}
use Rattle.model.specs.Tenant.{Tenant}
use Rattle.query_plan.specs.paths.Branches.{record_above}
use Rattle.query_plan.specs.declared.plan.Child.{Child}
use Rattle.query_plan.specs.declared.plan.Member.{Member, Field, Parent', End, Row_of-Member, end_of-Member, more_of-Member}
use Rattle.query_plan.specs.declared.plan.Shown.{Shown}
use Rattle.query_plan.specs.declared.plan.Shown.TheVariants as shown
use Rattle.query_plan.specs.Checks.{spot_value}

-- how values are shown
abbrev pub Shows : Type 0
Shows = Value → List ℕ

-- values of a tenant's records are shown as they are in JSON
pub record ShowsJson (t : Tenant) (shows : Shows) : Type 0 where
  pub values : (r : Record) (at : Site) → Has t.records r → shows (value_in at r) ≡ value_json (value_in at r)
  pub null : shows value.Null ≡ value_json value.Null

-- ---- members

-- the first member of a record: its type and its address, from the name of its object and its id
abbrev pub type_and_address : (object id : List ℕ) → List ℕ
type_and_address object id =
    member_json (codes "attributes")
    (object_json (member_json (codes "type") (printed_text object) ∷ member_json (codes "url") (printed_text (url object id)) ∷ []))

-- a member of a row's record or of one of its parents, where these are the records of the branches
abbrev mutual
  pub member_text : Shows → (far : List (Option Record)) → Record → Member → List ℕ
  member_text shows far r (Field name spot) = member_json name (shows (spot_value far r spot))
  member_text shows far r (Parent' name branch object shape members) =
      member_json name (in_case (record_above r far (Some branch)) printed_null (λ p.
      object_json (type_and_address object p.id ∷ member_texts shows far r members)))
  member_text shows far r (End name branch) = member_json name (in_case (record_above r far (Some branch)) printed_null (λ p. []))

  pub member_texts : {m : _} → Shows → (far : List (Option Record)) → Record → Row_of-Member m → List (List ℕ)
  member_texts shows far r end_of-Member = []
  member_texts shows far r (more_of-Member member rest) = member_text shows far r member ∷ member_texts shows far r rest

-- ---- children

-- a record with its members, from the name of its object
abbrev pub record_text : Shows → (object : List ℕ) → List Member → (far : List (Option Record)) → Record → List ℕ
record_text shows object members far r = object_json (type_and_address object r.id ∷ map (member_text shows far r) members)

abbrev pub child_text : Shows → (object : List ℕ) → List Member → Child → List ℕ
child_text shows object members c = record_text shows object members c.parents c.«record»

-- those that the subquery with this number finds
abbrev pub children_at : List (List Child) → ℕ → List Child
children_at kids n = in_case (slice_get kids n) [] (λ found. found)

-- ---- rows

abbrev pub shown_text : Shows → (far : List (Option Record)) → (kids : List (List Child)) → Record → Shown → List ℕ
shown_text shows far kids r (shown.Member m) = member_text shows far r m
shown_text shows far kids r (shown.Children name number object members) =
    member_json name (children_json (map (child_text shows object members) (children_at kids number)))

-- a row, from the name of its object
abbrev pub row_text : Shows → (object : List ℕ) → List Shown → (far : List (Option Record)) → (kids : List (List Child)) → Record → List ℕ
row_text shows object shown far kids r = object_json (type_and_address object r.id ∷ map (shown_text shows far kids r) shown)
