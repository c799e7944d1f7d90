-- Requests that are refused, for rows worked by hand. A reader of the rules may pass them over.
use Rattle.std.specs.Prelude.{ℕ, false, List, [], ◌∷◌, ◌++◌, map, codes, Option, Some, None}
use Rattle.base_value.specs.declared.sharing.Access.TheVariants as access
use Rattle.base_value.specs.declared.value.FieldType.TheVariants as type
use Rattle.soql.specs.declared.query.Cond.{Cond}
use Rattle.soql.specs.declared.query.Cond.TheVariants.{Test}
use Rattle.soql.specs.declared.query.Item.TheVariants as item
use Rattle.soql.specs.declared.query.Literal.{Literal}
use Rattle.soql.specs.declared.query.Op.{Op}
use Rattle.soql.specs.declared.query.OrderKey.{OrderKey}
use Rattle.model.specs.declared.people_bodies.PrincipalKind.TheVariants as kind
use Rattle.model.specs.declared.people_bodies.UserChange.{UserChange}
use Rattle.model.specs.declared.record_bodies.Assignment.{Assignment}
use Rattle.model.specs.declared.metadata_bodies.SpelledType.TheVariants.{Plain}
use Rattle.model_requests.specs.Requests.{Request, asks, begins_retype, creates, deletes, sets_role, unshares, updates}
use Rattle.model.specs.WorkedQueries.{path, query, tail}
use Rattle.model_requests.specs.WorkedRecords.{detail_of}
use Rattle.model_requests.specs.WorkedRequests.{Call, add_deals, by, by_admin, deal_object, field_with, object_with, people, refused_so, text_to}
use Rattle.model_requests.specs.WorkedSharing.{principal_text, stage}

-- refused with this code and this message
abbrev pub no : (code message : List ℕ) → ℕ × List ℕ
no code message = refused_so 400 code message

-- what names nothing, under the name of its member or field
abbrev pub no_target : (name : List ℕ) → ℕ × List ℕ
no_target name = no (codes "INVALID_CROSS_REFERENCE_KEY") (name ++ codes ": no such target")

abbrev pub no_field : (name : List ℕ) → ℕ × List ℕ
no_field name = no (codes "INVALID_FIELD") (codes "no field " ++ name ++ codes " here")

-- ---- edits: Ron makes a deal of this, or gives deal 8 to this user, or Otto does

abbrev pub new_deal : List Assignment → Call
new_deal given = by 5 (creates deal_object given)

abbrev pub zed : Assignment
zed = text_to (codes "Zed__c") []

abbrev pub amount_x : Assignment
amount_x = text_to (codes "Amount__c") (codes "x")

abbrev pub long_code : Assignment
long_code = text_to (codes "Code__c") (codes "abcdefghijklmnopqrstu")

abbrev pub owner_to : (user : ℕ) → (owner : List ℕ) → Call
owner_to user owner = by user (updates deal_object (codes "a00000000000008") (text_to (codes "OwnerId") owner ∷ []))

-- Ron ends Otto's share of deal 8, or that of a principal of no form
abbrev pub end_share : Call
end_share =
    by 5 (unshares (codes "a00000000000008") (codes "user:005000000000007") (Some (principal_text kind.User (codes "005000000000007"))))

abbrev pub end_no_share : Call
end_no_share = by 5 (unshares (codes "a00000000000008") (codes "Otto") None)

-- another parent for the CEO's role (1)
abbrev pub ceo_below : (role : List ℕ) → Call
ceo_below role = by_admin (sets_role (codes "00E000000000001") (record { parent = Some (Some role); name = None }))

-- a user is to have this role, or not to be active
abbrev pub to_role : (role : List ℕ) → UserChange
to_role role = record { role = Some (Some role); name = None; secret = None; admin = None; active = None }

abbrev pub inactive : UserChange
inactive = record { role = None; name = None; secret = None; admin = None; active = Some false }

-- ---- orders, which everybody reads, and their lines; Ron makes the orders 8 and 9, and line 10 of order 8

abbrev pub new_order : Call
new_order = by 5 (creates (codes "Order__c") [])

abbrev pub new_line : Request
new_line = creates (codes "Line__c") (text_to (codes "Order__c") (codes "a00000000000008") ∷ [])

abbrev pub line_to : (order : List ℕ) → Request
line_to order = updates (codes "Line__c") (codes "a0100000000000A") (text_to (codes "Order__c") order ∷ [])

abbrev pub line_made : List Call
line_made =
    people
    ++ by_admin (object_with (codes "Order__c") access.Read)
    ∷ by_admin (detail_of (codes "Line__c") (codes "Order__c") (codes "Order__c") (codes "Lines__r"))
    ∷ new_order ∷ new_order
    ∷ by 5 new_line
    ∷ []

-- ---- the change of a deal's field to a text

abbrev pub to_text : (field : List ℕ) → Call
to_text field = by_admin (begins_retype deal_object field (Plain (type.Text 20)))

-- deals with a stage that changes; there is one, so the next request finds the job still copying
abbrev pub stage_changing : List Call
stage_changing =
    add_deals
    ∷ by_admin (field_with deal_object stage (Plain (type.Picklist (codes "Open" ∷ codes "Shut" ∷ []))) false)
    ∷ by_admin (creates deal_object [])
    ∷ to_text stage
    ∷ []

-- ---- queries on contacts: what they select, the test of the account, and what they are ordered by

abbrev pub contacts_by : (selected : List (List (List ℕ))) → Option Cond → List OrderKey → Call
contacts_by selected condition order =
    by_admin (asks (query (map (λ names. item.Path (path names)) selected) (tail (codes "Contact__c") condition order None) None))

abbrev pub contacts_where_account : Op → Literal → List OrderKey → Call
contacts_where_account o l order = contacts_by ((codes "Id" ∷ []) ∷ []) (Some (Test (path (codes "Account__c" ∷ [])) o l)) order

abbrev pub delete_account : Call
delete_account = by_admin (deletes (codes "Account__c") (codes "a00000000000008"))

abbrev pub bare_contact : List ℕ
bare_contact =
    codes "{\"attributes\":{\"type\":\"Contact__c\",\"url\":\"/services/data/v59.0/sobjects/Contact__c/a01000000000009AAA\"},\"Account__c\":null}"

abbrev pub found_contact : List ℕ
found_contact =
    codes "{\"attributes\":{\"type\":\"Contact__c\",\"url\":\"/services/data/v59.0/sobjects/Contact__c/a01000000000002AAA\"},"
    ++ codes "\"Account__c\":\"a00000000000001AAA\"}"
