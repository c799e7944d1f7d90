-- Small requests on records for rows worked by hand: validation rules, upserts and deletions. A reader of the rules may pass them
-- over.
use Rattle.std.specs.Prelude.{ℕ, true, false, List, [], ◌∷◌, ◌++◌, codes, Option, Some, ℤ}
use Rattle.base_json.specs.declared.tree.Json.TheVariants as json
use Rattle.base_json.specs.declared.tree.Num.TheVariants.{Exact}
use Rattle.base_value.specs.declared.sharing.Access.TheVariants as access
use Rattle.base_value.specs.declared.value.FieldType.TheVariants as type
use Rattle.base_value.specs.declared.value.OnDelete.TheVariants as on_delete
use Rattle.model.specs.declared.record_bodies.Given.TheVariants as gives
use Rattle.model.specs.declared.record_bodies.Assignment.{Assignment}
use Rattle.model.specs.declared.metadata_bodies.SpelledType.TheVariants.{Plain, LookupTo}
use Rattle.model_requests.specs.Requests.{Request, adds_object, adds_validation_rule, creates, deletes, updates, upserts}
use Rattle.model_requests.specs.WorkedRequests.{Call, add_deals, by_admin, deal_object, field_with, object_with, people, text_to}

-- ---- validation rules, and a code that is taken by a record which Ron can't read

abbrev pub add_rule : (name formula message : List ℕ) → Request
add_rule name formula message =
    adds_validation_rule (record { object = deal_object; name = name; formula = formula; message = message })

abbrev pub rules_made : List Call
rules_made =
    people ++ add_deals
    ∷ by_admin (field_with deal_object (codes "Amount__c") (Plain (type.Number 6 0)) false)
    ∷ by_admin (field_with deal_object (codes "Code__c") (Plain (type.Text 20)) true)
    ∷ by_admin (creates deal_object (text_to (codes "Code__c") (codes "k1") ∷ []))
    ∷ by_admin (add_rule (codes "B_low") (codes "Amount__c < 0") (codes "below zero"))
    ∷ by_admin (add_rule (codes "a_name") (codes "ISBLANK(Name)") (codes "no name"))
    ∷ []

-- a deal with this amount and the code `K1`
abbrev pub deal_of : ℤ → List Assignment → Request
deal_of count more =
    creates deal_object (record { field = codes "Amount__c"; given = gives.Json (json.Number (Exact count)) } ∷ text_to (codes "Code__c") (codes "K1") ∷ more)

-- ---- accounts with a unique code

abbrev pub accounts_made : List Call
accounts_made =
    by_admin (object_with (codes "Account__c") access.Private)
    ∷ by_admin (field_with (codes "Account__c") (codes "Code__c") (Plain (type.Text 20)) true)
    ∷ []

abbrev pub upsert_with : (key : List ℕ) → (text : Option (List ℕ)) → List Assignment → Call
upsert_with key text given = by_admin (upserts (codes "Account__c") key text given)

abbrev pub upsert_account : Call
upsert_account = upsert_with (codes "Code__c") (Some (codes "A/1")) (text_to (codes "Name") (codes "n") ∷ [])

abbrev pub upserted_so : ℕ → (id created : List ℕ) → ℕ × List ℕ
upserted_so status id created = (status, codes "{\"id\":\"" ++ id ++ codes "\",\"success\":true,\"errors\":[],\"created\":" ++ created ++ codes "}")

-- contacts refer to accounts, and one account (1) has the code `A/1`
abbrev pub account_with_code : List Call
account_with_code =
    accounts_made
    ++ by_admin (object_with (codes "Contact__c") access.Private)
    ∷ by_admin (field_with (codes "Contact__c") (codes "Account__c") (LookupTo (codes "Account__c") on_delete.Clear (codes "Contacts__r")) false)
    ∷ upsert_account
    ∷ []

-- a contact of the account that has this code
abbrev pub contact_of : (code : List ℕ) → Call
contact_of code = by_admin (creates (codes "Contact__c") (record { field = codes "Account__c"; given = gives.Find 0 code } ∷ []))

-- ---- an order (1) with three lines (2, 3, 4), of which one is referred to by a note (5)

abbrev pub detail_of : (name field parent child : List ℕ) → Request
detail_of name field parent child =
    adds_object (record {
      members = codes "name" ∷ codes "access" ∷ codes "field" ∷ codes "parent" ∷ codes "child" ∷ [];
      name = name;
      access = access.ControlledByParent;
      hierarchy = true;
      master = Some (record { field = field; parent = parent; child = child });
    })

abbrev pub make_line : Call
make_line = by_admin (creates (codes "Line__c") (text_to (codes "Order__c") (codes "a00000000000001") ∷ []))

abbrev pub note_on : (line : List ℕ) → Request
note_on line = updates (codes "Note__c") (codes "a02000000000005") (text_to (codes "Line__c") line ∷ [])

abbrev pub order_made : List Call
order_made =
    by_admin (object_with (codes "Order__c") access.Private)
    ∷ by_admin (detail_of (codes "Line__c") (codes "Order__c") (codes "Order__c") (codes "Lines__r"))
    ∷ by_admin (object_with (codes "Note__c") access.Private)
    ∷ by_admin (field_with (codes "Note__c") (codes "Line__c") (LookupTo (codes "Line__c") on_delete.Restrict (codes "Notes__r")) false)
    ∷ by_admin (creates (codes "Order__c") [])
    ∷ make_line ∷ make_line ∷ make_line
    ∷ by_admin (creates (codes "Note__c") (text_to (codes "Line__c") (codes "a01000000000003") ∷ []))
    ∷ []

abbrev pub delete_order : Call
delete_order = by_admin (deletes (codes "Order__c") (codes "a00000000000001"))
