-- Shares, sharing rules and paths for rows worked by hand, over the people of WorkedRequests. A reader of the rules may pass them
-- over.
use Rattle.std.specs.Prelude.{ℕ, false, List, [], ◌∷◌, ◌++◌, codes, Option, Some, None}
use Rattle.base_value.specs.declared.sharing.Access.TheVariants as access
use Rattle.base_value.specs.declared.sharing.Level.TheVariants.{Edit, Read}
use Rattle.base_value.specs.declared.value.FieldType.TheVariants as type
use Rattle.base_value.specs.declared.value.OnDelete.TheVariants as on_delete
use Rattle.soql.specs.declared.query.Cond.{Cond}
use Rattle.soql.specs.declared.query.Cond.TheVariants.{Test}
use Rattle.soql.specs.declared.query.Literal.{Literal}
use Rattle.soql.specs.declared.query.Op.{Op}
use Rattle.model.specs.declared.people_bodies.GroupChange.{GroupChange}
use Rattle.model.specs.declared.people_bodies.PrincipalKind.{PrincipalKind}
use Rattle.model.specs.declared.people_bodies.PrincipalKind.TheVariants as kind
use Rattle.model.specs.declared.metadata_bodies.SpelledType.TheVariants.{Plain, LookupTo}
use Rattle.model.specs.declared.people_bodies.Spelled.{Spelled}
use Rattle.model_requests.specs.Requests.{Request, adds_group, adds_sharing_rule, asks, creates, sets_group, shares, updates}
use Rattle.model.specs.declared.sharing_bodies.SpelledSource.TheVariants.{Criteria}
use Rattle.model.specs.WorkedAccess.{is_open}
use Rattle.model.specs.WorkedQueries.{account_name, contacts_where, path}
use Rattle.model_requests.specs.WorkedRequests.{Call, add_deals, by, by_admin, deal_made, deal_object, field_with, object_with, people, text_to}

-- ---- Ron shares deal 8 with Otto for editing, and then gives it to Cea

abbrev pub principal_text : PrincipalKind → List ℕ → Spelled
principal_text kind text = record { kind = kind; text = text }

-- a group is to have these members
abbrev pub members_alone : List Spelled → GroupChange
members_alone members = record { members = Some members; name = None }

abbrev pub share_with_otto : Request
share_with_otto =
    shares (record {
      members = codes "record" ∷ codes "to" ∷ codes "level" ∷ [];
      item = codes "a00000000000008";
      to = principal_text kind.User (codes "005000000000007AAA");
      level = Edit;
    })

abbrev pub give_to_cea : Request
give_to_cea = updates deal_object (codes "a00000000000008") (text_to (codes "OwnerId") (codes "005000000000006AAA") ∷ [])

abbrev pub deal_shared : List Call
deal_shared = deal_made ++ by 5 share_with_otto ∷ []

abbrev pub deal_given : List Call
deal_given = deal_shared ++ by 5 give_to_cea ∷ []

-- ---- a picklist, groups G1 (8) and G2 (9) within each other, and a rule that shares open deals with G2; Ron makes deal 10

abbrev pub stage : List ℕ
stage = codes "Stage__c"

abbrev pub share_open_deals : Request
share_open_deals =
    adds_sharing_rule (record {
      members = codes "object" ∷ codes "name" ∷ codes "to" ∷ codes "level" ∷ codes "formula" ∷ [];
      object = deal_object;
      name = codes "Open_deals";
      source = Criteria is_open;
      to = principal_text kind.Group (codes "00G000000000009");
      level = Read;
    })

abbrev pub stage_to : List ℕ → Request
stage_to text = updates deal_object (codes "a0000000000000A") (text_to stage text ∷ [])

abbrev pub open_made : List Call
open_made =
    people ++ add_deals
    ∷ by_admin (field_with deal_object stage (Plain (type.Picklist (codes "Open" ∷ codes "Shut" ∷ []))) false)
    ∷ by_admin (adds_group (codes "G1"))
    ∷ by_admin (adds_group (codes "G2"))
    ∷ by_admin (sets_group (codes "00G000000000008") (members_alone (principal_text kind.User (codes "005000000000007") ∷ principal_text kind.Group (codes "00G000000000009") ∷ [])))
    ∷ by_admin (sets_group (codes "00G000000000009") (members_alone (principal_text kind.Group (codes "00G000000000008") ∷ [])))
    ∷ by_admin share_open_deals
    ∷ by 5 (creates deal_object (text_to stage (codes "Open") ∷ []))
    ∷ []

-- ---- contacts (1) refer to accounts (0) that Otto can't read, and notes to contacts

abbrev pub lookup_field : (object name target child : List ℕ) → Request
lookup_field object name target child = field_with object name (LookupTo target on_delete.Clear child) false

abbrev pub contact_made : List Call
contact_made =
    people
    ++ by_admin (object_with (codes "Account__c") access.Private)
    ∷ by_admin (object_with (codes "Contact__c") access.Read)
    ∷ by_admin (object_with (codes "Note__c") access.Read)
    ∷ by_admin (lookup_field (codes "Contact__c") (codes "Account__c") (codes "Account__c") (codes "Contacts__r"))
    ∷ by_admin (lookup_field (codes "Note__c") (codes "Contact__c") (codes "Contact__c") (codes "Notes__r"))
    ∷ by_admin (creates (codes "Account__c") (text_to (codes "Name") (codes "secret") ∷ []))
    ∷ by_admin (creates (codes "Contact__c") (text_to (codes "Account__c") (codes "a00000000000008") ∷ []))
    ∷ []

-- a test of the account's name
abbrev pub account_is : Op → Literal → Option Cond
account_is o l = Some (Test (path account_name) o l)

abbrev pub ask_contacts : Option Cond → Request
ask_contacts condition = asks (contacts_where condition)

abbrev pub contact_row : List ℕ
contact_row =
    codes "{\"attributes\":{\"type\":\"Contact__c\",\"url\":\"/services/data/v59.0/sobjects/Contact__c/a01000000000009AAA\"},"
    ++ codes "\"Account__c\":\"a00000000000008AAA\",\"Account__r\":null,\"Notes__r\":null}"
