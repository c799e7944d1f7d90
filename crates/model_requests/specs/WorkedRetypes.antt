-- Records whose field changes its type, for rows worked by hand. A reader of the rules may pass them over.
use Rattle.std.specs.Prelude.{ℕ, zero, suc, ◌+◌, ◌==◌, if◌then◌else◌, List, [], ◌∷◌, ◌++◌, map, codes, Some, None}
use Rattle.std.specs.Fmt.{decimal}
use Rattle.std.specs.List.{range_with_len}
use Rattle.base_value.specs.declared.sharing.Access.TheVariants as access
use Rattle.base_value.specs.declared.value.FieldType.TheVariants as type
use Rattle.base_value.specs.declared.value.Value.TheVariants as value
use Rattle.soql.specs.declared.query.Item.TheVariants as item
use Rattle.model.specs.declared.record.Record.{Record}
use Rattle.model.specs.declared.metadata_bodies.SpelledType.TheVariants.{Plain}
use Rattle.model_requests.specs.Requests.{asks, begins_retype, gets_retype, updates}
use Rattle.model.specs.Tenant.{Tenant}
use Rattle.model.specs.WorkedAccess.{admin, field, id_of, item as record_of, object}
use Rattle.model.specs.WorkedQueries.{path, query, tail}
use Rattle.model_requests.specs.WorkedRequests.{Call, by_admin, rows_so, start, text_to}

-- record k holds its number as a text, but for record n, which holds another text
abbrev pub numbered_record : (n : ℕ) → (other : List ℕ) → ℕ → Record
numbered_record n other k = record_of (id_of 0 k) (Some admin.id) (value.Null ∷ value.Text (if k == n then other else decimal k) ∷ [])

-- records 1 to `many` of an object with one field, a text of at most 20 characters
abbrev pub filled : (many n : ℕ) → (other : List ℕ) → Tenant
filled many n other =
    record start {
      counter = many + 1;
      objects = object (codes "T__c") access.Private (field (codes "V__c") (type.Text 20) None ∷ []) ∷ [];
      records = map (numbered_record n other) (range_with_len 1 many);
    }

-- the change to a number of 6 digits begins
abbrev pub to_number : Call
to_number = by_admin (begins_retype (codes "T__c") (codes "V__c") (Plain (type.Number 6 0)))

-- `SELECT V__c FROM T__c LIMIT 1`
abbrev pub select_first : Call
select_first = by_admin (asks (query (item.Path (path (codes "V__c" ∷ [])) ∷ []) (tail (codes "T__c") None [] (Some 1)) None))

abbrev pub first_to : List ℕ → Call
first_to text = by_admin (updates (codes "T__c") (codes "a00000000000001") (text_to (codes "V__c") text ∷ []))

abbrev pub get_job : Call
get_job = by_admin gets_retype

-- so many calls
abbrev pub times : ℕ → Call → List Call
times zero c = []
times (suc n) c = c ∷ times n c

-- ---- replies

abbrev pub first_row : List ℕ → ℕ × List ℕ
first_row v =
    rows_so 1 (codes "{\"attributes\":{\"type\":\"T__c\",\"url\":\"/services/data/v59.0/sobjects/T__c/a00000000000001AAA\"},\"V__c\":" ++ v ++ codes "}")

abbrev pub job_so : (phase outcome failed : List ℕ) → ℕ × List ℕ
job_so phase outcome failed = (
  200,
  codes "{\"object\":\"T__c\",\"field\":\"V__c\",\"phase\":\"" ++ phase ++ codes "\",\"outcome\":\"" ++ outcome ++ codes "\",\"record\":" ++ failed ++ codes "}",
)
