-- Rows in JSON, from what is shown of each record.
-- Source of the form: Salesforce, REST API, "Query".
use Rattle.std.specs.Prelude.{ℕ, true, List, [], ◌∷◌, ◌++◌, codes}
use Rattle.std.specs.Fmt.{decimal}
use Rattle.std.specs.List.{flat_map}
use Rattle.base_json.specs.Printing.{escaped, printed_text, printed_truth}
use Rattle.model.specs.RowsJson.{member_json, object_json, url}

-- the first member of a record: its type and its address, from the name of its object and its id
abbrev pub attributes_member : (object id : List ℕ) → List ℕ
attributes_member object id =
    member_json (codes "attributes")
    (object_json (member_json (codes "type") (printed_text object) ∷ member_json (codes "url") (printed_text (url object id)) ∷ []))

-- the addresses of an object's records, up to their ids
abbrev pub addresses : (object : List ℕ) → List ℕ
addresses object = codes "/services/data/v59.0/sobjects/" ++ object ++ codes "/"

-- how each row of an object begins, behind a comma: its type, and its address up to the id
abbrev pub row_front : (object : List ℕ) → List ℕ
row_front object =
    codes ",{" ++ (printed_text (codes "attributes") ++ codes ":") ++ codes "{" ++ member_json (codes "type") (printed_text object) ++ codes ","
    ++ (printed_text (codes "url") ++ codes ":" ++ codes "\"" ++ flat_map escaped (addresses object))

-- texts, a comma before each
abbrev pub behind_commas : List (List ℕ) → List ℕ
behind_commas texts = flat_map (λ text. 44 ∷ text) texts

-- what comes before so many rows
abbrev pub rows_front : ℕ → List ℕ
rows_front count =
    codes "{" ++ (member_json (codes "totalSize") (decimal count)
    ++ (codes "," ++ (member_json (codes "done") (printed_truth true) ++ (codes "," ++ (printed_text (codes "records") ++ codes ":" ++ codes "[")))))
