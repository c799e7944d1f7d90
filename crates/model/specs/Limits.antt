-- How many there may be of each thing, and how long each may be. The numbers are this product's own.
use Rattle.std.specs.Prelude.{ℕ, List, codes}
use Rattle.model.specs.declared.limit.Limit.{Limit}
use Rattle.model.specs.declared.limit.Limit.TheVariants as limit

-- what is counted, in the words of a message
abbrev pub limit_name : Limit → List ℕ
limit_name limit.RecordsPerObject = codes "records per object"
limit_name limit.Records = codes "records"
limit_name limit.Objects = codes "objects"
limit_name limit.FieldsPerObject = codes "fields per object"
limit_name limit.Users = codes "users"
limit_name limit.Roles = codes "roles"
limit_name limit.Groups = codes "groups"
limit_name limit.MembersPerGroup = codes "members per group"
limit_name limit.SharingRules = codes "sharing rules"
limit_name limit.ValidationRulesPerObject = codes "validation rules per object"
limit_name limit.SharesPerRecord = codes "shares per record"
limit_name limit.Ids = codes "ids"
limit_name limit.RuleNumbers = codes "rule numbers"
limit_name limit.DetailLevels = codes "detail levels"
limit_name limit.Organisations = codes "organisations"

-- how many there may be
abbrev pub limit_number : Limit → ℕ
limit_number limit.RecordsPerObject = 20000
limit_number limit.Records = 50000
limit_number limit.Objects = 100
limit_number limit.FieldsPerObject = 40
limit_number limit.Users = 2000
limit_number limit.Roles = 500
limit_number limit.Groups = 500
limit_number limit.MembersPerGroup = 500
limit_number limit.SharingRules = 300
limit_number limit.ValidationRulesPerObject = 50
limit_number limit.SharesPerRecord = 100
limit_number limit.Ids = 999999999999999
limit_number limit.RuleNumbers = 4000000000
limit_number limit.DetailLevels = 3
limit_number limit.Organisations = 10000

-- ---- bounds of which LIMIT_EXCEEDED says nothing

-- the most bytes of the body of a request
abbrev pub body_limit : ℕ
body_limit = 4194304

-- the most bytes of the body of a reply with rows
abbrev pub reply_limit : ℕ
reply_limit = 16777216

-- the most bytes of an input in CSV
abbrev pub input_limit : ℕ
input_limit = 67108864

-- the most characters of a record's name, of a name of people, and of the message of a validation rule
abbrev pub name_limit : ℕ
name_limit = 80

-- the fewest and the most letters and digits of a secret
abbrev pub secret_least : ℕ
secret_least = 16

abbrev pub secret_most : ℕ
secret_most = 64

-- the most characters of a stem, as the name of a rule is
abbrev pub stem_limit : ℕ
stem_limit = 40

-- the most characters of the text of a formula
abbrev pub formula_limit : ℕ
formula_limit = 4000

-- the most records that one deletion changes
abbrev pub deletion_limit : ℕ
deletion_limit = 1000

-- the most rows within one another in a reply: a row, one of a subquery in it, and five parents
abbrev pub nested_rows : ℕ
nested_rows = 7

-- the most records of one step of the change of a field's type
abbrev pub step_records : ℕ
step_records = 100

-- the most rows that the steps before a request write
abbrev pub step_rows : ℕ
step_rows = 410
