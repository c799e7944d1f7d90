-- Small queries for rows worked by hand, over the people of WorkedAccess. A reader of the rules may pass them over.
use Rattle.std.specs.Prelude.{ℕ, Bool, false, true, List, [], ◌∷◌, codes, map, Option, Some, None, ℤ, pos}
use Rattle.base_value.specs.declared.sharing.Access.TheVariants as access
use Rattle.base_value.specs.declared.value.OnDelete.TheVariants as on_delete
use Rattle.base_value.specs.declared.value.FieldType.TheVariants as type
use Rattle.base_value.specs.declared.value.Value.{Value}
use Rattle.base_value.specs.declared.value.Value.TheVariants as value
use Rattle.soql.specs.declared.query.Cond.{Cond, And', Not', Or', end_of-Cond, more_of-Cond}
use Rattle.soql.specs.declared.query.Cond.TheVariants as cond
use Rattle.soql.specs.declared.query.Item.{Item}
use Rattle.soql.specs.declared.query.Item.TheVariants as item
use Rattle.soql.specs.declared.query.Literal.{Literal}
use Rattle.soql.specs.declared.query.Literal.TheVariants as literal
use Rattle.soql.specs.declared.query.Op.TheVariants as op
use Rattle.soql.specs.declared.query.OrderKey.{OrderKey}
use Rattle.soql.specs.declared.query.Path.{Path}
use Rattle.soql.specs.declared.query.Query.{Query}
use Rattle.soql.specs.declared.query.Tail.{Tail}
use Rattle.model.specs.declared.record.Record.{Record}
use Rattle.model.specs.Paths.{Asked}
use Rattle.model.specs.Rows.{found}
use Rattle.model.specs.Tenant.{Object, Tenant, User}
use Rattle.model.specs.WorkedAccess.{admin, field, item as record_of, object, otto, id_of, ron, tenant}

-- 2023-11-14T22:13:20Z
abbrev pub moment : ℤ
moment = pos 1700000000

-- the user asks, at that moment
abbrev pub asked_by : User → Tenant → Asked
asked_by u t = record { tenant = t; user = u; now = moment }

-- ---- parts of queries
abbrev pub path : List (List ℕ) → Path
path names = record { names = names }

abbrev pub tail : List ℕ → Option Cond → List OrderKey → Option ℕ → Tail
tail from condition order limit = record { from = from; condition = condition; order = order; limit = limit }

abbrev pub query : List Item → Tail → Option ℕ → Query
query select tail offset = record { select = select; tail = tail; offset = offset }

-- `a AND b`, `a OR b` and `NOT a`, as rows of conditions
abbrev pub both : Cond → Cond → Cond
both a b = And' (tt ∷ tt ∷ []) (more_of-Cond a (more_of-Cond b end_of-Cond))

abbrev pub either : Cond → Cond → Cond
either a b = Or' (tt ∷ tt ∷ []) (more_of-Cond a (more_of-Cond b end_of-Cond))

abbrev pub opposite : Cond → Cond
opposite a = Not' tt (more_of-Cond a end_of-Cond)

-- a name that is null, and one that is `x`
abbrev pub no_name : Cond
no_name = cond.Test (path (codes "Name" ∷ [])) op.Equal literal.Null

abbrev pub named_x : Cond
named_x = cond.Test (path (codes "Name" ∷ [])) op.Equal (literal.Text (codes "x"))

-- a name that is among these, or is not
abbrev pub name_among : Bool → List Literal → Cond
name_among negated literals = cond.In (path (codes "Name" ∷ [])) negated literals

-- `SELECT Id FROM name`
abbrev pub ids_of : List ℕ → Query
ids_of name = query (item.Path (path (codes "Id" ∷ [])) ∷ []) (tail name None [] None) None

-- `ORDER BY name`
abbrev pub order_by : List ℕ → (descending nulls_last : Bool) → OrderKey
order_by name descending nulls_last = record { path = path (name ∷ []); descending = descending; nulls_last = nulls_last }

-- ---- contacts (1) refer to accounts (0), which only their owners read, and notes (2) to contacts
abbrev pub directory : List Object
directory =
    object (codes "Account__c") access.Private []
    ∷ object (codes "Contact__c") access.Read (field (codes "Account__c") (type.Lookup 0 on_delete.Clear) (Some (codes "Contacts__r")) ∷ [])
    ∷ object (codes "Note__c") access.Private (field (codes "Contact__c") (type.Lookup 1 on_delete.Clear) (Some (codes "Notes__r")) ∷ [])
    ∷ []

-- the account, which is the administrator's, and the contact, which is Ron's
abbrev pub account : Record
account = record_of (id_of 0 3) (Some admin.id) (value.Text (codes "secret") ∷ [])

abbrev pub contact : Record
contact = record_of (id_of 1 4) (Some ron.id) (value.Null ∷ value.Ref account.id ∷ [])

-- a user's note on the contact
abbrev pub note : ℕ → User → Record
note n owner = record_of (id_of 2 n) (Some owner.id) (value.Null ∷ value.Ref contact.id ∷ [])

abbrev pub contacts : List Record → Tenant
contacts notes = tenant directory [] (account ∷ contact ∷ notes) []

abbrev pub account_name : List (List ℕ)
account_name = codes "Account__r" ∷ codes "Name" ∷ []

-- `Account__r.Name != 'x'`
abbrev pub not_x : Cond
not_x = cond.Test (path account_name) op.NotEqual (literal.Text (codes "x"))

-- `FROM notes__R ORDER BY Id DESC LIMIT 1`
abbrev pub last_note : Tail
last_note = tail (codes "notes__R") None (order_by (codes "Id") true false ∷ []) (Some 1)

-- `SELECT Account__c, Account__r.Name, (SELECT Id FROM Notes__r) FROM Contact__c`, with a condition
abbrev pub contacts_where : Option Cond → Query
contacts_where condition =
    query
    (item.Path (path (codes "Account__c" ∷ []))
    ∷ item.Path (path account_name)
    ∷ item.Child (path (codes "Id" ∷ []) ∷ []) (tail (codes "Notes__r") None [] None)
    ∷ [])
    (tail (codes "Contact__c") condition [] None)
    None

-- ---- four rows with the names `a`, `A`, none and `b`, which everybody reads, and amounts of 1, 2, 1 and 2
abbrev pub named : ℕ → Value → ℤ → Record
named n name amount = record_of (id_of 0 n) (Some admin.id) (name ∷ value.Num amount ∷ [])

abbrev pub table : Tenant
table =
    tenant
    (object (codes "Row__c") access.Read (field (codes "Amount__c") (type.Number 6 0) None ∷ []) ∷ [])
    []
    (named 1 (value.Text (codes "a")) (pos 100000000)
    ∷ named 2 (value.Text (codes "A")) (pos 200000000)
    ∷ named 3 value.Null (pos 100000000)
    ∷ named 4 (value.Text (codes "b")) (pos 200000000)
    ∷ [])
    []

-- the ids of the rows in this order, without the first few and up to a limit
abbrev pub sorted : List OrderKey → Option ℕ → (offset : Option ℕ) → List (List ℕ)
sorted order limit offset = map (λ r. r.id) (found (asked_by otto table) (query [] (tail (codes "Row__c") None order limit) offset))

-- the ids of these rows
abbrev pub row_ids : List ℕ → List (List ℕ)
row_ids ns = map (id_of 0) ns
