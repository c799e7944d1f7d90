-- An organisation of a command's own, and who asks in it: its administrator. What is made in it comes by the verdicts of requests, one
-- after the other.
-- Source: this product's own; the verdicts are the model's.
use Rattle.std.specs.Prelude.{ℕ, List, [], ◌∷◌, codes, Option, Some, None, Result, Ok, Err, ℤ}
use Rattle.std.specs.Str.{chars}
use Rattle.sha2.specs.Sha256.{sha256}
use Rattle.soql.specs.declared.query.Query.{Query}
use Rattle.soql.specs.grammar.Spelling.{reads_query}
use Rattle.model.specs.declared.refusal.Refusal.{Refusal}
use Rattle.model.specs.declared.refusal.Refusal.TheVariants.{MalformedQuery}
use Rattle.model.specs.Cases.{in_case}
use Rattle.model.specs.Organisations.{administrator, fresh}
use Rattle.model.specs.Paths.{Asked}
use Rattle.model.specs.Tenant.{User}
use Rattle.model.specs.Verdict.{Done, Verdict}

-- ---- who asks

abbrev pub org_name : List ℕ
org_name = chars (codes "Rows")

-- a secret that no one is asked for
abbrev pub org_secret : List ℕ
org_secret = codes "0000000000000000"

abbrev pub its_administrator : User
its_administrator = administrator org_name (sha256 org_secret)

-- the administrator of a new organisation, at this moment
abbrev pub asker : ℤ → Asked
asker now = record { tenant = fresh org_name (sha256 org_secret); user = its_administrator; now = now }

-- ---- one verdict after the other

-- why it refuses, if it does
abbrev pub refusal_of : Result Done Refusal → Option Refusal
refusal_of (Ok answer) = None
refusal_of (Err why) = Some why

-- who asks, in the organisation that a verdict leaves
abbrev pub past : Asked → Verdict → Asked
past a v = record { tenant = v.tenant; user = a.user; now = a.now }

-- it ends where a verdict refuses, and else goes on in the organisation that this leaves
abbrev pub unless_refused : {X : Type 0} → Asked → Verdict → (Refusal → X) → (Asked → X) → X
unless_refused a v refused next = in_case (refusal_of v.answer) (next (past a v)) refused

-- ---- what requests have

-- the members of a body that tells a name and no more
abbrev pub only_name : List (List ℕ)
only_name = chars (codes "name") ∷ []

abbrev pub query_read : Result Query ℕ → Result Query Refusal
query_read (Ok q) = Ok q
query_read (Err place) = Err (MalformedQuery place)

-- the query that a text is, or why it is refused
abbrev pub query_or_refusal : (text : List ℕ) → Result Query Refusal
query_or_refusal text = query_read (reads_query text)
