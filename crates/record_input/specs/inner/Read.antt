-- What reading a value returns.
use Rattle.std.specs.Prelude.{◌≡◌, ℕ, List, Option, Some, None, Result, Ok, Err}
use Rattle.base_value.specs.declared.value.Value.{Value}
use Rattle.model.specs.declared.record.Record.{Record}
use Rattle.model.specs.declared.record_bodies.Assignment.{Assignment}
use Rattle.model.specs.Cases.{in_case}
use Rattle.model.specs.Edits.{given_to, refusal_in, value_or}
use Rattle.model.specs.Fields.{Column, ref_of, value_in}
use Rattle.model.specs.Given.{ReadOr}
use Rattle.model.specs.Rules.{Rule, first_of}
use Rattle.model.specs.Tenant.{Tenant}
use Rattle.model.specs.declared.refusal.Refusal.{Refusal}
use Rattle.record_input.specs.declared.unread.Unread.{Unread}
use Rattle.record_input.specs.declared.unread.Unread.TheVariants.{Refused, Memory}

-- it is this, unless out of memory
abbrev pub Reads : ReadOr → Result Value Unread → Type 0
Reads defined (Ok v) = defined ≡ Ok v
Reads defined (Err (Refused refusal)) = defined ≡ Err refusal
Reads defined (Err Memory) = Unit {0}

-- the same of what may not be given
abbrev pub ReadsGiven : Option ReadOr → Option (Result Value Unread) → Type 0
ReadsGiven defined None = defined ≡ None
ReadsGiven defined (Some r) = (read : ReadOr) × (defined ≡ Some read) × Reads read r

-- why it is refused, if it is
abbrev pub refused : Option ReadOr → Rule
refused given = in_case given None refusal_in

-- the refusal of a rule, unless out of memory
abbrev pub Refuses : Rule → Unread → Type 0
Refuses rule (Refused refusal) = rule ≡ Some refusal
Refuses rule Memory = Unit {0}

-- what is made of what was read: no refusal and this, or the refusal
abbrev pub ValueOrRefusal : {X : Type 0} → Rule → (X → Type 0) → Result X Unread → Type 0
ValueOrRefusal rule is (Ok x) = (rule ≡ None) × is x
ValueOrRefusal rule is (Err e) = Refuses rule e

-- the value of a field that had this one, or why what is given is refused
abbrev pub JudgesValue : (given : Option ReadOr) → (old : Value) → Result Value Unread → Type 0
JudgesValue given old = ValueOrRefusal (refused given) (λ v. v ≡ value_or old given)

-- the owner in what was read
abbrev pub owner_in : Option (Result Value Unread) → Result (Option (List ℕ)) Unread
owner_in None = Ok None
owner_in (Some (Ok v)) = Ok (ref_of v)
owner_in (Some (Err e)) = Err e

-- the value of a column, over what the record had
abbrev pub value_over : Tenant → List Assignment → (old : Record) → Column → Value
value_over t given old c = value_or (value_in c.at old) (given_to t given c)

-- the first refusal of these columns
abbrev pub refused_among : Tenant → List Assignment → List Column → Rule
refused_among t given cs = first_of (λ c. refused (given_to t given c)) cs

-- what was read or its refusal, where there was memory
abbrev pub as_unread : {X : Type 0} → Result X Refusal → Result X Unread
as_unread (Ok x) = Ok x
as_unread (Err refusal) = Err (Refused refusal)
