-- What is given to a record, judged: to a new one, to which nothing was given, or to one that has values.
use Rattle.std.specs.Prelude.{◌≡◌, ◌≢◌, List, [], ◌∷◌, ◌++◌, Option, None, Some, Result, Ok, Err}
use Rattle.store_rows.specs.declared.fail.StoreFail.TheVariants.{Damaged, Memory}
use Rattle.model.specs.Edits.{bad_value, required_missing, with_given}
use Rattle.model.specs.Keys.{Key, bad_fields, with_key}
use Rattle.model.specs.Paths.{Asked}
use Rattle.model.specs.Rules.{Rule, first_refusal}
use Rattle.model.specs.Tenant.{Object, Tenant}
use Rattle.model.specs.Updates.{owner_denied}
use Rattle.model.specs.declared.record.Record.{Record}
use Rattle.model.specs.declared.record_bodies.Assignment.{Assignment}
use Rattle.store_abstraction.specs.declared.fail.EditFail.{EditFail}
use Rattle.store_abstraction.specs.declared.fail.EditFail.TheVariants.{Refused, Store}

-- the rules on the names and the values that are given
abbrev pub value_rules : Tenant → Object → Option Key → List Assignment → List Rule
value_rules t o key given = bad_fields t o key given ∷ bad_value t o (with_key key given) ∷ []

-- the same before that on required fields
abbrev pub given_rules : Tenant → Object → Option Key → List Assignment → (new : Record) → List Rule
given_rules t o key given new = value_rules t o key given ++ required_missing o new ∷ []

-- no required field is null, or the refusal of the first that is
abbrev pub Lacks : Object → (new : Record) → Result Record EditFail → Type 0
Lacks o new (Ok r) = (None ≡ required_missing o new) × (r ≡ new)
Lacks o new (Err (Refused x)) = Some x ≡ required_missing o new
Lacks o new (Err (Store e)) = e ≡ Memory

-- the record with what is given, and with the key of an upsert if it is one
abbrev pub altered : Asked → Object → Option Key → List Assignment → (old : Record) → Record
altered a o key given old = with_given a o (with_key key given) old

-- neither names nor values are refused, and the record with them is this; or the refusal of the first
abbrev pub Gives : Asked → Object → Option Key → List Assignment → (old : Record) → Result Record EditFail → Type 0
Gives a o key given old (Ok r) = (None ≡ first_refusal (value_rules a.tenant o key given)) × (r ≡ altered a o key given old)
Gives a o key given old (Err (Refused x)) = Some x ≡ first_refusal (value_rules a.tenant o key given)
Gives a o key given old (Err (Store e)) = e ≢ Damaged

-- none of the rules refuses what the record is with what is given, which is this; or the refusal of the first
abbrev pub Alters : Asked → Object → Option Key → List Assignment → (old : Record) → Result Record EditFail → Type 0
Alters a o key given old (Ok r) =
    (None ≡ first_refusal (given_rules a.tenant o key given (altered a o key given old))) × (r ≡ altered a o key given old)
Alters a o key given old (Err (Refused x)) = Some x ≡ first_refusal (given_rules a.tenant o key given (altered a o key given old))
Alters a o key given old (Err (Store e)) = e ≢ Damaged

-- the same where another owner needs the record in full
abbrev pub changed_rules : Asked → Object → Option Key → List Assignment → (old new : Record) → List Rule
changed_rules a o key given old new = value_rules a.tenant o key given ++ owner_denied a old new ∷ required_missing o new ∷ []

abbrev pub Changes : Asked → Object → Option Key → List Assignment → (old : Record) → Result Record EditFail → Type 0
Changes a o key given old (Ok r) =
    (None ≡ first_refusal (changed_rules a o key given old (altered a o key given old))) × (r ≡ altered a o key given old)
Changes a o key given old (Err (Refused x)) = Some x ≡ first_refusal (changed_rules a o key given old (altered a o key given old))
Changes a o key given old (Err (Store e)) = e ≢ Damaged
