-- What a request comes to: the refusal of the first of its rules that refuses, or what is answered; and the organisation after it.
-- This form is the product's own.
use Rattle.std.specs.Prelude.{ℕ, Bool, List, Some, None, Result, Ok, Err}
use Rattle.soql.specs.declared.query.Query.{Query}
use Rattle.model.specs.declared.refusal.Refusal.{Refusal}
use Rattle.model.specs.declared.refusal.Refusal.TheVariants.{InvalidType}
use Rattle.model.specs.Cases.{in_case}
use Rattle.model.specs.Objects.{Numbered, object_named}
use Rattle.model.specs.Rules.{Rule, first_refusal}
use Rattle.model.specs.Tenant.{Tenant}

-- what is answered where no rule refuses
pub data Done : Type 0 where
  -- that it is done
  done : Done
  -- the rows of a query
  rows_of : Query → Done
  -- the id of a new record, user, role or group
  made_new : (id : List ℕ) → Done
  -- the id of the record that has the given values now, and whether it is new
  upserted : (id : List ℕ) → (created : Bool) → Done
  -- these characters, a body that was read off the organisation
  told : (body : List ℕ) → Done

pub record Verdict : Type 0 where
  pub answer : Result Done Refusal
  pub tenant : Tenant

-- a refusal changes nothing
abbrev pub refuse : Tenant → Refusal → Verdict
refuse t refusal = record { answer = Err refusal; tenant = t }

-- what is answered, and the organisation after it
abbrev pub accept : Done → Tenant → Verdict
accept answer t = record { answer = Ok answer; tenant = t }

-- the verdict, unless a rule refuses
abbrev pub unless : Rule → Tenant → Verdict → Verdict
unless None t verdict = verdict
unless (Some refusal) t verdict = refuse t refusal

-- rules in their order, and the verdict where none of them refuses
abbrev pub judged : Tenant → List Rule → Verdict → Verdict
judged t rules verdict = unless (first_refusal rules) t verdict

-- what it comes to on the object with this name; INVALID_TYPE where there is none
abbrev pub on_object : Tenant → List ℕ → (Numbered → Verdict) → Verdict
on_object t name verdict = in_case (object_named t name) (refuse t (InvalidType name)) verdict
