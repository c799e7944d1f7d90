-- The rules of a request, each of which may refuse it, and the first that does. That rules are judged in a fixed order is this
-- product's own.
use Rattle.std.specs.Prelude.{ℕ, Bool, true, false, nat_lt, if◌then◌else◌, List, [], ◌∷◌, map, bytes_eq, Option, Some, None}
use Rattle.model.specs.declared.limit.Limit.{Limit}
use Rattle.model.specs.declared.refusal.Refusal.{Refusal}
use Rattle.model.specs.declared.refusal.Refusal.TheVariants.{LimitExceeded}
use Rattle.model.specs.Limits.{limit_number}

-- a rule: its refusal, where its condition holds
abbrev pub Rule : Type 0
Rule = Option Refusal

-- the refusal, where this is so
abbrev pub refuse_if : Bool → Refusal → Rule
refuse_if true refusal = Some refusal
refuse_if false refusal = None

-- the refusal of the first rule that refuses
abbrev pub first_refusal : List Rule → Rule
first_refusal [] = None
first_refusal (Some refusal ∷ rules) = Some refusal
first_refusal (None ∷ rules) = first_refusal rules

-- one rule for each of these, in their order
abbrev pub first_of : {X : Type 0} → (X → Rule) → List X → Rule
first_of rule xs = first_refusal (map rule xs)

-- ---- the members of a body

-- rules, each under the name of the member that it is about
abbrev pub MemberRules : Type 0
MemberRules = List (List ℕ × Rule)

-- the rule of the member with this name
abbrev pub rule_of : MemberRules → List ℕ → Rule
rule_of [] name = None
rule_of (r ∷ rules) name = if bytes_eq r.0 name then r.1 else rule_of rules name

-- one rule over several members: the first refusal in the order in which the body has them
abbrev pub in_body_order : (members : List (List ℕ)) → MemberRules → Rule
in_body_order members rules = first_of (rule_of rules) members

-- ---- limits

-- LIMIT_EXCEEDED: the first of these counts that passes its limit
abbrev pub over_limit : List (Limit × ℕ) → Rule
over_limit counts = first_of (λ c. refuse_if (nat_lt (limit_number c.0) c.1) (LimitExceeded c.0)) counts
