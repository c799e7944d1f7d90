-- The rule of a role that is named. No public contract reaches this word.
use Rattle.std.specs.Prelude.{ℕ, List, Option, None, is_none}
use Rattle.model.specs.Cases.{in_case}
use Rattle.model.specs.declared.refusal.Refusal.TheVariants.{InvalidReference}
use Rattle.model.specs.Principals.{role_at}
use Rattle.model.specs.Rules.{Rule, refuse_if}
use Rattle.model.specs.Tenant.{Tenant}

-- INVALID_CROSS_REFERENCE_KEY: there is an id and no role that has it
abbrev pub lacks_role : Tenant → (member : List ℕ) → Option (List ℕ) → Rule
lacks_role t member id = in_case id None (λ i. refuse_if (is_none (role_at t i)) (InvalidReference member))
