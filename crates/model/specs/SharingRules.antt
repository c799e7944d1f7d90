-- Sharing rules: new ones, and their end.
-- Source: Salesforce, "Record-Level Security", "Sharing Rules": by owner or by criteria. The order in which one is judged is this
-- product's own.
use Rattle.std.specs.Prelude.{ℕ, ◌+◌, true, not, List, [], ◌∷◌, map, filter, length, codes, Option, Some, None, Result}
use Rattle.std.specs.List.{list_any}
use Rattle.base_value.specs.declared.job.RuleState.TheVariants as state
use Rattle.formula.specs.declared.formula.Formula.{Formula}
use Rattle.model.specs.declared.limit.Limit.TheVariants as limit
use Rattle.model.specs.declared.refusal.Refusal.TheVariants.{InvalidType, NotFound}
pub use Rattle.model.specs.declared.sharing_bodies.NewSharingRule.{NewSharingRule}
pub use Rattle.model.specs.declared.sharing_bodies.SpelledSource.{SpelledSource}
use Rattle.model.specs.declared.sharing_bodies.SpelledSource.TheVariants.{Owner, Criteria}
use Rattle.model.specs.Cases.{in_case}
use Rattle.model.specs.Fields.{is_detail, same_name}
use Rattle.model.specs.Names.{bad_name, is_stem, taken}
use Rattle.model.specs.Objects.{Numbered}
use Rattle.model.specs.Ordered.{put_in}
use Rattle.model.specs.Principals.{Spelled, bad_id, not_there, principal_of}
use Rattle.model.specs.RuleFormulas.{busy, formula_of, malformed, name_cmp}
use Rattle.model.specs.Rules.{Rule, refuse_if, in_body_order, over_limit}
use Rattle.model.specs.Tenant.{Object, SharingRule, Source, owned, meets, Tenant}
use Rattle.model.specs.Verdict.{Verdict, accept, done, judged, on_object}

-- the source that is spelled
abbrev pub source_of : SpelledSource → Source
source_of (Owner p) = owned (principal_of p)
source_of (Criteria text) = meets text

-- whose records an owner rule shares
abbrev pub source_owner : SpelledSource → Option Spelled
source_owner (Owner p) = Some p
source_owner (Criteria text) = None

-- what the text of a criteria rule reads as
abbrev pub source_formula : Object → SpelledSource → Option (Result Formula ℕ)
source_formula o (Owner p) = None
source_formula o (Criteria text) = Some (formula_of o true text)

abbrev pub new_sharing_rule_rules : Tenant → Numbered → NewSharingRule → List Rule
new_sharing_rule_rules t o b =
    let owner = source_owner b.source in
    let formula = source_formula o.object b.source in
    refuse_if (is_detail o.object) (InvalidType o.object.name)
    ∷ bad_name is_stem b.name
    ∷ taken (map (λ r. r.name) t.sharing_rules) b.name
    ∷ in_body_order b.members ((codes "to", bad_id b.to.text) ∷ (codes "from", in_case owner None (λ p. bad_id p.text)) ∷ [])
    ∷ in_body_order b.members
    ((codes "to", not_there t (codes "to") (principal_of b.to))
    ∷ (codes "from", in_case owner None (λ p. not_there t (codes "from") (principal_of p)))
    ∷ [])
    ∷ in_case formula None malformed
    ∷ in_case formula None (busy t o.number)
    ∷ over_limit ((limit.SharingRules, length t.sharing_rules + 1) ∷ (limit.RuleNumbers, t.rule_numbers + 1) ∷ [])
    ∷ []

-- a new rule has the next number, and acts from now on
abbrev pub new_rule : Tenant → ℕ → NewSharingRule → SharingRule
new_rule t n b =
    record {
      name = b.name;
      number = t.rule_numbers + 1;
      object = n;
      source = source_of b.source;
      to = principal_of b.to;
      level = b.level;
      state = state.Whole;
      cursor = None;
    }

-- one more sharing rule
abbrev pub with_rule : SharingRule → Tenant → Tenant
with_rule r t = record t { sharing_rules = put_in (λ a b. name_cmp a.name b.name) r t.sharing_rules; rule_numbers = t.rule_numbers + 1 }

-- a new sharing rule
abbrev pub add_sharing_rule : Tenant → NewSharingRule → Verdict
add_sharing_rule t b =
    on_object t b.object (λ o. judged t (new_sharing_rule_rules t o b) (accept done (with_rule (new_rule t o.number b) t)))

-- a rule that is removed is gone; NOT_FOUND where there is none with this name
abbrev pub remove_sharing_rule : Tenant → (name : List ℕ) → Verdict
remove_sharing_rule t name =
    judged t (refuse_if (not (list_any (λ r. same_name r.name name) t.sharing_rules)) NotFound ∷ [])
    (accept done (record t { sharing_rules = filter (λ r. not (same_name r.name name)) t.sharing_rules }))
