-- The rules on a new sharing rule, by what is read of its object and of the organisation, and the rows that it changes. No public
-- contract reaches these words.
-- Source: Salesforce, "Sharing Rules". The order of the rules is this product's own.
use Rattle.std.specs.Prelude.{◌≡◌, ◌&&◌, ◌<◌, ℕ, ◌+◌, suc, IsTrue, List, [], ◌∷◌, map, codes, Option, None, Some, is_some, Result, Ok, Err}
use Rattle.std.specs.Str.{IsUtf8}
use Rattle.store_edit.specs.Edits.{FailsBy}
use Rattle.store_edit.specs.Rows.{change_to}
use Rattle.formula.specs.declared.formula.Formula.{Formula}
use Rattle.store_rows.specs.declared.org.OrgRow.{OrgRow}
use Rattle.store_rows.specs.Forms.{FitsForm}
use Rattle.store_rows.specs.Rows.{org_form, sharing_form}
use Rattle.model.specs.declared.limit.Limit.TheVariants as limit
use Rattle.model.specs.declared.refusal.Refusal.TheVariants.{InvalidType, JobBusy}
use Rattle.model.specs.declared.people_bodies.Spelled.{Spelled}
use Rattle.model.specs.declared.sharing_bodies.NewSharingRule.{NewSharingRule}
use Rattle.model.specs.declared.sharing_bodies.SpelledSource.{SpelledSource}
use Rattle.model.specs.declared.sharing_bodies.SpelledSource.TheVariants.{Owner, Criteria}
use Rattle.model.specs.Cases.{in_case}
use Rattle.model.specs.Fields.{is_detail}
use Rattle.model.specs.Limits.{limit_number}
use Rattle.model.specs.Names.{bad_name, is_stem, taken}
use Rattle.model.specs.Objects.{Numbered, object_named}
use Rattle.model.specs.Principals.{bad_id, not_there, principal_of}
use Rattle.model.specs.RuleFormulas.{is_copy, malformed, names_field}
use Rattle.model.specs.Rules.{MemberRules, Rule, first_refusal, in_body_order, over_limit, refuse_if}
use Rattle.model.specs.SharingRules.{add_sharing_rule, new_sharing_rule_rules, source_formula, source_of, source_owner}
use Rattle.model.specs.SoundSharing.{is_grant}
use Rattle.model.specs.Tenant.{SharingRule, Tenant}
use Rattle.store_codec.specs.Plain.{FitsText}
use Rattle.schema_rules.specs.Objects.{object_of_layout}
use Rattle.store_abstraction.specs.Changes.{Change}
use Rattle.store_abstraction.specs.declared.fail.EditFail.{EditFail}
use Rattle.store_abstraction.specs.declared.layout.JobPlace.{JobPlace}
use Rattle.store_abstraction.specs.declared.layout.Layout.{Layout}
use Rattle.store_abstraction.specs.Metadata.{lower_bytes, org_of, sharing_of}
use Rattle.access_rules.specs.declared.adding.NewRows.{NewRows}
use Rattle.base_value.specs.declared.job.RuleState.TheVariants as state
use Rattle.base_value.specs.Id.{id_in}

-- ---- the rules

-- INVALID_TYPE: the object is a detail
abbrev pub detail_rule : Layout → Rule
detail_rule l = refuse_if (is_detail (object_of_layout l)) (InvalidType l.name)

-- DUPLICATE_DEVELOPER_NAME
abbrev pub taken_rule : Tenant → (name : List ℕ) → Rule
taken_rule t name = taken (map (λ r. r.name) t.sharing_rules) name

-- MALFORMED_ID, under the members that spell principals
abbrev pub id_rules : NewSharingRule → MemberRules
id_rules b = (codes "to", bad_id b.to.text) ∷ (codes "from", in_case (source_owner b.source) None (λ p. bad_id p.text)) ∷ []

-- INVALID_CROSS_REFERENCE_KEY, under the same
abbrev pub there_rules : Tenant → NewSharingRule → MemberRules
there_rules t b =
    (codes "to", not_there t (codes "to") (principal_of b.to))
    ∷ (codes "from", in_case (source_owner b.source) None (λ p. not_there t (codes "from") (principal_of p)))
    ∷ []

-- JOB_BUSY: a formula names the field of a change of its object that copies
abbrev pub busy_by : Option JobPlace → Result Formula ℕ → Rule
busy_by job formula = in_case job None (λ j. refuse_if (is_copy j.phase && names_field (suc j.field) formula) JobBusy)

-- MALFORMED_FORMULA, or JOB_BUSY
abbrev pub formula_rule : Layout → SpelledSource → Rule
formula_rule l source =
    first_refusal
    (in_case (source_formula (object_of_layout l) source) None malformed
    ∷ in_case (source_formula (object_of_layout l) source) None (busy_by l.job)
    ∷ [])

-- LIMIT_EXCEEDED: one rule more, or one number more
abbrev pub room_rule : OrgRow → Rule
room_rule row = over_limit ((limit.SharingRules, row.sharing_rules + 1) ∷ (limit.RuleNumbers, row.rule_numbers + 1) ∷ [])

-- all of them, by the layout of the object and the organisation's row
abbrev pub rules_by : Layout → OrgRow → Tenant → NewSharingRule → List Rule
rules_by l row t b =
    detail_rule l
    ∷ bad_name is_stem b.name
    ∷ taken_rule t b.name
    ∷ in_body_order b.members (id_rules b)
    ∷ in_body_order b.members (there_rules t b)
    ∷ formula_rule l b.source
    ∷ room_rule row
    ∷ []

-- there is room for one rule more
pub record HasRoom (row : OrgRow) : Type 0 where
  pub rules : row.sharing_rules < limit_number limit.SharingRules
  pub numbers : row.rule_numbers < limit_number limit.RuleNumbers

-- ---- what a row can have

abbrev pub IsSpelledPrincipal : Spelled → Type 0
IsSpelledPrincipal p = IsTrue (is_some (id_in p.text))

abbrev pub IsSpelledSource : SpelledSource → Type 0
IsSpelledSource (Owner p) = IsSpelledPrincipal p
IsSpelledSource (Criteria text) = FitsText text

pub record IsSpelledRule (b : NewSharingRule) : Type 0 where
  pub name : FitsText b.name
  pub source : IsSpelledSource b.source
  pub to : IsSpelledPrincipal b.to
  pub level : IsTrue (is_grant b.level)

-- ---- the rows

-- the rule, by the organisation's row and its object's number
abbrev pub rule_by : OrgRow → (object : ℕ) → NewSharingRule → SharingRule
rule_by row n b =
    record {
      name = b.name;
      number = row.rule_numbers + 1;
      object = n;
      source = source_of b.source;
      to = principal_of b.to;
      level = b.level;
      state = state.Whole;
      cursor = None;
    }

-- the organisation's row with one rule more and one number more, and that of the rule
abbrev pub rows_by : OrgRow → (object : ℕ) → NewSharingRule → NewRows
rows_by row n b =
    record {
      row = record row { sharing_rules = row.sharing_rules + 1; rule_numbers = row.rule_numbers + 1 };
      rule = sharing_of row.org (rule_by row n b);
    }

-- they have spellings
pub record FitNewRows (title : List ℕ) (r : NewRows) : Type 0 where
  pub row : FitsForm org_form r.row
  pub rule : FitsForm sharing_form r.rule
  pub utf8 : IsUtf8 (lower_bytes title)

abbrev pub changes_of : NewRows → List Change
changes_of r = change_to org_form r.row ∷ change_to sharing_form r.rule ∷ []

-- the rows of a rule that isn't refused; or why there are none
abbrev pub AddsTo : (org : ℕ) → Tenant → NewSharingRule → Result NewRows EditFail → Type 0
AddsTo org t b (Ok rows) =
    (o : Numbered) × (object_named t b.object ≡ Some o) × (first_refusal (new_sharing_rule_rules t o b) ≡ None) × (rows ≡ rows_by (org_of org t) o.number b)
AddsTo org t b (Err e) = FailsBy (add_sharing_rule t b) e
