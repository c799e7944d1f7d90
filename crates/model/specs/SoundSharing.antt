-- Sound sharing rules and manual shares: what holds of them at every moment.
-- Source: Salesforce, "Record-Level Security": rules and shares give Read or Edit, and a detail has none of its own. The limits
-- are this product's own. That the texts of criteria rules spell formulas is SoundFormulas'.
use Rattle.std.specs.Prelude.{◌≡◌, ℕ, ◌≤◌, Bool, true, false, not, ◌&&◌, nat_le, List, length, map, Option, slice_get, T, IsTrue, IfSome}
use Rattle.std.specs.List.{AllByRecursion}
use Rattle.std.specs.FinMap.{is_sorted}
use Rattle.base_value.specs.declared.job.RuleState.{RuleState}
use Rattle.base_value.specs.declared.job.RuleState.TheVariants as state
use Rattle.base_value.specs.declared.sharing.Level.{Level}
use Rattle.base_value.specs.declared.sharing.Level.TheVariants as level
use Rattle.model.specs.declared.limit.Limit.TheVariants as limit
use Rattle.model.specs.Cases.{in_case}
use Rattle.model.specs.Fields.{is_detail}
use Rattle.model.specs.Known.{IsDrawn, Known, knows}
use Rattle.model.specs.Limits.{limit_number}
use Rattle.model.specs.Membership.{Has}
use Rattle.model.specs.Names.{is_stem}
use Rattle.model.specs.Objects.{object_number, record_prefix}
use Rattle.model.specs.RuleFormulas.{is_rule_text, name_cmp}
use Rattle.model.specs.Shares.{share_cmp, shares_of}
use Rattle.model.specs.Tenant.{Object, Share, SharingRule, Source, owned, meets}

-- there is an object with this number, and it is no detail
abbrev pub shareable : List Object → ℕ → Bool
shareable os n = in_case (slice_get os n) false (λ o. not (is_detail o))

-- rules and shares give Read or Edit
abbrev pub is_grant : Level → Bool
is_grant level.Read = true
is_grant level.Edit = true
is_grant _ = false

-- the rule is whole
abbrev pub is_whole : RuleState → Bool
is_whole state.Whole = true
is_whole _ = false

-- the principal of an owner rule is there, and the rule whole; a formula's text is one of a rule
abbrev pub is_sound_source : Known → RuleState → Source → Bool
is_sound_source k s (owned p) = knows k p && is_whole s
is_sound_source k s (meets text) = is_rule_text text

-- a cursor is an id of the object, made of a number below the counter
abbrev pub IsCursor : ℕ → ℕ → Option (List ℕ) → Type 0
IsCursor counter n cursor = IfSome cursor (IsDrawn (record_prefix n) counter)

-- a sharing rule, where so many numbers of rules were drawn
pub record IsSoundRule (k : Known) (os : List Object) (drawn : ℕ) (r : SharingRule) : Type 0 where
  pub name : IsTrue (is_stem r.name)
  pub object : IsTrue (shareable os r.object)
  pub number : IsTrue (nat_le 1 r.number && nat_le r.number drawn)
  pub source : IsTrue (is_sound_source k r.state r.source)
  pub to : IsTrue (knows k r.to)
  pub level : IsTrue (is_grant r.level)
  pub cursor : IsCursor k.counter r.object r.cursor

-- a manual share
pub record IsSoundShare (k : Known) (os : List Object) (s : Share) : Type 0 where
  pub item : IsTrue (k.item s.item)
  pub object : IsTrue (shareable os (object_number s.item))
  pub to : IsTrue (knows k s.to)
  pub level : IsTrue (is_grant s.level)

-- rules that have one number are one rule
abbrev pub NumbersOnce : List SharingRule → Type 0
NumbersOnce rules = (r s : SharingRule) → Has rules r → Has rules s → r.number ≡ s.number → r ≡ s

-- rules in the order of their lower-case names, numbered by numbers that were drawn
pub record HasSoundRules (k : Known) (os : List Object) (drawn : ℕ) (rules : List SharingRule) : Type 0 where
  pub each : AllByRecursion (IsSoundRule k os drawn) rules
  pub rise : T (is_sorted name_cmp (map (λ r. (r.name, r)) rules))
  pub numbers : NumbersOnce rules
  pub few : length rules ≤ limit_number limit.SharingRules
  pub few_drawn : drawn ≤ limit_number limit.RuleNumbers

-- shares in the order of record and principal
pub record HasSoundShares (k : Known) (os : List Object) (shares : List Share) : Type 0 where
  pub each : AllByRecursion (IsSoundShare k os) shares
  pub rise : T (is_sorted share_cmp (map (λ s. (s, s)) shares))
  pub few : (id : List ℕ) → length (shares_of id shares) ≤ limit_number limit.SharesPerRecord
