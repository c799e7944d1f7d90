-- What sharing rules give on a record, by what is known of those that reach the user, where the role hierarchy counts or doesn't.
use Rattle.std.proofs.Common.{◌≡◌, ◌∙◌, ℕ, Bool, true, false, ◌&&◌, ◌==◌, cond, List, [], ◌∷◌, map, filter, Option, Some, None, refl, sym, ap}
use Rattle.std.specs.Prelude.{Result, Ok, Err, filter_map}
use Rattle.std.specs.List.{cons_option}
use Rattle.base_value.specs.declared.sharing.Level.{Level}
use Rattle.base_value.specs.declared.sharing.Level.TheVariants.{Nothing}
use Rattle.formula.specs.declared.formula.Formula.{Formula}
use Rattle.formula.specs.Meaning.{holds}
use Rattle.model.specs.declared.record.Record.{Record}
use Rattle.model.specs.Cases.{in_case}
use Rattle.model.specs.FormulaTexts.{reads_text}
use Rattle.model.specs.Levels.{Grant, acts, by_grant, covered_by, covers, greatest, meets_text, read_holds}
use Rattle.model.specs.Membership.{is_member, reaches_on}
use Rattle.model.specs.Objects.{object_number, object_of_record, owner_of}
use Rattle.model.specs.Tenant.{Object, SharingRule, Source, owned, meets, Tenant, User}
use Rattle.store_abstraction.specs.Metadata.{source_part}
use Rattle.access_user.specs.declared.level.knowing.Criterion.{Criterion}
use Rattle.access_user.specs.declared.level.knowing.OwnerRule.{OwnerRule}
use Rattle.access_user.specs.level.Own.{spelled_criterion, criterion_by, criterion_read, greater, owner_by, owner_rule}
use Rattle.access_user.specs.level.inner.Parts.{by_criterion, by_owner_rule, rules_on_owner}
use Rattle.access_user.proofs.Greatest.{in_turn, none_left, swapped}

module _ (hierarchy : Bool) (t : Tenant) (u : User) (r : Record) (o : Object) (at : object_of_record t r ≡ Some o) where
  abbrev n : ℕ
  n = object_number r.id

  abbrev grant_of : SharingRule → Grant
  grant_of rule = record { to = rule.to; level = rule.level }

  -- by all rules, by owner rules where this is the owner, and by criteria rules
  abbrev pub by_all : List SharingRule → Level
  by_all rules = greatest (map (by_grant hierarchy t u) (map grant_of (filter (covers t r) rules)))

  abbrev by_owners : Option User → List OwnerRule → Level
  by_owners w os = in_case w Nothing (λ x. greatest (map (by_owner_rule t x) os))

  abbrev by_criteria : List Criterion → Level
  by_criteria cs = greatest (map (by_criterion r.values) cs)

  more_all : (rule : SharingRule) (rules : List SharingRule) → by_all (rule ∷ rules) ≡ cond (covers t r rule) (greater (by_grant hierarchy t u (grant_of rule)) (by_all rules)) (by_all rules)
  more_all rule rules = by (covers t r rule)
    where
      by : (b : Bool) → greatest (map (by_grant hierarchy t u) (map grant_of (cond b (rule ∷ filter (covers t r) rules) (filter (covers t r) rules)))) ≡ cond b (greater (by_grant hierarchy t u (grant_of rule)) (by_all rules)) (by_all rules)
      by true = refl
      by false = refl

  -- a rule covers the record by its owner, or by its values
  abbrev covered : Option User → Source → Bool
  covered w (owned p) = in_case w false (λ x. is_member t x p)
  covered w (meets text) = meets_text text r o

  covered_is : (source : Source) → covered_by t r source ≡ covered (owner_of t r) source
  covered_is (owned p) = refl
  covered_is (meets text) = ap (λ (x : Option Object). in_case x false (meets_text text r)) at

  -- what doesn't reach the user gives nothing
  idle : (k : Bool) (a b : Level) → a ≡ b → cond k (greater Nothing a) a ≡ b
  idle true a b e = none_left a ∙ e
  idle false a b e = e

  one_owner : (k : Bool) (l a b c : Level) → a ≡ greater b c → cond k (greater l a) a ≡ greater (greater (cond k l Nothing) b) c
  one_owner true l a b c e = ap (greater l) e ∙ sym (in_turn l b c)
  one_owner false l a b c e = e ∙ ap (λ (x : Level). greater x c) (sym (none_left b))

  one_read : (w : Option User) (l a : Level) (os : List OwnerRule) (cs : List Criterion) → a ≡ greater (by_owners w os) (by_criteria cs) → (read : Result Formula ℕ)
      → cond (read_holds read r.values None) (greater l a) a ≡ greater (by_owners w os) (by_criteria (cons_option (criterion_read l read) cs))
  one_read w l a os cs e (Err place) = e
  one_read w l a os cs e (Ok f) = by (holds f r.values None)
    where
      by : (h : Bool) → cond h (greater l a) a ≡ greater (by_owners w os) (greater (cond h l Nothing) (by_criteria cs))
      by true = ap (greater l) e ∙ swapped l (by_owners w os) (by_criteria cs)
      by false = e ∙ ap (greater (by_owners w os)) (sym (none_left (by_criteria cs)))

  -- what one rule adds
  one_rule : (w : Option User) (act its reach : Bool) (l : Level) (source : Source) (a : Level) (os : List OwnerRule) (cs : List Criterion) → a ≡ greater (by_owners w os) (by_criteria cs)
      → cond (act && (its && covered w source)) (greater (cond reach l Nothing) a) a
      ≡ greater (by_owners w (cons_option (cond (act && (its && reach)) (owner_rule l (source_part source)) None) os)) (by_criteria (cons_option (cond (act && (its && reach)) (spelled_criterion o l (source_part source)) None) cs))
  one_rule w false its reach l source a os cs e = e
  one_rule w true false reach l source a os cs e = e
  one_rule w true true false l source a os cs e = idle (covered w source) a (greater (by_owners w os) (by_criteria cs)) e
  one_rule None true true true l (owned p) a os cs e = e
  one_rule (Some x) true true true l (owned p) a os cs e = one_owner (is_member t x p) l a (by_owners (Some x) os) (by_criteria cs) e
  one_rule w true true true l (meets text) a os cs e = one_read w l a os cs e (reads_text o true text)

  pub rules_are : (rules : List SharingRule) → by_all rules ≡ greater (rules_on_owner t r (filter_map (owner_by hierarchy t u n) rules)) (by_criteria (filter_map (criterion_by hierarchy t u n o) rules))
  rules_are [] = none (owner_of t r)
    where
      none : (w : Option User) → Nothing ≡ greater (by_owners w []) Nothing
      none None = refl
      none (Some x) = refl
  rules_are (rule ∷ rules) =
      more_all rule rules
      ∙ ap (λ (k : Bool). cond (acts rule.state && ((rule.object == n) && k)) (greater (by_grant hierarchy t u (grant_of rule)) (by_all rules)) (by_all rules)) (covered_is rule.source)
      ∙ one_rule (owner_of t r) (acts rule.state) (rule.object == n) (reaches_on hierarchy t rule.to u) rule.level rule.source (by_all rules) (filter_map (owner_by hierarchy t u n) rules) (filter_map (criterion_by hierarchy t u n o) rules) (rules_are rules)
