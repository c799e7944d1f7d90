-- A create is accepted where none of its rules refuses it, and refused by the first that does.
use Rattle.std.proofs.Common.{◌≡◌, ◌∙◌, ℕ, ◌+◌, true, List, [], ◌∷◌, ◌++◌, Option, Some, None, refl, sym, ap, subst}
use Rattle.std.specs.Prelude.{Result, Err, length}
use Rattle.store_rows.specs.declared.object.ObjectRow.{ObjectRow}
use Rattle.store_rows.specs.declared.org.OrgRow.{OrgRow}
use Rattle.model.specs.Cases.{in_case}
use Rattle.model.specs.Creates.{create_on, create_rules, empty_record, master_denied, with_record}
use Rattle.model.specs.declared.limit.Limit.TheVariants as limit
use Rattle.model.specs.declared.record.Record.{Record}
use Rattle.model.specs.declared.record_bodies.Assignment.{Assignment}
use Rattle.model.specs.declared.refusal.Refusal.{Refusal}
use Rattle.model.specs.Edits.{bad_target, duplicate, validation_failed}
use Rattle.model.specs.Keys.{Key, with_key}
use Rattle.model.specs.Objects.{Numbered, records_of}
use Rattle.model.specs.Paths.{Asked}
use Rattle.model.specs.Rules.{Rule, first_refusal, over_limit}
use Rattle.model.specs.Tenant.{Object, Tenant}
use Rattle.model.specs.Verdict.{accept, made_new, upserted}
use Rattle.schema_rules.specs.Failing.{rule_failed}
use Rattle.schema_rules.specs.Objects.{numbered_in, object_of_layout}
use Rattle.store_abstraction.specs.declared.fail.EditFail.{EditFail}
use Rattle.store_abstraction.specs.declared.layout.Layout.{Layout}
use Rattle.store_abstraction.specs.Layouts.{IsLayout, layout_of}
use Rattle.store_abstraction.specs.Metadata.{org_of}
use Rattle.store_abstraction.specs.Plan.{OrgPlan}
use Rattle.record_save.specs.Creating.{IsObject, new_record}
use Rattle.record_save.specs.declared.object.Counts.{Counts}
use Rattle.record_save.specs.inner.Judged.{admit_rules, limit_rule, others_rules}
use Rattle.record_save.specs.inner.Giving.{Alters, given_rules}
use Rattle.record_save.specs.inner.Levels.{below_master}
use Rattle.record_save.proofs.FirstRules.{first_stays, first_then, refused_by, same_unless}
use Rattle.record_save.proofs.GivenRules.{alters_there}
use Rattle.record_save.proofs.Masters.{master_same, none_given}
use Rattle.record_save.specs.inner.Object.{CountsOf}
use Rattle.record_target.proofs.Objects.{IsOn, Named}
use Rattle.record_target.proofs.Spelled.{its_layout, plain, spelled}

-- ---- the object

-- the layout is its layout
pub object_layout : (org : ℕ) (q : OrgPlan) (t : Tenant) (o : Numbered) (l : Layout) → IsObject org q t o l → IsLayout q t l
object_layout org q t o l at = subst (IsLayout q t) (sym at.layout) (its_layout org q t o at.there)

-- the one that a layout was found by
pub object_at : Named → (org : ℕ) (q : OrgPlan) (t : Tenant) (name : List ℕ) (l : Layout) → l.org ≡ org → (on : IsOn org q t name l) → IsObject l.org q t on.0 l
object_at named org q t name l own on = record {
  there = named t name on.0 on.1;
  layout = subst (λ (n : ℕ). l ≡ layout_of n q t on.0) (sym own) on.2;
}

-- ---- the rules of a create

-- those on what is given, over the object that a layout spells
pub proposed_of : (org : ℕ) (q : OrgPlan) (a : Asked) (o : Numbered) (l : Layout) (key : Option Key) (given : List Assignment) (r : Result Record EditFail) → l ≡ layout_of org q a.tenant o
    → Alters a (object_of_layout l) key given (empty_record a (numbered_in l)) r → Alters a o.object key given (empty_record a o) r
proposed_of org q a o l key given r is h =
    let same : empty_record a (numbered_in l) ≡ empty_record a o = ap (λ (p : Numbered). empty_record a p) (ap numbered_in is ∙ spelled org q a.tenant o) in
    alters_there org q a o l key given (empty_record a o) r is (subst (λ (old : Record). Alters a (object_of_layout l) key given old r) same h)

-- those behind them, by the one on the master
abbrev behind_by : Asked → Numbered → (master : Rule) → (new : Record) → List Rule
behind_by a o master new =
    bad_target a o (empty_record a o) new ∷ master ∷ validation_failed a o.object new None ∷ duplicate a o new
    ∷ over_limit ((limit.RecordsPerObject, length (records_of a.tenant o.number) + 1) ∷ (limit.Records, length a.tenant.records + 1) ∷ (limit.Ids, a.tenant.counter + 1) ∷ []) ∷ []

abbrev pub behind : Asked → Numbered → (new : Record) → List Rule
behind a o new = behind_by a o (master_denied a o new) new

abbrev all_behind : Asked → Numbered → Numbered → (master : Rule) → (new : Record) → Rule → List Rule
all_behind a o p master new own =
    bad_target a p (empty_record a p) new ∷ master ∷ own ∷ duplicate a p new
    ∷ over_limit ((limit.RecordsPerObject, length (records_of a.tenant o.number) + 1) ∷ (limit.Records, length a.tenant.records + 1) ∷ (limit.Ids, a.tenant.counter + 1) ∷ []) ∷ []

behind_plain : (a : Asked) (o : Numbered) (master : Rule) (new : Record) → all_behind a o (plain o) master new (validation_failed a o.object new None) ≡ behind_by a o master new
behind_plain a o master new = refl

module _ (org : ℕ) (q : OrgPlan) (a : Asked) (o : Numbered) (l : Layout) (x : Counts) (new : Record) (at : IsObject org q a.tenant o l) (are : CountsOf org a.tenant o x) where
  abbrev asked : Rule
  asked = below_master (layout_of org q a.tenant o) new a.tenant a.user

  admit_by : admit_rules a l x new ≡ behind_by a o asked new
  admit_by =
      ap (λ (l : Layout). others_rules l (empty_record a (numbered_in l)) new a ++ limit_rule x.row x.object ∷ []) at.layout
      ∙ (ap (λ (p : Numbered). others_with p (limit_rule x.row x.object)) (spelled org q a.tenant o)
      ∙ (ap (λ (row : OrgRow). others_with (plain o) (limit_rule row x.object)) are.row
      ∙ (ap (λ (row : ObjectRow). others_with (plain o) (limit_rule (org_of org a.tenant) row)) are.object
      ∙ (ap (λ (found : Option Object). all_behind a o (plain o) asked new (in_case found None (λ v. validation_failed a v new None))) at.there
      ∙ behind_plain a o asked new))))
    where
      others_with : Numbered → Rule → List Rule
      others_with p last = bad_target a p (empty_record a p) new ∷ asked ∷ rule_failed a o.number new None a.tenant ∷ duplicate a p new ∷ last ∷ []

  pub admit_behind : first_refusal (admit_rules a l x new) ≡ first_refusal (behind a o new)
  admit_behind =
      ap first_refusal admit_by
      ∙ same_unless (bad_target a o (empty_record a o) new) asked (master_denied a o new) _ (λ free. master_same a (empty_record a o) new (none_given a o) org q o at.there free)

module _ (a : Asked) (o : Numbered) (key : Option Key) (given : List Assignment) (new : Record) where
  pub free_of : None ≡ first_refusal (given_rules a.tenant o.object key given new) → None ≡ first_refusal (behind a o new) → None ≡ first_refusal (create_rules a o key given new)
  free_of first then = then ∙ sym (first_then (given_rules a.tenant o.object key given new) (behind a o new) first)

  pub given_refused : (r : Refusal) → Some r ≡ first_refusal (given_rules a.tenant o.object key given new) → Some r ≡ first_refusal (create_rules a o key given new)
  given_refused r e = first_stays r (given_rules a.tenant o.object key given new) (behind a o new) e

  pub behind_refused : (r : Refusal) → None ≡ first_refusal (given_rules a.tenant o.object key given new) → Some r ≡ first_refusal (behind a o new) → Some r ≡ first_refusal (create_rules a o key given new)
  behind_refused r first e = e ∙ sym (first_then (given_rules a.tenant o.object key given new) (behind a o new) first)

-- ---- the verdict

pub refused_so : (a : Asked) (o : Numbered) (key : Option Key) (given : List Assignment) (r : Refusal) → Some r ≡ first_refusal (create_rules a o key given (new_record a o (with_key key given)))
    → (create_on a o key given).answer ≡ Err r
refused_so a o key given r e =
    let new : Record = new_record a o (with_key key given) in
    refused_by r (first_refusal (create_rules a o key given new)) a.tenant (accept (in_case key (made_new new.id) (λ k. upserted new.id true)) (with_record new a.tenant)) e
