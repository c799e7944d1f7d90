-- What an edit of an object's validation rules reads is of the object, and tells whether one of its rules has the name.
use Rattle.std.proofs.Common.{◌≡◌, ◌∙◌, ℕ, Bool, List, map, Option, Some, None, refl, sym, ap, subst}
use Rattle.std.specs.Prelude.{Err, IsErrAnd, Ok, Result, is_some, length}
use Rattle.std.specs.List.{list_any}
use Rattle.std.specs.Option.{option_and_then, option_map}
use Rattle.std.specs.Str.{IsUtf8}
use Rattle.std.proofs.lemmas.Option.{same_Some as some_is}
use Rattle.store_edit.proofs.Reading.{SameTables, TellsFirst, TellsThen, TwoReads, two_reads}
use Rattle.store_edit.specs.Edits.{FailsBy}
use Rattle.store_edit.specs.Naming.{NamesLayout}
use Rattle.store_kv.specs.Draft.{DraftTells, Held}
use Rattle.store_kv.specs.State.{KeeperState}
use Rattle.store_kv.specs.Tables.{Tables}
use Rattle.store_rows.specs.declared.fail.StoreFail.{StoreFail}
use Rattle.store_rows.specs.declared.object.ObjectRow.{ObjectRow}
use Rattle.store_rows.specs.declared.validation.ValidationRow.{ValidationRow}
use Rattle.model.specs.declared.refusal.Refusal.TheVariants.{InvalidType}
use Rattle.model.specs.Cases.{in_case}
use Rattle.model.specs.Fields.{same_name}
use Rattle.model.specs.Objects.{Numbered, object_named, object_numbered}
use Rattle.model.specs.Tenant.{Object, Tenant, ValidationRule}
use Rattle.model.specs.Verdict.{Verdict, on_object, refuse}
use Rattle.store_abstraction.specs.Calls.{Calls, Ending, ended_by, ended_edit}
use Rattle.store_abstraction.specs.declared.fail.EditFail.{EditFail}
use Rattle.store_abstraction.specs.declared.fail.EditFail.TheVariants.{Refused, Store}
use Rattle.store_abstraction.specs.declared.layout.Layout.{Layout}
use Rattle.store_abstraction.specs.Fails.{of_store}
use Rattle.store_abstraction.specs.Layouts.{layout_of, own_rule_row}
use Rattle.store_abstraction.specs.Local.{FindsIn, StandsIn}
use Rattle.store_abstraction.specs.Metadata.{lower_bytes, named_so, validation_of}
use Rattle.store_abstraction.specs.Plan.{OrgPlan}
use Rattle.schema_edit.specs.inner.Rows.{HasRow}
use Rattle.schema_edit.specs.inner.RuleReads.{AcceptsRow, IsRead, IsRuled, ReadsFor}
use Rattle.schema_edit.specs.declared.edits.reading.ReadObject.{ReadObject}
use Rattle.schema_edit.proofs.Editing.{named_at}
use Rattle.schema_edit.proofs.NamedThings.{is_found}

-- ---- three calls in turn

module _ {K : Type 0} (state : K → KeeperState) where
  -- what the draft tells over all three it tells over each, and the first two leave the tables
  pub record ThreeReads (a b c d : Held K) : Type 0 where
    pub before : TwoReads state a b c
    pub behind : TwoReads state b c d

  pub three_reads : TellsFirst state → TellsThen state → SameTables state → {e f g : Ending} (a b c d : Held K) → Calls state 0 e a b → Calls state 0 f b c → Calls state 0 g c d → DraftTells state a d → ThreeReads a b c d
  three_reads tells_first tells_then same {e} {f} {g} a b c d one two three told =
      let before = two_reads state tells_first tells_then same a b c one two (tells_first 0 g a c d three told) in
      record { before = before; behind = two_reads state tells_first tells_then same b c d two three (tells_then 0 e a b d one before.first told) }

-- a failed read of the third is handed on
module _ {K : Type 0} (state : K → KeeperState) (a b : Held K) where
  pub passed_calls : {X : Type 0} (r : Result X EditFail) (e : StoreFail) → IsErrAnd r (λ y. y ≡ of_store e) → Calls state 0 (ended_by e) a b → Calls state 0 (ended_edit r) a b
  passed_calls (Ok x) e passed h = absurd passed
  passed_calls {X = X} (Err y) e passed h = subst (λ (z : EditFail). Calls state 0 (ended_edit {X = X} (Err z)) a b) (sym passed) h

-- ---- what was read

pub layout_is : (org : ℕ) (q : OrgPlan) (t : Tenant) (name : List ℕ) (r : Result Layout EditFail) (l : Layout) → NamesLayout org q t name r → r ≡ Ok l → (o : Numbered) × (object_named t name ≡ Some o) × (l ≡ layout_of org q t o)
layout_is org q t name r l h was = subst (NamesLayout org q t name) was h

-- no object has the name, or its layout couldn't be read
pub unnamed : (org : ℕ) (q : OrgPlan) (t : Tenant) (object : List ℕ) (r : Result Layout EditFail) (e : EditFail) → NamesLayout org q t object r → r ≡ Err e → (verdict : Numbered → Verdict) → FailsBy (on_object t object verdict) e
unnamed org q t object r e h was verdict = by e (subst (NamesLayout org q t object) was h)
  where
    by : (e : EditFail) → NamesLayout org q t object (Err e) → FailsBy (on_object t object verdict) e
    by (Refused x) h = ap (λ (o : Option Numbered). (in_case o (refuse t (InvalidType object)) verdict).answer) h.0 ∙ ap Err (sym h.1)
    by (Store e) h = h

pub unread : (org : ℕ) (t : Tenant) (object name : List ℕ) (e : EditFail) (r : Result ReadObject EditFail) → IsErrAnd r (λ y. y ≡ e) → ((verdict : Numbered → Verdict) → FailsBy (on_object t object verdict) e) → ReadsFor org t object name r
unread org t object name e (Ok x) passed h = absurd passed
unread org t object name e (Err y) passed h = λ verdict. subst (FailsBy (on_object t object verdict)) (sym passed) (h verdict)

pub passed_on : (org : ℕ) (t : Tenant) (object : List ℕ) (v : Verdict) (e : EditFail) (r : Result ObjectRow EditFail) → IsErrAnd r (λ y. y ≡ e) → FailsBy v e → AcceptsRow org t object v r
passed_on org t object v e (Ok row) passed h = absurd passed
passed_on org t object v e (Err y) passed h = subst (FailsBy v) (sym passed) h

-- what the call found that reads, and why it found nothing
pub read_so : (org : ℕ) (t : Tenant) (object name : List ℕ) (r : Result ReadObject EditFail) (read : ReadObject) → ReadsFor org t object name r → r ≡ Ok read → IsRead org t object name read
read_so org t object name r read h was = subst (ReadsFor org t object name) was h

pub read_fails : (org : ℕ) (t : Tenant) (object name : List ℕ) (r : Result ReadObject EditFail) (e : EditFail) → ReadsFor org t object name r → r ≡ Err e → (verdict : Numbered → Verdict) → FailsBy (on_object t object verdict) e
read_fails org t object name r e h was = subst (ReadsFor org t object name) was h

-- whether a rule has the name
pub found_so : (org : ℕ) (q : OrgPlan) (t : Tenant) (name : List ℕ) (n : ℕ) (o : Numbered) (m : Tables) (lower : List ℕ) (r : Result (Option ValidationRow) StoreFail) (row : Option ValidationRow)
    → n ≡ o.number → object_numbered t o.number ≡ Some o.object → lower ≡ lower_bytes name → IsUtf8 lower → FindsIn org (own_rule_row org n lower) m r → r ≡ Ok row → StandsIn org q m (Some t)
    → is_some row ≡ list_any (same_name name) (map (λ (r : ValidationRule). r.name) o.object.validation_rules)
found_so org q t name n o m lower r row number there is utf8 h was s =
    let own : row ≡ own_rule_row org n lower q (Some t) = subst (FindsIn org (own_rule_row org n lower) m) was h q (Some t) s in
    let its : own_rule_row org n lower q (Some t) ≡ option_map (validation_of org o.number) (named_so (λ (r : ValidationRule). r.name) o.object.validation_rules (lower_bytes name)) =
    ap (λ (i : ℕ). own_rule_row org i lower q (Some t)) number
    ∙ ap (λ (x : Option Object). option_map (validation_of org o.number) (option_and_then (λ o. named_so (λ (r : ValidationRule). r.name) o.validation_rules lower) x)) there
    ∙ ap (λ (key : List ℕ). option_map (validation_of org o.number) (named_so (λ (r : ValidationRule). r.name) o.object.validation_rules key)) is in
    ap is_some (own ∙ its) ∙ mapped (named_so (λ (r : ValidationRule). r.name) o.object.validation_rules (lower_bytes name)) ∙ is_found (λ (r : ValidationRule). r.name) name (subst IsUtf8 is utf8) o.object.validation_rules
  where
    mapped : (x : Option ValidationRule) → is_some (option_map (validation_of org o.number) x) ≡ is_some x
    mapped None = refl
    mapped (Some x) = refl

-- what a rule is judged by is of the object
pub ruled_so : (org : ℕ) (q : OrgPlan) (t : Tenant) (object name : List ℕ) (o : Numbered) (l : Layout) (m : Tables) (lower : List ℕ) (r : Result (Option ValidationRow) StoreFail) (found : Option ValidationRow) (has_rule : Bool) (row : ObjectRow)
    → object_named t object ≡ Some o → l ≡ layout_of org q t o → lower ≡ lower_bytes name → IsUtf8 lower → FindsIn org (own_rule_row org l.object lower) m r → r ≡ Ok found → has_rule ≡ is_some found → HasRow org t object row
    → StandsIn org q m (Some t) → IsRuled t o l has_rule row.validation_rules name
ruled_so org q t object name o l m lower r found has_rule row there is spelled utf8 h was told has s = record {
  layout = (org, q, is);
  named = told ∙ found_so org q t name l.object o m lower r found (ap (λ (l : Layout). l.object) is) (named_at t object o there) spelled utf8 h was s;
  count = ap (λ (r : ObjectRow). r.validation_rules) has.is ∙ ap (λ (o : Numbered). length o.object.validation_rules) (some_is has.numbered o (sym has.there ∙ there));
}
