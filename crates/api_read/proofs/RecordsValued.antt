-- The record that has a value in a unique field, and what is told of it.
use Rattle.std.proofs.Common.{◌≡◌, ◌∙◌, ℕ, suc, List, [], Option, Some, None, refl, sym, ap, subst}
use Rattle.std.specs.Prelude.{Result, Ok, Err}
use Rattle.base_value.specs.declared.value.Value.{Value}
use Rattle.model.specs.Cases.{in_case}
use Rattle.model.specs.Fields.{Column, column_named}
use Rattle.model.specs.Given.{ReadOr, record_by_value}
use Rattle.model.specs.Objects.{Numbered}
use Rattle.model.specs.Paths.{Asked}
use Rattle.model.specs.Tenant.{Field, Object, Tenant}
use Rattle.model.specs.Upserts.{declared_name, key_value, on_value, unique_named}
use Rattle.model.specs.Verdict.{Done, Verdict, accept, done, refuse}
use Rattle.model.specs.declared.record.Record.{Record}
use Rattle.model.specs.declared.refusal.Refusal.{Refusal}
use Rattle.model.specs.declared.refusal.Refusal.TheVariants.{InvalidField}
use Rattle.model_reads.specs.Parts.{value_part}
use Rattle.model_reads.specs.Reads.{with_value}
use Rattle.model_reads.specs.RecordJson.{record_asked}
use Rattle.model_reads.specs.Told.{Telling, of_readable}
use Rattle.record_save.specs.declared.upsert.finding.FoundKey.{FoundKey}
use Rattle.record_save.specs.upsert.Finding.{FindsKept, FindsKey, IsKey, on_key}
use Rattle.record_target.proofs.Spelled.{plain, spelled}
use Rattle.record_target.specs.declared.kept.KeptRecord.{KeptRecord}
use Rattle.schema_rules.specs.Objects.{object_of_layout}
use Rattle.store_abstraction.specs.Plan.{OrgPlan}
use Rattle.store_abstraction.specs.declared.fail.EditFail.{EditFail}
use Rattle.store_abstraction.specs.declared.fail.EditFail.TheVariants.{Refused, Store}
use Rattle.store_abstraction.specs.declared.layout.Layout.{Layout}
use Rattle.api_read.specs.Tells.{TellsSo}
use Rattle.api_read.specs.inner.RecordParts.{IsFound, IsOf, told_by, told_with}

-- ---- the object that a layout spells

spelled_so : (q : OrgPlan) (t : Tenant) (o : Numbered) (l : Layout) → IsOf q t o l → object_of_layout l ≡ (plain o).object
spelled_so q t o l of = ap object_of_layout of.laid ∙ ap (λ (x : Numbered). x.object) (spelled l.org q t o)

plain_column : (o : Numbered) (name : List ℕ) → column_named (plain o).object name ≡ column_named o.object name
unfolding column_named
plain_column o name = refl

-- ---- the field and the value

module _ (tell : ℕ × Field → Value → Telling) (text : Option (List ℕ)) where
  abbrev by_field : Option (ℕ × Field) → (name : List ℕ) → Telling
  by_field found name = in_case found (Err (InvalidField name)) (λ f. with_value (key_value f.1 text) (tell f))

  -- why an upsert by it fails, whatever it would come to, is why nothing is told
  refused_value : (t : Tenant) (f : ℕ × Field) (read : ReadOr) (r : Refusal) → (on_value t read (λ v. accept done t)).answer ≡ Err r → with_value read (tell f) ≡ Err r
  refused_value t f (Ok v) r h = absurd cc
  refused_value t f (Err refusal) r h = let is : refusal ≡ r = cc in ap Err is

  refused_field : (t : Tenant) (found : Option (ℕ × Field)) (name : List ℕ) (r : Refusal)
      → (in_case found (refuse t (InvalidField name)) (λ f. on_value t (key_value f.1 text) (λ v. accept done t))).answer ≡ Err r → by_field found name ≡ Err r
  refused_field t None name r h = let is : InvalidField name ≡ r = cc in ap Err is
  refused_field t (Some f) name r h = refused_value t f (key_value f.1 text) r h

module _ (q : OrgPlan) (a : Asked) (o : Numbered) (l : Layout) (of : IsOf q a.tenant o l) (field part pairs : List ℕ) where
  abbrev tell_by : ℕ × Field → Value → Telling
  tell_by f v = of_readable a (record_by_value a.tenant o.number f.0 v) (record_asked a o.object pairs)

  abbrev in_object : Object → Telling
  in_object x = by_field tell_by (value_part part) (unique_named x field) (declared_name x field)

  same_field : in_object (object_of_layout l) ≡ told_with a o field part pairs
  same_field =
      ap in_object (spelled_so q a.tenant o l of)
      ∙ ap (λ (c : Option Column). by_field tell_by (value_part part) (unique_named o.object field) (in_case c field (λ c. c.name))) (plain_column o field)

  pub keyless_told : (e : EditFail) → FindsKey l field (value_part part) (Err e) → TellsSo (told_with a o field part pairs) (Err e)
  keyless_told (Refused r) h =
      sym same_field
      ∙ refused_field tell_by (value_part part) a.tenant (unique_named (object_of_layout l) field) (declared_name (object_of_layout l) field) r (h a.tenant (λ f v. accept done a.tenant))
  keyless_told (Store e) h = h a.tenant (λ f v. accept done a.tenant)

  pub key_told : (k : FoundKey) → IsKey l field (value_part part) k → told_with a o field part pairs ≡ told_by a o k pairs
  key_told k is =
      sym same_field
      ∙ ap (λ (found : Option (ℕ × Field)). by_field tell_by (value_part part) found (declared_name (object_of_layout l) field)) is.named
      ∙ ap (λ (read : ReadOr). with_value read (λ v. of_readable a (record_by_value a.tenant o.number (suc k.number) v) (record_asked a o.object pairs))) is.value

-- ---- the record

pub valued_found : (q : OrgPlan) (t : Tenant) (o : Numbered) (l : Layout) (number : ℕ) (v : Value) (found : Option KeptRecord) → IsOf q t o l → FindsKept q t l number v (Ok found)
    → IsFound t l (record_by_value t o.number (suc number) v) found
valued_found q t o l number v None of h = ap (λ (n : ℕ). record_by_value t n (suc number) v) (sym (ap (λ (k : Layout). k.object) of.laid)) ∙ h
valued_found q t o l number v (Some k) of h = (ap (λ (n : ℕ). record_by_value t n (suc number) v) (sym (ap (λ (k : Layout). k.object) of.laid)) ∙ h.0, h.1.is)
