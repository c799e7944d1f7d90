-- What reads of records are told, by what was found.
use Rattle.std.proofs.Common.{◌≡◌, ◌∙◌, ℕ, suc, List, [], ◌∷◌, map, Option, Some, None, refl, sym, ap, subst}
use Rattle.std.specs.Prelude.{Result, Ok, Err}
use Rattle.base_json.specs.declared.tree.Json.{Json}
use Rattle.base_value.specs.Id.{id_in}
use Rattle.base_value.specs.declared.value.Value.{Value}
use Rattle.model.specs.Cases.{in_case}
use Rattle.model.specs.Fields.{column_named}
use Rattle.model.specs.Given.{ReadOr, record_by_value}
use Rattle.model.specs.Objects.{Numbered, object_named}
use Rattle.model.specs.Paths.{Asked}
use Rattle.model.specs.Tenant.{Field, Object, Tenant}
use Rattle.model.specs.Upserts.{declared_name, key_value, on_value, unique_named}
use Rattle.model.specs.Verdict.{Done, Verdict, accept, done, refuse}
use Rattle.model.specs.declared.refusal.Refusal.{Refusal}
use Rattle.model.specs.declared.refusal.Refusal.TheVariants.{InvalidField, InvalidType, MalformedId}
use Rattle.model_reads.specs.Parts.{value_part}
use Rattle.model_reads.specs.Reads.{with_value}
use Rattle.model_reads.specs.RecordJson.{record_asked}
use Rattle.model_reads.specs.Told.{Telling, of_object, of_readable}
use Rattle.record_target.proofs.Objects.{IsOn, Named}
use Rattle.record_target.specs.Named.{SpellsId}
use Rattle.store_abstraction.specs.Layouts.{layout_of}
use Rattle.store_abstraction.specs.Plan.{OrgPlan}
use Rattle.store_abstraction.specs.declared.fail.EditFail.{EditFail}
use Rattle.store_abstraction.specs.declared.fail.EditFail.TheVariants.{Refused, Store}
use Rattle.store_abstraction.specs.declared.layout.Layout.{Layout}
use Rattle.store_edit.specs.Naming.{NamesLayout}
use Rattle.api_read.specs.Tells.{TellsSo}
use Rattle.api_read.specs.inner.RecordParts.{IsOf, told_at, told_named}

-- ---- the object

module _ (org : ℕ) (q : OrgPlan) (t : Tenant) (name : List ℕ) (tell : Numbered → Telling) where
  -- there is none
  pub unnamed_told : (e : EditFail) → NamesLayout org q t name (Err e) → TellsSo (of_object t name tell) (Err e)
  unnamed_told (Refused r) h = ap (λ (x : Option Numbered). in_case x (Err (InvalidType name)) tell) h.0 ∙ ap Err (sym h.1)
  unnamed_told (Store e) h = h

  pub named_told : (l : Layout) (on : IsOn org q t name l) → of_object t name tell ≡ tell on.0
  named_told l on = ap (λ (x : Option Numbered). in_case x (Err (InvalidType name)) tell) on.1

pub is_of_so : (org : ℕ) (q : OrgPlan) (t : Tenant) (name : List ℕ) (l : Layout) → Named → (on : IsOn org q t name l) → IsOf q t on.0 l
is_of_so org q t name l named on = record {
  laid = subst (λ (n : ℕ). l ≡ layout_of n q t on.0) (sym (ap (λ (k : Layout). k.org) on.2)) on.2;
  there = named t name on.0 on.1;
}

-- ---- the id

module _ (a : Asked) (o : Numbered) (key pairs : List ℕ) where
  abbrev by_id : Option (List ℕ) → Telling
  by_id id = in_case id (Err (MalformedId key)) (λ id. told_at a o id pairs)

  pub unspelled_told : (e : EditFail) → SpellsId key (Err e) → TellsSo (told_named a o key pairs) (Err e)
  unspelled_told (Refused r) h = ap by_id h.0 ∙ ap Err (sym h.1)
  unspelled_told (Store e) h = λ d. absurd cc

  pub spelled_told : (id : List ℕ) → id_in key ≡ Some id → told_named a o key pairs ≡ told_at a o id pairs
  spelled_told id is = ap by_id is
