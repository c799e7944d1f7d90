-- The unique field with a name, and its value.
use Rattle.std.proofs.Common.{◌≡◌, ◌∙◌, ◌≢◌, ℕ, suc, ◌<◌, Bool, true, false, ◌&&◌, IsTrue, List, length, Option, Some, None, refl, sym, ap, subst}
use Rattle.std.specs.Prelude.{Result, Ok, Err, IsErrAnd, slice_get}
use Rattle.std.specs.List.{enumerate_from}
use Rattle.std.proofs.lemmas.Option.{slice_get_within as within, same_Some as some_is}
use Rattle.base_lemmas.proofs.Bools.{and_first as and_left}
use Rattle.record_read.proofs.RowFits.{typed_at}
use Rattle.record_read.specs.Decoding.{has_types}
use Rattle.record_input.specs.Given.{NamesUnique}
use Rattle.store_rows.specs.declared.fail.StoreFail.{StoreFail}
use Rattle.store_rows.specs.declared.fail.StoreFail.TheVariants.{Damaged, Memory}
use Rattle.model.specs.Cases.{in_case}
use Rattle.model.specs.Fields.{same_name}
use Rattle.model.specs.Given.{ReadOr}
use Rattle.model.specs.Tenant.{Field}
use Rattle.model.specs.Upserts.{declared_name, key_value, on_value, unique_named}
use Rattle.model.specs.Verdict.{refuse}
use Rattle.model.specs.declared.refusal.Refusal.TheVariants.{InvalidField}
use Rattle.record_constraints.proofs.Searching.{find_has}
use Rattle.record_constraints.specs.Uniques.{HasUnique, is_unique_value}
use Rattle.schema_rules.specs.Objects.{field_of_place, object_of_layout}
use Rattle.store_abstraction.specs.declared.fail.EditFail.{EditFail}
use Rattle.store_abstraction.specs.declared.fail.EditFail.TheVariants.{Refused, Store}
use Rattle.store_abstraction.specs.declared.layout.FieldPlace.{FieldPlace}
use Rattle.store_abstraction.specs.declared.layout.Layout.{Layout}
use Rattle.record_save.specs.declared.upsert.finding.FoundKey.{FoundKey}
use Rattle.record_save.specs.upsert.Finding.{FindsKey, NamesField, ReadsValue}
use Rattle.base_value.specs.Types.{is_type}
use Rattle.base_value.specs.Values.{valid}
use Rattle.base_value.specs.declared.value.Value.{Value}

-- ---- places in a list

-- what a unique value is of
pub unique_there : (l : Layout) (number : ℕ) (v : Value) → HasUnique l number v → (f : FieldPlace) × (slice_get l.fields number ≡ Some f) × (is_unique_value v f ≡ true)
unique_there l number v h = by (slice_get l.fields number) refl h
  where
    by : (x : Option FieldPlace) → slice_get l.fields number ≡ x → in_case x false (is_unique_value v) ≡ true → (f : FieldPlace) × (slice_get l.fields number ≡ Some f) × (is_unique_value v f ≡ true)
    by None at h = absurd cc
    by (Some f) at h = (f, at, h)

pub unique_within : (l : Layout) (number : ℕ) (v : Value) → HasUnique l number v → number < length l.fields
unique_within l number v h = let f = unique_there l number v h in within l.fields number f.0 f.1

-- ---- the field

module _ (l : Layout) (name : List ℕ) (r : Result ℕ EditFail) (names : NamesField l name r) where
  pub field_named : (number : ℕ) → r ≡ Ok number → NamesUnique l name (Some number)
  field_named number was = subst (NamesField l name) was names

  pub named_within : (number : ℕ) → r ≡ Ok number → number < length l.fields
  named_within number was = let f = field_named number was in within l.fields number f.0 f.1

  pub named_at : (number : ℕ) (f : FieldPlace) → r ≡ Ok number → slice_get l.fields number ≡ Some f → unique_named (object_of_layout l) name ≡ Some (suc number, field_of_place f)
  named_at number f was at =
      let named = field_named number was in
      subst (λ (g : FieldPlace). unique_named (object_of_layout l) name ≡ Some (suc number, field_of_place g)) (some_is named.0 f (sym named.1 ∙ at)) named.2

-- it is a unique one
unique_is : (l : Layout) (name : List ℕ) (number : ℕ) (f : FieldPlace) → unique_named (object_of_layout l) name ≡ Some (suc number, field_of_place f) → f.unique ≡ true
unique_is l name number f e =
    and_left f.unique (same_name f.name name) (find_has (λ (x : ℕ × Field). x.1.unique && same_name x.1.name name) (enumerate_from 1 (object_of_layout l).fields) (suc number, field_of_place f) e).1

pub has_unique : (l : Layout) (name : List ℕ) (number : ℕ) (v : Value) (f : FieldPlace) → slice_get l.fields number ≡ Some f → unique_named (object_of_layout l) name ≡ Some (suc number, field_of_place f)
    → IsTrue (is_type f.kind) → IsTrue (valid f.kind v) → HasUnique l number v
has_unique l name number v f at named kind good =
    ap (λ (x : Option FieldPlace). in_case x false (is_unique_value v)) at ∙ all (unique_is l name number f named) kind good
  where
    all : {a b c : Bool} → a ≡ true → b ≡ true → c ≡ true → (a && (b && c)) ≡ true
    all x y z = rw (x, y, z) refl

pub type_at : (l : Layout) (number : ℕ) (f : FieldPlace) → IsTrue (has_types l) → slice_get l.fields number ≡ Some f → is_type f.kind ≡ true
type_at l number f types at = typed_at (λ (x : FieldPlace). x.kind) l.fields number f types at

-- ---- failures

memory_only : (e : StoreFail) → e ≡ Memory → e ≢ Damaged
memory_only e is wrong = let x : Memory ≡ Damaged = sym is ∙ wrong in absurd cc

module _ (l : Layout) (name : List ℕ) (text : Option (List ℕ)) where
  -- it is passed on
  pub key_passed : (e : EditFail) (out : Result FoundKey EditFail) → IsErrAnd out (λ y. y ≡ e) → FindsKey l name text (Err e) → FindsKey l name text out
  key_passed e (Ok x) is h = absurd is
  key_passed e (Err y) is h = subst (λ (z : EditFail). FindsKey l name text (Err z)) (sym is) h

  -- there is no such field
  pub unnamed : (r : Result ℕ EditFail) (e : EditFail) → NamesField l name r → r ≡ Err e → FindsKey l name text (Err e)
  unnamed r e h was = by e (subst (NamesField l name) was h)
    where
      by : (e : EditFail) → NamesField l name (Err e) → FindsKey l name text (Err e)
      by (Refused x) h = λ t verdict.
          ap (λ (f : Option (ℕ × Field)). (in_case f (refuse t (InvalidField (declared_name (object_of_layout l) name))) (λ f. on_value t (key_value f.1 text) (verdict f))).answer) h.0
          ∙ ap Err (sym h.1)
      by (Store f) h = λ t verdict. memory_only f h

  -- the text gives it no value
  pub unread : (number : ℕ) (f : FieldPlace) (r : Result Value EditFail) (e : EditFail) → unique_named (object_of_layout l) name ≡ Some (suc number, field_of_place f)
      → ReadsValue (field_of_place f) text r → r ≡ Err e → FindsKey l name text (Err e)
  unread number f r e named h was = by e (subst (ReadsValue (field_of_place f) text) was h)
    where
      by : (e : EditFail) → ReadsValue (field_of_place f) text (Err e) → FindsKey l name text (Err e)
      by (Refused x) h = λ t verdict.
          ap (λ (f : Option (ℕ × Field)). (in_case f (refuse t (InvalidField (declared_name (object_of_layout l) name))) (λ f. on_value t (key_value f.1 text) (verdict f))).answer) named
          ∙ ap (λ (r : ReadOr). (on_value t r (verdict (suc number, field_of_place f))).answer) h
      by (Store f) h = λ t verdict. memory_only f h
