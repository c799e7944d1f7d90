-- What is given to a record, judged.
use Rattle.std.proofs.Common.{◌≡◌, ◌∙◌, ℕ, IsTrue, List, [], ◌∷◌, map, Option, Some, None, refl, sym, ap, subst}
use Rattle.std.specs.Prelude.{Result, Ok, Err, IsErrAnd}
use Rattle.record_read.specs.Decoding.{kinds_in}
use Rattle.record_input.specs.declared.key.AllGiven.{AllGiven}
use Rattle.record_input.specs.declared.key.UpsertKey.{UpsertKey}
use Rattle.record_input.specs.Given.{FindsAll, IsPlain}
use Rattle.model.specs.declared.record.Record.{Record}
use Rattle.model.specs.declared.record_bodies.Assignment.{Assignment}
use Rattle.model.specs.declared.refusal.Refusal.{Refusal}
use Rattle.model.specs.Edits.{bad_value, required_missing}
use Rattle.model.specs.Fields.{column_named}
use Rattle.model.specs.Keys.{Key, bad_fields, with_key}
use Rattle.model.specs.Objects.{Numbered}
use Rattle.model.specs.Paths.{Asked}
use Rattle.model.specs.Rules.{Rule, first_refusal}
use Rattle.model.specs.SoundRecords.{all_valid, kinds_of}
use Rattle.model.specs.Tenant.{Object, Tenant}
use Rattle.model.specs.Updates.{owner_denied}
use Rattle.schema_rules.specs.Objects.{field_of_place, numbered_in, object_of_layout}
use Rattle.model_invariant.specs.Fit.{ReadsWell}
use Rattle.store_abstraction.specs.declared.fail.EditFail.{EditFail}
use Rattle.store_abstraction.specs.declared.fail.EditFail.TheVariants.{Refused, Store}
use Rattle.store_abstraction.specs.declared.layout.FieldPlace.{FieldPlace}
use Rattle.store_abstraction.specs.declared.layout.Layout.{Layout}
use Rattle.store_abstraction.specs.Layouts.{layout_of}
use Rattle.store_abstraction.specs.Plan.{OrgPlan}
use Rattle.base_value.specs.declared.value.FieldType.{FieldType}
use Rattle.base_value.specs.declared.value.FieldType.TheVariants as type
use Rattle.record_target.proofs.Spelled.{plain, spelled}
use Rattle.record_save.specs.inner.Giving.{Alters, Changes, Gives, Lacks, altered, changed_rules, given_rules, value_rules}
use Rattle.record_save.proofs.FirstRules.{first_passes, first_refuses, first_stays, first_then, none_behind, none_first}

-- what is given without the key of an upsert is plain
pub is_plain : (x : AllGiven) → x.key ≡ None → IsPlain x
is_plain x none = record { key = λ k is. absurd (no_key k (sym none ∙ is)) }
  where
    no_key : (k : UpsertKey) → ◌≡◌ {A = Option UpsertKey} None (Some k) → ⊥
    no_key k e = absurd cc

-- ---- the types of a record's values

same_kinds : (fields : List FieldPlace) → map (λ f. f.kind) (map field_of_place fields) ≡ map (λ f. f.kind) fields
same_kinds [] = refl
same_kinds (f ∷ fields) = ap (λ (kinds : List FieldType). f.kind ∷ kinds) (same_kinds fields)

pub kinds_same : (l : Layout) → kinds_of (object_of_layout l) ≡ kinds_in l.fields
kinds_same l = ap (λ (kinds : List FieldType). type.Text 80 ∷ kinds) (same_kinds l.fields)

-- ---- the rules

value_first : (fields value : Rule) (r : Refusal) → None ≡ fields → value ≡ Some r → Some r ≡ first_refusal (fields ∷ value ∷ [])
value_first None (Some x) r e h = sym h
value_first None None r e h = absurd cc
value_first (Some x) value r e h = absurd cc

none_given : (fields value : Rule) → None ≡ fields → value ≡ None → None ≡ first_refusal (fields ∷ value ∷ [])
none_given None None e h = refl
none_given None (Some x) e h = absurd cc
none_given (Some x) value e h = absurd cc

alone : (r : Rule) → r ≡ first_refusal (r ∷ [])
alone None = refl
alone (Some r) = refl

-- names, and then values
module _ (a : Asked) (it : Object) (key : Option Key) (given : List Assignment) (old : Record) (fields : None ≡ bad_fields a.tenant it key given) where
  pub value_refused : (r : Refusal) → bad_value a.tenant it (with_key key given) ≡ Some r → Some r ≡ first_refusal (value_rules a.tenant it key given)
  value_refused r e = value_first (bad_fields a.tenant it key given) (bad_value a.tenant it (with_key key given)) r fields e

  pub values_given : bad_value a.tenant it (with_key key given) ≡ None → (made : Record) → made ≡ altered a it key given old → Gives a it key given old (Ok made)
  values_given none made is = (none_given (bad_fields a.tenant it key given) (bad_value a.tenant it (with_key key given)) fields none, is)

-- what is given, and then required fields, with or without another owner
module _ (a : Asked) (it : Object) (key : Option Key) (given : List Assignment) (old : Record) where
  abbrev then : Record
  then = altered a it key given old

  abbrev values : List Rule
  values = value_rules a.tenant it key given

  pub ungiven : (r : Result Record EditFail) (e : EditFail) (out : Result Record EditFail) → Gives a it key given old r → r ≡ Err e → IsErrAnd out (λ y. y ≡ e) → Alters a it key given old out
  ungiven r e out h was is = passed out is (by e (subst (Gives a it key given old) was h))
    where
      by : (e : EditFail) → Gives a it key given old (Err e) → Alters a it key given old (Err e)
      by (Refused x) h = first_stays x values (required_missing it then ∷ []) h
      by (Store f) h = h

      passed : (out : Result Record EditFail) → IsErrAnd out (λ y. y ≡ e) → Alters a it key given old (Err e) → Alters a it key given old out
      passed (Ok x) is h = absurd is
      passed (Err y) is h = subst (λ (z : EditFail). Alters a it key given old (Err z)) (sym is) h

  pub unchanged : (r : Result Record EditFail) (e : EditFail) (out : Result Record EditFail) → Gives a it key given old r → r ≡ Err e → IsErrAnd out (λ y. y ≡ e) → Changes a it key given old out
  unchanged r e out h was is = passed out is (by e (subst (Gives a it key given old) was h))
    where
      by : (e : EditFail) → Gives a it key given old (Err e) → Changes a it key given old (Err e)
      by (Refused x) h = first_stays x values (owner_denied a old then ∷ required_missing it then ∷ []) h
      by (Store f) h = h

      passed : (out : Result Record EditFail) → IsErrAnd out (λ y. y ≡ e) → Changes a it key given old (Err e) → Changes a it key given old out
      passed (Ok x) is h = absurd is
      passed (Err y) is h = subst (λ (z : EditFail). Changes a it key given old (Err z)) (sym is) h

  -- the record with what is given
  module _ (gives : Result Record EditFail) (made : Record) (h : Gives a it key given old gives) (was : gives ≡ Ok made) where
    so : (None ≡ first_refusal values) × (made ≡ then)
    so = subst (Gives a it key given old) was h

    pub alters_so : (r : Result Record EditFail) → Lacks it made r → Alters a it key given old r
    alters_so (Ok x) g =
        (subst (λ (z : Record). None ≡ required_missing it z) so.1 g.0 ∙ alone (required_missing it then) ∙ sym (first_then values (required_missing it then ∷ []) so.0), g.1 ∙ so.1)
    alters_so (Err (Refused x)) g =
        subst (λ (z : Record). Some x ≡ required_missing it z) so.1 g ∙ alone (required_missing it then) ∙ sym (first_then values (required_missing it then ∷ []) so.0)
    alters_so (Err (Store e)) g = λ d. absurd cc

    -- another owner is refused
    pub owner_refused : (x : Refusal) → Some x ≡ owner_denied a old made → Changes a it key given old (Err (Refused x))
    owner_refused x g =
        first_refuses x (owner_denied a old then) (required_missing it then ∷ []) (subst (λ (z : Record). Some x ≡ owner_denied a old z) so.1 g)
        ∙ sym (first_then values (owner_denied a old then ∷ required_missing it then ∷ []) so.0)

    pub changes_so : None ≡ owner_denied a old made → (r : Result Record EditFail) → Lacks it made r → Changes a it key given old r
    changes_so free r g = by r (alters_so r g)
      where
        rest : first_refusal (changed_rules a it key given old then) ≡ first_refusal (given_rules a.tenant it key given then)
        rest =
            first_then values (owner_denied a old then ∷ required_missing it then ∷ []) so.0
            ∙ first_passes (owner_denied a old then) (required_missing it then ∷ []) (subst (λ (z : Record). None ≡ owner_denied a old z) so.1 free)
            ∙ sym (first_then values (required_missing it then ∷ []) so.0)

        by : (r : Result Record EditFail) → Alters a it key given old r → Changes a it key given old r
        by (Ok x) h = (h.0 ∙ sym rest, h.1)
        by (Err (Refused x)) h = h ∙ sym rest
        by (Err (Store e)) h = h

-- valid values stay valid, where what is given is read well
pub stays_valid : (a : Asked) (l : Layout) (key : Option Key) (given : List Assignment) (old : Record) → IsTrue (all_valid (kinds_in l.fields) old.values) → ReadsWell a (object_of_layout l) (with_key key given)
    → (gives : Result Record EditFail) (made : Record) → Gives a (object_of_layout l) key given old gives → gives ≡ Ok made → IsTrue (all_valid (kinds_in l.fields) made.values)
stays_valid a l key given old valid well gives made h was =
    let (none, is) = subst (Gives a (object_of_layout l) key given old) was h in
    let values = none_first (bad_value a.tenant (object_of_layout l) (with_key key given)) [] (none_behind (bad_fields a.tenant (object_of_layout l) key given) (bad_value a.tenant (object_of_layout l) (with_key key given) ∷ []) none) in
    subst (λ (z : Record). IsTrue (all_valid (kinds_in l.fields) z.values)) (sym is)
    (subst (λ (kinds : List FieldType). IsTrue (all_valid kinds (altered a (object_of_layout l) key given old).values)) (kinds_same l)
    (well (sym values) old (subst (λ (kinds : List FieldType). IsTrue (all_valid kinds old.values)) (sym (kinds_same l)) valid)))

-- ---- the object that a layout spells

alters_plain : (a : Asked) (o : Numbered) (key : Option Key) (given : List Assignment) (old : Record) (r : Result Record EditFail) → Alters a (plain o).object key given old r → Alters a o.object key given old r
unfolding column_named
alters_plain a o key given old (Ok r) h = h
alters_plain a o key given old (Err (Refused x)) h = h
alters_plain a o key given old (Err (Store e)) h = h

pub alters_there : (org : ℕ) (q : OrgPlan) (a : Asked) (o : Numbered) (l : Layout) (key : Option Key) (given : List Assignment) (old : Record) (r : Result Record EditFail) → l ≡ layout_of org q a.tenant o
    → Alters a (object_of_layout l) key given old r → Alters a o.object key given old r
alters_there org q a o l key given old r is h = alters_plain a o key given old r (subst (λ (p : Numbered). Alters a p.object key given old r) (ap numbered_in is ∙ spelled org q a.tenant o) h)

changes_plain : (a : Asked) (o : Numbered) (key : Option Key) (given : List Assignment) (old : Record) (r : Result Record EditFail) → Changes a (plain o).object key given old r → Changes a o.object key given old r
unfolding column_named
changes_plain a o key given old (Ok r) h = h
changes_plain a o key given old (Err (Refused x)) h = h
changes_plain a o key given old (Err (Store e)) h = h

pub changes_there : (org : ℕ) (q : OrgPlan) (a : Asked) (o : Numbered) (l : Layout) (key : Option Key) (given : List Assignment) (old : Record) (r : Result Record EditFail) → l ≡ layout_of org q a.tenant o
    → Changes a (object_of_layout l) key given old r → Changes a o.object key given old r
changes_there org q a o l key given old r is h = changes_plain a o key given old r (subst (λ (p : Numbered). Changes a p.object key given old r) (ap numbered_in is ∙ spelled org q a.tenant o) h)

reads_plain : (a : Asked) (o : Numbered) (given : List Assignment) → ReadsWell a o.object given → ReadsWell a (plain o).object given
unfolding column_named
reads_plain a o given h = h

-- what is read well in an object is so in the one that its layout spells
pub reads_there : (org : ℕ) (q : OrgPlan) (a : Asked) (o : Numbered) (l : Layout) (given : List Assignment) → l ≡ layout_of org q a.tenant o → ReadsWell a o.object given → ReadsWell a (object_of_layout l) given
reads_there org q a o l given is h = subst (λ (p : Numbered). ReadsWell a p.object given) (sym (ap numbered_in is ∙ spelled org q a.tenant o)) (reads_plain a o given h)

finds_plain : (t : Tenant) (o : Numbered) (x : AllGiven) → FindsAll t o.object x → FindsAll t (plain o).object x
finds_plain t o x h = h

-- and what finds a record finds the same one
pub finds_there : (org : ℕ) (q : OrgPlan) (t : Tenant) (o : Numbered) (l : Layout) (x : AllGiven) → l ≡ layout_of org q t o → FindsAll t o.object x → FindsAll t (object_of_layout l) x
finds_there org q t o l x is h = subst (λ (p : Numbered). FindsAll t p.object x) (sym (ap numbered_in is ∙ spelled org q t o)) (finds_plain t o x h)
