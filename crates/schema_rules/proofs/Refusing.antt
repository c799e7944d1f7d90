-- What is judged over the rows of an object's rules is what its tenant's rules say.
use Rattle.std.proofs.Common.{◌≡◌, ℕ, ◌+◌, ◌≤◌, false, List, [], ◌∷◌, length, map, Option, Some, None, refl, sym, ap, ◌∙◌, arith}
use Rattle.std.specs.Prelude.{Result, Ok, Err}
use Rattle.std.specs.Option.{ok_or, option_map}
use Rattle.std.proofs.lemmas.List.{length-map}
use Rattle.formula.specs.declared.formula.Formula.{Formula}
use Rattle.formula.specs.grammar.Spelling.{formula_in, place_in}
use Rattle.base_grammar.specs.Tokens.{byte_len}
use Rattle.store_kv.specs.Draft.{Held}
use Rattle.store_kv.specs.State.{KeeperState}
use Rattle.store_kv.specs.Tables.{Tables}
use Rattle.store_rows.specs.declared.fail.StoreFail.{StoreFail}
use Rattle.store_rows.specs.declared.fail.StoreFail.TheVariants.{Keeper, Memory, Damaged}
use Rattle.store_rows.specs.declared.validation.ValidationRow.{ValidationRow}
use Rattle.model.specs.declared.record.Record.{Record}
use Rattle.model.specs.declared.refusal.Refusal.TheVariants.{ValidationFailed}
use Rattle.model.specs.Cases.{in_case}
use Rattle.model.specs.Edits.{fails, validation_failed}
use Rattle.model.specs.FormulaTexts.{formula_fields, reads_text}
use Rattle.model.specs.Levels.{read_holds}
use Rattle.model.specs.Paths.{Asked}
use Rattle.model.specs.Rules.{Rule, first_of, first_refusal, refuse_if}
use Rattle.model.specs.SoundMetadata.{IsSoundObject}
use Rattle.model.specs.Tenant as model
use Rattle.model.specs.Tenant.{Field, Tenant, ValidationRule}
use Rattle.schema_rules.specs.Failing.{rule_failed}
use Rattle.schema_rules.specs.Objects.{field_of_place, object_of_layout}
use Rattle.schema_rules.specs.Rows.{rule_rows}
use Rattle.schema_rules.specs.inner.Judged.{JudgesBy, row_fails}
use Rattle.schema_rules.proofs.Objects.{fields_back}
use Rattle.schema_rules.proofs.Read.{IsOf, Weaker, layout_is}
use Rattle.store_abstraction.specs.Calls.{Calls, done, ended, stopped}
use Rattle.store_abstraction.specs.Layouts.{FindsOf, IsLayout}
use Rattle.store_abstraction.specs.Local.{StandsIn}
use Rattle.store_abstraction.specs.Metadata.{validation_of}
use Rattle.store_abstraction.specs.Plan.{OrgPlan}
use Rattle.store_abstraction.specs.declared.layout.Layout.{Layout}
use Rattle.store_abstraction.proofs.MetadataRows.{sound_object}

-- ---- fields

fields_same : (q : OrgPlan) (t : Tenant) (l : Layout) (one : IsOf q t l) → map field_of_place l.fields ≡ one.object.fields
fields_same q t l one = ap (λ (k : Layout). map field_of_place k.fields) (sym one.made) ∙ fields_back q l.object 0 one.object.fields

reads_same : (o p : model.Object) (text : List ℕ) → o.fields ≡ p.fields → reads_text o false text ≡ reads_text p false text
unfolding reads_text
reads_same o p text e = ap (λ (fs : List Field). ok_or (formula_in false (formula_fields fs) text) (place_in false (formula_fields fs) text (byte_len text))) e

-- ---- rules

module _ (a : Asked) (l : Layout) (new : Record) (old : Option Record) where
  abbrev judge : ValidationRow → Rule
  judge = row_fails (object_of_layout l) new.values (option_map (λ r. r.values) old)

  rows_judged : (o : model.Object) → (object_of_layout l).fields ≡ o.fields → (rules : List ValidationRule)
      → map judge (map (validation_of l.org l.object) rules) ≡ map (fails a o new old) rules
  rows_judged o same [] = refl
  rows_judged o same (r ∷ rules) =
      ap (λ (read : Result Formula ℕ). refuse_if (read_holds read new.values (option_map (λ r. r.values) old)) (ValidationFailed r.name r.message) ∷ map judge (map (validation_of l.org l.object) rules)) (reads_same (object_of_layout l) o r.formula same)
      ∙ ap (λ (rest : List Rule). fails a o new old r ∷ rest) (rows_judged o same rules)

  judged_is : (q : OrgPlan) (t : Tenant) → IsOf q t l → first_of judge (rule_rows l.org l.object t) ≡ rule_failed a l.object new old t
  judged_is q t one =
      ap (λ (o : Option model.Object). first_of judge (in_case o [] (λ o. map (validation_of l.org l.object) o.validation_rules))) one.there
      ∙ ap first_refusal (rows_judged one.object (fields_same q t l one) one.object.validation_rules)
      ∙ sym (ap (λ (o : Option model.Object). in_case o None (λ o. validation_failed a o new old)) one.there)

  few_fields : (m : Tables) (q : OrgPlan) (t : Tenant) → StandsIn l.org q m (Some t) → IsLayout q t l → length l.fields ≤ 40
  few_fields m q t s h =
      let one = layout_is q t l h in
      let its : IsSoundObject t.objects (record { number = l.object; object = one.object }) = sound_object t l.object one.object s.sound one.there in
      omega (arith, its.few_fields, length-map l.fields field_of_place, ap length (fields_same q t l one))

  pub failed_found : (m : Tables) (rows : List ValidationRow) (r : Result Rule StoreFail) → FindsOf l (rule_rows l.org l.object) m (Ok rows)
      → JudgesBy l (first_of judge rows) r → FindsOf l (rule_failed a l.object new old) m r
  failed_found m rows (Ok x) h is = λ q t s g. is ∙ ap (first_of judge) (h q t s g) ∙ judged_is q t (layout_is q t l g)
  failed_found m rows (Err Damaged) h many = λ q t s g. let few = few_fields m q t s g in omega (arith, few, many)
  failed_found m rows (Err Keeper) h never = tt
  failed_found m rows (Err Memory) h is = tt

-- what failed before there were any
pub failed_again : {X Y : Type 0} (l : Layout) (v : Tenant → X) (u : Tenant → Y) (m : Tables) (e : StoreFail) → FindsOf l v m (Err e) → FindsOf l u m (Err e)
failed_again l v u m Damaged h = h
failed_again l v u m Keeper h = tt
failed_again l v u m Memory h = tt

-- ---- how it ended

pub judged_calls : {K : Type 0} (state : K → KeeperState) → Weaker state → (a b : Held K) (l : Layout) (rule : Rule) (r : Result Rule StoreFail) → JudgesBy l rule r → Calls state 0 done a b → Calls state 0 (ended r) a b
judged_calls state weaker a b l rule (Ok x) is h = h
judged_calls state weaker a b l rule (Err Damaged) is h = weaker 0 stopped a b (λ e. cc) h
judged_calls state weaker a b l rule (Err Keeper) is h = absurd is
judged_calls state weaker a b l rule (Err Memory) is h = weaker 0 stopped a b (λ e. cc) h
