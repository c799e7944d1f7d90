-- Objects with what is set of them, and validation rules, by their rows.
use Rattle.std.proofs.Common.{◌≡◌, ◌∙◌, ℕ, suc, ◌+◌, Bool, true, false, cond, List, [], ◌∷◌, map, Option, Some, None, Result, Ok, Err, arith, refl, sym, ap, subst}
use Rattle.std.specs.Prelude.{Vec, IfOk, codes, slice_get}
use Rattle.std.specs.declared.alloc.AllocError.{AllocError}
use Rattle.base_lemmas.proofs.Results.{IfOk-same}
use Rattle.std.specs.Option.{option_map}
use Rattle.std.specs.List.{enumerate_from, find}
use Rattle.std.proofs.lemmas.Option.{same_Some as some_is}
use Rattle.std.proofs.lemmas.Simd.{map-map as map_again}
use Rattle.base_json.specs.declared.tree.Json.{Json}
use Rattle.model.specs.declared.refusal.Refusal.TheVariants.{InvalidType}
use Rattle.model.specs.Cases.{in_case}
use Rattle.model.specs.Fields.{same_name}
use Rattle.model.specs.Objects.{Numbered, object_named, object_numbered}
use Rattle.model.specs.Tenant.{Object, Tenant, ValidationRule}
use Rattle.model_reads.specs.PeopleJson.{listed}
use Rattle.model_reads.specs.SettingsJson.{object_settings_json, settings_json, validation_rule_json, validation_rules_json}
use Rattle.model_reads.specs.Told.{Telling, of_object}
use Rattle.schema_rules.specs.Rows.{rule_rows}
use Rattle.store_abstraction.specs.declared.fail.EditFail.{EditFail}
use Rattle.store_abstraction.specs.declared.fail.EditFail.TheVariants.{Refused, Store}
use Rattle.store_abstraction.specs.declared.layout.Layout.{Layout}
use Rattle.store_abstraction.specs.inner.LayoutRows.{ListsIn, object_rows}
use Rattle.store_abstraction.specs.Layouts.{FindsOf, IsLayout, layout_of, own_layout}
use Rattle.store_abstraction.specs.Local.{FindsIn, StandsIn}
use Rattle.store_abstraction.specs.Metadata.{row_of_object, validation_of}
use Rattle.store_abstraction.specs.Plan.{OrgPlan}
use Rattle.store_edit.specs.Naming.{NamesLayout}
use Rattle.store_kv.specs.Tables.{Tables}
use Rattle.store_rows.specs.declared.fail.StoreFail.{StoreFail}
use Rattle.store_rows.specs.declared.fail.StoreFail.TheVariants.{Damaged, Keeper, Memory}
use Rattle.store_rows.specs.declared.object.ObjectRow.{ObjectRow}
use Rattle.store_rows.specs.declared.validation.ValidationRow.{ValidationRow}
use Rattle.api_read.specs.Tells.{TellsSo}
use Rattle.api_read.specs.inner.Settings.{rule_by_row, rule_texts, rules_by_rows, settings_by_row, settings_by_rows}

-- ---- what isn't told

-- the work stopped, and the tables aren't damaged
pub stopped_finding : {X : Type 0} (org : ℕ) (v : OrgPlan → Option Tenant → X) (m : Tables) (telling : Telling) (q : OrgPlan) (t : Tenant) (e : StoreFail)
    → StandsIn org q m (Some t) → FindsIn org v m (Err e) → TellsSo telling (Err (Store e))
stopped_finding org v m telling q t Damaged s h = absurd (h q (Some t) s)
stopped_finding org v m telling q t Keeper s h = λ e. cc
stopped_finding org v m telling q t Memory s h = λ e. cc

pub stopped_listing : {X A : Type 0} (org : ℕ) (v : OrgPlan → Option Tenant → List X) (m : Tables) (telling : Telling) (q : OrgPlan) (t : Tenant) (r : Result (Vec X A) StoreFail) (e : StoreFail)
    → r ≡ Err e → StandsIn org q m (Some t) → ListsIn org v m r → TellsSo telling (Err (Store e))
stopped_listing {A = A} org v m telling q t r e is s h = by e (subst (ListsIn {A = A} org v m) is h)
  where
    by : (e : StoreFail) → ListsIn {A = A} org v m (Err e) → TellsSo telling (Err (Store e))
    by Damaged h = absurd (h q (Some t) s)
    by Keeper h = λ e. cc
    by Memory h = λ e. cc

pub stopped_of : {X : Type 0} (l : Layout) (v : Tenant → X) (m : Tables) (telling : Telling) (q : OrgPlan) (t : Tenant) (e : StoreFail)
    → StandsIn l.org q m (Some t) → IsLayout q t l → FindsOf l v m (Err e) → TellsSo telling (Err (Store e))
stopped_of l v m telling q t Damaged s is h = absurd (h q t s is)
stopped_of l v m telling q t Keeper s is h = λ e. cc
stopped_of l v m telling q t Memory s is h = λ e. cc

-- an object that isn't named, or work that stopped
pub unnamed : (org : ℕ) (q : OrgPlan) (t : Tenant) (name : List ℕ) (tell : Numbered → Telling) (e : EditFail) → NamesLayout org q t name (Err e) → TellsSo (of_object t name tell) (Err e)
unnamed org q t name tell (Refused r) h = ap (λ (o : Option Numbered). in_case o (Err (InvalidType name)) tell) h.0 ∙ ap Err (sym h.1)
unnamed org q t name tell (Store e) h = h

-- by other words
pub told_again : (a b : Telling) (r : Result Json EditFail) → a ≡ b → TellsSo b r → TellsSo a r
told_again a b r e h = subst (λ (x : Telling). TellsSo x r) (sym e) h

-- ---- objects

pub settings_are : (org : ℕ) (q : OrgPlan) (t : Tenant) (rows : List ObjectRow) → rows ≡ object_rows org q (Some t) → settings_by_rows rows ≡ settings_json t
unfolding object_rows
settings_are org q t rows is =
    let numbered : ℕ × Object → Numbered = λ o. record { number = o.0; object = o.1 } in
    let row : ℕ × Object → ObjectRow = λ o. row_of_object org t o.0 o.1 in
    let all = enumerate_from 0 t.objects in
    ap settings_by_rows is
    ∙ ap (listed (codes "objects")) (map_again settings_by_row row all ∙ sym (map_again (object_settings_json t) numbered all))

-- ---- validation rules

pub rule_made : (r : Result Json AllocError) (object : List ℕ) (row : ValidationRow) (a b c d : List ℕ) → a ≡ object → b ≡ row.name → c ≡ row.formula → d ≡ row.message
    → IfOk r (λ v. v ≡ rule_texts a b c d) → IfOk r (λ v. v ≡ rule_by_row object row)
rule_made r object row a b c d first second third fourth h =
    IfOk-same r (rule_texts a b c d) (rule_by_row object row)
    (ap (λ (x : List ℕ). rule_texts x b c d) first
    ∙ ap (λ (x : List ℕ). rule_texts object x c d) second
    ∙ ap (λ (x : List ℕ). rule_texts object row.name x d) third
    ∙ ap (λ (x : List ℕ). rule_texts object row.name row.formula x) fourth)
    h

pub rules_are : (org n : ℕ) (t : Tenant) (o : Object) (name : List ℕ) (rows : List ValidationRow) → object_numbered t n ≡ Some o → name ≡ o.name → rows ≡ rule_rows org n t
    → rules_by_rows name rows ≡ validation_rules_json o
rules_are org n t o name rows there named is =
    ap (λ (x : List ℕ). rules_by_rows x rows) named
    ∙ ap (rules_by_rows o.name) (is ∙ ap (λ (x : Option Object). in_case x [] (λ o. map (validation_of org n) o.validation_rules)) there)
    ∙ ap (listed (codes "validationRules")) (map_again (rule_by_row o.name) (validation_of org n) o.validation_rules)

-- an object that is found by its name has its number
abbrev first_of : (Numbered → Bool) → ℕ → List Object → Option Numbered
first_of test k os = find test (map (λ (o : ℕ × Object). record { number = o.0; object = o.1 }) (enumerate_from k os))

found_at : (test : Numbered → Bool) (k : ℕ) (os : List Object) (o : Numbered) → find test (map (λ (o : ℕ × Object). record { number = o.0; object = o.1 }) (enumerate_from k os)) ≡ Some o
    → (i : ℕ) × (o.number ≡ k + i) × (slice_get os i ≡ Some o.object)
found_at test k [] o e = absurd cc
found_at test k (x ∷ os) o e = by (found_at test (k + 1) os o) (test (record { number = k; object = x })) refl
  where
    by : (first_of test (k + 1) os ≡ Some o → (i : ℕ) × (o.number ≡ (k + 1) + i) × (slice_get os i ≡ Some o.object))
        → (b : Bool) → test (record { number = k; object = x }) ≡ b → (i : ℕ) × (o.number ≡ k + i) × (slice_get (x ∷ os) i ≡ Some o.object)
    by more true h =
        let is : record { number = k; object = x } ≡ o = some_is (record { number = k; object = x }) o (sym (ap (λ (b : Bool). cond b (Some (record { number = k; object = x })) (first_of test (k + 1) os)) h) ∙ e) in
        let number : k ≡ o.number = ap (λ (n : Numbered). n.number) is in
        (0, omega (arith, number), ap (λ (n : Numbered). Some n.object) is)
    by more false h =
        let (i, number, there) = more (sym (ap (λ (b : Bool). cond b (Some (record { number = k; object = x })) (first_of test (k + 1) os)) h) ∙ e) in
        (suc i, omega (arith, number), there)

named_there : (t : Tenant) (name : List ℕ) (o : Numbered) → object_named t name ≡ Some o → object_numbered t o.number ≡ Some o.object
unfolding object_named
named_there t name o e =
    let (i, number, there) = found_at (λ (o : Numbered). same_name o.object.name name) 0 t.objects o e in
    let is : o.number ≡ i = omega (arith, number) in
    ap (slice_get t.objects) is ∙ there

pub record IsNamed (org : ℕ) (q : OrgPlan) (t : Tenant) (name : List ℕ) (l : Layout) : Type 0 where
  pub object : Numbered
  pub named : object_named t name ≡ Some object
  pub there : object_numbered t l.object ≡ Some object.object
  pub same : l.name ≡ object.object.name
  pub organisation : l.org ≡ org
  pub layout : IsLayout q t l

pub named_is : (org : ℕ) (q : OrgPlan) (t : Tenant) (name : List ℕ) (l : Layout) → NamesLayout org q t name (Ok l) → IsNamed org q t name l
unfolding own_layout
named_is org q t name l h =
    let o : Numbered = h.0 in
    let there : object_numbered t o.number ≡ Some o.object = named_there t name o h.1 in
    let same : l ≡ layout_of org q t o = h.2 in
    let is : option_map (layout_of org q t) (option_map (λ (x : Object). record { number = o.number; object = x }) (object_numbered t o.number)) ≡ Some (layout_of org q t o) =
    ap (λ (x : Option Object). option_map (layout_of org q t) (option_map (λ (x : Object). record { number = o.number; object = x }) x)) there in
    record {
      object = o;
      named = h.1;
      there = ap (λ (x : Layout). object_numbered t x.object) same ∙ there;
      same = ap (λ (x : Layout). x.name) same;
      organisation = ap (λ (x : Layout). x.org) same;
      layout = subst (λ (x : Layout). own_layout x.org x.object q (Some t) ≡ Some x) (sym same) is;
    }

-- the rules of an object that is named
pub rules_told_so : (org : ℕ) (q : OrgPlan) (t : Tenant) (name : List ℕ) (l : Layout) (r : Result Json EditFail) → IsNamed org q t name l
    → TellsSo (Ok (rules_by_rows l.name (rule_rows l.org l.object t))) r → TellsSo (of_object t name (λ o. Ok (validation_rules_json o.object))) r
rules_told_so org q t name l r is told =
    told_again (of_object t name (λ o. Ok (validation_rules_json o.object))) (Ok (rules_by_rows l.name (rule_rows l.org l.object t))) r
    (ap (λ (o : Option Numbered). in_case o (Err (InvalidType name)) (λ (o : Numbered). Ok (validation_rules_json o.object))) is.named
    ∙ ap Ok (sym (rules_are l.org l.object t is.object.object l.name (rule_rows l.org l.object t) is.there is.same refl)))
    told
