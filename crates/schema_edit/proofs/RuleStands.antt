-- A new validation rule takes the row of its object to the one with a rule more, and puts its own.
use Rattle.std.proofs.Common.{◌≡◌, ◌∙◌, inl, inr, ℕ, ◌+◌, ◌<◌, ◌≤◌, ◌^◌, Bool, true, false, not, cond, is_lt, IsTrue, List, [], ◌∷◌, length, map, Option, Some, None, refl, sym, ap, subst, arith}
use Rattle.std.specs.Prelude.{Err, is_some}
use Rattle.std.specs.List.{AllByRecursion, enumerate_from, list_any}
use Rattle.std.specs.Option.{option_and_then, option_map}
use Rattle.std.proofs.lemmas.Bool.{not-false as so}
use Rattle.base_lemmas.proofs.Options.{none_from_is_some as none_so}
use Rattle.std.proofs.lemmas.Option.{same_Some as some_is}
use Rattle.store_edit.specs.Edits.{Takes}
use Rattle.store_edit.specs.Rows.{change_to}
use Rattle.store_rows.specs.declared.object.ObjectRow.{ObjectRow}
use Rattle.store_rows.specs.Forms.{FitsForm, row_bytes}
use Rattle.store_rows.specs.Keys as key
use Rattle.store_rows.specs.Keys.{Key}
use Rattle.store_rows.specs.Rows.{object_form, validation_form}
use Rattle.model.specs.declared.refusal.Refusal.{Refusal}
use Rattle.model.specs.declared.refusal.Refusal.TheVariants.{InvalidName, NameTaken}
use Rattle.model.specs.Fields.{same_name}
use Rattle.model.specs.Membership.{Has}
use Rattle.model.specs.Names.{is_stem}
use Rattle.model.specs.Objects.{Numbered, object_named, object_numbered, with_object_changed}
use Rattle.model.specs.Ordered.{put_in}
use Rattle.model.specs.RuleFormulas.{name_cmp}
use Rattle.model.specs.Rules.{Rule, first_refusal, refuse_if}
use Rattle.model.specs.Sound.{IsSound}
use Rattle.model.specs.Tenant.{Field, Object, Tenant, ValidationRule}
use Rattle.model.specs.ValidationRules as model
use Rattle.model.specs.declared.metadata_bodies.NewValidationRule.{NewValidationRule}
use Rattle.model.specs.ValidationRules.{add_validation_rule, new_validation_rule_rules, with_validation_rule}
use Rattle.model.specs.Verdict.{Verdict, accept, done, unless}
use Rattle.model_invariant.specs.Fit.{is_fit_validation}
use Rattle.store_abstraction.specs.declared.layout.Layout.{Layout}
use Rattle.store_abstraction.specs.Layouts.{layout_of, place_of}
use Rattle.store_abstraction.specs.Local.{IsIn}
use Rattle.store_abstraction.specs.Metadata.{lower_bytes, named_so, row_of_object, validation_of}
use Rattle.store_abstraction.specs.Plan.{FitsPlan, OrgPlan}
use Rattle.store_abstraction.specs.Records.{is_object_key, is_rule_key, rule_at}
use Rattle.store_abstraction.specs.Stands.{row_in}
use Rattle.schema_edit.specs.inner.Rows.{HasRow}
use Rattle.schema_edit.specs.inner.RuleReads.{IsRead}
use Rattle.schema_edit.specs.inner.RuleRows.{FitRuleRows, IsSpelledRule, changes_of, rows_by}
use Rattle.schema_edit.specs.declared.edits.reading.ReadObject.{ReadObject}
use Rattle.schema_edit.specs.declared.edits.validation.NewRuleRows.{NewRuleRows}
use Rattle.schema_edit.specs.Judging.{verdict_refusal}
use Rattle.schema_edit.proofs.AccessEdits.{DescribedFits, ObjectFits, SamePlan, get_changed, own_row}
use Rattle.schema_edit.proofs.Editing.{beside, named_at, other_object, other_rule, unrefused}
use Rattle.schema_edit.proofs.FieldStands.{sound_object}
use Rattle.store_edit.proofs.Putting.{put_is_in, put_is_of}

-- what `store_abstraction` says of rows where an object has one rule more, and `model_invariant` of the tenant
abbrev pub Described : Type 0
Described = (p : OrgPlan) (t : Tenant) (n : ℕ) (change : Object → Object) (k : Key) → IsSound t → ((o : Object) → (change o).fields ≡ o.fields) → ((o : Object) → rule_at n k (change o) ≡ rule_at n k o)
    → is_object_key n k ≡ false → row_in p (with_object_changed n change t) k ≡ row_in p t k

abbrev pub Ruled : Type 0
Ruled = (n : ℕ) (r : ValidationRule) (k : Key) (o : Object) → is_rule_key n (lower_bytes r.name) k ≡ false → rule_at n k (with_validation_rule r o) ≡ rule_at n k o

abbrev pub RuleFound : Type 0
RuleFound = (t : Tenant) (n : ℕ) (o : Object) (name : List ℕ) → IsSound t → object_numbered t n ≡ Some o → IsTrue (is_stem name)
    → is_some (named_so (λ (r : ValidationRule). r.name) o.validation_rules (lower_bytes name)) ≡ list_any (same_name name) (map (λ (r : ValidationRule). r.name) o.validation_rules)

abbrev pub RulePut : Type 0
RulePut = (r : ValidationRule) (o : Object) → named_so (λ (x : ValidationRule). x.name) o.validation_rules (lower_bytes r.name) ≡ None
    → named_so (λ (x : ValidationRule). x.name) (with_validation_rule r o).validation_rules (lower_bytes r.name) ≡ Some r

abbrev pub RuleFits : Type 0
RuleFits = (org : ℕ) (t : Tenant) (n : ℕ) (o : Object) (r : ValidationRule) → org < 2 ^ 32 → IsSound t → object_numbered t n ≡ Some o → Has o.validation_rules r → FitsForm validation_form (validation_of org n r)

abbrev pub RuleSound : Type 0
RuleSound = (t : Tenant) (b : NewValidationRule) → IsTrue (is_fit_validation b) → IsSound t → IsSound (add_validation_rule t b).tenant

pub record RuleLaws : Type 0 where
  pub described : Described
  pub ruled : Ruled
  pub found : RuleFound
  pub put : RulePut
  pub rule_fits : RuleFits
  pub object_fits : ObjectFits
  pub plan_fits : DescribedFits
  pub sound : RuleSound

-- ---- one rule more

length_put : (r : ValidationRule) (rules : List ValidationRule) → length (put_in (λ a b. name_cmp a.name b.name) r rules) ≡ length rules + 1
length_put r [] = refl
length_put r (x ∷ rules) = by (is_lt (name_cmp r.name x.name)) (length_put r rules)
  where
    by : (b : Bool) → length (put_in (λ a b. name_cmp a.name b.name) r rules) ≡ length rules + 1
        → length (cond b (r ∷ x ∷ rules) (x ∷ put_in (λ a b. name_cmp a.name b.name) r rules)) ≡ length (x ∷ rules) + 1
    by true e = omega arith
    by false e = omega (arith, e)

has_put : (r : ValidationRule) (rules : List ValidationRule) → Has (put_in (λ a b. name_cmp a.name b.name) r rules) r
has_put r [] = inl refl
has_put r (x ∷ rules) = by (is_lt (name_cmp r.name x.name)) (has_put r rules)
  where
    by : (b : Bool) → Has (put_in (λ a b. name_cmp a.name b.name) r rules) r → Has (cond b (r ∷ x ∷ rules) (x ∷ put_in (λ a b. name_cmp a.name b.name) r rules)) r
    by true h = inl refl
    by false h = inr h

-- ---- verdicts

ruled_by : (t : Tenant) (b : NewValidationRule) (o : Numbered) → object_named t b.object ≡ Some o
    → add_validation_rule t b ≡ unless (first_refusal (new_validation_rule_rules t o b)) t (accept done (with_object_changed o.number (with_validation_rule (model.validation_of b)) t))
ruled_by t b o there = rw there refl

pub rule_refused : (t : Tenant) (b : NewValidationRule) (o : Numbered) (r : Refusal) → object_named t b.object ≡ Some o → Some r ≡ first_refusal (new_validation_rule_rules t o b) → (add_validation_rule t b).answer ≡ Err r
rule_refused t b o r there e = ap (λ (v : Verdict). v.answer) (ruled_by t b o there) ∙ by (first_refusal (new_validation_rule_rules t o b)) e
  where
    by : (rule : Rule) → Some r ≡ rule → (unless rule t (accept done (with_object_changed o.number (with_validation_rule (model.validation_of b)) t))).answer ≡ Err r
    by None e = absurd cc
    by (Some x) e = ap Err (sym (some_is r x e))

pub rule_free : (t : Tenant) (b : NewValidationRule) (o : Numbered) → object_named t b.object ≡ Some o → None ≡ first_refusal (new_validation_rule_rules t o b) → None ≡ verdict_refusal (add_validation_rule t b)
rule_free t b o there e = by (first_refusal (new_validation_rule_rules t o b)) e ∙ sym (ap verdict_refusal (ruled_by t b o there))
  where
    by : (rule : Rule) → None ≡ rule → None ≡ verdict_refusal (unless rule t (accept done (with_object_changed o.number (with_validation_rule (model.validation_of b)) t)))
    by None e = refl
    by (Some x) e = absurd cc

-- ---- what was read

length_fields : (q : OrgPlan) (n k : ℕ) (fs : List Field) → length (map (place_of q n) (enumerate_from k fs)) ≡ length fs
length_fields q n k [] = refl
length_fields q n k (f ∷ fs) = omega (arith, length_fields q n (k + 1) fs)

-- a layout has few fields
few_fields : (org : ℕ) (q : OrgPlan) (t : Tenant) (name : List ℕ) (o : Numbered) (l : Layout) → IsSound t → object_named t name ≡ Some o → l ≡ layout_of org q t o → length l.fields ≤ 40
few_fields org q t name o l s there is =
    let few = (sound_object t o.number o.object s (named_at t name o there)).few_fields in
    subst (λ (l : Layout). length l.fields ≤ 40) (sym is) (subst (λ (n : ℕ). n ≤ 40) (sym (length_fields q o.number 0 o.object.fields)) few)

-- and so has the one that was read
pub few_read : (org : ℕ) (t : Tenant) (object name : List ℕ) (read : ReadObject) → IsSound t → IsRead org t object name read → length read.layout.fields ≤ 40
few_read org t object name read s is = few_fields is.ruled.layout.0 is.ruled.layout.1 t object is.numbered read.layout s is.there is.ruled.layout.2

-- ---- what is changed

unstopped : (a : Bool) (x : Refusal) → refuse_if a x ≡ None → a ≡ false
unstopped true x e = absurd cc
unstopped false x e = refl

first_two : (a b : Rule) (more : List Rule) → first_refusal (a ∷ b ∷ more) ≡ None → (a ≡ None) × (b ≡ None)
first_two None None more e = (refl, refl)
first_two None (Some b) more e = absurd cc
first_two (Some a) b more e = absurd cc

-- the row at the key of a name, by the rule that the object has by it
pub rule_row : (org : ℕ) (q : OrgPlan) (u : Tenant) (n : ℕ) (lower : List ℕ) (found : Option ValidationRule) (x : Object) → object_numbered u n ≡ Some x → named_so (λ (y : ValidationRule). y.name) x.validation_rules lower ≡ found
    → row_in q u (key.Validation org n lower) ≡ option_map (λ r. row_bytes validation_form (validation_of org n r)) found
unfolding row_in
rule_row org q u n lower found x at is =
    ap (λ (o : Option Object). option_map (λ r. row_bytes validation_form (validation_of org n r)) (option_and_then (λ o. named_so (λ (y : ValidationRule). y.name) o.validation_rules lower) o)) at
    ∙ ap (option_map (λ r. row_bytes validation_form (validation_of org n r))) is

pub rule_takes : RuleLaws → (org : ℕ) (t : Tenant) (b : NewValidationRule) (row : ObjectRow) (rows : NewRuleRows) (q : OrgPlan)
    → org < 2 ^ 32 → FitsPlan q t → IsSound t → IsTrue (is_fit_validation b) → None ≡ verdict_refusal (add_validation_rule t b) → HasRow org t b.object row → rows ≡ rows_by row b
    → Takes org q t (add_validation_rule t b) done SamePlan (changes_of rows)
rule_takes laws org t b row rows q small plan sound_t fit free h made =
    let o = h.numbered in
    let n = o.number in
    let r = model.validation_of b in
    let x : Object = with_validation_rule r o.object in
    let u = with_object_changed n (with_validation_rule r) t in
    let v = add_validation_rule t b in
    let rule = first_refusal (new_validation_rule_rules t o b) in
    let found : v ≡ unless rule t (accept done u) = ruled_by t b o h.there in
    let is : v ≡ accept done u = found ∙ unrefused rule t u (free ∙ ap verdict_refusal found) in
    let pass : rule ≡ None = no_rule rule u (free ∙ ap verdict_refusal found) in
    let two = first_two _ _ _ pass in
    let stem : is_stem b.name ≡ true = so (is_stem b.name) (unstopped (not (is_stem b.name)) (InvalidName b.name) two.0) in
    let there = named_at t b.object o h.there in
    let alone : named_so (λ (x : ValidationRule). x.name) o.object.validation_rules (lower_bytes b.name) ≡ None =
    none_so _ (laws.found t n o.object b.name sound_t there stem ∙ unstopped (list_any (same_name b.name) (map (λ (r : ValidationRule). r.name) o.object.validation_rules)) (NameTaken b.name) two.1) in
    let at_u : object_numbered u n ≡ Some x = get_changed n (with_validation_rule r) t.objects o.object there in
    let sound_u : IsSound u = subst IsSound (ap (λ (v : Verdict). v.tenant) is) (laws.sound t b fit sound_t) in
    let next : NewRuleRows = record { object = row_of_object org u n x; rule = validation_of org n r } in
    let takes : Takes org q t (accept done u) done SamePlan (changes_of next) = record {
      answer = refl;
      sound = sound_u;
      plan = q;
      kept = refl;
      fits = laws.plan_fits q t n (with_validation_rule r) plan (λ x. refl);
      are = (
        put_is_of object_form org q u next.object (laws.object_fits org u n x small sound_u at_u) refl (own_row q u org n x at_u),
        (put_is_of validation_form org q u next.rule (laws.rule_fits org u n x r small sound_u at_u (has_put r o.object.validation_rules)) refl (rule_row org q u n (lower_bytes r.name) (Some r) x at_u (laws.put r o.object alone)), tt),
      );
      rest = λ k of same.
          let one = beside (change_to object_form next.object) (change_to validation_form next.rule ∷ []) k same in
          let two = beside (change_to validation_form next.rule) [] k one.1 in
          laws.described q t n (with_validation_rule r) k sound_t (λ o. refl) (λ o. laws.ruled n r k o (other_rule org n (lower_bytes r.name) k of two.0)) (other_object org n k of one.0);
    } in
    subst (λ (rows : NewRuleRows). Takes org q t v done SamePlan (changes_of rows)) (sym (made ∙ ap (λ (row : ObjectRow). rows_by row b) h.is ∙ ap (λ (k : ℕ). record { object = record (row_of_object org t n o.object) { validation_rules = k }; rule = validation_of org n r }) (sym (length_put r o.object.validation_rules))))
    (subst (λ (y : Verdict). Takes org q t y done SamePlan (changes_of next)) (sym is) takes)
  where
    no_rule : (rule : Rule) (u : Tenant) → None ≡ verdict_refusal (unless rule t (accept done u)) → rule ≡ None
    no_rule None u e = refl
    no_rule (Some x) u e = absurd cc

-- the texts of an accepted rule can stand in a row, and its object can have one rule more
pub rule_spelled : RuleLaws → (org : ℕ) (t : Tenant) (b : NewValidationRule) (row : ObjectRow) → org < 2 ^ 32 → IsSound t → IsTrue (is_fit_validation b) → None ≡ verdict_refusal (add_validation_rule t b) → HasRow org t b.object row
    → IsSpelledRule b × (row.validation_rules < 255)
rule_spelled laws org t b row small sound_t fit free h =
    let o = h.numbered in
    let n = o.number in
    let r = model.validation_of b in
    let x : Object = with_validation_rule r o.object in
    let u = with_object_changed n (with_validation_rule r) t in
    let v = add_validation_rule t b in
    let rule = first_refusal (new_validation_rule_rules t o b) in
    let found : v ≡ unless rule t (accept done u) = ruled_by t b o h.there in
    let is : v ≡ accept done u = found ∙ unrefused rule t u (free ∙ ap verdict_refusal found) in
    let at_u : object_numbered u n ≡ Some x = get_changed n (with_validation_rule r) t.objects o.object (named_at t b.object o h.there) in
    let sound_u : IsSound u = subst IsSound (ap (λ (v : Verdict). v.tenant) is) (laws.sound t b fit sound_t) in
    let texts = laws.rule_fits org u n x r small sound_u at_u (has_put r o.object.validation_rules) in
    let counts = laws.object_fits org u n x small sound_u at_u in (
      record { name = texts.1.0; formula = texts.1.1.0; message = texts.1.1.1 },
      omega (arith, counts.1.1.1.1.1, length_put r o.object.validation_rules, ap (λ (r : ObjectRow). r.validation_rules) h.is),
    )

-- whatever the organisation has, the rows are at its keys
pub rule_own : (org : ℕ) (row : ObjectRow) (b : NewValidationRule) (rows : NewRuleRows) → FitRuleRows rows → row.org ≡ org → rows ≡ rows_by row b → AllByRecursion (IsIn org) (changes_of rows)
rule_own org row b rows fits own made = (
  put_is_in object_form org rows.object fits.object (ap (λ (r : NewRuleRows). Some r.object.org) made ∙ ap Some own),
  (put_is_in validation_form org rows.rule fits.rule (ap (λ (r : NewRuleRows). Some r.rule.org) made ∙ ap Some own), tt),
)
