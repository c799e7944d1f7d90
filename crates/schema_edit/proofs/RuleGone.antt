-- The removal of a validation rule takes the row of its object to the one with a rule less, and the rule's own row away.
use Rattle.std.proofs.Common.{◌≡◌, ◌∙◌, ℕ, ◌-◌, ◌<◌, ◌^◌, Bool, true, false, not, ◌&&◌, cond, eqb, List, [], ◌∷◌, length, Some, None, refl, sym, ap, subst, arith, bytes_eq}
use Rattle.std.specs.Prelude.{Err}
use Rattle.std.specs.List.{AllByRecursion, list_any}
use Rattle.std.specs.Str.{IsUtf8}
use Rattle.base_lemmas.proofs.Bools.{by_answer as pick}
use Rattle.store_edit.specs.Edits.{Takes}
use Rattle.store_edit.specs.Rows.{change_to}
use Rattle.store_rows.specs.declared.object.ObjectRow.{ObjectRow}
use Rattle.store_rows.specs.Keys as key
use Rattle.store_rows.specs.Keys.{FitsKey, Key}
use Rattle.store_rows.specs.Rows.{object_form, validation_form}
use Rattle.model.specs.declared.refusal.Refusal.TheVariants.{NotFound}
use Rattle.model.specs.Fields.{same_name}
use Rattle.model.specs.Objects.{Numbered, object_named, object_numbered, with_object_changed}
use Rattle.model.specs.Rules.{Rule, first_refusal, refuse_if}
use Rattle.model.specs.Sound.{IsSound}
use Rattle.model.specs.Tenant.{Object, Tenant, ValidationRule}
use Rattle.model.specs.ValidationRules.{remove_validation_rule, without_validation_rule}
use Rattle.model.specs.Verdict.{Verdict, accept, done, unless}
use Rattle.store_abstraction.specs.Local.{IsIn}
use Rattle.store_abstraction.specs.Metadata.{lower_bytes, named_so, row_of_object}
use Rattle.store_abstraction.specs.Plan.{FitsPlan, OrgPlan}
use Rattle.store_abstraction.specs.Records.{is_rule_key, rule_at}
use Rattle.store_abstraction.specs.Stands.{org_of_key}
use Rattle.schema_edit.specs.inner.Rows.{HasRow}
use Rattle.schema_edit.specs.inner.RuleReads.{IsRead}
use Rattle.schema_edit.specs.inner.RuleRemovals.{FitsRemoval, changes_of, removal_by}
use Rattle.schema_edit.specs.declared.edits.reading.ReadObject.{ReadObject}
use Rattle.schema_edit.specs.declared.edits.removing.RuleRemoval.{RuleRemoval}
use Rattle.schema_edit.specs.Judging.{verdict_refusal}
use Rattle.schema_edit.proofs.AccessEdits.{DescribedFits, ObjectFits, SamePlan, get_changed, own_row}
use Rattle.schema_edit.proofs.Editing.{beside, named_at, other_object, other_rule}
use Rattle.schema_edit.proofs.FieldStands.{sound_object}
use Rattle.schema_edit.proofs.NamedThings.{any_turned, is_gone, one_less, some_passes, stays}
use Rattle.schema_edit.proofs.RuleStands.{Described, rule_row}
use Rattle.store_edit.proofs.Putting.{put_is_in, put_is_of}

-- what `store_abstraction` says of rows where an object is changed but for its fields, and `model_invariant` of the tenant
abbrev pub RemovalSound : Type 0
RemovalSound = (t : Tenant) (object name : List ℕ) → IsSound t → IsSound (remove_validation_rule t object name).tenant

pub record RemovalLaws : Type 0 where
  pub described : Described
  pub object_fits : ObjectFits
  pub plan_fits : DescribedFits
  pub sound : RemovalSound

-- ---- verdicts

-- whether the object has a rule with the name
abbrev has_rule : Object → (name : List ℕ) → Bool
has_rule o name = list_any (λ r. same_name r.name name) o.validation_rules

module _ (t : Tenant) (object name : List ℕ) (o : Numbered) (there : object_named t object ≡ Some o) where
  abbrev left : Tenant
  left = with_object_changed o.number (without_validation_rule name) t

  removed_by : remove_validation_rule t object name ≡ unless (first_refusal (refuse_if (not (has_rule o.object name)) NotFound ∷ [])) t (accept done left)
  removed_by = rw there refl

  removed_where : (absent : Bool) → not (has_rule o.object name) ≡ absent → remove_validation_rule t object name ≡ unless (first_refusal (refuse_if absent NotFound ∷ [])) t (accept done left)
  removed_where absent e = removed_by ∙ ap (λ (b : Bool). unless (first_refusal (refuse_if b NotFound ∷ [])) t (accept done left)) e

  removed_if_there : None ≡ verdict_refusal (remove_validation_rule t object name) → has_rule o.object name ≡ true
  removed_if_there free = by (has_rule o.object name) refl
    where
      by : (b : Bool) → has_rule o.object name ≡ b → b ≡ true
      by true e = refl
      by false e = absurd (absent (free ∙ ap verdict_refusal (removed_where true (ap not e))))
        where
          absent : ◌≡◌ {A = Rule} None (Some NotFound) → ⊥
          absent e = cc

-- by what was read of the object
module _ (org : ℕ) (t : Tenant) (object name : List ℕ) (read : ReadObject) (is : IsRead org t object name read) where
  seen : has_rule is.numbered.object name ≡ read.has_rule
  seen = any_turned (λ (r : ValidationRule). r.name) name is.numbered.object.validation_rules ∙ sym is.ruled.named

  pub removal_refused : not read.has_rule ≡ true → (remove_validation_rule t object name).answer ≡ Err NotFound
  removal_refused e = ap (λ (v : Verdict). v.answer) (removed_where t object name is.numbered is.there true (ap not seen ∙ e))

  pub removal_free : not read.has_rule ≡ false → None ≡ verdict_refusal (remove_validation_rule t object name)
  removal_free e = sym (ap verdict_refusal (removed_where t object name is.numbered is.there false (ap not seen ∙ e)))

-- ---- what is changed

-- the rules with other names stay
rule_stays : (n : ℕ) (name : List ℕ) (k : Key) (o : Object) → is_rule_key n (lower_bytes name) k ≡ false → rule_at n k (without_validation_rule name o) ≡ rule_at n k o
rule_stays n name (key.Validation org m lower) o e =
    pick (eqb m n) (λ b. (b && bytes_eq lower (lower_bytes name)) ≡ false → cond b (named_so (λ (r : ValidationRule). r.name) (without_validation_rule name o).validation_rules lower) None ≡ cond b (named_so (λ (r : ValidationRule). r.name) o.validation_rules lower) None)
    (λ _ apart. stays (λ (r : ValidationRule). r.name) name lower apart o.validation_rules)
    (λ _ _. refl)
    e
rule_stays n name k o e = refl

-- the object has a rule, and it counts one less without it
module _ (org : ℕ) (t : Tenant) (object name : List ℕ) (row : ObjectRow) (free : None ≡ verdict_refusal (remove_validation_rule t object name)) (h : HasRow org t object row) where
  abbrev rules : List ValidationRule
  rules = h.numbered.object.validation_rules

  rule_there : has_rule h.numbered.object name ≡ true
  rule_there = removed_if_there t object name h.numbered h.there free

  pub some_rule : 0 < row.validation_rules
  some_rule = omega (arith, some_passes (λ (r : ValidationRule). same_name r.name name) rules rule_there, ap (λ (r : ObjectRow). r.validation_rules) h.is)

  one_rule_less : IsSound t → length (without_validation_rule name h.numbered.object).validation_rules ≡ length rules - 1
  one_rule_less sound =
      let rise = (sound_object t h.numbered.number h.numbered.object sound (named_at t object h.numbered h.there)).rules_rise in
      let less = one_less (λ (r : ValidationRule). r.name) name rules rise rule_there in
      omega (arith, less)

pub removal_takes : RemovalLaws → (org : ℕ) (t : Tenant) (object name : List ℕ) (row : ObjectRow) (removal : RuleRemoval) (q : OrgPlan)
    → org < 2 ^ 32 → FitsPlan q t → IsSound t → None ≡ verdict_refusal (remove_validation_rule t object name) → HasRow org t object row → removal ≡ removal_by row name → FitsRemoval removal
    → Takes org q t (remove_validation_rule t object name) done SamePlan (changes_of removal)
removal_takes laws org t object name row removal q small plan sound_t free h made fits =
    let o = h.numbered in
    let n = o.number in
    let lower = lower_bytes name in
    let x : Object = without_validation_rule name o.object in
    let u = with_object_changed n (without_validation_rule name) t in
    let v = remove_validation_rule t object name in
    let is : v ≡ accept done u = removed_where t object name o h.there false (ap not (rule_there org t object name row free h)) in
    let there = named_at t object o h.there in
    let at_u : object_numbered u n ≡ Some x = get_changed n (without_validation_rule name) t.objects o.object there in
    let sound_u : IsSound u = subst IsSound (ap (λ (v : Verdict). v.tenant) is) (laws.sound t object name sound_t) in
    let next : RuleRemoval = record { object = row_of_object org u n x; key = (org, (tt, (n, lower))) } in
    let made_next : removal ≡ next =
    made ∙ ap (λ (row : ObjectRow). removal_by row name) h.is
    ∙ ap (λ (k : ℕ). record { object = record (row_of_object org t n o.object) { validation_rules = k }; key = (org, (tt, (n, lower))) }) (sym (one_rule_less org t object name row free h sound_t)) in
    let key_fits : FitsKey (key.Validation org n lower) = subst (λ (r : RuleRemoval). FitsKey (validation_form.named r.key)) made_next (validation_form.fits removal.key fits.key) in
    let utf8 : IsUtf8 lower = subst (λ (r : RuleRemoval). IsUtf8 r.key.1.1.1) made_next fits.utf8 in
    let takes : Takes org q t (accept done u) done SamePlan (changes_of next) = record {
      answer = refl;
      sound = sound_u;
      plan = q;
      kept = refl;
      fits = laws.plan_fits q t n (without_validation_rule name) plan (λ x. refl);
      are = (
        put_is_of object_form org q u next.object (laws.object_fits org u n x small sound_u at_u) refl (own_row q u org n x at_u),
        ((key_fits, refl, rule_row org q u n lower None x at_u (is_gone (λ (r : ValidationRule). r.name) name utf8 o.object.validation_rules)), tt),
      );
      rest = λ k of same.
          let one = beside (change_to object_form next.object) ((key.Validation org n lower, None) ∷ []) k same in
          let two = beside (key.Validation org n lower, None) [] k one.1 in
          laws.described q t n (without_validation_rule name) k sound_t (λ o. refl) (λ o. rule_stays n name k o (other_rule org n lower k of two.0)) (other_object org n k of one.0);
    } in
    subst (λ (r : RuleRemoval). Takes org q t v done SamePlan (changes_of r)) (sym made_next)
    (subst (λ (y : Verdict). Takes org q t y done SamePlan (changes_of next)) (sym is) takes)

-- whatever the organisation has, both rows are at its keys
pub removal_own : (org : ℕ) (row : ObjectRow) (name : List ℕ) (removal : RuleRemoval) → FitsRemoval removal → row.org ≡ org → removal ≡ removal_by row name → AllByRecursion (IsIn org) (changes_of removal)
removal_own org row name removal fits own made = (
  put_is_in object_form org removal.object fits.object (ap (λ (r : RuleRemoval). Some r.object.org) made ∙ ap Some own),
  ((validation_form.fits removal.key fits.key, ap (λ (r : RuleRemoval). org_of_key (validation_form.named r.key)) made ∙ ap Some own), tt),
)
