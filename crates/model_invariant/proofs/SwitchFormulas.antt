-- The switch keeps formulas sound: no rule names the field while its values are copied.
use Rattle.std.proofs.Common.{◌≡◌, ℕ, zero, suc, Bool, true, false, not, ◌&&◌, ◌||◌, ◌==◌, cond, List, [], ◌∷◌, Option, Some, None, refl, ap, sym, subst, ◌∙◌, eq-eqb, inl, inr, length, slice_get, nat_lt}
use Rattle.std.specs.Prelude.{Result, Err, is_ok}
use Rattle.std.specs.List.{list_all}
use Rattle.std.specs.Option.{option_and_then}
use Rattle.std.proofs.lemmas.Option.{same_Some as some_is}
use Rattle.std.proofs.lemmas.Bool.{and_from as both}
use Rattle.base_lemmas.proofs.Bools.{and_first as both_left, and_second as both_right, by_answer as pick}
use Rattle.base_value.specs.declared.job.Phase.TheVariants as phase
use Rattle.formula.specs.declared.formula.Formula.{Formula}
use Rattle.model.specs.Limits.{formula_limit}
use Rattle.model.specs.Cases.{in_case}
use Rattle.model.specs.Jobs.{job_step, switched}
use Rattle.model.specs.Objects.{change_at}
use Rattle.model.specs.Retyping.{source_uses}
use Rattle.model.specs.FormulaTexts.{reads_text}
use Rattle.model.specs.RuleFormulas.{formula_of, is_copy, names_field}
use Rattle.model_invariant.proofs.SoundParts.{HasSoundParts}
use Rattle.model.specs.SoundFormulas.{AreFormulasSound, criteria_read, is_unnamed, source_reads, validations_read}
use Rattle.model.specs.SoundJob.{HasSoundJob, IsSoundJob}
use Rattle.model.specs.Tenant.{Field, Job, Object, SharingRule, Source, owned, meets, Tenant, ValidationRule}
use Rattle.model_invariant.specs.rule_text.Reading.{ReadsOtherTypes}
use Rattle.model_invariant.proofs.Parts.{list_all_at, list_all_from}
use Rattle.model_invariant.proofs.Changes.{changed_or_not}
use Rattle.model_invariant.proofs.FormulasSound.{IsUnnamed, free, free_rule}
use Rattle.model_invariant.proofs.JobFormulas.{step_formulas}

module _ (law : ReadsOtherTypes) (t : Tenant) (s : AreFormulasSound t) (j : Job) (is : t.job ≡ Some j) (copy : j.phase ≡ phase.Copy)
    (p : Object) (there : slice_get t.objects j.object ≡ Some p) where
  abbrev change : Object → Object
  change o = record o { fields = change_at j.field (λ f. record f { kind = j.to }) o.fields }

  abbrev now : List Object
  now = change_at j.object change t.objects

  same_formula : (c : Bool) (text : List ℕ) → is_ok (formula_of p c text) ≡ true → not (names_field (suc j.field) (formula_of p c text)) ≡ true → formula_of (change p) c text ≡ formula_of p c text
  unfolding formula_of
  same_formula c text h g =
      pick (nat_lt formula_limit (length text)) (λ b. is_ok (cond b (Err 0) (reads_text p c text)) ≡ true → not (names_field (suc j.field) (cond b (Err 0) (reads_text p c text))) ≡ true → cond b (Err 0) (reads_text (change p) c text) ≡ cond b (Err 0) (reads_text p c text))
      (λ _ e f. refl) (λ _ e f. law p j.field j.to c text e f) h g

  -- no rule names the field
  unnamed : is_unnamed t.sharing_rules j p ≡ true
  unnamed =
      let h : IsUnnamed t.objects t.sharing_rules (Some j) = subst (λ (z : Option Job). IsUnnamed t.objects t.sharing_rules z) is s.unnamed in
      sym (ap (λ z. in_case z true (is_unnamed t.sharing_rules j)) there) ∙ (sym (ap (λ z. not (is_copy z) || in_case (slice_get t.objects j.object) true (is_unnamed t.sharing_rules j)) copy) ∙ h)

  abbrev rules_free : Bool
  rules_free = list_all (free_rule j p) p.validation_rules

  abbrev sharing_free : Bool
  sharing_free = list_all (free j p) t.sharing_rules

  changed_reads : validations_read p ≡ true → validations_read (change p) ≡ true
  changed_reads h =
      list_all_from (λ (r : ValidationRule). is_ok (formula_of (change p) false r.formula)) p.validation_rules (λ r m.
      let good = list_all_at (λ (r : ValidationRule). is_ok (formula_of p false r.formula)) r p.validation_rules h m in
      ap (λ (z : Result Formula ℕ). is_ok z) (same_formula false r.formula good (list_all_at (free_rule j p) r p.validation_rules (both_left rules_free sharing_free unnamed) m)) ∙ good)

  validations_over : (n : ℕ) (os : List Object) → slice_get os n ≡ Some p → list_all validations_read os ≡ true → list_all validations_read (change_at n change os) ≡ true
  validations_over n [] e h = absurd cc
  validations_over zero (o ∷ os) e h =
      let same : o ≡ p = some_is o p e in
      both (validations_read (change o)) (list_all validations_read os)
      (ap (λ (z : Object). validations_read (change z)) same ∙ changed_reads (ap validations_read (sym same) ∙ both_left (validations_read o) (list_all validations_read os) h))
      (both_right (validations_read o) (list_all validations_read os) h)
  validations_over (suc n) (o ∷ os) e h =
      both (validations_read o) (list_all validations_read (change_at n change os)) (both_left (validations_read o) (list_all validations_read os) h)
      (validations_over n os e (both_right (validations_read o) (list_all validations_read os) h))

  source_over : (source : Source) → source_reads source p ≡ true → not (source_uses p j.field source) ≡ true → source_reads source (change p) ≡ true
  source_over (owned q) h g = refl
  source_over (meets text) h g = ap (λ (z : Result Formula ℕ). is_ok z) (same_formula true text h g) ∙ h

  criteria_over : (r : SharingRule) → criteria_read t.objects r ≡ true → not ((r.object == j.object) && source_uses p j.field r.source) ≡ true → criteria_read now r ≡ true
  criteria_over r h g =
      elim (changed_or_not change j.object t.objects p there r.object) [
        | inl c ↦
            let at : slice_get t.objects r.object ≡ Some p = ap (slice_get t.objects) c.0 ∙ there in
            ap (λ z. in_case z false (source_reads r.source)) c.1
            ∙ source_over r.source (sym (ap (λ z. in_case z false (source_reads r.source)) at) ∙ h) (sym (ap (λ b. not (b && source_uses p j.field r.source)) (eq-eqb r.object j.object c.0)) ∙ g)
        | inr c ↦ ap (λ z. in_case z false (source_reads r.source)) c.1 ∙ h
      ]

  switch_formulas : AreFormulasSound (switched j t)
  switch_formulas =
      record {
        validations = validations_over j.object t.objects there s.validations;
        criteria = list_all_from (criteria_read now) t.sharing_rules (λ r m. criteria_over r (list_all_at (criteria_read t.objects) r t.sharing_rules s.criteria m) (list_all_at (free j p) r t.sharing_rules (both_right rules_free sharing_free unnamed) m));
        unnamed = refl;
      }

-- every step
pub any_step_formulas : ReadsOtherTypes → (t : Tenant) → HasSoundParts t → AreFormulasSound t → AreFormulasSound (job_step t)
any_step_formulas law t sound s =
    step_formulas t s (λ j is copy left.
    let h : IsSoundJob t.counter t.objects t.records j = subst (λ (z : Option Job). HasSoundJob t.counter t.objects t.records z) is sound.job in
    by j is copy (slice_get t.objects j.object) refl h.there)
  where
    by : (j : Job) → t.job ≡ Some j → j.phase ≡ phase.Copy → (p : Option Object) → slice_get t.objects j.object ≡ p → {f : Field} → option_and_then (λ (o : Object). slice_get o.fields j.field) p ≡ Some f → AreFormulasSound (switched j t)
    by j is copy None e h = absurd cc
    by j is copy (Some p) e h = switch_formulas law t s j is copy p e
