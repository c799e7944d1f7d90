-- A change of a field's type keeps that no rule names the field while its values are copied.
use Rattle.std.proofs.Common.{◌≡◌, ℕ, true, false, not, ◌&&◌, ◌==◌, List, [], ◌∷◌, Option, Some, None, refl, ap, ◌∙◌, slice_get}
use Rattle.std.specs.List.{find, list_all}
use Rattle.std.proofs.lemmas.Bool.{and_from as both}
use Rattle.base_value.specs.declared.job.Outcome.TheVariants as outcome
use Rattle.base_value.specs.declared.job.Phase.{Phase}
use Rattle.base_value.specs.declared.job.Phase.TheVariants as phase
use Rattle.base_value.specs.declared.value.FieldType.{FieldType}
use Rattle.model.specs.declared.record.Record.{Record}
use Rattle.model.specs.declared.refusal.Refusal.TheVariants as refusal
use Rattle.model.specs.Cases.{in_case}
use Rattle.model.specs.Fields.{Column, Site, column_named}
use Rattle.model.specs.Jobs.{clear_step, copy_step, failed_at, is_bad, job_step, moved, next_hundred, step_in, switched}
use Rattle.model.specs.declared.metadata_bodies.SpelledType.{SpelledType}
use Rattle.model.specs.Objects.{Numbered}
use Rattle.model.specs.Retyping.{begin_on, begin_retype, cancel_retype, in_use, new_job, new_type, place_to_change, source_uses, to_clear, under_way, uses, with_job}
use Rattle.model.specs.RuleFormulas.{is_copy}
use Rattle.model.specs.Rules.{first_of, refuse_if}
use Rattle.model.specs.SoundFormulas.{AreFormulasSound, is_unnamed}
use Rattle.model.specs.Tenant.{Job, SharingRule, Tenant, ValidationRule}
use Rattle.model.specs.Verdict.{accept, done, judged, refuse}
use Rattle.model_invariant.proofs.Parts.{list_all_from, none_refuses, unrefused}
use Rattle.model_invariant.proofs.ContentSound.{none_for_each}
use Rattle.model_invariant.proofs.FormulasSound.{IsUnnamed, free, free_rule}
use Rattle.model_invariant.proofs.PeopleSound.{when_judged}
use Rattle.model_invariant.proofs.SharingSound.{when_object}

module _ (t : Tenant) (s : AreFormulasSound t) where
  job_formulas : (j : Job) → IsUnnamed t.objects t.sharing_rules (Some j) → AreFormulasSound (with_job j t)
  job_formulas j h = record { validations = s.validations; criteria = s.criteria; unnamed = h }

  -- no rule names the field of a job that begins
  begun : (o : Numbered) → slice_get t.objects o.number ≡ Some o.object → (place : ℕ) (to : FieldType) (field : List ℕ) → in_use t o place field ≡ None → IsUnnamed t.objects t.sharing_rules (Some (new_job o.number place to))
  begun o at place to field e =
      let j = new_job o.number place to in
      let rules = none_refuses (
      first_of (λ (r : ValidationRule). refuse_if (uses o.object false place r.formula) (refusal.FieldInUse field r.name)) o.object.validation_rules
      ∷ first_of (λ (r : SharingRule). refuse_if ((r.object == o.number) && source_uses o.object place r.source) (refusal.FieldInUse field r.name)) t.sharing_rules ∷ []) e in
      ap (λ z. in_case z true (is_unnamed t.sharing_rules j)) at
      ∙ both (list_all (free_rule j o.object) o.object.validation_rules) (list_all (free j o.object) t.sharing_rules)
      (list_all_from (free_rule j o.object) o.object.validation_rules (λ r m.
      ap not (unrefused (uses o.object false place r.formula) (refusal.FieldInUse field r.name)
      (none_for_each (λ (r : ValidationRule). refuse_if (uses o.object false place r.formula) (refusal.FieldInUse field r.name)) o.object.validation_rules rules.0 r m))))
      (list_all_from (free j o.object) t.sharing_rules (λ r m.
      ap not (unrefused ((r.object == o.number) && source_uses o.object place r.source) (refusal.FieldInUse field r.name)
      (none_for_each (λ (r : SharingRule). refuse_if ((r.object == o.number) && source_uses o.object place r.source) (refusal.FieldInUse field r.name)) t.sharing_rules rules.1.0 r m))))

  begin_on_formulas : (o : Numbered) → slice_get t.objects o.number ≡ Some o.object → (to : FieldType) (field : List ℕ) (w : Site) → AreFormulasSound (begin_on t o to field w).tenant
  begin_on_formulas o at to field w =
      when_judged AreFormulasSound t (under_way t ∷ [])
      (in_case (place_to_change o.object to w) (refuse t (refusal.RetypeUnsupported field)) (λ place. judged t (in_use t o place field ∷ []) (accept done (with_job (new_job o.number place to) t)))) s (λ _.
      by (place_to_change o.object to w))
    where
      by : (p : Option ℕ) → AreFormulasSound (in_case p (refuse t (refusal.RetypeUnsupported field)) (λ place. judged t (in_use t o place field ∷ []) (accept done (with_job (new_job o.number place to) t)))).tenant
      by None = s
      by (Some place) =
          when_judged AreFormulasSound t (in_use t o place field ∷ []) (accept done (with_job (new_job o.number place to) t)) s (λ h.
          job_formulas (new_job o.number place to) (begun o at place to field h.0))

  pub begin_formulas : (object field : List ℕ) (to : SpelledType) → AreFormulasSound (begin_retype t object field to).tenant
  begin_formulas object field to =
      when_object AreFormulasSound t object (λ o. in_case (column_named o.object field) (refuse t (refusal.InvalidField field)) (λ c. begin_on t o (new_type to) c.name c.at)) s (λ o at. by o at (column_named o.object field))
    where
      by : (o : Numbered) → slice_get t.objects o.number ≡ Some o.object → (c : Option Column) → AreFormulasSound (in_case c (refuse t (refusal.InvalidField field)) (λ c. begin_on t o (new_type to) c.name c.at)).tenant
      by o at None = s
      by o at (Some c) = begin_on_formulas o at (new_type to) c.name c.at

  pub cancel_formulas : AreFormulasSound (cancel_retype t).tenant
  cancel_formulas = by t.job
    where
      by : (job : Option Job) → AreFormulasSound (in_case job (refuse t refusal.NotFound) (λ j. judged t (refuse_if (not (is_copy j.phase)) refusal.NotFound ∷ []) (accept done (with_job (to_clear outcome.Cancelled j) t)))).tenant
      by None = s
      by (Some j) =
          when_judged AreFormulasSound t (refuse_if (not (is_copy j.phase)) refusal.NotFound ∷ []) (accept done (with_job (to_clear outcome.Cancelled j) t)) s (λ _.
          job_formulas (to_clear outcome.Cancelled j) refl)

  -- a step but the switch
  pub step_formulas : ((j : Job) → t.job ≡ Some j → j.phase ≡ phase.Copy → next_hundred t j ≡ [] → AreFormulasSound (switched j t)) → AreFormulasSound (job_step t)
  unfolding job_step
  step_formulas switch = by t.job refl s.unnamed
    where
      by : (job : Option Job) → t.job ≡ job → IsUnnamed t.objects t.sharing_rules job → AreFormulasSound (in_case job t (λ j. step_in j.phase j t))
      by None e h = s
      by (Some j) e h = phased j.phase refl
        where
          phased : (p : Phase) → j.phase ≡ p → AreFormulasSound (step_in p j t)
          phased phase.Copy c = copying (next_hundred t j) refl
            where
              copying : (rs : List Record) → next_hundred t j ≡ rs → AreFormulasSound (copy_step j rs t)
              copying [] w = switch j e c w
              copying (r ∷ rs) w = found (find (is_bad t j) (r ∷ rs))
                where
                  found : (x : Option Record) → AreFormulasSound (with_job (in_case x (moved j (r ∷ rs)) (failed_at j)) t)
                  found None = job_formulas (moved j (r ∷ rs)) h
                  found (Some x) = job_formulas (failed_at j x) refl
          phased phase.Clear c = clearing (next_hundred t j)
            where
              clearing : (rs : List Record) → AreFormulasSound (clear_step j rs t)
              clearing [] = job_formulas (record j { phase = phase.Done }) refl
              clearing (r ∷ rs) = job_formulas (moved j (r ∷ rs)) h
          phased phase.Done c = s
