-- New objects and fields keep formulas sound.
use Rattle.std.proofs.Common.{◌≡◌, ℕ, zero, suc, Bool, true, false, not, ◌&&◌, ◌||◌, ◌==◌, cond, List, [], ◌∷◌, ◌++◌, length, Option, Some, None, refl, ap, sym, ◌∙◌, inl, inr, slice_get, nat_lt}
use Rattle.std.specs.Prelude.{Result, Err, is_ok}
use Rattle.std.specs.List.{list_all}
use Rattle.std.specs.Option.{option_and_then}
use Rattle.std.proofs.lemmas.Bool.{eqb-true, and_from as both}
use Rattle.base_lemmas.proofs.Bools.{and_first as both_left, and_second as both_right, by_answer as pick}
use Rattle.formula.specs.declared.formula.Formula.{Formula}
use Rattle.model.specs.Limits.{formula_limit}
use Rattle.model.specs.declared.record.Record.{Record}
use Rattle.model.specs.Cases.{in_case}
use Rattle.model.specs.declared.metadata_bodies.NewObject.{NewObject}
use Rattle.model.specs.Metadata.{add_object, new_object, object_rules}
use Rattle.model.specs.declared.metadata_bodies.NewField.{NewField}
use Rattle.model.specs.declared.metadata_bodies.SpelledType.{SpelledType}
use Rattle.model.specs.declared.metadata_bodies.SpelledType.TheVariants.{Plain, LookupTo}
use Rattle.model.specs.NewFields.{add_field, field_rules, new_field, on_target, with_field}
use Rattle.model.specs.Objects.{Numbered, change_at}
use Rattle.model.specs.Retyping.{source_uses}
use Rattle.model.specs.FormulaTexts.{reads_text}
use Rattle.model.specs.RuleFormulas.{formula_of, is_copy, names_field}
use Rattle.model_invariant.proofs.SoundParts.{HasSoundParts}
use Rattle.model.specs.SoundFormulas.{AreFormulasSound, criteria_read, is_unnamed, source_reads, validations_read}
use Rattle.model.specs.SoundJob.{HasSoundJob}
use Rattle.model.specs.Tenant.{Field, Job, Object, SharingRule, Source, owned, meets, Tenant, ValidationRule}
use Rattle.model.specs.Verdict.{accept, done, judged, on_object}
use Rattle.model_invariant.specs.rule_text.Reading.{ReadsOverMore}
use Rattle.model_invariant.proofs.Parts.{list_all_at, list_all_from, list_all_more}
use Rattle.model_invariant.proofs.Changes.{at_has, changed_or_not}
use Rattle.model_invariant.proofs.FormulasSound.{IsUnnamed, free, free_rule}
use Rattle.model_invariant.proofs.NewFieldsSound.{add}
use Rattle.model_invariant.proofs.NewObjects.{get_before}
use Rattle.model_invariant.proofs.PeopleSound.{when_judged}
use Rattle.model_invariant.proofs.SharingSound.{when_object}

list_all_last : {A : Type 0} (q : A → Bool) (xs : List A) (x : A) → list_all q xs ≡ true → q x ≡ true → list_all q (xs ++ x ∷ []) ≡ true
list_all_last q [] x h e = both (q x) true e refl
list_all_last q (y ∷ xs) x h e = both (q y) (list_all q (xs ++ x ∷ [])) (both_left (q y) (list_all q xs) h) (list_all_last q xs x (both_right (q y) (list_all q xs) h) e)

-- with other objects, where the job's object is still free
unnamed_over : (os now : List Object) (rules : List SharingRule) (records : List Record) (counter : ℕ) (job : Option Job) → HasSoundJob counter os records job
    → ((j : Job) (x : Object) → slice_get os j.object ≡ Some x → is_unnamed rules j x ≡ true → in_case (slice_get now j.object) true (is_unnamed rules j) ≡ true)
    → IsUnnamed os rules job → IsUnnamed now rules job
unnamed_over os now rules records counter None s g h = tt
unnamed_over os now rules records counter (Some j) s g h = by (is_copy j.phase) h
  where
    found : (x : Option Object) → slice_get os j.object ≡ x → option_and_then (λ (o : Object). slice_get o.fields j.field) x ≡ Some s.field → in_case (slice_get os j.object) true (is_unnamed rules j) ≡ true
        → in_case (slice_get now j.object) true (is_unnamed rules j) ≡ true
    found None w there old = absurd cc
    found (Some x) w there old = g j x w (sym (ap (λ z. in_case z true (is_unnamed rules j)) w) ∙ old)

    by : (b : Bool) → (not b || in_case (slice_get os j.object) true (is_unnamed rules j)) ≡ true → (not b || in_case (slice_get now j.object) true (is_unnamed rules j)) ≡ true
    by false h = refl
    by true h = found (slice_get os j.object) refl s.there h

-- ---- a new object
pub add_object_formulas : (t : Tenant) (b : NewObject) → HasSoundParts t → AreFormulasSound t → AreFormulasSound (add_object t b).tenant
add_object_formulas t b sound s =
    let x = new_object t b in
    let now = t.objects ++ x ∷ [] in
    when_judged AreFormulasSound t (object_rules t b) (accept done (record t { objects = t.objects ++ new_object t b ∷ [] })) s (λ _.
    record {
      validations = list_all_last validations_read t.objects x s.validations refl;
      criteria = list_all_more (criteria_read t.objects) (criteria_read now) criteria_over t.sharing_rules s.criteria;
      unnamed = unnamed_over t.objects now t.sharing_rules t.records t.counter t.job sound.job (λ j o e old. ap (λ z. in_case z true (is_unnamed t.sharing_rules j)) (get_before t.objects x j.object o e) ∙ old) s.unnamed;
    })
  where
    criteria_over : (r : SharingRule) → criteria_read t.objects r ≡ true → criteria_read (t.objects ++ new_object t b ∷ []) r ≡ true
    criteria_over r h = by (slice_get t.objects r.object) refl h
      where
        by : (o : Option Object) → slice_get t.objects r.object ≡ o → in_case o false (source_reads r.source) ≡ true → criteria_read (t.objects ++ new_object t b ∷ []) r ≡ true
        by None w h = absurd cc
        by (Some o) w h = ap (λ z. in_case z false (source_reads r.source)) (get_before t.objects (new_object t b) r.object o w) ∙ h

-- ---- a new field
module _ (law : ReadsOverMore) (f : Field) where
  same_formula : (o : Object) (c : Bool) (text : List ℕ) → is_ok (formula_of o c text) ≡ true → formula_of (add f o) c text ≡ formula_of o c text
  unfolding formula_of
  same_formula o c text h =
      pick (nat_lt formula_limit (length text)) (λ b. is_ok (cond b (Err 0) (reads_text o c text)) ≡ true → cond b (Err 0) (reads_text (add f o) c text) ≡ cond b (Err 0) (reads_text o c text)) (λ _ e. refl) (λ _ e. law o f c text e) h

  validations_over : (n : ℕ) (os : List Object) → list_all validations_read os ≡ true → list_all validations_read (change_at n (add f) os) ≡ true
  validations_over n [] h = refl
  validations_over zero (o ∷ os) h =
      both (validations_read (add f o)) (list_all validations_read os)
      (list_all_more (λ (r : ValidationRule). is_ok (formula_of o false r.formula)) (λ r. is_ok (formula_of (add f o) false r.formula)) (λ r e. ap (λ (z : Result Formula ℕ). is_ok z) (same_formula o false r.formula e) ∙ e) o.validation_rules
      (both_left (validations_read o) (list_all validations_read os) h))
      (both_right (validations_read o) (list_all validations_read os) h)
  validations_over (suc n) (o ∷ os) h =
      both (validations_read o) (list_all validations_read (change_at n (add f) os)) (both_left (validations_read o) (list_all validations_read os) h)
      (validations_over n os (both_right (validations_read o) (list_all validations_read os) h))

  source_over : (o : Object) (source : Source) → source_reads source o ≡ true → source_reads source (add f o) ≡ true
  source_over o (owned q) h = refl
  source_over o (meets text) h = ap (λ (z : Result Formula ℕ). is_ok z) (same_formula o true text h) ∙ h

  uses_over : (o : Object) (place : ℕ) (source : Source) → source_reads source o ≡ true → source_uses (add f o) place source ≡ source_uses o place source
  uses_over o place (owned q) h = refl
  uses_over o place (meets text) h = ap (names_field (suc place)) (same_formula o true text h)

  module _ (t : Tenant) (sound : HasSoundParts t) (s : AreFormulasSound t) (n : ℕ) (p : Object) (there : slice_get t.objects n ≡ Some p) where
    abbrev now : List Object
    now = change_at n (add f) t.objects

    criteria_over : (r : SharingRule) → criteria_read t.objects r ≡ true → criteria_read now r ≡ true
    criteria_over r h =
        elim (changed_or_not (add f) n t.objects p there r.object) [
          | inl c ↦ ap (λ z. in_case z false (source_reads r.source)) c.1 ∙ source_over p r.source (sym (ap (λ z. in_case z false (source_reads r.source)) (ap (slice_get t.objects) c.0 ∙ there)) ∙ h)
          | inr c ↦ ap (λ z. in_case z false (source_reads r.source)) c.1 ∙ h
        ]

    still : (j : Job) → j.object ≡ n → is_unnamed t.sharing_rules j p ≡ true → is_unnamed t.sharing_rules j (add f p) ≡ true
    still j same h =
        let first = list_all (free_rule j p) p.validation_rules in
        let second = list_all (free j p) t.sharing_rules in
        let spelled = list_all_at validations_read p t.objects s.validations (at_has n t.objects p there) in
        both (list_all (free_rule j (add f p)) p.validation_rules) (list_all (free j (add f p)) t.sharing_rules)
        (list_all_from (free_rule j (add f p)) p.validation_rules (λ r m.
        ap (λ (z : Result Formula ℕ). not (names_field (suc j.field) z)) (same_formula p false r.formula (list_all_at (λ (r : ValidationRule). is_ok (formula_of p false r.formula)) r p.validation_rules spelled m))
        ∙ list_all_at (free_rule j p) r p.validation_rules (both_left first second h) m))
        (list_all_from (free j (add f p)) t.sharing_rules (λ r m. by r (r.object == j.object) refl (list_all_at (criteria_read t.objects) r t.sharing_rules s.criteria m) (list_all_at (free j p) r t.sharing_rules (both_right first second h) m)))
      where
        by : (r : SharingRule) (b : Bool) → (r.object == j.object) ≡ b → criteria_read t.objects r ≡ true → not (b && source_uses p j.field r.source) ≡ true → not (b && source_uses (add f p) j.field r.source) ≡ true
        by r false w reads_well old = refl
        by r true w reads_well old =
            let its : slice_get t.objects r.object ≡ Some p = ap (slice_get t.objects) (eqb-true r.object j.object w ∙ same) ∙ there in
            ap not (uses_over p j.field r.source (sym (ap (λ z. in_case z false (source_reads r.source)) its) ∙ reads_well)) ∙ old

    field_formulas : AreFormulasSound (with_field n f t)
    field_formulas =
        record {
          validations = validations_over n t.objects s.validations;
          criteria = list_all_more (criteria_read t.objects) (criteria_read now) criteria_over t.sharing_rules s.criteria;
          unnamed = unnamed_over t.objects now t.sharing_rules t.records t.counter t.job sound.job (λ j x e old.
              elim (changed_or_not (add f) n t.objects p there j.object) [
                | inl c ↦ ap (λ z. in_case z true (is_unnamed t.sharing_rules j)) c.1 ∙ still j c.0 (ap (is_unnamed t.sharing_rules j) (some_is p x (sym there ∙ sym (ap (slice_get t.objects) c.0) ∙ e)) ∙ old)
                | inr c ↦ ap (λ z. in_case z true (is_unnamed t.sharing_rules j)) (c.1 ∙ e) ∙ old
              ]) s.unnamed;
        }
      where
        some_is : (a b : Object) → Some a ≡ Some b → a ≡ b
        some_is a b e = ap (λ w. in_case w a (λ z. z)) e

pub add_field_formulas : ReadsOverMore → (t : Tenant) (b : NewField) → HasSoundParts t → AreFormulasSound t → AreFormulasSound (add_field t b).tenant
add_field_formulas law t b sound s = by b.kind
  where
    on : (o : Numbered) → slice_get t.objects o.number ≡ Some o.object → (target : Option ℕ) (c : NewField) → AreFormulasSound (judged t (field_rules t o target c) (accept done (with_field o.number (new_field target c) t))).tenant
    on o at target c =
        when_judged AreFormulasSound t (field_rules t o target c) (accept done (with_field o.number (new_field target c) t)) s (λ _.
        field_formulas law (new_field target c) t sound s o.number o.object at)

    by : (kind : SpelledType)
        → AreFormulasSound (on_object t b.object (λ o. on_target t kind (λ target. judged t (field_rules t o target (record b { kind = kind })) (accept done (with_field o.number (new_field target (record b { kind = kind })) t))))).tenant
    by (Plain kind) =
        when_object AreFormulasSound t b.object (λ o. judged t (field_rules t o None (record b { kind = Plain kind })) (accept done (with_field o.number (new_field None (record b { kind = Plain kind })) t))) s (λ o at.
        on o at None (record b { kind = Plain kind }))
    by (LookupTo object d child) =
        let c : NewField = record b { kind = LookupTo object d child } in
        when_object AreFormulasSound t b.object (λ o. on_object t object (λ q. judged t (field_rules t o (Some q.number) c) (accept done (with_field o.number (new_field (Some q.number) c) t)))) s (λ o at.
        when_object AreFormulasSound t object (λ q. judged t (field_rules t o (Some q.number) c) (accept done (with_field o.number (new_field (Some q.number) c) t))) s (λ q there. on o at (Some q.number) c))
