-- A change of a type that begins leaves a sound tenant.
use Rattle.std.proofs.Common.{◌≡◌, ℕ, Bool, true, false, not, ◌&&◌, ◌||◌, cond, List, [], ◌∷◌, Option, Some, None, refl, ap, subst, ◌∙◌, slice_get}
use Rattle.std.specs.Option.{option_and_then, unwrap_or}
use Rattle.std.proofs.lemmas.Bool.{and_from as both}
use Rattle.base_value.specs.Conversion.{convertible}
use Rattle.base_value.specs.Types.{is_reference, is_type}
use Rattle.base_value.specs.declared.value.FieldType.{FieldType}
use Rattle.base_value.specs.declared.value.FieldType.TheVariants as type
use Rattle.model.specs.declared.refusal.Refusal.TheVariants as refusal
use Rattle.model.specs.Cases.{in_case}
use Rattle.model.specs.Fields.{Column, Site, column_named}
use Rattle.model.specs.declared.metadata_bodies.SpelledType.{SpelledType}
use Rattle.model.specs.Objects.{Numbered}
use Rattle.model.specs.Retyping.{begin_on, begin_retype, can_become, custom_place, in_use, is_checkbox, new_job, new_type, place_to_change, under_way, with_job}
use Rattle.model_invariant.proofs.SoundParts.{HasSoundParts}
use Rattle.model.specs.SoundJob.{copies}
use Rattle.model.specs.SoundRecords.{those_of}
use Rattle.model.specs.Tenant.{Field, Object, Tenant}
use Rattle.model.specs.Verdict.{Verdict, accept, done, judged, refuse}
use Rattle.model_invariant.proofs.Parts.{list_all_from}
use Rattle.model_invariant.proofs.PeopleSound.{when_judged}
use Rattle.model_invariant.proofs.SharingSound.{when_object}
use Rattle.model_invariant.proofs.JobsSound.{job_changed}

convertible_plain : (a b : FieldType) → convertible a b ≡ true → (is_reference a ≡ false) × (is_reference b ≡ false)
convertible_plain (type.Lookup o d) b e = absurd cc
convertible_plain (type.Master o) b e = absurd cc
convertible_plain a (type.Lookup o d) e = absurd cc
convertible_plain a (type.Master o) e = absurd cc
convertible_plain a b e = (refl, refl)

suits : (a b c d : Bool) → (not a && (b && not (c && d))) ≡ true → (a ≡ false) × (b ≡ true) × ((not c || not d) ≡ true)
suits true b c d e = absurd cc
suits false false c d e = absurd cc
suits false true true true e = absurd cc
suits false true true false e = (refl, refl, refl)
suits false true false d e = (refl, refl, refl)

-- a place that can be changed is a field's that can have the type
pub changeable : (o : Object) (to : FieldType) (at : Site) (place : ℕ) → place_to_change o to at ≡ Some place → (f : Field) × (slice_get o.fields place ≡ Some f) × (can_become to f ≡ true)
changeable o to at place e = by (custom_place at) e
  where
    out : (n : ℕ) → Some n ≡ Some place → n ≡ place
    out n e = ap (λ w. unwrap_or w n) e

    by : (p : Option ℕ) → option_and_then (λ place. option_and_then (λ f. cond (can_become to f) (Some place) None) (slice_get o.fields place)) p ≡ Some place → (f : Field) × (slice_get o.fields place ≡ Some f) × (can_become to f ≡ true)
    by None e = absurd cc
    by (Some n) e = at_field (slice_get o.fields n) refl e
      where
        at_field : (f : Option Field) → slice_get o.fields n ≡ f → option_and_then (λ f. cond (can_become to f) (Some n) None) f ≡ Some place → (f : Field) × (slice_get o.fields place ≡ Some f) × (can_become to f ≡ true)
        at_field None g e = absurd cc
        at_field (Some f) g e = fits (can_become to f) refl e
          where
            fits : (b : Bool) → can_become to f ≡ b → cond b (Some n) None ≡ Some place → (f : Field) × (slice_get o.fields place ≡ Some f) × (can_become to f ≡ true)
            fits false h e = absurd cc
            fits true h e = (f, subst (λ (k : ℕ). slice_get o.fields k ≡ Some f) (out n e) g, h)

module _ (t : Tenant) (s : HasSoundParts t) (o : Numbered) (at : slice_get t.objects o.number ≡ Some o.object) (to : FieldType) (bounds : is_type to ≡ true) where
  began : (n : ℕ) (f : Field) → slice_get o.object.fields n ≡ Some f → can_become to f ≡ true → HasSoundParts (with_job (new_job o.number n to) t)
  began n f e fit =
      let w = suits f.unique (convertible f.kind to) f.indexed (is_checkbox to) fit in
      let plain = convertible_plain f.kind to w.1 in
      job_changed t (new_job o.number n to) s (record {
        field = f;
        there = ap (option_and_then (λ (x : Object). slice_get x.fields n)) at ∙ e;
        change = record { unique = w.0; reference = plain.0; to = both (is_type to) (not (is_reference to)) bounds (ap not plain.1); indexed = w.2; converts = w.1; switched = λ e. absurd cc };
        cursor = tt;
        failed = tt;
        open_in_copy = refl;
        failed_where = refl;
        copied = list_all_from (copies (new_job o.number n to)) (those_of o.number t.records) (λ y m. refl);
      })

  pub begin_on_sound : (field : List ℕ) (w : Site) → HasSoundParts (begin_on t o to field w).tenant
  begin_on_sound field w =
      let then : ℕ → Verdict = λ place. judged t (in_use t o place field ∷ []) (accept done (with_job (new_job o.number place to) t)) in
      when_judged HasSoundParts t (under_way t ∷ []) (in_case (place_to_change o.object to w) (refuse t (refusal.RetypeUnsupported field)) then) s (λ _.
      by (place_to_change o.object to w) refl)
    where
      by : (p : Option ℕ) → place_to_change o.object to w ≡ p
          → HasSoundParts (in_case p (refuse t (refusal.RetypeUnsupported field)) (λ place. judged t (in_use t o place field ∷ []) (accept done (with_job (new_job o.number place to) t)))).tenant
      by None e = s
      by (Some place) e =
          let c = changeable o.object to w place e in
          when_judged HasSoundParts t (in_use t o place field ∷ []) (accept done (with_job (new_job o.number place to) t)) s (λ _. began place c.0 c.1 c.2)

pub begin_sound : (t : Tenant) (object field : List ℕ) (to : SpelledType) → is_type (new_type to) ≡ true → HasSoundParts t → HasSoundParts (begin_retype t object field to).tenant
begin_sound t object field to bounds s =
    when_object HasSoundParts t object (λ o. in_case (column_named o.object field) (refuse t (refusal.InvalidField field)) (λ c. begin_on t o (new_type to) c.name c.at)) s (λ o at. by o at (column_named o.object field))
  where
    by : (o : Numbered) → slice_get t.objects o.number ≡ Some o.object → (c : Option Column) → HasSoundParts (in_case c (refuse t (refusal.InvalidField field)) (λ c. begin_on t o (new_type to) c.name c.at)).tenant
    by o at None = s
    by o at (Some c) = begin_on_sound t s o at (new_type to) bounds c.name c.at
