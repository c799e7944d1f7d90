-- What an upsert leaves is sound.
use Rattle.std.proofs.Common.{◌≡◌, ℕ, Bool, true, false, cond, List, [], ◌∷◌, Option, Some, None, slice_get, refl, ap, sym, inl, inr}
use Rattle.std.specs.Prelude.{Ok, Err}
use Rattle.std.specs.List.{find}
use Rattle.std.specs.Option.{unwrap_or}
use Rattle.base_value.specs.declared.sharing.Level.TheVariants.{Edit}
use Rattle.base_value.specs.declared.value.Value.{Value}
use Rattle.model.specs.declared.record.Record.{Record}
use Rattle.model.specs.declared.refusal.Refusal.TheVariants as refusal
use Rattle.model.specs.Cases.{in_case}
use Rattle.model.specs.Creates.{create_on}
use Rattle.model.specs.declared.record_bodies.Assignment.{Assignment}
use Rattle.model.specs.Given.{ReadOr, has_value, record_by_value}
use Rattle.model.specs.Keys.{Key, with_key}
use Rattle.model.specs.Membership.{Has}
use Rattle.model.specs.Objects.{Numbered, is_of, records_of}
use Rattle.model.specs.Paths.{Asked}
use Rattle.model.specs.Rights.{denied}
use Rattle.model_invariant.proofs.SoundParts.{HasSoundParts}
use Rattle.model.specs.Tenant.{Field, Tenant}
use Rattle.model.specs.Updates.{update_on}
use Rattle.model.specs.Upserts.{declared_name, key_value, on_value, unique_named, upsert, upsert_by}
use Rattle.model.specs.Verdict.{Verdict, judged, refuse}
use Rattle.model_invariant.specs.Fit.{IsCaller, OfObjects, ReadsWell, ReadsWellByKey, key_of}
use Rattle.model_invariant.proofs.Parts.{among_kept}
use Rattle.model_invariant.proofs.Growing.{IdLaws}
use Rattle.model_invariant.proofs.PeopleSound.{when_judged}
use Rattle.model_invariant.proofs.SharingSound.{when_object}
use Rattle.model_invariant.proofs.CreatesSound.{create_on_sound}
use Rattle.model_invariant.proofs.UpdatesSound.{update_on_sound}

pub found_record : {A : Type 0} (p : A → Bool) (xs : List A) (x : A) → find p xs ≡ Some x → Has xs x
found_record p [] x e = absurd cc
found_record p (z ∷ xs) x e = by (p z) e (found_record p xs x)
  where
    by : (b : Bool) → cond b (Some z) (find p xs) ≡ Some x → (find p xs ≡ Some x → Has xs x) → Has (z ∷ xs) x
    by true w more = inl (sym (ap (λ o. unwrap_or o z) w))
    by false w more = inr (more w)

pub when_read : (P : Tenant → Type 0) (t : Tenant) (r : ReadOr) (verdict : Value → Verdict) → P t → ((v : Value) → r ≡ Ok v → P (verdict v).tenant) → P (on_value t r verdict).tenant
when_read P t (Ok v) verdict h f = f v refl
when_read P t (Err why) verdict h f = h

pub upsert_sound : IdLaws → (a : Asked) (object key : List ℕ) (text : Option (List ℕ)) (given : List Assignment) → IsCaller a
    → OfObjects a (λ o. ReadsWellByKey a key text o given) → HasSoundParts a.tenant → HasSoundParts (upsert a object key text given).tenant
unfolding record_by_value
upsert_sound ids a object key text given caller reads s =
    when_object HasSoundParts a.tenant object
    (λ o. in_case (unique_named o.object key) (refuse a.tenant (refusal.InvalidField (declared_name o.object key))) (λ f. on_value a.tenant (key_value f.1 text) (upsert_by a o given f))) s
    (λ o at. by_field o at (unique_named o.object key) refl)
  where
    by_record : (o : Numbered) → slice_get a.tenant.objects o.number ≡ Some o.object → (k : Key) → ReadsWell a o.object (with_key (Some k) given) → (p : Record → Bool) (r : Option Record) → find p (records_of a.tenant o.number) ≡ r
        → HasSoundParts (in_case r (create_on a o (Some k) given) (λ r. judged a.tenant (denied a Edit r ∷ []) (update_on a o (Some k) given r))).tenant
    by_record o at k well p None e = create_on_sound ids a o (Some k) given at caller well s
    by_record o at k well p (Some r) e =
        let m = among_kept (is_of o.number) a.tenant.records r (found_record p (records_of a.tenant o.number) r e) in
        when_judged HasSoundParts a.tenant (denied a Edit r ∷ []) (update_on a o (Some k) given r) s (λ _.
        update_on_sound a o (Some k) given r at m.0 m.1 caller well s)

    by_field : (o : Numbered) → slice_get a.tenant.objects o.number ≡ Some o.object → (f : Option (ℕ × Field)) → unique_named o.object key ≡ f
        → HasSoundParts (in_case f (refuse a.tenant (refusal.InvalidField (declared_name o.object key))) (λ f. on_value a.tenant (key_value f.1 text) (upsert_by a o given f))).tenant
    by_field o at None e = s
    by_field o at (Some f) e =
        when_read HasSoundParts a.tenant (key_value f.1 text) (upsert_by a o given f) s (λ v w.
        by_record o at (key_of f v) (reads o.number o.object at f v e w) (has_value f.0 v) (record_by_value a.tenant o.number f.0 v) refl)
