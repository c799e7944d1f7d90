-- What a create leaves is sound.
use Rattle.std.proofs.Common.{◌≡◌, ℕ, ◌+◌, Bool, true, false, not, ◌&&◌, cond, List, [], ◌∷◌, length, Option, Some, None, refl, ap, sym, subst, ◌∙◌, arith, nat_lt, slice_get}
use Rattle.std.specs.List.{list_all}
use Rattle.base_value.specs.Id.{made}
use Rattle.model.specs.declared.limit.Limit.TheVariants as limit
use Rattle.model.specs.declared.refusal.Refusal.TheVariants as refusal
use Rattle.model.specs.Cases.{in_case}
use Rattle.model.specs.Creates.{create, create_on, create_rules, empty_record, with_record}
use Rattle.model.specs.Edits.{bad_owner, bad_reference, with_given}
use Rattle.model.specs.Fields.{is_detail}
use Rattle.model.specs.declared.record_bodies.Assignment.{Assignment}
use Rattle.model.specs.Keys.{Key, with_key}
use Rattle.model.specs.Known.{known}
use Rattle.model.specs.Objects.{Numbered, record_prefix, records_of}
use Rattle.model.specs.Paths.{Asked}
use Rattle.model.specs.Relationships.{references_of}
use Rattle.model.specs.Rules.{first_of, refuse_if}
use Rattle.model_invariant.proofs.SoundParts.{HasSoundParts}
use Rattle.model.specs.SoundRecords.{IsSoundRecord, is_sound_owner, is_sound_reference}
use Rattle.model.specs.Verdict.{accept, made_new, upserted}
use Rattle.model_invariant.specs.Fit.{IsCaller, OfObjects, ReadsWell}
use Rattle.model_invariant.proofs.Parts.{list_all_more, none_refuses}
use Rattle.model_invariant.proofs.Growing.{IdLaws, owner_more, reference_more, within_limit}
use Rattle.model_invariant.proofs.PeopleSound.{when_judged}
use Rattle.model_invariant.proofs.SharingSound.{when_object}
use Rattle.model_invariant.proofs.ContentSound.{empty_fits, empty_no_ref, owner_sound, references_sound, unique_sound}
use Rattle.model_invariant.proofs.RecordsSound.{item_grows, own_object, record_added}

empty_owner : (a : Asked) (o : Numbered) → (known a.tenant).user a.user.id ≡ true → is_sound_owner (known a.tenant) o.object (empty_record a o).owner ≡ true
empty_owner a o h = by (is_detail o.object)
  where
    by : (d : Bool) → in_case (cond d None (Some a.user.id)) d (λ i. not d && (known a.tenant).user i) ≡ true
    by true = refl
    by false = h

-- with a key or without
pub create_on_sound : IdLaws → (a : Asked) (o : Numbered) (key : Option Key) (given : List Assignment) → slice_get a.tenant.objects o.number ≡ Some o.object → IsCaller a
    → ReadsWell a o.object (with_key key given) → HasSoundParts a.tenant → HasSoundParts (create_on a o key given).tenant
create_on_sound ids a o key given at caller reads s =
    let t = a.tenant in
    let old = empty_record a o in
    let new = with_given a o.object (with_key key given) old in
    when_judged HasSoundParts t (create_rules a o key given new) (accept (in_case key (made_new new.id) (λ k. upserted new.id true)) (with_record new t)) s (λ h.
    let limits = none_refuses (refuse_if (nat_lt 20000 (length (records_of t o.number) + 1)) (refusal.LimitExceeded limit.RecordsPerObject) ∷ refuse_if (nat_lt 50000 (length t.records + 1)) (refusal.LimitExceeded limit.Records) ∷ refuse_if (nat_lt 999999999999999 (t.counter + 1)) (refusal.LimitExceeded limit.Ids) ∷ []) h.1.1.1.1.1.1.1.0 in
    let fit = reads h.1.0 old (empty_fits o.object) in
    let g = item_grows ids t s o at new refl in
    let k = known t in
    let l = known (with_record new t) in
    let of = own_object ids t s o at new refl in
    let target = h.1.1.1.0 in
    let owner = owner_sound t o.object (with_key key given) old new refl (empty_owner a o caller.0) (none_refuses (bad_owner t old new ∷ first_of (bad_reference a old new) (references_of o) ∷ []) target).0 in
    let references = references_sound a o old new target h.1.1.0 fit (λ f m id e. absurd (empty_no_ref o.object.fields f.position id e)) in
    let sound : IsSoundRecord l t.objects new =
    record {
      object = o.object;
      there = ap (slice_get t.objects) of ∙ at;
      number = t.counter;
      drawn = omega arith;
      id = ap (λ (n : ℕ). made (record_prefix n) t.counter) (sym of);
      owner = owner_more k l g.people o.object new.owner owner;
      created = caller.1;
      modified = caller.1;
      values = fit;
      references =
          subst (λ (n : ℕ). list_all (is_sound_reference l new.values) (references_of (record { number = n; object = o.object })) ≡ true) (sym of)
          (list_all_more (is_sound_reference k new.values) (is_sound_reference l new.values) (reference_more k l g new.values) (references_of o) references);
    } in
    record_added ids t s o at new refl
    (λ place f e u null x m other. unique_sound a o new place f h.1.1.1.1.1.1.0 e u null x m other)
    sound
    (within_limit 50000 (length t.records + 1) (refusal.LimitExceeded limit.Records) limits.1.0)
    (within_limit 20000 (length (records_of t o.number) + 1) (refusal.LimitExceeded limit.RecordsPerObject) limits.0)
    (within_limit 999999999999999 (t.counter + 1) (refusal.LimitExceeded limit.Ids) limits.1.1.0))

pub create_sound : IdLaws → (a : Asked) (object : List ℕ) (given : List Assignment) → IsCaller a → OfObjects a (λ o. ReadsWell a o given) → HasSoundParts a.tenant → HasSoundParts (create a object given).tenant
create_sound ids a object given caller reads s = when_object HasSoundParts a.tenant object (λ o. create_on a o None given) s (λ o at. create_on_sound ids a o None given at caller (reads o.number o.object at) s)
