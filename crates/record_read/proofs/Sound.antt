-- What is needed of sound records and their fields.
use Rattle.std.proofs.Common.{◌≡◌, ℕ, true, IsTrue, List, [], ◌∷◌, length, Some, refl, sym, ap, ◌∙◌, subst, arith, eqb-true}
use Rattle.std.specs.Prelude.{slice_get}
use Rattle.std.specs.List.{AllByRecursion, list_all}
use Rattle.base_lemmas.proofs.Bools.{and_first as and_left, and_second as and_right}
use Rattle.base_lemmas.proofs.Lists.{each_at_number as of_numbered}
use Rattle.std.proofs.lemmas.Option.{same_Some as some_is}
use Rattle.model.specs.declared.record.Record.{Record}
use Rattle.model.specs.Known.{known}
use Rattle.model.specs.Membership.{Has}
use Rattle.model.specs.Objects.{is_of, object_number, object_numbered}
use Rattle.model.specs.Sound.{IsSound}
use Rattle.model.specs.SoundMetadata.{IsSoundField, IsSoundObject}
use Rattle.model.specs.SoundRecords.{IsSoundRecord, all_valid, kinds_of}
use Rattle.model.specs.Tenant.{Field, Object, Tenant}
use Rattle.base_value.specs.Printing.{is_printable}
use Rattle.base_value.specs.Types.{is_type}
use Rattle.base_value.specs.Values.{valid}
use Rattle.base_value.specs.declared.value.FieldType.{FieldType}
use Rattle.base_value.specs.declared.value.Value.{Value}
use Rattle.record_read.proofs.Lists.{of_each}

-- what `base_value` says of valid values
abbrev pub ArePrintable : Type 0
ArePrintable = (kind : FieldType) (v : Value) → IsTrue (valid kind v) → IsTrue (is_printable v)

-- a tenant's record, as a sound one
pub sound_record : (t : Tenant) (r : Record) → IsSound t → Has t.records r → IsSoundRecord (known t) t.objects r
sound_record t r sound has = of_each (IsSoundRecord (known t) t.objects) t.records r sound.records.each has

pub values_valid : (t : Tenant) (n : ℕ) (o : Object) (r : Record) → IsSound t → object_numbered t n ≡ Some o → Has t.records r → IsTrue (is_of n r) → IsTrue (all_valid (kinds_of o) r.values)
values_valid t n o r sound is has of =
    let one = sound_record t r sound has in
    let number : object_number r.id ≡ n = eqb-true (object_number r.id) n of in
    let same : one.object ≡ o = some_is one.object o (sym one.there ∙ ap (slice_get t.objects) number ∙ is) in
    subst (λ (x : Object). IsTrue (all_valid (kinds_of x) r.values)) same one.values

typed : (n : ℕ) (fs : List Field) → AllByRecursion (IsSoundField n) fs → list_all (λ f. is_type f.kind) fs ≡ true
typed n [] all = refl
typed n (f ∷ fs) all = rw (all.0.kind) (typed n fs all.1)

pub fields_typed : (t : Tenant) (n : ℕ) (o : Object) → IsSound t → object_numbered t n ≡ Some o → list_all (λ f. is_type f.kind) o.fields ≡ true
fields_typed t n o sound is =
    let one = of_numbered (IsSoundObject t.objects) (λ (x : ℕ × Object). record { number = x.0; object = x.1 }) t.objects 0 n n o (omega arith) is sound.metadata.objects in
    typed (length t.objects) o.fields one.fields

all_printable : ArePrintable → (kinds : List FieldType) (values : List Value) → all_valid kinds values ≡ true → list_all is_printable values ≡ true
all_printable printable [] [] h = refl
all_printable printable (k ∷ ks) [] h = absurd cc
all_printable printable [] (v ∷ vs) h = absurd cc
all_printable printable (k ∷ ks) (v ∷ vs) h =
    rw (printable k v (and_left (valid k v) (all_valid ks vs) h)) (all_printable printable ks vs (and_right (valid k v) (all_valid ks vs) h))

pub values_printable : ArePrintable → (t : Tenant) (r : Record) → IsSound t → Has t.records r → IsTrue (list_all is_printable r.values)
values_printable printable t r sound has =
    let one = sound_record t r sound has in
    all_printable printable (kinds_of one.object) r.values one.values
