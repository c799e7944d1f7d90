-- The id with the next number names nothing yet.
use Rattle.std.proofs.Common.{◌≡◌, ℕ, Bool, true, false, List, [], length, bytes_eq, None, Some, refl, slice_get}
use Rattle.std.specs.Prelude.{pos}
use Rattle.base_value.specs.Id.{made}
use Rattle.model.specs.declared.record.Record.{Record}
use Rattle.model.specs.Known.{known, names_any}
use Rattle.model.specs.Membership.{Has}
use Rattle.model.specs.Objects.{record_prefix}
use Rattle.model.specs.Tenant.{Object, Tenant}
use Rattle.model_invariant.proofs.Growing.{IdLaws, unnamed_yet}
use Rattle.model_invariant.proofs.RecordsSound.{other_id}
use Rattle.model_invariant.proofs.SoundParts.{HasSoundParts}

pub unnamed : IdLaws → (t : Tenant) → HasSoundParts t → (p : List ℕ) → length p ≡ 3 → names_any (known t) (made p t.counter) ≡ false
unnamed ids t s p size = by (names_any (known t) (made p t.counter)) refl
  where
    by : (b : Bool) → names_any (known t) (made p t.counter) ≡ b → b ≡ false
    by true e = absurd (unnamed_yet ids t s p size e)
    by false e = refl

pub fresh : IdLaws → (t : Tenant) → HasSoundParts t → (n : ℕ) (o : Object) → slice_get t.objects n ≡ Some o
    → (y : Record) → Has t.records y → bytes_eq y.id (made (record_prefix n) t.counter) ≡ false
fresh ids t s n o at y m =
    other_id ids t s (record { number = n; object = o }) at (record { id = made (record_prefix n) t.counter; owner = None; created = pos 0; modified = pos 0; values = [] }) refl y m
