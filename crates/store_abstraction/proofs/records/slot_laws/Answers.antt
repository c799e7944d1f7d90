use Rattle.store_abstraction.proofs.Fits as fits
use Rattle.store_abstraction.proofs.Free as free
use Rattle.store_abstraction.proofs.records.slot_laws.Goals as goal

pub returns : goal.returns
returns c = record {
  free = free.free_slot;
  nothing = free.free_entry;
  seen = free.seen;
  object = λ p t o s sound fitting below few. fits.fits_object p t o s sound below few fitting;
  described = λ p t n change fitting same. fits.fits_changed p t n change same fitting;
  field = λ p t n o f s sound fitting here below vacant. fits.fits_field p t n o f s sound here below vacant fitting;
}
