use Rattle.std.proofs.Common.{refl}
use Rattle.std.specs.Fmt.{digits as fmt_digits}
use Rattle.model.specs.Objects.{object_number}
use Rattle.store_abstraction.specs.Entries.{slot_entry, slots_of}
use Rattle.store_abstraction.specs.Stands.{kept_at, row_in}
use Rattle.base_value.specs.Digits.{digits}
use Rattle.base_value.specs.Id.{number62}
use Rattle.base_value.specs.OrderKeys.{order_key, raised}
use Rattle.base_value.specs.Printing.{print_size}
use Rattle.store_abstraction.proofs.laws.change_rows.Goals as goal

pub returns : goal.returns
unfolding row_in kept_at slot_entry slots_of object_number number62 digits fmt_digits print_size order_key raised
returns c = record { copied = refl; uncopied = refl; cleared = refl; gone = refl; left = refl; indexed = refl; copying = refl; clearing = refl }
