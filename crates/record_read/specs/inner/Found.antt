-- Records from the rows that were read.
use Rattle.std.specs.Prelude.{List, Option, Some, None, Result, Ok, Err, Vec}
use Rattle.store_rows.specs.declared.data.DataRow.{DataRow}
use Rattle.store_rows.specs.declared.fail.StoreFail.{StoreFail}
use Rattle.store_rows.specs.declared.fail.StoreFail.TheVariants.{Damaged}
use Rattle.model.specs.declared.record.Record.{Record}
use Rattle.model.specs.Cases.{in_case}
use Rattle.store_abstraction.specs.declared.layout.Layout.{Layout}
use Rattle.record_read.specs.Decoding.{each_from, record_from}

-- the record that a row spells, if a row was read and there is one
abbrev pub found_from : Layout → Result (Option DataRow) StoreFail → Result (Option Record) StoreFail
found_from l (Ok None) = Ok None
found_from l (Ok (Some row)) = in_case (record_from l row) (Err Damaged) (λ r. Ok (Some r))
found_from l (Err fail) = Err fail

-- the records of the rows that were read
abbrev pub listed_from : {A : Type 0} → Layout → Result (Vec DataRow A) StoreFail → Result (List Record) StoreFail
listed_from l (Ok rows) = in_case (each_from (record_from l) rows.items) (Err Damaged) (λ rs. Ok rs)
listed_from l (Err fail) = Err fail
