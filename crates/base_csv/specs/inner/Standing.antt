-- Where a reader stands in its source: a word of private functions' contracts alone.
use Rattle.std.specs.Prelude.{◌≡◌, ℕ, Bool, true, false, List, [], ◌∷◌, length, Option, Some, None, IfSome, slice_get}
use Rattle.std.specs.List.{list_all}
use Rattle.csv.specs.Reading.{Reached, Ready, default_config, expected_len, is_flexible, reader_config, reader_state, reader_trim, source_of, strip_bom}
use Rattle.csv.specs.declared.parser.State.TheVariants as st
use Rattle.csv.specs.declared.reader.Reader.{Reader}
use Rattle.csv.specs.declared.reader.Trim.TheVariants as trim
use Rattle.base_csv.specs.Place.{RefusesRecord, TellsPlace}
use Rattle.base_csv.specs.Table.{begins_with_two_marks, first_refused, fits, table_of}
use Rattle.base_csv.specs.declared.fail.TableFail.{TableFail}

-- the number of cells that a record after these has to have, if there is a heading
abbrev pub width : List (List (List ℕ)) → Option ℕ
width [] = None
width (heading ∷ rows) = Some (length heading)

-- whether all of these fit the first of them
abbrev pub all_fit : List (List (List ℕ)) → Bool
all_fit [] = true
all_fit (heading ∷ rows) = list_all (fits heading) (heading ∷ rows)

-- a reader of `csv` has read so many records of a source, which all fit
pub record StandsAt {R : Type 0} (rem : R → Option (List ℕ)) (source : List ℕ) (read : ℕ) (reader : Reader R) : Type 0 where
  pub trim : reader_trim reader ≡ trim.None
  pub ready : Ready reader
  pub config : reader_config reader ≡ default_config
  pub flexible : is_flexible reader ≡ false
  pub marks : begins_with_two_marks source ≡ false
  pub all : List (List (List ℕ))
  pub number : read ≡ length all
  pub expected : expected_len reader ≡ width all
  pub fit : all_fit all ≡ true
  pub rest : List ℕ
  pub left : source_of rem reader ≡ Some rest
  pub reached : Reached default_config st.StartRecord (strip_bom source) all (reader_state reader) rest

-- what is so of a source that is read record by record: it failed, or it is read to its end, or its reader stands after what was read
pub record GoesOn {R : Type 0} (rem : R → Option (List ℕ)) (source : List ℕ) (read : ℕ) (is_ended : Bool) (fail : Option TableFail) (reader : Reader R) : Type 0 where
  pub failed : IfSome fail (TellsPlace source)
  pub here : IfSome fail (RefusesRecord read)
  pub ended : is_ended ≡ true → (slice_get (table_of source) read ≡ None) × (first_refused source ≡ None)
  pub stands : is_ended ≡ false → fail ≡ None → StandsAt rem source read reader
