use Rattle.std.proofs.Common.{refl}
use lib.Utf8.{encode}
use Rattle.std.specs.Str.{chars, is_utf8}
use Rattle.csv.proofs.OnLiterals.{csv_on_literals}
use Rattle.base_csv.specs.Place.{after_records, line_ends, past_ends}
use Rattle.base_csv.proofs.laws.table_rows.Goals as goal

pub returns : goal.returns
unfolding csv_on_literals chars is_utf8 encode line_ends after_records past_ends
returns c = record {
  empty = refl;
  heading = (refl, refl);
  longer = refl;
  two_marks = refl;
  one_mark = (refl, refl);
  lines = (refl, refl);
  quoted = (refl, refl);
  other_heading = refl;
  other_row = refl;
  places = (refl, refl, refl, refl);
  cells = refl;
}
