-- Which refusal of an input the first bytes of an output say.
use Rattle.std.specs.Prelude.{List, codes, nat_eq, if◌then◌else◌, Option, None, Some, ℕ}
use Rattle.std.specs.List.{starts_with}
use Rattle.cli_notes.specs.declared.refused.Refused.{Refused}
use Rattle.cli_notes.specs.declared.refused.Refused.TheVariants as refused

abbrev pub refused_in : (front : List ℕ) → Option Refused
refused_in front =
    if starts_with nat_eq front (codes "refused: CSV_REFUSED:") then Some refused.Csv
    else if starts_with nat_eq front (codes "refused: HEADING_REFUSED:") then Some refused.Heading
    else None
