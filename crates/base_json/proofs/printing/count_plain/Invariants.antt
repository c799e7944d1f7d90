use Rattle.std.proofs.Common.{◌≡◌, true, take}
use Rattle.std.specs.List.{list_all}
use Rattle.base_json.specs.Printing.{is_plain}
use Rattle.base_json.proofs.printing.count_plain.Given as goal

abbrev pub invariant-bytes : goal.invariant-bytes
invariant-bytes l = record {
  here : l.count ≡ l.byte-index;
  front : list_all is_plain (take l.count l.bytes) ≡ true;
}
