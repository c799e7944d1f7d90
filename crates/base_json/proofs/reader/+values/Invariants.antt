use Rattle.std.proofs.Common.{◌≡◌, ◌≤◌, ◌+◌, ◌*◌, length}
use denote.Text.{Utf8}
use denote.Shadow.{shadow}
use Rattle.std.specs.Str.{chars}
use Rattle.base_json.specs.Reading.{with_front}
use Rattle.base_json.specs.Reading as spec
use Rattle.base_json.proofs.reader.+values.Given as goal

abbrev pub decreases-list : goal.decreases-list
decreases-list l = 10 * l.levels

abbrev pub decreases-object : goal.decreases-object
decreases-object l = 10 * l.levels

abbrev pub decreases-value_here : goal.decreases-value_here
decreases-value_here l = 10 * l.levels + 1

abbrev pub decreases-value : goal.decreases-value
decreases-value l = 10 * l.levels + 2

abbrev pub decreases-element : goal.decreases-element
decreases-element l = 10 * l.levels + 3

abbrev pub decreases-item_turn : goal.decreases-item_turn
decreases-item_turn l = 10 * l.levels + 4

abbrev pub decreases-pair : goal.decreases-pair
decreases-pair l = 10 * l.levels + 4

abbrev pub decreases-member_turn : goal.decreases-member_turn
decreases-member_turn l = 10 * l.levels + 5

abbrev pub decreases-items : goal.decreases-items
decreases-items l = 10 * l.levels + 6

abbrev pub decreases-members : goal.decreases-members
decreases-members l = 10 * l.levels + 6

abbrev pub invariant-items-turns : goal.invariant-items-turns
invariant-items-turns l = record {
  utf8 : shadow (Utf8 l.rest);
  same : with_front l.items (spec.repeated (spec.item_turn (spec.element (spec.value l.levels)) 93) (chars l.rest)) ≡ spec.repeated (spec.item_turn (spec.element (spec.value l.levels)) 93) (chars l.fn.text);
  shorter : length (chars l.rest) ≤ length (chars l.fn.text);
}

abbrev pub decreases-items-turns : goal.decreases-items-turns
decreases-items-turns l = length (chars l.rest)

abbrev pub invariant-members-turns : goal.invariant-members-turns
invariant-members-turns l = record {
  utf8 : shadow (Utf8 l.rest);
  same : with_front l.members (spec.repeated (spec.item_turn (spec.pair (spec.value l.levels)) 125) (chars l.rest)) ≡ spec.repeated (spec.item_turn (spec.pair (spec.value l.levels)) 125) (chars l.fn.text);
  shorter : length (chars l.rest) ≤ length (chars l.fn.text);
}

abbrev pub decreases-members-turns : goal.decreases-members-turns
decreases-members-turns l = length (chars l.rest)
