use Rattle.std.proofs.Common.{◌≡◌, ◌+◌, ◌*◌, ◌++◌, map, take}
use Rattle.std.specs.Str.{encode_utf8_all}
use Rattle.base_json.specs.Whole.{joined, printed, printed_member}
use Rattle.base_json_tree.proofs.printing.+values.Given as goal

abbrev pub decreases-write_list : goal.decreases-write_list
decreases-write_list l = 5 * l.levels

abbrev pub decreases-write_object : goal.decreases-write_object
decreases-write_object l = 5 * l.levels

abbrev pub decreases-write_value : goal.decreases-write_value
decreases-write_value l = 5 * l.levels + 1

abbrev pub decreases-write_member : goal.decreases-write_member
decreases-write_member l = 5 * l.levels + 2

abbrev pub decreases-write_items : goal.decreases-write_items
decreases-write_items l = 5 * l.levels + 3

abbrev pub decreases-write_members : goal.decreases-write_members
decreases-write_members l = 5 * l.levels + 3

abbrev pub invariant-write_items-loop-place : goal.invariant-write_items-loop-place
invariant-write_items-loop-place l = l.writer ≡ l.fn.writer ++ encode_utf8_all (joined (map (printed l.levels) (take l.place l.items)))

abbrev pub invariant-write_members-loop-place : goal.invariant-write_members-loop-place
invariant-write_members-loop-place l = l.writer ≡ l.fn.writer ++ encode_utf8_all (joined (map (printed_member (printed l.levels)) (take l.place l.members)))
