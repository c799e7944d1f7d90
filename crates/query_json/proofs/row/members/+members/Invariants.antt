use Rattle.std.proofs.Common.{◌≡◌, Some, drop}
use Rattle.query_plan.specs.Shown.{member_text}
use Rattle.model.specs.declared.record.Record.{Record}
use Rattle.query_json.specs.row.Shows.{shows}
use Rattle.query_json.proofs.Pieces.{with_rest}
use Rattle.query_json.proofs.row.members.+members.Given as goal

abbrev pub invariant-write_members-members : goal.invariant-write_members-members
invariant-write_members-members g l = (r : Record) → g.V.HasValues.its_record l.item ≡ Some r
    → with_rest (member_text shows l.parents r) l.writer (drop l.member-index l.members) ≡ with_rest (member_text shows l.parents r) l.fn.writer l.members
