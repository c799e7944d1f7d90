use Rattle.std.proofs.Common.{◌+◌, ◌∷◌, ◌∙◌, ap, sym, drop, append-nil}
use Rattle.std.specs.Option.{option_copied}
use Rattle.std.proofs.lemmas.List.{at_drop_all, at_drop_more}
use Rattle.base_lemmas.proofs.Options.{none_from_no_some as nothing_there}
use Rattle.query_plan.specs.Shown.{member_text}
use Rattle.query_plan.specs.declared.plan.Member.{Member}
use Rattle.query_json.specs.row.Shows.{shows}
use Rattle.query_json.proofs.Pieces.{one_more, with_rest}
use Rattle.query_json.proofs.Within.{null_written, parent_written}
use Rattle.query_json.proofs.row.members.+members.Goals as goal

pub write_member-returns-in_default : goal.write_member-returns-in_default
write_member-returns-in_default g t c r is =
    null_written shows c.args.parents.now r c.args.writer.now c.write_member_start.new.writer c.write_null.new.writer c.in-Parent.branch
    c.in-Parent.object c.in-Parent.members c.as_str-in-Parent.ensures.characters c.in-Parent.is
    (sym c.record_at.ensures ∙ ap option_copied (nothing_there c.record_at.result c.in_default.not-Some)) c.in_ok-write_member_start-in-Parent.ensures c.in_ok-write_null-in-Parent.ensures

pub write_member-returns-in_ok-write_row_end-in-Parent : goal.write_member-returns-in_ok-write_row_end-in-Parent
write_member-returns-in_ok-write_row_end-in-Parent g t c r is =
    parent_written shows c.args.parents.now r c.args.writer.now c.write_member_start.new.writer c.write_record_start.new.writer c.write_members.new.writer c.write_row_end.new.writer
    c.in-Parent.branch c.in-Some.parent.now c.as_str-in-Parent.ensures.characters c.as_str-in-Parent-2.ensures.characters c.as_slice.ensures c.in-Parent.is
    (sym c.record_at.ensures ∙ ap option_copied c.in-Some.is) c.in_ok-write_member_start-in-Parent.ensures c.in_ok-write_record_start-in-Parent.ensures (c.in_ok-write_members-in-Parent.ensures r is) c.in_ok-write_row_end-in-Parent.ensures

pub write_members-members-preserved : goal.write_members-members-preserved
write_members-members-preserved g t c r is =
    let text = member_text shows c.args.parents.now r in
    let members = c.args.members.now in
    let member = c.member-item.result in
    let more = drop (c.members.member-index + 1) members in
    one_more text c.members.writer c.write_member.new.writer member more (c.in_ok-write_member.ensures r is)
    ∙ ap (λ (m : Member). with_rest text c.members.writer (m ∷ more)) c.member-item.is
    ∙ sym (at_drop_more (with_rest text c.members.writer) members c.members.member-index member c.members-test.true)
    ∙ c.members.invariant r is

pub write_members-returns : goal.write_members-returns
write_members-returns g t c r is =
    let text = member_text shows c.args.parents.now r in
    sym (append-nil c.members.writer) ∙ sym (at_drop_all (with_rest text c.members.writer) c.args.members.now c.members.member-index c.members-test.false)
    ∙ c.members.invariant r is
