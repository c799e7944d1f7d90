use Rattle.std.proofs.Common.{◌∙◌}
use Rattle.model.proofs.Bodies.{body_written}
use Rattle.model.proofs.body.body_of.Goals as goal

pub returns : goal.returns
returns c =
    body_written c.args.message.now c.args.code.now _ _ _ _ _ _ _ _ c.new-writer.ensures c.in_ok-mark.ensures.ok c.in_ok-mark-2.ensures.ok c.in_ok-write_member.ensures
    c.in_ok-mark-3.ensures.ok c.in_ok-write_member-2.ensures c.in_ok-mark-4.ensures.ok (c.finish.ensures ∙ c.in_ok-mark-5.ensures.ok)
