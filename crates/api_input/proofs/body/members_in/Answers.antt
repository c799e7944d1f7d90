use Rattle.api_input.proofs.Spellings.{members_missed, members_read}
use Rattle.api_input.proofs.body.members_in.Goals as goal

pub returns-in-Ok : goal.returns-in-Ok
returns-in-Ok c = members_read c.args.bytes.now c.in-Ok.value c.into_members.result c.ok_or.result c.in-Ok.ensures c.into_members.ensures c.ok_or.ensures.value

pub returns-in-Err : goal.returns-in-Err
returns-in-Err c = members_missed c.args.bytes.now c.in-Err.fail c.in-Err.ensures
