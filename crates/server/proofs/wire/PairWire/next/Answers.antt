use Rattle.std.proofs.Common.{ap, rules}
use Rattle.server.proofs.wire.PairWire.next.Goals as goal

pub returns-clause-at_hand : goal.returns-clause-at_hand
returns-clause-at_hand g c m rest item = let same = ap g.S.Source.left (c.next_message.ensures.at_hand m rest item).0 in search (rules, same)
