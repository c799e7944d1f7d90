use Rattle.std.proofs.Common.{subst, List, ℕ}
use Rattle.server_http.specs.Reads.{ReadsToAnswer}
use Rattle.server_http.proofs.Reading.{whole_at_hand, refused_at_hand, read_ahead}
use Rattle.server_http.proofs.next.next_message.Goals as goal

pub returns-clause-at_hand : goal.returns-clause-at_hand
returns-clause-at_hand g c =
    let left = g.S.Source.left in
    let P : List ℕ → Type 0 = λ b. ReadsToAnswer left b c.args.source.now c.take.new.source c.take.result c.take.new.bytes.items in
    whole_at_hand left c.args.buffer.now c.args.source.now c.take.new.source c.take.result c.take.new.bytes.items (subst P c.buffer.view_is c.take.ensures.reads)

pub returns-clause-refused_at_hand : goal.returns-clause-refused_at_hand
returns-clause-refused_at_hand g c =
    let left = g.S.Source.left in
    let P : List ℕ → Type 0 = λ b. ReadsToAnswer left b c.args.source.now c.take.new.source c.take.result c.take.new.bytes.items in
    refused_at_hand left c.args.buffer.now c.args.source.now c.take.new.source c.take.result c.take.new.bytes.items (subst P c.buffer.view_is c.take.ensures.reads)

pub returns-clause-read_ahead : goal.returns-clause-read_ahead
returns-clause-read_ahead g c = read_ahead g.S.Source.left _ c.args.source.now c.take.new.source c.take.result c.take.new.bytes.items c.take.ensures.reads
