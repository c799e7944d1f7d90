use Rattle.std.proofs.Common.{ap, inl}
use Rattle.std.specs.Prelude.{Ok}
use Rattle.server.proofs.Forms.{bytes_changed, bytes_same}
use Rattle.server.proofs.replies.judged_bytes.Goals as goal

pub returns-in-Ok : goal.returns-in-Ok
returns-in-Ok c =
    inl (ap (λ x. Ok x) (bytes_same c.args.message.now.method c.args.message.now.close c.args.judged.now c.in-Same.reply c.in-Ok.bytes c.as_slice.result.now c.in-Same.is c.in-Ok.ensures c.as_slice.ensures))

pub returns-in-Ok-bytes_to : goal.returns-in-Ok-bytes_to
returns-in-Ok-bytes_to c =
    inl (ap (λ x. Ok x) (bytes_changed c.args.message.now.method c.args.message.now.close c.args.judged.now c.in-Changed.reply c.in-Ok-bytes_to.bytes c.as_slice-in-Changed.result.now c.in-Changed.is c.in-Ok-bytes_to.ensures c.as_slice-in-Changed.ensures))
