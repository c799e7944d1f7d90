use Rattle.std.proofs.Common.{◌≡◌, ◌||◌, ◌∙◌, rules, ap, inl, inr, refl, subst, ℕ, Bool, true, false, List, Option, Some, None, Ok}
use Rattle.std.specs.Io.KnownBytes.{prepend_known}
use Rattle.std.specs.Io.KnownBytes as known
use Rattle.base_lemmas.proofs.Bools.{or_from_false as open_still}
use Rattle.server_http.specs.Reply as http
use Rattle.server_http.specs.Reply.{no_memory}
use Rattle.server.specs.Connections.{at_memory}
use Rattle.server.proofs.Fallen.{fell_turn, not_fell, undone_later, undone_none, undone_over, undone_refusal, undone_words}
use Rattle.server.proofs.Turned.{message_turn, end_turn, cut_turn, read_turn, memory_turn, refused_turn, refused_between}
use Rattle.server.proofs.lines.turn.Goals.{then-message, else-message}
use Rattle.server.proofs.lines.turn.Goals as goal

closed : (a b x : Bool) → a ≡ true → x ≡ a → x ≡ (a || b)
closed true b x h e = e
closed false b x h e = cc

pub returns-after-message-clause-turns : goal.returns-after-message-clause-turns
returns-after-message-clause-turns g c told sense p s here going full =
    let left = prepend_known c.args.buffer.now (g.W.Wire.input c.args.wire.now) in
    let e : c.if-message.close ≡ (c.in-Ok-Message.message.close || c.args.last) = elim c.if-message.branch [
      | then-message v ↦ closed _ _ _ v.if-message.true v.close-is
      | else-message v ↦ open_still _ _ _ v.if-message.false v.close-is
    ] in
    rw c.over_if_written.ensures (message_turn sense p (g.C.Clock.coming c.args.clock.now) left here going c.in-Ok-Message.message c.if-message.close c.args.last (g.K.Keeper.state c.args.keeper.now) (g.K.Keeper.state c.reply.new.keeper)
    c.next.new.buffer (g.W.Wire.input c.next.new.self) (g.W.Wire.input c.reply.new.wire) (g.C.Clock.coming c.reply.new.clock) (g.W.Wire.output c.args.wire.now) (g.W.Wire.output c.next.new.self) (g.W.Wire.output c.reply.new.wire) c.reply.result
    e full (rw c.in-Ok-Message.field-0-is at c.in-Ok-Message.ensures.answer) c.next.ensures.unwritten c.reply.ensures.unread (c.reply.ensures.replies told sense p.world p.moments s here.0))

pub returns-after-message-clause-falls : goal.returns-after-message-clause-falls
returns-after-message-clause-falls g c fell p s here going full =
    let left = prepend_known c.args.buffer.now (g.W.Wire.input c.args.wire.now) in
    let e : c.if-message.close ≡ (c.in-Ok-Message.message.close || c.args.last) = elim c.if-message.branch [
      | then-message v ↦ closed _ _ _ v.if-message.true v.close-is
      | else-message v ↦ open_still _ _ _ v.if-message.false v.close-is
    ] in
    rw c.over_if_written.ensures (fell_turn p (g.C.Clock.coming c.args.clock.now) left here going c.in-Ok-Message.message c.if-message.close c.args.last (g.K.Keeper.state c.reply.new.keeper)
    c.next.new.buffer (g.W.Wire.input c.next.new.self) (g.W.Wire.output c.args.wire.now) (g.W.Wire.output c.next.new.self) (g.W.Wire.output c.reply.new.wire) c.reply.result
    e full (rw c.in-Ok-Message.field-0-is at c.in-Ok-Message.ensures.answer) c.next.ensures.unwritten (c.reply.ensures.falls fell p.world p.moments s here.0))

pub returns-after-message-clause-undone : goal.returns-after-message-clause-undone
returns-after-message-clause-undone g c shut clean =
    let output = g.W.Wire.output in
    rw c.over_if_written.ensures (undone_over (output c.args.wire.now) (output c.reply.new.wire) c.if-message.close c.reply.result
    (undone_later _ (output c.args.wire.now) (output c.next.new.self) (output c.reply.new.wire) c.next.ensures.unwritten (c.reply.ensures.undone shut clean)))

pub returns-in-Ok-End-clause-turns : goal.returns-in-Ok-End-clause-turns
returns-in-Ok-End-clause-turns g c told sense p s here going full =
    end_turn sense p (g.C.Clock.coming c.args.clock.now) (prepend_known c.args.buffer.now (g.W.Wire.input c.args.wire.now)) here going (g.K.Keeper.state c.args.keeper.now) told.0 s
    (prepend_known c.next.new.buffer (g.W.Wire.input c.next.new.self)) (g.W.Wire.output c.args.wire.now) (g.W.Wire.output c.next.new.self) c.next.ensures.unwritten (rw c.in-Ok-End.field-0-is at c.in-Ok-End.ensures.answer)

pub returns-in-Ok-Cut-clause-turns : goal.returns-in-Ok-Cut-clause-turns
returns-in-Ok-Cut-clause-turns g c told sense p s here going full =
    cut_turn sense p (g.C.Clock.coming c.args.clock.now) (prepend_known c.args.buffer.now (g.W.Wire.input c.args.wire.now)) here going (g.K.Keeper.state c.args.keeper.now) told.0 s
    (prepend_known c.next.new.buffer (g.W.Wire.input c.next.new.self)) (g.W.Wire.output c.args.wire.now) (g.W.Wire.output c.next.new.self) c.next.ensures.unwritten (rw c.in-Ok-Cut.field-0-is at c.in-Ok-Cut.ensures.answer)

pub returns-in-Err-Failed-clause-turns : goal.returns-in-Err-Failed-clause-turns
returns-in-Err-Failed-clause-turns g c told sense p s here going full =
    read_turn sense p (g.C.Clock.coming c.args.clock.now) (prepend_known c.args.buffer.now (g.W.Wire.input c.args.wire.now)) here going (g.K.Keeper.state c.args.keeper.now) told.0 s
    (prepend_known c.next.new.buffer (g.W.Wire.input c.next.new.self)) (g.W.Wire.output c.args.wire.now) (g.W.Wire.output c.next.new.self) c.next.ensures.unwritten

pub returns-in-Err-Memory-clause-turns : goal.returns-in-Err-Memory-clause-turns
returns-in-Err-Memory-clause-turns g c told sense p s here going full =
    rw c.over_if_written-in-Err-Memory.ensures (memory_turn sense p (g.C.Clock.coming c.args.clock.now) (prepend_known c.args.buffer.now (g.W.Wire.input c.args.wire.now)) here going (g.K.Keeper.state c.args.keeper.now) told.0 s
    (prepend_known c.next.new.buffer (g.W.Wire.input c.next.new.self)) (g.W.Wire.output c.args.wire.now) (g.W.Wire.output c.next.new.self) c.next.ensures.unwritten
    (g.W.Wire.output c.write_text.new.wire) (prepend_known c.next.new.buffer (g.W.Wire.input c.write_text.new.wire)) c.write_text.result (rw c.out_of_memory.ensures at c.write_text.ensures.wrote))

pub returns-in-Err-clause-turns : goal.returns-in-Err-clause-turns
returns-in-Err-clause-turns g c told sense p s here going full =
    let left = prepend_known c.args.buffer.now (g.W.Wire.input c.args.wire.now) in
    let left2 = prepend_known c.next.new.buffer (g.W.Wire.input c.next.new.self) in
    rw c.over_if_written-in-Err.ensures (refused_turn sense p (g.C.Clock.coming c.args.clock.now) left here going (g.K.Keeper.state c.args.keeper.now) told.0 s
    left2 (g.W.Wire.output c.args.wire.now) (g.W.Wire.output c.next.new.self) c.next.ensures.unwritten
    (g.W.Wire.output c.refuse.new.wire) (prepend_known c.next.new.buffer (g.W.Wire.input c.refuse.new.wire)) c.in-Err.fail c.refuse.result
    (refused_between left left2 c.in-Err.fail (search rules) (search rules) c.in-Err.ensures.answer) c.refuse.ensures.refuses)

pub returns-in-Ok-End-clause-falls : goal.returns-in-Ok-End-clause-falls
returns-in-Ok-End-clause-falls g c fell p s here going full = absurd (not_fell (g.K.Keeper.state c.args.keeper.now) fell)

pub returns-in-Ok-End-clause-undone : goal.returns-in-Ok-End-clause-undone
returns-in-Ok-End-clause-undone g c shut clean = undone_none _ (g.W.Wire.output c.args.wire.now) (g.W.Wire.output c.next.new.self) c.next.ensures.unwritten

pub returns-in-Ok-Cut-clause-falls : goal.returns-in-Ok-Cut-clause-falls
returns-in-Ok-Cut-clause-falls g c fell p s here going full = absurd (not_fell (g.K.Keeper.state c.args.keeper.now) fell)

pub returns-in-Ok-Cut-clause-undone : goal.returns-in-Ok-Cut-clause-undone
returns-in-Ok-Cut-clause-undone g c shut clean = undone_none _ (g.W.Wire.output c.args.wire.now) (g.W.Wire.output c.next.new.self) c.next.ensures.unwritten

pub returns-in-Err-Failed-clause-falls : goal.returns-in-Err-Failed-clause-falls
returns-in-Err-Failed-clause-falls g c fell p s here going full = absurd (not_fell (g.K.Keeper.state c.args.keeper.now) fell)

pub returns-in-Err-Failed-clause-undone : goal.returns-in-Err-Failed-clause-undone
returns-in-Err-Failed-clause-undone g c shut clean = undone_none _ (g.W.Wire.output c.args.wire.now) (g.W.Wire.output c.next.new.self) c.next.ensures.unwritten

pub returns-in-Err-Memory-clause-falls : goal.returns-in-Err-Memory-clause-falls
returns-in-Err-Memory-clause-falls g c fell p s here going full = absurd (not_fell (g.K.Keeper.state c.args.keeper.now) fell)

pub returns-in-Err-clause-falls : goal.returns-in-Err-clause-falls
returns-in-Err-clause-falls g c fell p s here going full = absurd (not_fell (g.K.Keeper.state c.args.keeper.now) fell)

pub returns-in-Err-Memory-clause-undone : goal.returns-in-Err-Memory-clause-undone
returns-in-Err-Memory-clause-undone g c shut clean =
    let output = g.W.Wire.output in
    rw c.over_if_written-in-Err-Memory.ensures (undone_over (output c.args.wire.now) (output c.write_text.new.wire) true c.write_text.result
    (undone_later _ (output c.args.wire.now) (output c.next.new.self) (output c.write_text.new.wire) c.next.ensures.unwritten
    (undone_words at_memory (output c.next.new.self) (output c.write_text.new.wire) (http.reply 507 no_memory true) c.write_text.result refl (rw c.out_of_memory.ensures at c.write_text.ensures.wrote))))

pub returns-in-Err-clause-undone : goal.returns-in-Err-clause-undone
returns-in-Err-clause-undone g c shut clean =
    let output = g.W.Wire.output in
    rw c.over_if_written-in-Err.ensures (undone_over (output c.args.wire.now) (output c.refuse.new.wire) true c.refuse.result
    (undone_later _ (output c.args.wire.now) (output c.next.new.self) (output c.refuse.new.wire) c.next.ensures.unwritten
    (undone_refusal c.in-Err.fail (output c.next.new.self) (output c.refuse.new.wire) c.refuse.result c.refuse.ensures.refuses)))

-- ---- what is read before a reply

kept_same : (a b : Option (List ℕ)) → b ≡ a → known.Keeps a b
kept_same None b e = tt
kept_same (Some xs) None e = absurd cc
kept_same (Some xs) (Some ys) e = search (rules, e)

kept_from : (a b c : Option (List ℕ)) → b ≡ a → known.Keeps b c → known.Keeps a c
kept_from a b c e h = subst (λ x. known.Keeps x c) e h

pub returns-after-message-clause-at_hand : goal.returns-after-message-clause-at_hand
returns-after-message-clause-at_hand g c m rest item = kept_from _ _ _ (c.next.ensures.at_hand m rest item) c.reply.ensures.unread

pub returns-in-Ok-End-clause-at_hand : goal.returns-in-Ok-End-clause-at_hand
returns-in-Ok-End-clause-at_hand g c m rest item = kept_same _ _ (c.next.ensures.at_hand m rest item)

pub returns-in-Ok-Cut-clause-at_hand : goal.returns-in-Ok-Cut-clause-at_hand
returns-in-Ok-Cut-clause-at_hand g c m rest item = kept_same _ _ (c.next.ensures.at_hand m rest item)

pub returns-in-Err-Failed-clause-at_hand : goal.returns-in-Err-Failed-clause-at_hand
returns-in-Err-Failed-clause-at_hand g c m rest item = kept_same _ _ (c.next.ensures.at_hand m rest item)

pub returns-in-Err-Memory-clause-at_hand : goal.returns-in-Err-Memory-clause-at_hand
returns-in-Err-Memory-clause-at_hand g c m rest item = kept_from _ _ _ (c.next.ensures.at_hand m rest item) c.write_text.ensures.unread

pub returns-in-Err-clause-at_hand : goal.returns-in-Err-clause-at_hand
returns-in-Err-clause-at_hand g c m rest item = kept_from _ _ _ (c.next.ensures.at_hand m rest item) c.refuse.ensures.unread

pub returns-after-message-clause-read_ahead : goal.returns-after-message-clause-read_ahead
returns-after-message-clause-read_ahead g c goes_on = elim (c.next.ensures.read_ahead c.in-Ok-Message.message (c.in-Ok-Message.is ∙ ap Ok c.in-Ok-Message.field-0-is)) [
  | inl same ↦ inl (kept_from _ _ _ same c.reply.ensures.unread)
  | inr few ↦ inr few
]
