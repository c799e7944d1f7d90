-- Messages one after the other, with their replies, by whatever answers a caller's message.
-- Source: this product's own.
use Rattle.std.specs.Prelude.{ℕ, Bool, false, ◌==◌, List, [], ◌∷◌, map, filter, Option, Some, None}
use Rattle.model.specs.declared.reply.Reply.{Reply}
use Rattle.model.specs.Step.{Answering, Message, org_named, step_by}
use Rattle.model.specs.World.{World}

-- a message, and the moment at which it is answered
abbrev pub Sent : Type 0
Sent = Message × ℕ

-- each message with its reply, from this world on
abbrev pub replies_by : Answering → World → List Sent → List (Sent × Reply)
replies_by answers w [] = []
replies_by answers w (q ∷ qs) = (q, (step_by answers w q.0 q.1).0) ∷ replies_by answers (step_by answers w q.0 q.1).1 qs

abbrev pub is_org : ℕ → Option ℕ → Bool
is_org org None = false
is_org org (Some k) = k == org

-- its key names this organisation
abbrev pub is_from : ℕ → Sent → Bool
is_from org q = is_org org (org_named q.0)

-- the replies to the messages of this organisation, among those of all
abbrev pub replies_for : ℕ → List (Sent × Reply) → List Reply
replies_for org rs = map (λ r. r.1) (filter (λ r. is_from org r.0) rs)

-- the replies to its messages alone
abbrev pub own_replies : Answering → ℕ → World → List Sent → List Reply
own_replies answers org w qs = map (λ r. r.1) (replies_by answers w (filter (is_from org) qs))
