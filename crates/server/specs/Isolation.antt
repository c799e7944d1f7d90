-- Isolation: the replies to one organisation's requests, whatever others ask and whatever they hold.
use Rattle.std.specs.Prelude.{ℕ, Bool, true, false, ◌&&◌, ◌==◌, if◌then◌else◌, List, [], ◌∷◌, Option, Some, None}
use Rattle.model.specs.declared.reply.Reply.{Reply}
use Rattle.model.specs.Step.{Message, org_named}
use Rattle.model.specs.World.{World}
use Rattle.server.specs.Exchanges.{Exchange, Outcome, apart, done, store, memory}
use Rattle.model_requests.specs.Step.{step}

abbrev pub is_done : Outcome → Bool
is_done done = true
is_done store = false
is_done memory = false
is_done (apart text) = false

-- the replies to these messages, each at its moment, as the step of the world answers them from this world on
abbrev pub replies_to : World → List (Message × ℕ) → List Reply
replies_to w [] = []
replies_to w (q ∷ qs) = (step w q.0 q.1).0 ∷ replies_to (step w q.0 q.1).1 qs

abbrev pub is_org : ℕ → Option ℕ → Bool
is_org org None = false
is_org org (Some k) = k == org

-- it names this organisation, and was answered as the step of the world says
abbrev pub counts : ℕ → Exchange → Bool
counts org x = is_done x.outcome && is_org org (org_named x.message)

-- the messages of this organisation, with their moments
abbrev pub asked_of : ℕ → List Exchange → List (Message × ℕ)
asked_of org [] = []
asked_of org (x ∷ xs) = if counts org x then (x.message, x.now) ∷ asked_of org xs else asked_of org xs

-- the replies to them
abbrev pub replies_of : ℕ → List Exchange → List Reply
replies_of org [] = []
replies_of org (x ∷ xs) = if counts org x then (step x.world x.message x.now).0 ∷ replies_of org xs else replies_of org xs
