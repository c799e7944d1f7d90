-- Requests one after the other, and what they leave behind.
use Rattle.std.proofs.Common.{◌≡◌, ◌^◌, ℕ, ◌+◌, Bool, true, false, IsTrue, List, [], ◌∷◌, ◌++◌, Option, Some, None, Ok, Err, refl, ap, arith}
use Rattle.std.specs.Prelude.{IsErrOf, OnErr, Result, is_ok, nat_lt}
use Rattle.std.proofs.lemmas.Bool.{both_ways as never}
use Rattle.base_lemmas.proofs.Numbers.{lt_from_ltb as lower, le_from_ltb as upper}
use Rattle.base_value.specs.Causes.{Rose}
use Rattle.server_http.specs.declared.message.HttpMessage.{HttpMessage}
use Rattle.server_http.specs.Reply.{reply_to, store_failed, no_memory}
use Rattle.store_kv.specs.State.{KeeperCause, KeeperState, Quiet, Shows, Steps, Tells, TrustedAfter}
use Rattle.store_kv.specs.Tables.{Tables}
use Rattle.store_rows.specs.declared.fail.StoreFail.{StoreFail}
use Rattle.store_rows.specs.declared.fail.StoreFail.TheVariants.{Keeper, Memory}
use Rattle.model.specs.Callers.{Named}
use Rattle.model.specs.Step.{Message, org_named}
use Rattle.model.specs.World.{World}
use Rattle.store_abstraction.specs.Operations.{Does}
use Rattle.server.specs.declared.request.Answer.{Answer}
use Rattle.server.specs.declared.request.Answer.TheVariants.{Made, Damaged, Unavailable, OutOfMemory}
use Rattle.server.specs.Own.{Asks, DoesBy}
use Rattle.server.specs.Requests.{does, message_in}
use Rattle.server.specs.Senses.{Sense, StandsAs, is_apart}
use Rattle.server.specs.Exchanges.{Exchange, apart, done, store, memory, LeavesBehind, stores}
use Rattle.server.specs.Answers.{Answers, IsDamaged, IsFixed, IsMade, IsUnavailable, bytes_in, is_made, outcome_of}

stores_more : (xs ys : List Exchange) → stores (xs ++ ys) ≡ stores xs + stores ys
stores_more [] ys = omega arith
stores_more (x ∷ xs) ys = let e = stores_more xs ys in omega (arith, e)

-- requests after requests
pub kept_on : (sense : Sense) (v end : World) (xs ys : List Exchange) (a b c : KeeperState) → LeavesBehind sense v xs a b → LeavesBehind sense end ys b c → LeavesBehind sense end (xs ++ ys) a c
kept_on sense v end xs ys a b c h k = record { tables = k.tables; faults = let e = stores_more xs ys in omega (arith, h.faults, k.faults, e) }

-- nothing was asked
pub kept_same : (sense : Sense) (w : World) (a : KeeperState) → a.tells → StandsAs sense a.tables w → LeavesBehind sense w [] a a
kept_same sense w a tells stands = record { tables = λ _. (tells, stands); faults = omega arith }

-- only reads, before the first request
pub kept_opened : (sense : Sense) (w : World) (a b : KeeperState) → Steps a b → (IsTrue b.trusted → Shows b a.tables) → StandsAs sense a.tables w → LeavesBehind sense w [] a b
kept_opened sense w a b steps shows stands = record { tables = λ is. let s = shows is in (s.0, rw s.1 stands); faults = omega (arith, steps.counts) }

-- ---- one request

module _ (sense : Sense) (w : World) (m : HttpMessage) (now : ℕ) (old new : KeeperState) where
  abbrev IsDone : Result (List ℕ) StoreFail → Type 0
  IsDone r = Does (StandsAs sense) (does (message_in m) m.close now) w new r

  answered_done : (bytes : List ℕ) → Steps old new → IsDone (Ok bytes) → Answers sense w m now old new bytes
  answered_done bytes steps h = (done, h.0, record { tables = λ _. h.1; faults = omega (arith, steps.counts) }, tt)

  answered_store : (e : StoreFail) (bytes : List ℕ) → Rose old.faults new.faults → IsDone (Err e) → bytes ≡ reply_to m.method 503 store_failed m.close → Answers sense w m now old new bytes
  answered_store e bytes rose h is = (store, is, record { tables = λ _. h.1; faults = omega (arith, rose) }, tt)

  answered_memory : (e : StoreFail) (bytes : List ℕ) → Steps old new → IsDone (Err e) → bytes ≡ reply_to m.method 507 no_memory m.close → Answers sense w m now old new bytes
  answered_memory e bytes steps h is = (memory, is, record { tables = λ _. h.1; faults = omega (arith, steps.counts) }, tt)

  -- an answer by how the request ended
  pub answered_by : (a : Answer) → IsFixed m a → Asks (message_in m) old new (outcome_of a) → IsDone (outcome_of a) → Answers sense w m now old new (bytes_in m.method a)
  answered_by (Made bytes) form asks h = answered_done bytes asks.steps h
  answered_by (Damaged bytes) form asks h = absurd (h.0 refl)
  answered_by (Unavailable close) form asks h = answered_store Keeper (reply_to m.method 503 store_failed close) (asks.cause.rose refl) h (ap (reply_to m.method 503 store_failed) form)
  answered_by (OutOfMemory close) form asks h = answered_memory Memory (reply_to m.method 507 no_memory close) asks.steps h (ap (reply_to m.method 507 no_memory) form)

  -- one to a message of an organisation that is apart
  pub answered_apart : (bytes : List ℕ) → is_apart sense (org_named (message_in m)) ≡ true → Steps old new → new.tells → StandsAs sense new.tables w → Answers sense w m now old new bytes
  answered_apart bytes is steps tells stands = (apart bytes, refl, record { tables = λ _. (tells, stands); faults = omega (arith, steps.counts) }, is)

-- ---- an answer, whatever the tables have

pub undamaged_by : (stands : Tables → World → Type 0) (d : World → List ℕ × World) (w : World) (new : KeeperState) (a : Answer) → Does stands d w new (outcome_of a) → IsDamaged a → ⊥
undamaged_by stands d w new (Made bytes) h is = is
undamaged_by stands d w new (Damaged bytes) h is = h.0 refl
undamaged_by stands d w new (Unavailable close) h is = is
undamaged_by stands d w new (OutOfMemory close) h is = is

not_made : (old new : KeeperState) (a : Answer) → OnErr (outcome_of a) (Shows new old.tables) → (IsMade a → ⊥) → Shows new old.tables
not_made old new (Made bytes) h made = absurd (made tt)
not_made old new (Damaged bytes) h made = h
not_made old new (Unavailable close) h made = h
not_made old new (OutOfMemory close) h made = h

-- what isn't made leaves all tables
pub kept_by : (key : Option Named) (m : Message) (close : Bool) (now : ℕ) (old new : KeeperState) (a : Answer) → DoesBy key m close now old new (outcome_of a) → Tells old new → (IsMade a → ⊥) → Shows new old.tables
kept_by None m close now old new a h told made = h.kept told
kept_by (Some n) m close now old new a h told made = by (nat_lt n.org (2 ^ 32)) refl
  where
    by : (b : Bool) → nat_lt n.org (2 ^ 32) ≡ b → Shows new old.tables
    by true lo = not_made old new a ((h.0 (lower lo)).kept told) made
    by false hi = (h.1 (upper hi)).kept told

pub acknowledged_by : (new : KeeperState) (a : Answer) → TrustedAfter (is_ok (outcome_of a)) new → IsMade a → TrustedAfter true new
acknowledged_by new (Made bytes) h made = h
acknowledged_by new (Damaged bytes) h made = absurd made
acknowledged_by new (Unavailable close) h made = absurd made
acknowledged_by new (OutOfMemory close) h made = absurd made

-- an answer that was made leaves a keeper of which it is known
pub sure_by : (new : KeeperState) (a : Answer) → (IsMade a → TrustedAfter true new) → (b : Bool) → b ≡ is_made a → IsTrue b → TrustedAfter true new
sure_by new (Made bytes) h b is holds = h tt
sure_by new (Damaged bytes) h b is holds = absurd (never b is holds)
sure_by new (Unavailable close) h b is holds = absurd (never b is holds)
sure_by new (OutOfMemory close) h b is holds = absurd (never b is holds)

pub quiet_by : (old new : KeeperState) (a : Answer) → Quiet old new (IsErrOf (outcome_of a) Keeper) → Quiet old new (IsUnavailable a)
quiet_by old new a h none = h (λ failed. none (fallen a failed))
  where
    fallen : (a : Answer) → IsErrOf (outcome_of a) Keeper → IsUnavailable a
    fallen (Made bytes) f = absurd cc
    fallen (Damaged bytes) f = absurd cc
    fallen (Unavailable close) f = tt
    fallen (OutOfMemory close) f = absurd cc

pub cause_by : (old new : KeeperState) (a : Answer) → KeeperCause old new (IsErrOf (outcome_of a) Keeper) → KeeperCause old new (IsUnavailable a)
cause_by old new a h = record { rose = λ failed. h.rose (fallen a failed); never = λ sure failed. h.never sure (fallen a failed) }
  where
    fallen : (a : Answer) → IsUnavailable a → IsErrOf (outcome_of a) Keeper
    fallen (Made bytes) f = absurd f
    fallen (Damaged bytes) f = absurd f
    fallen (Unavailable close) f = refl
    fallen (OutOfMemory close) f = absurd f
