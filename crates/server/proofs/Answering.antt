-- An answer over tables that stand in either sense.
use Rattle.std.proofs.Common.{◌≡◌, ℕ, Bool, true, false, refl}
use Rattle.server_http.specs.declared.message.HttpMessage.{HttpMessage}
use Rattle.store_kv.specs.State.{KeeperState, Tells}
use Rattle.model.specs.Step.{key_in, org_named}
use Rattle.model.specs.World.{World}
use Rattle.store_abstraction.specs.Stands.{Stands}
use Rattle.server.specs.Answers.{Answers, IsDamaged, IsFixed, bytes_in, outcome_of}
use Rattle.server.specs.Own.{Asks, DoesMessage}
use Rattle.server.specs.Requests.{does, message_in}
use Rattle.server.specs.Senses.{Sense, StandsAs, StandsBut, all_but, is_apart, of_all}
use Rattle.server.specs.declared.request.Answer.{Answer}
use Rattle.server.proofs.Apart.{TenantLaws, by_apart, stays_apart}
use Rattle.server.proofs.Elsewhere.{PlaceLaws}
use Rattle.server.proofs.Kept.{answered_apart, answered_by, undamaged_by}
use Rattle.server.proofs.Worlds.{WorldLaws, by_world}

module _ (worlds : WorldLaws) (places : PlaceLaws) (tenants : TenantLaws) (m : HttpMessage) (now : ℕ) (old new : KeeperState) (a : Answer) (does_it : DoesMessage m now old new (outcome_of a)) (told : Tells old new) where
  pub answers_as : IsFixed m a → Asks (message_in m) old new (outcome_of a) → (sense : Sense) (w : World) → StandsAs sense old.tables w → Answers sense w m now old new (bytes_in m.method a)
  answers_as form asks of_all w s = answered_by of_all w m now old new a form asks (by_world worlds (message_in m) m.close now old new w s (key_in (message_in m)) (outcome_of a) refl does_it told)
  answers_as form asks (all_but apart) w s = by (is_apart (all_but apart) (org_named (message_in m))) refl
    where
      by : (b : Bool) → is_apart (all_but apart) (org_named (message_in m)) ≡ b → Answers (all_but apart) w m now old new (bytes_in m.method a)
      by false is = answered_by (all_but apart) w m now old new a form asks (by_apart places tenants apart (message_in m) m.close now old new w s (key_in (message_in m)) (outcome_of a) refl is does_it told)
      by true is = answered_apart (all_but apart) w m now old new (bytes_in m.method a) is asks.steps (asks.told told) (stays_apart places tenants apart (message_in m) m.close now old new w s (key_in (message_in m)) (outcome_of a) refl is does_it told)

  pub undamaged_as : (sense : Sense) (w : World) → StandsAs sense old.tables w → is_apart sense (org_named (message_in m)) ≡ false → IsDamaged a → ⊥
  undamaged_as of_all w s is damaged = undamaged_by Stands (does (message_in m) m.close now) w new a (by_world worlds (message_in m) m.close now old new w s (key_in (message_in m)) (outcome_of a) refl does_it told) damaged
  undamaged_as (all_but apart) w s is damaged = undamaged_by (StandsBut apart) (does (message_in m) m.close now) w new a (by_apart places tenants apart (message_in m) m.close now old new w s (key_in (message_in m)) (outcome_of a) refl is does_it told) damaged
