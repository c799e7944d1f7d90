-- What a status says, and what it is caused by, whatever the command.
use Rattle.std.proofs.Common.{◌≡◌, ◌⊎◌, inl, inr, ℕ, Bool, true, false, not, ◌&&◌, Option, Some, None, Result, Ok, Err, refl, sym, ap, subst, ◌∙◌, arith}
use Rattle.std.specs.Prelude.{IfOk, IfSome}
pub use Rattle.std.proofs.lemmas.Bool.{true≢false as true_isnt_false}
use Rattle.base_value.specs.Causes.{Cause}
use Rattle.store_kv.specs.State.{KeeperCause, KeeperState, Steps}
use Rattle.store_kv.specs.Tables.{Tables}
use Rattle.store_abstraction.specs.Stands.{HasKnownVersion, HasUnknownVersion}
use Rattle.commands.specs.Commands.{Command, has_status, used_by}
use Rattle.platform.specs.Promise.{IsStatus, IsUnused, Promise}
use Rattle.platform.specs.Run.{VersionEnds, status_in}
use Rattle.platform.specs.Seen.{Seen}
use Rattle.commands.specs.Stops.{IsKnownStatus, VersionStops}
use Rattle.commands.specs.declared.stop.Stop.{Stop}
use Rattle.commands.specs.declared.stop.Stop.TheVariants.{Damaged, DoorFailed, KeeperFailed, NoMemory, SinkFailed, SourceFailed, UnknownVersion}

-- ---- of these words

pub of_words : (words : Option Command) (c : Command) (a b : Seen) (status : ℕ) → words ≡ Some c → Promise c a b status → IfSome words (λ c. Promise c a b status)
of_words words c a b status is h = subst (λ o. IfSome o (λ c. Promise c a b status)) (sym is) h

pub of_none : (a b : Seen) (words : Option Command) (status : ℕ) → words ≡ None → IfSome words (λ c. Promise c a b status)
of_none a b words status is = subst (λ o. IfSome o (λ c. Promise c a b status)) (sym is) tt

pub status_of_none : (words : Option Command) → words ≡ None → IsStatus words 64
status_of_none words is = subst (λ o. IsStatus o 64) (sym is) refl

pub status_of_words : (words : Option Command) (c : Command) (status : ℕ) → words ≡ Some c → has_status c status ≡ true → IsStatus words status
status_of_words words c status is h = subst (λ o. IsStatus o status) (sym is) h

pub unused_of_words : {K D S W C : Type 0} {k k2 : K} {d d2 : D} {s s2 : S} {w w2 : W} {t t2 : C} (words : Option Command) (c : Command) (status : ℕ) → words ≡ Some c
    → IsUnused (used_by (Some c) status) k k2 d d2 s s2 w w2 t t2 → IsUnused (used_by words status) k k2 d d2 s s2 w w2 t t2
unused_of_words {K} {D} {S} {W} {C} {k} {k2} {d} {d2} {s} {s2} {w} {w2} {t} {t2} words c status is h = subst (λ o. IsUnused (used_by o status) k k2 d d2 s s2 w w2 t t2) (sym is) h

-- it was used, as far as it got past its opening
pub was_opening : (b : Bool) → (not b && true) ≡ false → b ≡ true
was_opening true h = refl
was_opening false h = absurd (true_isnt_false h)

-- ---- causes

-- a status that a command doesn't have
pub not_own : (c : Command) (status n : ℕ) → has_status c status ≡ true → has_status c n ≡ false → status ≡ n → ⊥
not_own c status n own never e = true_isnt_false (sym own ∙ (ap (has_status c) e ∙ never))

pub caused : {F G : Type 0} (n m : ℕ) → Cause n m F → (G → F) → Cause n m G
caused n m h by = record { later = h.later; rose = λ g. h.rose (by g) }

pub quiet : {F : Type 0} (n m : ℕ) → m ≡ n → (F → ⊥) → Cause n m F
quiet n m same never = record { later = omega (arith, same); rose = λ f. absurd (never f) }

pub keeper_caused : {F G : Type 0} (k l : KeeperState) → KeeperCause k l F → (G → F) → KeeperCause k l G
keeper_caused k l h by = record { rose = λ g. h.rose (by g); never = λ sure g. h.never sure (by g) }

pub untouched : (k l : KeeperState) → l ≡ k → Steps k l
untouched k l same = subst (λ (x : KeeperState). Steps k x) (sym same) steps
  where
    steps : Steps k k
    steps = record {
      counts = omega arith;
      stood = λ trusted. trusted;
      was_clean = λ clean. clean;
      closes = λ trusted clean. inl trusted;
      sure = λ never_fails. (never_fails, refl, λ trusted. trusted);
      shut = λ e clean m left. left;
    }

-- ---- what the status of a command that serves connections tells

pub known_zero : (r : Result ℕ Stop) → IfOk r (λ s. s ≡ 0) → IsKnownStatus r
known_zero (Ok x) zero = inl zero
known_zero (Err f) zero = tt

pub is_72 : (r : Result ℕ Stop) (status : ℕ) → IsKnownStatus r → status ≡ status_in r → status ≡ 72 → r ≡ Err KeeperFailed
is_72 (Ok s) status h same e = absurd (omega (arith, same, e, h))
is_72 (Err NoMemory) status h same e = absurd (omega (arith, same, e))
is_72 (Err KeeperFailed) status h same e = refl
is_72 (Err SinkFailed) status h same e = absurd (omega (arith, same, e))
is_72 (Err SourceFailed) status h same e = absurd (omega (arith, same, e))
is_72 (Err DoorFailed) status h same e = absurd (omega (arith, same, e))
is_72 (Err Damaged) status h same e = absurd (omega (arith, same, e))
is_72 (Err UnknownVersion) status h same e = absurd (omega (arith, same, e))

pub is_73 : (r : Result ℕ Stop) (status : ℕ) → IsKnownStatus r → status ≡ status_in r → status ≡ 73 → r ≡ Err SinkFailed
is_73 (Ok s) status h same e = absurd (omega (arith, same, e, h))
is_73 (Err NoMemory) status h same e = absurd (omega (arith, same, e))
is_73 (Err KeeperFailed) status h same e = absurd (omega (arith, same, e))
is_73 (Err SinkFailed) status h same e = refl
is_73 (Err SourceFailed) status h same e = absurd (omega (arith, same, e))
is_73 (Err DoorFailed) status h same e = absurd (omega (arith, same, e))
is_73 (Err Damaged) status h same e = absurd (omega (arith, same, e))
is_73 (Err UnknownVersion) status h same e = absurd (omega (arith, same, e))

pub is_74 : (r : Result ℕ Stop) (status : ℕ) → IsKnownStatus r → status ≡ status_in r → status ≡ 74 → r ≡ Err SourceFailed
is_74 (Ok s) status h same e = absurd (omega (arith, same, e, h))
is_74 (Err NoMemory) status h same e = absurd (omega (arith, same, e))
is_74 (Err KeeperFailed) status h same e = absurd (omega (arith, same, e))
is_74 (Err SinkFailed) status h same e = absurd (omega (arith, same, e))
is_74 (Err SourceFailed) status h same e = refl
is_74 (Err DoorFailed) status h same e = absurd (omega (arith, same, e))
is_74 (Err Damaged) status h same e = absurd (omega (arith, same, e))
is_74 (Err UnknownVersion) status h same e = absurd (omega (arith, same, e))

pub is_75 : (r : Result ℕ Stop) (status : ℕ) → IsKnownStatus r → status ≡ status_in r → status ≡ 75 → r ≡ Err DoorFailed
is_75 (Ok s) status h same e = absurd (omega (arith, same, e, h))
is_75 (Err NoMemory) status h same e = absurd (omega (arith, same, e))
is_75 (Err KeeperFailed) status h same e = absurd (omega (arith, same, e))
is_75 (Err SinkFailed) status h same e = absurd (omega (arith, same, e))
is_75 (Err SourceFailed) status h same e = absurd (omega (arith, same, e))
is_75 (Err DoorFailed) status h same e = refl
is_75 (Err Damaged) status h same e = absurd (omega (arith, same, e))
is_75 (Err UnknownVersion) status h same e = absurd (omega (arith, same, e))

-- ---- the version

abbrev OneVersion : Type 0
OneVersion = (m : Tables) → HasKnownVersion m → HasUnknownVersion m → ⊥

module _ (one : OneVersion) (m : Tables) where
  -- behind the opening
  behind_opening : (status : ℕ) → ((status ≡ 0) ⊎ (status ≡ 65)) ⊎ ((status ≡ 73) ⊎ ((status ≡ 74) ⊎ (status ≡ 75))) → HasKnownVersion m → VersionEnds m status
  behind_opening status is h = record { known = λ _. h; unknown = λ wrong. absurd (omega (arith, is, wrong)); told = λ u. absurd (one m h u); damaged = λ wrong. absurd (omega (arith, is, wrong)) }

  -- out of memory, or the keeper failed: the version may be any
  unknown_yet : (status : ℕ) → (status ≡ 71) ⊎ (status ≡ 72) → VersionEnds m status
  unknown_yet status is = record { known = λ wrong. absurd (omega (arith, is, wrong)); unknown = λ wrong. absurd (omega (arith, is, wrong)); told = λ u. inr is; damaged = λ wrong. absurd (omega (arith, is, wrong)) }

  pub version_ends : (r : Result ℕ Stop) (status : ℕ) → IsKnownStatus r → status ≡ status_in r → VersionStops m r → VersionEnds m status
  version_ends (Ok s) status (inl e) same h = behind_opening status (inl (inl (same ∙ e))) h
  version_ends (Ok s) status (inr e) same h = behind_opening status (inl (inr (same ∙ e))) h
  version_ends (Err NoMemory) status k same h = unknown_yet status (inl same)
  version_ends (Err KeeperFailed) status k same h = unknown_yet status (inr same)
  version_ends (Err SinkFailed) status k same h = behind_opening status (inr (inl same)) h
  version_ends (Err SourceFailed) status k same h = behind_opening status (inr (inr (inl same))) h
  version_ends (Err DoorFailed) status k same h = behind_opening status (inr (inr (inr same))) h
  version_ends (Err Damaged) status k same h = record { known = λ wrong. absurd (omega (arith, same, wrong)); unknown = λ wrong. absurd (omega (arith, same, wrong)); told = λ u. absurd (h.0 u); damaged = λ is. h.1 }
  version_ends (Err UnknownVersion) status k same h = record { known = λ wrong. absurd (omega (arith, same, wrong)); unknown = λ is. h; told = λ u. inl same; damaged = λ wrong. absurd (omega (arith, same, wrong)) }
