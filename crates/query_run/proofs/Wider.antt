-- What reads of a draft show.
use Rattle.std.proofs.Common.{◌≤◌, ℕ}
use Rattle.store_kv.specs.Draft.{DraftReads, DraftTells, Held}
use Rattle.store_kv.specs.State.{KeeperState}
use Rattle.store_abstraction.specs.Calls.{Calls, Ending}

-- a bound may be wider
pub wider_calls : {K : Type 0} (state : K → KeeperState) → ((shown most : ℕ) (a b : Held K) → (DraftTells state a b → shown ≤ most) → DraftReads state shown a b → DraftReads state most a b)
    → (shown most : ℕ) (e : Ending) (a b : Held K) → shown ≤ most → Calls state shown e a b → Calls state most e a b
wider_calls state wider shown most e a b few h = record { reads = wider shown most a b (λ _. few) h.reads; stays = h.stays; cause = h.cause; quiet = h.quiet }
