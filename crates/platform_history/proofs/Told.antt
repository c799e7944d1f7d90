-- What a history of one organisation says.
use Rattle.std.proofs.Common.{◌≡◌, ◌⊎◌, inl, inr, ℕ, List, [], Result, Ok, Err, refl, arith}
use Rattle.std.specs.Io.KnownBytes.{Appends}
use Rattle.model.specs.World.{World}
use Rattle.base_value.specs.Causes.{Rose}
use Rattle.commands.specs.Commands.{org_add, printed, prints}
use Rattle.commands.specs.Deeds.{Prints, text_of}
use Rattle.platform.specs.Run.{status_in}
use Rattle.commands.specs.declared.stop.Stop.{Stop}
use Rattle.commands.specs.declared.stop.Stop.TheVariants.{Damaged, DoorFailed, KeeperFailed, NoMemory, SinkFailed, SourceFailed, UnknownVersion}
use Rattle.platform_history.specs.Runs.{Around}
use Rattle.platform_history.specs.Histories.{Breaks, Says}

module _ (a b : Around) (name secret : List ℕ) where
  abbrev Line : Type 0
  Line = Appends a.written b.written (text_of (printed (org_add name secret) [] [] []).deeds)

  by_result : (r : Result ℕ Stop) (said : World) → 0 ≡ status_in r → Prints [] (printed (org_add name secret) [] [] []) a.written b.written r said → Line
  by_result (Ok status) said same h = h.1
  by_result (Err NoMemory) said same h = absurd (omega (arith, same))
  by_result (Err KeeperFailed) said same h = absurd (omega (arith, same))
  by_result (Err SinkFailed) said same h = absurd (omega (arith, same))
  by_result (Err SourceFailed) said same h = absurd (omega (arith, same))
  by_result (Err DoorFailed) said same h = absurd (omega (arith, same))
  by_result (Err Damaged) said same h = absurd (omega (arith, same))
  by_result (Err UnknownVersion) said same h = absurd (omega (arith, same))

  pub line : (end : World) → Says (prints (org_add name secret)) [] end a b 0 ⊎ (Breaks (prints (org_add name secret)) [] end a b 0 × Rose a.keeper_faults b.keeper_faults) → Line
  line end (inl says) = let h = says.1 in by_result h.4 h.6 h.5 h.7
  line end (inr breaks) = absurd (breaks.0.1 (inl refl))
