-- A call that an error ended, and then the one that finds whether the connection is open, as one.
use Rattle.std.proofs.Common.{◌≡◌, IsTrue, ap, ◌∙◌, arith}
use Rattle.sqlite.specs.Tree.{Trees}
use Rattle.sqlite.specs.Effect.{Database}
use Rattle.sqlite.specs.State.{State, HasCleanDisk, Survives}
use Rattle.sqlite.proofs.StateLemmas.{survives_then}
use Rattle.store_sqlite.specs.Kept.{IsReady, map_in}
use Rattle.store_sqlite.specs.inner.Steps.{Keeps, Stays, WasOpen}

module _ (a b c : State) (keeps : Keeps b c) where
  early : HasCleanDisk c → HasCleanDisk b
  early clean = omega (arith, keeps.clean)

  pub keeps_on : Keeps a b → Keeps a c
  keeps_on first = record { clean = omega (arith, first.clean, keeps.clean) }

  pub survives_on : (P : Trees → Type 0) → Survives a b P → Survives b c (λ _. ⊥) → Survives a c P
  survives_on P first then = survives_then a b c P (λ _. ⊥) P (λ _ db left. left) (λ _ db none. absurd none) first then

  module _ (was : HasCleanDisk c → WasOpen b c) where
    pub was_open_on : (HasCleanDisk b → WasOpen a b) → HasCleanDisk c → WasOpen a c
    was_open_on first clean is_open = first (early clean) (was clean is_open)

    module _ (stays : HasCleanDisk c → Stays b c) where
      pub stays_on : (HasCleanDisk b → Stays a b) → HasCleanDisk c → Stays a c
      stays_on first clean ready is_open =
          let x = first (early clean) ready (was clean is_open) in
          let y = stays clean x.0 is_open in
          (y.0, y.1 ∙ x.1)

      pub kept_on : (IsReady a → HasCleanDisk b → IsTrue b.is_open → IsReady b × (map_in b.now.trees ≡ map_in a.now.trees)) → IsReady a → HasCleanDisk c → IsTrue c.is_open
          → IsReady c × (map_in c.now.trees ≡ map_in a.now.trees)
      kept_on first ready clean is_open =
          let x = first ready (early clean) (was clean is_open) in
          let y = stays clean x.0 is_open in
          (y.0, ap (λ (d : Database). map_in d.trees) y.1 ∙ x.1)
