-- An element of a list that is mapped.
use Rattle.std.proofs.Common.{◌≡◌, ℕ, zero, suc, List, [], ◌∷◌, Option, Some, refl, ◌<◌, length, arith, Err}
use Rattle.std.specs.Prelude.{get_or}
use Rattle.std.proofs.Common.{map as plain_map}
use Rattle.std.specs.List.{AllByRecursion}
use Rattle.store_codec.specs.declared.fail.CodecFail.{CodecFail}
use Rattle.store_codec.specs.declared.fail.CodecFail.TheVariants.{Damaged, Memory}
use Rattle.store_codec.specs.Gives.{Gives}

abbrev there : {A : Type 0} → A → Option A
there x = Some x

some_is : {A : Type 0} (x y : A) → there x ≡ there y → x ≡ y
some_is x y e = cc

pub element : {X Y : Type 0} (f : X → Y) (Fits : X → Type 0) (xs : List X) (n : ℕ) (d : Y) → AllByRecursion Fits xs → n < length (plain_map f xs) → (x : X) × Fits x × (f x ≡ get_or (plain_map f xs) n d)
element f Fits [] n d all lt = absurd (omega (arith, lt))
element f Fits (x ∷ xs) zero d all lt = (x, all.0, refl)
element f Fits (x ∷ xs) (suc n) d all lt = element f Fits xs n d all.1 (omega (arith, lt))

pub no_row : {X : Type 0} (e : CodecFail) (x : X) → Gives (Err e) (Some x) → e ≡ Damaged → ⊥
no_row Damaged x g e = absurd cc
no_row Memory x g e = absurd cc
