-- What is in an `Option`.
use Rattle.std.proofs.Common.{◌≡◌, true, Option, Some, None, refl, false, Bool, cond, ◌∙◌, ℕ, eqb, ap}
use Rattle.std.specs.Prelude.{is_some, IsSome}
use Rattle.std.specs.Option.{option_map}
use Rattle.base_lemmas.proofs.Numbers.{eqb-self}
use Rattle.std.proofs.lemmas.Option.{same_Some}

pub some_there : {X : Type 0} (x : Option X) → is_some x ≡ true → (y : X) × (x ≡ Some y)
some_there None e = absurd cc
some_there (Some y) e = (y, refl)

pub none_from_is_some : {X : Type 0} (x : Option X) → is_some x ≡ false → x ≡ None
none_from_is_some None e = refl
none_from_is_some (Some x) e = absurd cc

pub some_from_IsSome : {X : Type 0} (o : Option X) → IsSome o → (x : X) × (o ≡ Some x)
some_from_IsSome None h = absurd cc
some_from_IsSome (Some x) h = (x, refl)

pub none_from_no_some : {A : Type 0} (x : Option A) → ((y : A) → x ≡ Some y → ⊥) → x ≡ None
none_from_no_some None h = refl
none_from_no_some (Some y) h = absurd (h y refl)

pub option_map_some : {X Y : Type 0} (f : X → Y) (o : Option X) (y : Y) → option_map f o ≡ Some y → (x : X) × (o ≡ Some x)
option_map_some f None y e = absurd cc
option_map_some f (Some x) y e = (x, refl)

pub option_map-compose : {X Y Z : Type 0} (f : Y → Z) (g : X → Y) (o : Option X) → option_map (λ x. f (g x)) o ≡ option_map f (option_map g o)
option_map-compose f g None = refl
option_map-compose f g (Some x) = refl

pub cond_none_some : {A : Type 0} (t : Bool) (y z : A) → cond t None (Some y) ≡ Some z → (t ≡ false) × (y ≡ z)
cond_none_some true y z e = absurd cc
cond_none_some false y z e = (refl, cc)

pub eqb-same_Some : (m org : ℕ) → ◌≡◌ {A = Option ℕ} (Some m) (Some org) → eqb m org ≡ true
eqb-same_Some m org e = ap (λ (x : ℕ). eqb x org) (same_Some m org e) ∙ eqb-self org
