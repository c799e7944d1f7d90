-- Values that are given exactly where a test holds.
use Rattle.std.proofs.Common.{◌≡◌, Bool, true, false, if◌then◌else◌, Some, None, Ok, Err, refl, sym}

-- a test that would show a contradiction is false
pub not_true : (b : Bool) → (b ≡ true → false ≡ true) → b ≡ false
not_true true h = sym (h refl)
not_true false h = refl

pub some_given : {A : Type 0} (b : Bool) (x y : A) → Some y ≡ (if b then Some x else None) → (b ≡ true) × (y ≡ x)
some_given true x y e = (refl, cc)
some_given false x y e = absurd cc

pub none_given : {A : Type 0} (b : Bool) (x : A) → None ≡ (if b then Some x else None) → b ≡ false
none_given true x e = absurd cc
none_given false x e = refl

pub ok_given : {A E : Type 0} (b : Bool) (x y : A) (why : E) → (if b then Ok x else Err why) ≡ Ok y → (b ≡ true) × (x ≡ y)
ok_given true x y why e = (refl, cc)
ok_given false x y why e = absurd cc

pub ok_in_turn : {A E : Type 0} (a b : Bool) (x y : A) (why other : E) → (if a then (if b then Ok x else Err why) else Err other) ≡ Ok y → (b ≡ true) × (x ≡ y)
ok_in_turn true b x y why other e = ok_given b x y why e
ok_in_turn false b x y why other e = absurd cc
