-- The bytes of keys, and the interval of a prefix.
use Rattle.std.proofs.Common.{◌≡◌, ℕ, ◌<◌, ◌-◌, ◌^◌, Bool, true, false, eqb, IsTrue, List, [], ◌∷◌, ◌++◌, Option, Some, None, refl, arith}
use Rattle.std.proofs.lemmas.Bool.{eqb-true}
use Rattle.std.proofs.lemmas.Nat.{from_be_bytes-to_be_bytes_4}
use Rattle.std.specs.Int.{w32, from_be_bytes}
use Rattle.std.specs.Option.{IsSome}
use Rattle.std.specs.Prelude.{◌↔◌}
use Rattle.store_kv.specs.Prefixes.{AreBytes, StartsWith, raised, raised_from}
use Rattle.store_kv.specs.Tables.{is_between}
use Rattle.store_codec.specs.Plain.{number32}
use Rattle.store_codec.specs.Shapes.{Shape, Val, spelled, FitsIn, is_key_shape}
use Rattle.store_rows.specs.Keys.{Key, Version, Org, Object, Field, Job, User, Role, Group, Validation, Sharing, Data, Index, Unique, Relation, Owner, Share, Grant, spelling, spell, FitsKey}

-- spellings of keys are bytes, as `store_codec` says
abbrev pub BytesOfKeys : Type 0
BytesOfKeys = (s : Shape) → IsTrue (is_key_shape s) → (v : Val s) → FitsIn s v → AreBytes (spelled s v)

is_key : (k : Key) → is_key_shape (spelling k).shape ≡ true
is_key Version = refl
is_key (Org o) = refl
is_key (Object o n) = refl
is_key (Field o n f) = refl
is_key (Job o) = refl
is_key (User o i) = refl
is_key (Role o i) = refl
is_key (Group o i) = refl
is_key (Validation o n r) = refl
is_key (Sharing o r) = refl
is_key (Data o n i) = refl
is_key (Index o n s v i) = refl
is_key (Unique o n s v) = refl
is_key (Relation o n s t i) = refl
is_key (Owner o n w i) = refl
is_key (Share o i p) = refl
is_key (Grant o p n i c) = refl

pub key_bytes_of : BytesOfKeys → (k : Key) → FitsKey k → AreBytes (spell k).1
key_bytes_of law k f = law (spelling k).shape (is_key k) (spelling k).parts f

-- the keys with a prefix, as `store_kv` says
abbrev pub PrefixInterval : Type 0
PrefixInterval = (prefix above key : List ℕ) → raised prefix ≡ Some above → AreBytes key → IsTrue (is_between prefix above key) ↔ StartsWith prefix key

pub under : BytesOfKeys → PrefixInterval → (k : Key) (prefix above : List ℕ) → FitsKey k → raised prefix ≡ Some above → IsTrue (is_between prefix above (spell k).1) ↔ StartsWith prefix (spell k).1
under law interval k prefix above f e = interval prefix above (spell k).1 e (key_bytes_of law k f)

-- ---- prefixes that can be raised

raised_on : (b : ℕ) (r : Option (List ℕ)) → IsSome r → IsSome (raised_from b r)
raised_on b (Some bytes) h = refl
raised_on b None h = absurd cc

raised_here : (b : ℕ) (r : Option (List ℕ)) → eqb b 255 ≡ false → IsSome (raised_from b r)
raised_here b (Some bytes) h = refl
raised_here b None h = rw h refl

-- four bytes that aren't all 255, whatever follows
raised_four : (a b c d : ℕ) (rest : List ℕ) → (a ≡ 255 → b ≡ 255 → c ≡ 255 → d ≡ 255 → ⊥) → IsSome (raised (a ∷ b ∷ c ∷ d ∷ rest))
raised_four a b c d rest h = by (eqb d 255) refl (eqb c 255) refl (eqb b 255) refl (eqb a 255) refl
  where
    by : (t : Bool) → eqb d 255 ≡ t → (u : Bool) → eqb c 255 ≡ u → (v : Bool) → eqb b 255 ≡ v → (w : Bool) → eqb a 255 ≡ w → IsSome (raised (a ∷ b ∷ c ∷ d ∷ rest))
    by false e u f v g w k = raised_on a (raised (b ∷ c ∷ d ∷ rest)) (raised_on b (raised (c ∷ d ∷ rest)) (raised_on c (raised (d ∷ rest)) (raised_here d (raised rest) e)))
    by true e false f v g w k = raised_on a (raised (b ∷ c ∷ d ∷ rest)) (raised_on b (raised (c ∷ d ∷ rest)) (raised_here c (raised (d ∷ rest)) f))
    by true e true f false g w k = raised_on a (raised (b ∷ c ∷ d ∷ rest)) (raised_here b (raised (c ∷ d ∷ rest)) g)
    by true e true f true g false k = raised_here a (raised (b ∷ c ∷ d ∷ rest)) k
    by true e true f true g true k = absurd (h (eqb-true a 255 k) (eqb-true b 255 g) (eqb-true c 255 f) (eqb-true d 255 e))

not_all : (org a b c d : ℕ) → org < 2 ^ 32 - 1 → from_be_bytes w32 (a ∷ b ∷ c ∷ d ∷ []) ≡ org → a ≡ 255 → b ≡ 255 → c ≡ 255 → d ≡ 255 → ⊥
not_all org a b c d h e p q r s = omega (arith, h, e, p, q, r, s)

pub ends : (org : ℕ) (rest : List ℕ) → org < 2 ^ 32 - 1 → IsSome (raised (number32 org ++ rest))
unfolding number32
ends org rest h = raised_four _ _ _ _ rest (not_all org _ _ _ _ h (from_be_bytes-to_be_bytes_4 org (omega (arith, h))))
