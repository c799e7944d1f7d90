-- The bytes of keys, and keys that begin with some parts.
use Rattle.std.proofs.Common.{◌≡◌, ℕ, zero, suc, ◌<◌, true, eqb, List, [], ◌∷◌, ◌++◌, length, IsTrue, refl, sym, ap, subst, ◌∙◌, append_assoc, arith}
use Rattle.std.specs.Prelude.{◌↔◌, nat_lt}
use Rattle.std.specs.List.{AllByRecursion, list_all}
use Rattle.std.proofs.lemmas.Bool.Decides.{nat_tests}
use Rattle.base_lemmas.proofs.Lists.{to_be_bytes-bytes as number64_low}
use Rattle.std.proofs.lemmas.Bool.{and_parts as and_both}
use Rattle.store_kv.specs.Prefixes.{AreBytes, StartsWith}
use Rattle.base_value.specs.Id.{is_digit62, is_id}
use Rattle.base_value.specs.declared.sharing.Principal.{Principal}
use Rattle.base_value.specs.declared.sharing.Principal.TheVariants as p
use Rattle.store_codec.specs.Composed.{ordered, principal}
use Rattle.store_codec.specs.PartLaws.{IsBytes}
use Rattle.store_codec.specs.Plain.{number16, number32, number64}
use Rattle.store_codec.specs.Shapes.{Shape, Nothing, Number8, Number16, Number32, Number64, Identity, Mark, Named, Ordered, Both, Val, spelled, FitsIn, taken, is_key_shape, front, front_of}
use Rattle.store_codec.proofs.ComposedOrder.{number16_low}
use Rattle.store_codec.proofs.PlainLaws.{IsBytes-rest, some_is}
use Rattle.store_codec.proofs.PlainOrder.{number32_low}
use Rattle.store_codec.proofs.ShapeLaws.{shape_part}

-- ---- bytes

abbrev Low : List ℕ → Type 0
Low = AllByRecursion (λ d. d < 256)

low_append : (xs ys : List ℕ) → Low xs → Low ys → Low (xs ++ ys)
low_append [] ys p q = q
low_append (x ∷ xs) ys p q = (p.0, low_append xs ys p.1 q)

low_digit : (c : ℕ) → is_digit62 c ≡ true → c < 256
low_digit c h = grind (arith, nat_tests)

low_digits : (cs : List ℕ) → list_all is_digit62 cs ≡ true → Low cs
low_digits [] h = tt
low_digits (c ∷ cs) h = let t = and_both (is_digit62 c) (list_all is_digit62 cs) h in (low_digit c t.0, low_digits cs t.1)

low_id : (i : List ℕ) → is_id i ≡ true → Low i
low_id i h = low_digits i (and_both (eqb (length i) 15) (list_all is_digit62 i) h).1

low_principal : (q : Principal) → FitsIn Named q → Low (principal q)
low_principal (p.User i) f = (omega arith, low_id i f)
low_principal (p.Role i) f = (omega arith, low_id i f)
low_principal (p.Subordinates i) f = (omega arith, low_id i f)
low_principal (p.Group i) f = (omega arith, low_id i f)

low_ordered : (a : List ℕ) → IsBytes a → Low (ordered a)
low_ordered [] f = (omega arith, (omega arith, tt))
low_ordered (zero ∷ a) f = (omega arith, (omega arith, low_ordered a (IsBytes-rest 0 a f)))
low_ordered (suc b ∷ a) f = (f 0, low_ordered a (IsBytes-rest (suc b) a f))

low_mark : (m : ℕ) → nat_lt m 256 ≡ true → m < 256
low_mark m h = grind (arith, nat_tests)

low_shape : (s : Shape) → IsTrue (is_key_shape s) → (v : Val s) → FitsIn s v → Low (spelled s v)
unfolding number16 number32 number64
low_shape Nothing k v f = tt
low_shape Number8 k v f = (f, tt)
low_shape Number16 k v f = number16_low v f
low_shape Number32 k v f = number32_low v
low_shape Number64 k v f = number64_low v f
low_shape Identity k v f = low_id v f
low_shape (Mark m) k v f = (low_mark m k, tt)
low_shape Named k v f = low_principal v f
low_shape Ordered k v f = low_ordered v f
low_shape (Both s t) k v f =
    let h = and_both (is_key_shape s) (is_key_shape t) k in
    low_append (spelled s v.0) (spelled t v.1) (low_shape s h.0 v.0 f.0) (low_shape t h.1 v.1 f.1)
low_shape _ k v f = absurd cc

are_bytes : (xs : List ℕ) → Low xs → AreBytes xs
are_bytes [] h i = omega arith
are_bytes (x ∷ xs) h zero = h.0
are_bytes (x ∷ xs) h (suc i) = are_bytes xs h.1 i

pub shape_bytes : (s : Shape) → IsTrue (is_key_shape s) → (v : Val s) → FitsIn s v → AreBytes (spelled s v)
shape_bytes s k v f = are_bytes (spelled s v) (low_shape s k v f)

-- ---- the first parts

front_fits : (n : ℕ) (s : Shape) (v : Val s) → FitsIn s v → FitsIn (front n s) (front_of n s v)
front_fits (suc (suc n)) (Both s t) v f = (f.0, front_fits (suc n) t v.1 f.1)
front_fits (suc zero) (Both s t) v f = f.0
front_fits _ s v f = f

no_rest : (xs : List ℕ) → xs ≡ xs ++ []
no_rest [] = refl
no_rest (x ∷ xs) = ap (λ (ys : List ℕ). x ∷ ys) (no_rest xs)

-- a spelling begins with that of its first parts
front_spelled : (n : ℕ) (s : Shape) (v : Val s) → StartsWith (spelled (front n s) (front_of n s v)) (spelled s v)
front_spelled (suc (suc n)) (Both s t) v =
    let r = front_spelled (suc n) t v.1 in
    (r.0, ap (λ (z : List ℕ). spelled s v.0 ++ z) r.1 ∙ sym (append_assoc (spelled s v.0) (spelled (front (suc n) t) (front_of (suc n) t v.1)) r.0))
front_spelled (suc zero) (Both s t) v = (spelled t v.1, refl)
front_spelled _ s v = ([], no_rest (spelled s v))

pub shape_begins : (n : ℕ) (s : Shape) (v : Val s) (p : Val (front n s)) → FitsIn s v → FitsIn (front n s) p → StartsWith (spelled (front n s) p) (spelled s v) ↔ (front_of n s v ≡ p)
shape_begins n s v p fv fp = (λ h. same h, λ e. subst (λ (q : Val (front n s)). StartsWith (spelled (front n s) q) (spelled s v)) e (front_spelled n s v))
  where
    same : StartsWith (spelled (front n s) p) (spelled s v) → front_of n s v ≡ p
    same h =
        let law = shape_part (front n s) in
        let r = front_spelled n s v in
        ap (λ (x : Val (front n s) × List ℕ). x.0)
        (some_is (front_of n s v, r.0) (p, h.0)
        (sym (law.again (front_of n s v) r.0 (front_fits n s v fv)) ∙ ap (taken (front n s)) (sym r.1 ∙ h.1) ∙ law.again p h.0 fp))
