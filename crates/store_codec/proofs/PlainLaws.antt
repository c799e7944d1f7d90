-- What is read is spelled so, and what is spelled so is read: for each field, and for whole keys and rows.
use Rattle.std.proofs.Common.{◌≡◌, ℕ, zero, suc, ◌+◌, ◌^◌, ◌<◌, ◌≤◌, Bool, true, false, ◌&&◌, cond, ltb, eqb, List, [], ◌∷◌, ◌++◌, length, take, drop, Option, Some, None, refl, sym, ap, subst, ◌∙◌, append_assoc, arith, eq-eqb, inl, inr}
use Rattle.std.specs.Prelude.{IfSome}
use Rattle.std.specs.Int.{Width, w16, w32, w64, byte_len, from_be_bytes, to_be_bytes}
use Rattle.std.specs.Str.{is_utf8, chars, encode_utf8_all}
use Rattle.std.proofs.lemmas.Str.{chars-encodes, encodes-chars, scalars-chars, is_utf8-from_IsUtf8, IsUtf8-from_is_utf8}
use Rattle.std.proofs.lemmas.Bool.{cases_lt, ltb-false, le-ltb, eqb-true}
use Rattle.std.proofs.lemmas.List.{take_at, drop_at, take-append-drop, length-append, length-take, get_or-drop, get_or-take, get_or_past, nil_from_length, append-nil}
use Rattle.std.proofs.lemmas.Nat.{be_bytes_2, be_bytes_4, be_bytes_8, from_be_bytes-to_be_bytes_2, from_be_bytes-to_be_bytes_4, from_be_bytes-to_be_bytes_8}
use Rattle.std.proofs.lemmas.Option.{cond_some as guard_some}
use Rattle.base_lemmas.proofs.Options.{cond_none_some as guard_none}
use Rattle.base_value.specs.Id.{is_id}
use Rattle.store_codec.specs.PartLaws.{IsBytes, Takes, IsPart}
use Rattle.store_codec.specs.Plain.{nothing, nothing_at, number16, number32, number64, as_characters, ◌>>=◌, number_at, bytes_at, any, fixed_at, passing, text, text_at, FitsText, id_at, truth, truth_at, optional, optional_at, mark_at, pair_at, whole}

IsBytes-drop : (n : ℕ) (bytes : List ℕ) → IsBytes bytes → IsBytes (drop n bytes)
IsBytes-drop n bytes h i = rw get_or-drop (h (n + i))

IsBytes-take : (n : ℕ) (bytes : List ℕ) → IsBytes bytes → IsBytes (take n bytes)
IsBytes-take n bytes h i =
    elim (cases_lt i n) [
      | inl lt ↦ rw (get_or-take n bytes i 0 lt) (h i)
      | inr le ↦ rw (get_or_past (take n bytes) i 0 (omega (arith, length-take n bytes))) (omega arith)
    ]

pub IsBytes-rest : (b : ℕ) (bytes : List ℕ) → IsBytes (b ∷ bytes) → IsBytes bytes
IsBytes-rest b bytes h i = h (suc i)

-- the value of a step that did not fail
pub bind_some : {A B : Type 0} (r : Option A) (f : A → Option B) (y : B) → (r >>= f) ≡ Some y → (x : A) × (r ≡ Some x) × (f x ≡ Some y)
bind_some (Some x) f y e = (x, refl, e)
bind_some None f y e = absurd cc

abbrev there : {A : Type 0} → A → Option A
there x = Some x

pub some_is : {A : Type 0} (x y : A) → there x ≡ there y → x ≡ y
some_is x y e = cc

pub Takes-then : (a x b y c : List ℕ) → Takes a x b → Takes b y c → Takes a (x ++ y) c
Takes-then a x b y c p q = record { parts = p.parts ∙ ap (λ (t : List ℕ). x ++ t) q.parts ∙ sym (append_assoc x y c); rest_fits = q.rest_fits }

-- ---- numbers

pub record IsWide (w : Width) (limit : ℕ) : Type 0 where
  pub len : (n : ℕ) → length (to_be_bytes w n) ≡ byte_len w
  pub back : (bytes : List ℕ) → length bytes ≡ byte_len w → IsBytes bytes → to_be_bytes w (from_be_bytes w bytes) ≡ bytes
  pub again : (n : ℕ) → n < limit → from_be_bytes w (to_be_bytes w n) ≡ n
  pub below : (bytes : List ℕ) → IsBytes bytes → from_be_bytes w bytes < limit

pub wide16 : IsWide w16 (2 ^ 16)
wide16 = record {
  len = λ n. refl;
  back = λ bytes len fits. be_bytes_2 bytes _ len fits refl;
  again = λ n lt. from_be_bytes-to_be_bytes_2 n lt;
  below = λ bytes fits. omega (arith, fits 0, fits 1);
}

pub wide32 : IsWide w32 (2 ^ 32)
wide32 = record {
  len = λ n. refl;
  back = λ bytes len fits. be_bytes_4 bytes _ len fits refl;
  again = λ n lt. from_be_bytes-to_be_bytes_4 n lt;
  below = λ bytes fits. omega (arith, fits 0, fits 1, fits 2, fits 3);
}

pub wide64 : IsWide w64 (2 ^ 64)
wide64 = record {
  len = λ n. refl;
  back = λ bytes len fits. be_bytes_8 bytes _ len fits refl;
  again = λ n lt. from_be_bytes-to_be_bytes_8 n lt;
  below = λ bytes fits. omega (arith, fits 0, fits 1, fits 2, fits 3, fits 4, fits 5, fits 6, fits 7);
}

number_takes : (w : Width) (limit : ℕ) (wide : IsWide w limit) (bytes : List ℕ) (n : ℕ) (rest : List ℕ) → IsBytes bytes → number_at w bytes ≡ Some (n, rest) → Takes bytes (to_be_bytes w n) rest × (n < limit)
number_takes w limit wide bytes n rest fits e =
    let g = guard_none (ltb (length bytes) (byte_len w)) (from_be_bytes w (take (byte_len w) bytes), drop (byte_len w) bytes) (n, rest) e in
    let long : byte_len w ≤ length bytes = ltb-false _ _ g.0 in
    let n-is : from_be_bytes w (take (byte_len w) bytes) ≡ n = ap (λ (p : ℕ × List ℕ). p.0) g.1 in
    let rest-is : drop (byte_len w) bytes ≡ rest = ap (λ (p : ℕ × List ℕ). p.1) g.1 in
    let front : to_be_bytes w n ≡ take (byte_len w) bytes = rw (← n-is) (wide.back (take (byte_len w) bytes) (omega (arith, length-take (byte_len w) bytes)) (IsBytes-take (byte_len w) bytes fits)) in
    (record { parts = rw (front, ← rest-is) (sym (take-append-drop (byte_len w) bytes)); rest_fits = rw (← rest-is) (IsBytes-drop (byte_len w) bytes fits) }, rw (← n-is) (wide.below (take (byte_len w) bytes) (IsBytes-take (byte_len w) bytes fits)))

number_again : (w : Width) (limit : ℕ) (wide : IsWide w limit) (n : ℕ) (rest : List ℕ) → n < limit → number_at w (to_be_bytes w n ++ rest) ≡ Some (n, rest)
number_again w limit wide n rest lt =
    let len = wide.len n in
    let long : ltb (length (to_be_bytes w n ++ rest)) (byte_len w) ≡ false = le-ltb _ _ (omega (arith, length-append (to_be_bytes w n) rest)) in
    rw (long, take_at (to_be_bytes w n) rest (byte_len w) len, drop_at (to_be_bytes w n) rest (byte_len w) len, wide.again n lt) refl

pub number_part : (w : Width) (limit : ℕ) (wide : IsWide w limit) → IsPart (to_be_bytes w) (λ n. n < limit) (number_at w)
number_part w limit wide = record { takes = number_takes w limit wide; again = number_again w limit wide }

-- ---- so many bytes that pass a test

tested_takes : (k : ℕ) (test : List ℕ → Bool) (bytes a rest : List ℕ) → IsBytes bytes → (bytes_at k bytes >>= passing test) ≡ Some (a, rest) → Takes bytes a rest × (length a ≡ k) × (test a ≡ true)
tested_takes k test bytes a rest fits e =
    let b = bind_some (bytes_at k bytes) (passing test) (a, rest) e in
    let g = guard_none (ltb (length bytes) k) (take k bytes, drop k bytes) b.0 b.1 in
    let long : k ≤ length bytes = ltb-false _ _ g.0 in
    let t = guard_some (test b.0.0) b.0 (a, rest) b.2 in
    let parts : ◌≡◌ {A = List ℕ × List ℕ} (take k bytes, drop k bytes) (a, rest) = g.1 ∙ t.1 in
    let a-is : take k bytes ≡ a = ap (λ (p : List ℕ × List ℕ). p.0) parts in
    let rest-is : drop k bytes ≡ rest = ap (λ (p : List ℕ × List ℕ). p.1) parts in
    let passed : test a ≡ true = subst (λ (p : List ℕ × List ℕ). test p.0 ≡ true) t.1 t.0 in
    (record { parts = rw (← a-is, ← rest-is) (sym (take-append-drop k bytes)); rest_fits = rw (← rest-is) (IsBytes-drop k bytes fits) }, rw (← a-is) (omega (arith, length-take k bytes)), passed)

tested_again : (k : ℕ) (test : List ℕ → Bool) (a rest : List ℕ) → length a ≡ k → test a ≡ true → (bytes_at k (a ++ rest) >>= passing test) ≡ Some (a, rest)
tested_again k test a rest len passed =
    let long : ltb (length (a ++ rest)) k ≡ false = le-ltb _ _ (omega (arith, length-append a rest)) in
    rw (long, take_at a rest k len, drop_at a rest k len, passed) refl

pub id_length : (a : List ℕ) → is_id a ≡ true → length a ≡ 15
id_length a ok = eqb-true (length a) 15 (first (eqb (length a) 15) _ ok)
  where
    first : (p q : Bool) → (p && q) ≡ true → p ≡ true
    first true q h = refl
    first false q h = h

pub id_part : IsPart (λ (i : List ℕ). i) (λ i. is_id i ≡ true) id_at
unfolding id_at
id_part = record {
  takes = λ bytes a rest fits e. let t = tested_takes 15 is_id bytes a rest fits e in (t.0, t.2);
  again = λ a rest ok. tested_again 15 is_id a rest (id_length a ok) ok;
}

pub text_part : IsPart text FitsText text_at
unfolding text_at number32
text_part = record {
  takes = λ bytes a rest fits e.
      let b = bind_some (number_at w32 bytes) (λ n. bytes_at n.0 n.1 >>= passing is_utf8 >>= as_characters) (a, rest) e in
      let n = b.0 in
      let t = number_takes w32 (2 ^ 32) wide32 bytes n.0 n.1 fits b.1 in
      let v = bind_some (bytes_at n.0 n.1 >>= passing is_utf8) as_characters (a, rest) b.2 in
      let u = tested_takes n.0 is_utf8 n.1 v.0.0 v.0.1 t.0.rest_fits v.1 in
      let utf8 = IsUtf8-from_is_utf8 v.0.0 u.2 in
      let back : encode_utf8_all (chars v.0.0) ≡ v.0.0 = encodes-chars v.0.0 utf8 in
      let both = Takes-then bytes (to_be_bytes w32 n.0) n.1 v.0.0 v.0.1 t.0 u.0 in
      let counted : Takes bytes (to_be_bytes w32 (length v.0.0) ++ v.0.0) v.0.1 = subst (λ (k : ℕ). Takes bytes (to_be_bytes w32 k ++ v.0.0) v.0.1) (sym u.1) both in
      let spelled : Takes bytes (text (chars v.0.0)) v.0.1 = subst (λ (z : List ℕ). Takes bytes (to_be_bytes w32 (length z) ++ z) v.0.1) (sym back) counted in
      let short : length (encode_utf8_all (chars v.0.0)) < 2 ^ 32 = subst (λ (z : List ℕ). length z < 2 ^ 32) (sym back) (omega (arith, t.1, u.1)) in
      subst (λ (x : List ℕ × List ℕ). Takes bytes (text x.0) x.1 × FitsText x.0) (some_is (chars v.0.0, v.0.1) (a, rest) v.2) (spelled, (short, scalars-chars v.0.0 utf8));
  again = λ a rest ok.
      let utf8 : is_utf8 (encode_utf8_all a) ≡ true = is_utf8-from_IsUtf8 (encode_utf8_all a) (a, (ok.1, refl)) in
      rw (number_again w32 (2 ^ 32) wide32 (length (encode_utf8_all a)) (encode_utf8_all a ++ rest) ok.0, tested_again (length (encode_utf8_all a)) is_utf8 (encode_utf8_all a) rest refl utf8, chars-encodes a ok.1) refl;
}

pub number16_part : IsPart number16 (λ n. n < 2 ^ 16) (number_at w16)
unfolding number16
number16_part = number_part w16 (2 ^ 16) wide16

pub number32_part : IsPart number32 (λ n. n < 2 ^ 32) (number_at w32)
unfolding number32
number32_part = number_part w32 (2 ^ 32) wide32

pub number64_part : IsPart number64 (λ n. n < 2 ^ 64) (number_at w64)
unfolding number64
number64_part = number_part w64 (2 ^ 64) wide64

truth_takes : (bytes : List ℕ) (b : Bool) (rest : List ℕ) → IsBytes bytes → truth_at bytes ≡ Some (b, rest) → Takes bytes (truth b) rest × Unit {0}
unfolding truth_at
truth_takes [] b rest fits e = absurd cc
truth_takes (zero ∷ bytes) b rest fits e =
    subst (λ (x : Bool × List ℕ). Takes (0 ∷ bytes) (truth x.0) x.1 × Unit {0}) (some_is (false, bytes) (b, rest) e) (record { parts = refl; rest_fits = IsBytes-rest 0 bytes fits }, tt)
truth_takes (suc zero ∷ bytes) b rest fits e =
    subst (λ (x : Bool × List ℕ). Takes (1 ∷ bytes) (truth x.0) x.1 × Unit {0}) (some_is (true, bytes) (b, rest) e) (record { parts = refl; rest_fits = IsBytes-rest 1 bytes fits }, tt)
truth_takes (suc (suc d) ∷ bytes) b rest fits e = absurd cc

truth_again : (b : Bool) (rest : List ℕ) → Unit {0} → truth_at (truth b ++ rest) ≡ Some (b, rest)
unfolding truth_at
truth_again true rest h = refl
truth_again false rest h = refl

pub truth_part : IsPart truth (λ _. Unit {0}) truth_at
truth_part = record { takes = truth_takes; again = truth_again }

module _ {A : Type 0} {spell : A → List ℕ} {Fits : A → Type 0} {read : List ℕ → Option (A × List ℕ)} (field : IsPart spell Fits read) where
  optional_takes : (bytes : List ℕ) (o : Option A) (rest : List ℕ) → IsBytes bytes → optional_at read bytes ≡ Some (o, rest) → Takes bytes (optional spell o) rest × IfSome o Fits
  unfolding optional_at
  optional_takes [] o rest fits e = absurd cc
  optional_takes (zero ∷ bytes) o rest fits e =
      subst (λ (x : Option A × List ℕ). Takes (0 ∷ bytes) (optional spell x.0) x.1 × IfSome x.0 Fits) (some_is (None, bytes) (o, rest) e) (record { parts = refl; rest_fits = IsBytes-rest 0 bytes fits }, tt)
  optional_takes (suc zero ∷ bytes) o rest fits e =
      let b = bind_some (read bytes) (λ x. Some (Some x.0, x.1)) (o, rest) e in
      let t = field.takes bytes b.0.0 b.0.1 (IsBytes-rest 1 bytes fits) b.1 in
      subst (λ (x : Option A × List ℕ). Takes (1 ∷ bytes) (optional spell x.0) x.1 × IfSome x.0 Fits) (some_is (Some b.0.0, b.0.1) (o, rest) b.2) (record { parts = ap (λ (w : List ℕ). 1 ∷ w) t.0.parts; rest_fits = t.0.rest_fits }, t.1)
  optional_takes (suc (suc d) ∷ bytes) o rest fits e = absurd cc

  optional_again : (o : Option A) (rest : List ℕ) → IfSome o Fits → optional_at read (optional spell o ++ rest) ≡ Some (o, rest)
  unfolding optional_at
  optional_again None rest h = refl
  optional_again (Some a) rest h = rw (field.again a rest h) refl

  pub optional_part : IsPart (optional spell) (λ o. IfSome o Fits) (optional_at read)
  optional_part = record { takes = optional_takes; again = optional_again }

module _ {A B : Type 0} {f : A → List ℕ} {F : A → Type 0} {f_at : List ℕ → Option (A × List ℕ)} {g : B → List ℕ} {G : B → Type 0} {g_at : List ℕ → Option (B × List ℕ)} (ff : IsPart f F f_at) (gg : IsPart g G g_at) where
  pub pair_part : IsPart {A = A × B} (λ p. f p.0 ++ g p.1) (λ p. F p.0 × G p.1) (pair_at f_at g_at)
  pair_part = record {
    takes = λ bytes a rest fits e.
        let b = bind_some (f_at bytes) (λ x. g_at x.1 >>= λ y. Some ((x.0, y.0), y.1)) (a, rest) e in
        let c = bind_some (g_at b.0.1) (λ y. Some ((b.0.0, y.0), y.1)) (a, rest) b.2 in
        let t = ff.takes bytes b.0.0 b.0.1 fits b.1 in
        let u = gg.takes b.0.1 c.0.0 c.0.1 t.0.rest_fits c.1 in
        let both = Takes-then bytes (f b.0.0) b.0.1 (g c.0.0) c.0.1 t.0 u.0 in
        let made : (A × B) × List ℕ = ((b.0.0, c.0.0), c.0.1) in
        subst (λ (x : (A × B) × List ℕ). Takes bytes (f x.0.0 ++ g x.0.1) x.1 × (F x.0.0 × G x.0.1)) (some_is made (a, rest) c.2) (both, (t.1, u.1));
    again = λ a rest ok.
        rw (append_assoc (f a.0) (g a.1) rest, ff.again a.0 (g a.1 ++ rest) ok.0, gg.again a.1 rest ok.1) refl;
  }

-- ---- to the end

guard_end : {A : Type 0} (n : ℕ) (x y : A) → cond (eqb n 0) (Some x) None ≡ Some y → (n ≡ 0) × (x ≡ y)
guard_end n x y e = let g = guard_some (eqb n 0) x y e in (eqb-true n 0 g.0, g.1)

module _ {A : Type 0} {spell : A → List ℕ} {Fits : A → Type 0} {read : List ℕ → Option (A × List ℕ)} (field : IsPart spell Fits read) where
  pub whole_is : (bytes : List ℕ) (a : A) → IsBytes bytes → whole read bytes ≡ Some a → (bytes ≡ spell a) × Fits a
  whole_is bytes a fits e =
      let b = bind_some (read bytes) (λ x. cond (eqb (length x.1) 0) (Some x.0) None) a e in
      let g = guard_end (length b.0.1) b.0.0 a b.2 in
      let t = field.takes bytes b.0.0 b.0.1 fits b.1 in
      let end : b.0.1 ≡ [] = nil_from_length b.0.1 g.0 in
      let text : bytes ≡ spell b.0.0 = t.0.parts ∙ rw end (append-nil (spell b.0.0)) in
      subst (λ (x : A). (bytes ≡ spell x) × Fits x) g.1 (text, t.1)

  pub whole_again : (a : A) → Fits a → whole read (spell a) ≡ Some a
  whole_again a ok =
      let one : read (spell a) ≡ Some (a, []) = ap read (sym (append-nil (spell a))) ∙ field.again a [] ok in
      rw one refl

pub fixed_part : (k : ℕ) → IsPart (λ (a : List ℕ). a) (λ (a : List ℕ). length a ≡ k) (fixed_at k)
unfolding fixed_at
fixed_part k = record {
  takes = λ bytes a rest fits e. let t = tested_takes k any bytes a rest fits e in (t.0, t.1);
  again = λ a rest ok. tested_again k any a rest ok refl;
}

mark_takes : (m : ℕ) (bytes : List ℕ) (u : Unit {0}) (rest : List ℕ) → IsBytes bytes → mark_at m bytes ≡ Some (u, rest) → Takes bytes (m ∷ []) rest × Unit {0}
unfolding mark_at
mark_takes m [] u rest fits e = absurd cc
mark_takes m (b ∷ bytes) u rest fits e =
    let g = guard_some (eqb b m) (tt, bytes) (u, rest) e in
    let is : b ≡ m = eqb-true b m g.0 in
    let rest-is : bytes ≡ rest = ap (λ (x : Unit {0} × List ℕ). x.1) g.1 in
    (record { parts = rw (is, rest-is) refl; rest_fits = rw (← rest-is) (IsBytes-rest b bytes fits) }, tt)

mark_again : (m : ℕ) (u : Unit {0}) (rest : List ℕ) → Unit {0} → mark_at m (m ∷ rest) ≡ Some (u, rest)
unfolding mark_at
mark_again m u rest h = rw (eq-eqb m m refl) refl

pub mark_part : (m : ℕ) → IsPart (λ (u : Unit {0}). m ∷ []) (λ _. Unit {0}) (mark_at m)
mark_part m = record { takes = mark_takes m; again = mark_again m }

pub nothing_part : IsPart nothing (λ _. Unit {0}) nothing_at
nothing_part = record {
  takes = λ bytes u rest fits e. let rest-is : bytes ≡ rest = ap (λ (x : Unit {0} × List ℕ). x.1) (some_is (tt, bytes) (u, rest) e) in (record { parts = rest-is; rest_fits = rw (← rest-is) fits }, tt);
  again = λ u rest h. refl;
}
