-- Places of organisations.
use Rattle.std.proofs.Common.{◌≡◌, ◌∙◌, ◌<◌, ◌^◌, ℕ, true, false, cond, eqb, IsTrue, List, [], ◌++◌, take, Option, Some, None, refl, sym, ap}
use Rattle.std.specs.Prelude.{◌↔◌}
use Rattle.std.specs.Int.{w32, from_be_bytes}
use Rattle.std.specs.FinMap as map
use Rattle.std.specs.FinMap.{IsAntisymmetric}
use Rattle.std.specs.Ordering.{is_ge}
use Rattle.std.proofs.lemmas.Bool.{eqb-true, eqb-false}
use Rattle.std.proofs.lemmas.List.{append-nil}
use Rattle.std.proofs.lemmas.Nat.{from_be_bytes-to_be_bytes_4}
use Rattle.base_lemmas.proofs.Bools.{by_answer as pick}
use Rattle.store_kv.specs.Prefixes.{AreBytes, StartsWith, raised}
use Rattle.store_kv.specs.Tables.{Place, Tables, bytes_cmp, is_between, place_cmp}
use Rattle.store_rows.specs.Keys.{Key, Version, Org, Object, Field, Job, User, Role, Group, Validation, Sharing, Data, Index, Unique, Relation, Owner, Share, Grant, FitsKey, spell}
use Rattle.model.specs.Cases.{in_case}
use Rattle.store_codec.specs.Plain.{number32}
use Rattle.store_abstraction.specs.Local.{is_own, is_place_of, is_under, part_of}

-- the keys with one prefix are one interval, and keys are bytes, as `store_kv` and `store_rows` say
pub record PrefixLaws : Type 0 where
  pub interval : (prefix above key : List ℕ) → raised prefix ≡ Some above → AreBytes key → (IsTrue (is_between prefix above key) ↔ StartsWith prefix key)
  pub unbounded : (prefix key : List ℕ) → raised prefix ≡ None → AreBytes key → (IsTrue (is_ge (bytes_cmp key prefix)) ↔ StartsWith prefix key)
  pub bytes : (k : Key) → FitsKey k → AreBytes (spell k).1

-- the four bytes of a number, and what follows them
four : (n : ℕ) (rest : List ℕ) → take 4 (number32 n ++ rest) ≡ number32 n
unfolding number32
four n rest = refl

one : (a b : ℕ) → a < 2 ^ 32 → b < 2 ^ 32 → number32 a ≡ number32 b → a ≡ b
unfolding number32
one a b la lb e = sym (from_be_bytes-to_be_bytes_4 a la) ∙ ap (from_be_bytes w32) e ∙ from_be_bytes-to_be_bytes_4 b lb

module _ (laws : PrefixLaws) where
  -- keys of bytes that are under a prefix are those that begin with it
  under_is : (prefix key : List ℕ) → AreBytes key → (is_under prefix key ≡ true ↔ StartsWith prefix key)
  under_is prefix key bytes = by (raised prefix) refl
    where
      by : (o : Option (List ℕ)) → raised prefix ≡ o → (in_case o (is_ge (bytes_cmp key prefix)) (λ above. is_between prefix above key) ≡ true ↔ StartsWith prefix key)
      by None e = laws.unbounded prefix key e bytes
      by (Some above) e = laws.interval prefix above key e bytes

  begins : (a n : ℕ) (key rest : List ℕ) → key ≡ number32 a ++ rest → AreBytes key → a < 2 ^ 32 → n < 2 ^ 32 → is_under (number32 n) key ≡ eqb a n
  begins a n key rest is bytes la ln =
      pick (eqb a n) (λ b. is_under (number32 n) key ≡ b)
      (λ e. (under_is (number32 n) key bytes).1 (rest, is ∙ ap (λ (x : ℕ). number32 x ++ rest) (eqb-true a n e)))
      (λ e. pick (is_under (number32 n) key) (λ b. b ≡ false) (λ h. absurd (eqb-false a n e (same ((under_is (number32 n) key bytes).0 h)))) (λ _. refl))
    where
      same : StartsWith (number32 n) key → a ≡ n
      same s = one a n la ln (sym (four a rest) ∙ ap (take 4) (sym is ∙ s.1) ∙ four n s.0)

  -- a key of rows is at a place of the organisation whose it is
  pub place_is : (n : ℕ) (k : Key) → n < 2 ^ 32 → FitsKey k → is_place_of n (spell k) ≡ is_own n k
  place_is n Version ln f = refl
  place_is n (Org a) ln f = begins a n _ [] (sym (append-nil (number32 a))) (laws.bytes (Org a) f) f ln
  place_is n (Object a i) ln f = begins a n _ _ refl (laws.bytes (Object a i) f) f.0 ln
  place_is n (Field a i g) ln f = begins a n _ _ refl (laws.bytes (Field a i g) f) f.0 ln
  place_is n (Job a) ln f = begins a n _ [] (sym (append-nil (number32 a))) (laws.bytes (Job a) f) f ln
  place_is n (User a i) ln f = begins a n _ _ refl (laws.bytes (User a i) f) f.0 ln
  place_is n (Role a i) ln f = begins a n _ _ refl (laws.bytes (Role a i) f) f.0 ln
  place_is n (Group a i) ln f = begins a n _ _ refl (laws.bytes (Group a i) f) f.0 ln
  place_is n (Validation a i name) ln f = begins a n _ _ refl (laws.bytes (Validation a i name) f) f.0 ln
  place_is n (Sharing a name) ln f = begins a n _ _ refl (laws.bytes (Sharing a name) f) f.0 ln
  place_is n (Data a i id) ln f = begins a n _ _ refl (laws.bytes (Data a i id) f) f.0 ln
  place_is n (Index a i s v id) ln f = begins a n _ _ refl (laws.bytes (Index a i s v id) f) f.0 ln
  place_is n (Unique a i s v) ln f = begins a n _ _ refl (laws.bytes (Unique a i s v) f) f.0 ln
  place_is n (Relation a i s v id) ln f = begins a n _ _ refl (laws.bytes (Relation a i s v id) f) f.0 ln
  place_is n (Owner a i o id) ln f = begins a n _ _ refl (laws.bytes (Owner a i o id) f) f.0 ln
  place_is n (Share a id to) ln f = begins a n _ _ refl (laws.bytes (Share a id to) f) f.0 ln
  place_is n (Grant a to i id cause) ln f = begins a n _ _ refl (laws.bytes (Grant a to i id cause) f) f.0 ln

-- what is at a place of the part
pub part_at : IsAntisymmetric place_cmp → (n : ℕ) (m : Tables) (place : Place) → map.get (part_of n m) place ≡ cond (is_place_of n place) (map.get m place) None
part_at exact n m place = map.get-retain_keys m (is_place_of n) place (λ x e. ap (is_place_of n) (sym (exact place x e)))
