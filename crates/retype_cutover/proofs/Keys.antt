-- The key of the change of a type, and keys beside those of changes.
use Rattle.std.proofs.Common.{◌≡◌, ◌↔◌, ℕ, Bool, true, false, ◌&&◌, eqb, IsTrue, Some, refl, sym, ap, ◌∙◌}
use Rattle.std.proofs.lemmas.Bool.{eqb-true, false≢true as clash}
use Rattle.base_lemmas.proofs.Bools.{by_answer as pick, and_first, and_second}
use Rattle.std.proofs.lemmas.Option.{same_Some as some_is}
use Rattle.store_rows.specs.Keys.{Key, Field, Job, key_eq}
use Rattle.store_abstraction.specs.Records.{is_field_key}
use Rattle.store_abstraction.specs.Stands.{org_of_key}

abbrev pub is_job_key : Key → Bool
is_job_key (Job org) = true
is_job_key _ = false

-- what `store_rows` says of keys that are one
abbrev pub EqualKeys : Type 0
EqualKeys = (a b : Key) → IsTrue (key_eq a b) ↔ (a ≡ b)

module _ (equal : EqualKeys) (org : ℕ) where
  same_key : (a b : Key) → a ≡ b → key_eq a b ≡ false → ⊥
  same_key a b e differ = clash (sym differ ∙ (equal a b).1 e)

  -- a key of the organisation that isn't its change's, or isn't the field's
  pub other_job : (k : Key) → org_of_key k ≡ Some org → key_eq k (Job org) ≡ false → is_job_key k ≡ false
  other_job (Job m) own apart = absurd (same_key (Job m) (Job org) (ap Job (some_is m org own)) apart)
  other_job k own apart = refl

  pub other_field : (n i : ℕ) (k : Key) → org_of_key k ≡ Some org → key_eq k (Field org n i) ≡ false → is_field_key n i k ≡ false
  other_field n i (Field m a b) own apart =
      pick (eqb a n && eqb b i) (λ c. (eqb a n && eqb b i) ≡ c → c ≡ false)
      (λ _ so.
      let object : a ≡ n = eqb-true a n (and_first (eqb a n) (eqb b i) so) in
      let field : b ≡ i = eqb-true b i (and_second (eqb a n) (eqb b i) so) in
      absurd (same_key (Field m a b) (Field org n i) (λ h. Field (some_is m org own h) (object h) (field h)) apart))
      (λ _ _. refl)
      refl
  other_field n i k own apart = refl
