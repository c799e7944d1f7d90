-- The loops of readers: what was read stands before what is still to be read.
use Rattle.std.proofs.Common.{◌≡◌, ℕ, suc, ◌+◌, ◌-◌, ◌<◌, ◌≤◌, List, [], ◌∷◌, ◌++◌, Option, Some, None, refl, ◌∙◌, append_assoc, arith}
use Rattle.std.proofs.lemmas.List.{append-nil}
use Rattle.store_codec.specs.declared.fail.CodecFail.{CodecFail}
use Rattle.store_codec.specs.declared.fail.CodecFail.TheVariants.{Damaged, Memory}
use Rattle.store_codec.specs.Plain.{◌>>=◌}
use Rattle.store_codec.specs.Gives.{Fails}
use Rattle.store_codec.specs.Composed.{in_turn_at}

-- these before what was read
abbrev pub in_front : {A : Type 0} → List A → List A × List ℕ → Option (List A × List ℕ)
in_front done x = Some (done ++ x.0, x.1)

-- these before what is read, if it is
abbrev pub onto : {A : Type 0} → List A → Option (List A × List ℕ) → Option (List A × List ℕ)
onto done read = read >>= in_front done

item_onto : {A : Type 0} (done : List A) (a : A) (r : Option (List A × List ℕ)) → onto (done ++ a ∷ []) r ≡ onto done (r >>= λ y. Some (a ∷ y.0, y.1))
item_onto done a None = refl
item_onto done a (Some x) = rw (append_assoc done (a ∷ []) x.0) refl

module _ {A : Type 0} (read : List ℕ → Option (A × List ℕ)) where
  -- one item more was read
  pub list_goes_on : (count i : ℕ) (done next : List A) (a : A) (rest after : List ℕ) (whole : Option (List A × List ℕ)) → i < count → next ≡ done ++ a ∷ [] → read rest ≡ Some (a, after) → onto done (in_turn_at read (count - i) rest) ≡ whole → onto next (in_turn_at read (count - (i + 1)) after) ≡ whole
  unfolding in_turn_at
  list_goes_on count i done next a rest after whole lt is e h =
      let k : count - i ≡ suc (count - (i + 1)) = omega arith in
      let g = rw k at h in
      let g2 = rw e at g in
      rw (is) (item_onto done a (in_turn_at read (count - (i + 1)) after) ∙ g2)

  -- an item can't be read
  pub list_ends : (count i : ℕ) (done : List A) (rest : List ℕ) (whole : Option (List A × List ℕ)) (fail : CodecFail) → i < count → Fails fail (read rest) → onto done (in_turn_at read (count - i) rest) ≡ whole → Fails fail whole
  unfolding in_turn_at
  list_ends count i done rest whole Memory lt e h = tt
  list_ends count i done rest whole Damaged lt e h =
      let k : count - i ≡ suc (count - (i + 1)) = omega arith in
      let g = rw k at h in
      let g2 = rw e at g in cc

  -- each was read
  pub list_is_done : (count i : ℕ) (done : List A) (rest : List ℕ) (whole : Option (List A × List ℕ)) → count ≤ i → onto done (in_turn_at read (count - i) rest) ≡ whole → whole ≡ Some (done, rest)
  unfolding in_turn_at
  list_is_done count i done rest whole le h =
      let k : count - i ≡ 0 = omega arith in
      let g = rw k at h in
      let g2 = rw (append-nil done) at g in cc
