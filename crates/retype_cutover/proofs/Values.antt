-- Values at their places, and cursors that have passed a record.
use Rattle.std.proofs.Common.{◌≡◌, ℕ, zero, suc, true, false, List, [], ◌∷◌, Option, Some, None, refl, ap, ◌∙◌, subst, nat_cmp, Less, Equal, Greater, Ordering}
use Rattle.std.specs.Prelude.{slice_get, slice_set}
use Rattle.std.specs.Ordering.{is_le, is_lt, ordering_reverse}
use Rattle.std.specs.Cmp.Lexicographic.{slice_cmp}
use Rattle.std.proofs.lemmas.Cmp.{nat_list_cmp_total}
use Rattle.std.proofs.lemmas.Option.{same_Some as some_is}
use Rattle.base_lemmas.proofs.Bools.{and_first, and_second}
use Rattle.formula.specs.Meaning.{value_at}
use Rattle.model.specs.Jobs.{is_past}
use Rattle.model.specs.SoundRecords.{all_valid}
use Rattle.model.specs.Tenant.{Field}
use Rattle.model.specs.Updates.{is_copied}
use Rattle.store_abstraction.specs.Entries.{Entry}
use Rattle.base_value.specs.Values.{valid}
use Rattle.base_value.specs.declared.job.Phase.TheVariants as phase
use Rattle.base_value.specs.declared.value.FieldType.{FieldType}
use Rattle.base_value.specs.declared.value.Value.{Value}

-- ---- values

pub set_here : (ks : List FieldType) (vs : List Value) (i : ℕ) (k : FieldType) (v : Value) → all_valid ks vs ≡ true
    → slice_get ks i ≡ Some k → value_at (slice_set vs i v) i ≡ v
set_here [] vs i k v e at = absurd cc
set_here (x ∷ ks) [] i k v e at = absurd cc
set_here (x ∷ ks) (y ∷ vs) zero k v e at = refl
set_here (x ∷ ks) (y ∷ vs) (suc i) k v e at = set_here ks vs i k v (and_second (valid x y) (all_valid ks vs) e) at

pub set_other : (vs : List Value) (i k : ℕ) (v : Value) → (i ≡ k → ⊥) → value_at (slice_set vs k v) i ≡ value_at vs i
set_other [] i k v h = refl
set_other (x ∷ vs) zero zero v h = absurd (h refl)
set_other (x ∷ vs) zero (suc k) v h = refl
set_other (x ∷ vs) (suc i) zero v h = refl
set_other (x ∷ vs) (suc i) (suc k) v h = set_other vs i k v (λ e. h (ap suc e))

pub valid_at : (ks : List FieldType) (vs : List Value) (i : ℕ) (k : FieldType) → all_valid ks vs ≡ true → slice_get ks i ≡ Some k
    → valid k (value_at vs i) ≡ true
valid_at [] vs i k e at = absurd cc
valid_at (x ∷ ks) [] i k e at = absurd cc
valid_at (x ∷ ks) (y ∷ vs) zero k e at =
    subst (λ (z : FieldType). valid z y ≡ true) (some_is x k at) (and_first (valid x y) (all_valid ks vs) e)
valid_at (x ∷ ks) (y ∷ vs) (suc i) k e at = valid_at ks vs i k (and_second (valid x y) (all_valid ks vs) e) at

-- an entry of this field
abbrev pub entry_of : Field → FieldType → Value → Entry
entry_of f kind v = record { kind = kind; value = v; indexed = f.indexed; unique = f.unique }

-- ---- cursors

pub not_past : (cursor : Option (List ℕ)) (id : List ℕ) → is_past cursor id ≡ false → is_copied phase.Copy cursor id ≡ true
not_past None id e = absurd cc
not_past (Some c) id e = by (slice_cmp nat_cmp c id) refl e
  where
    by : (o : Ordering) → slice_cmp nat_cmp c id ≡ o → is_lt o ≡ false → is_le (slice_cmp nat_cmp id c) ≡ true
    by Less w f = absurd cc
    by Equal w f = ap is_le (nat_list_cmp_total.antisymm id c ∙ ap ordering_reverse w)
    by Greater w f = ap is_le (nat_list_cmp_total.antisymm id c ∙ ap ordering_reverse w)
