-- The key of an upsert: the custom fields, looked at one after another for a unique one, and the value of a text.
use Rattle.std.proofs.Common.{◌≡◌, ℕ, ◌+◌, zero, suc, true, false, ◌&&◌, List, [], ◌∷◌, map, drop, Option, Some, refl, ap, add-one, arith, length, Err, ◌≢◌}
use Rattle.std.specs.List.{enumerate_from, find, slice_get}
use Rattle.base_value.specs.Reading.{read_value}
use Rattle.model.specs.Fields.{of_type, same_name}
use Rattle.model.specs.Given.{or_refusal}
use Rattle.model.specs.Upserts.{key_value}
use Rattle.model.specs.declared.refusal.Refusal.TheVariants as refusal
use Rattle.model.specs.Tenant.{Field}
use Rattle.store_abstraction.specs.declared.layout.FieldPlace.{FieldPlace}
use Rattle.schema_rules.specs.Objects.{field_of_place}

-- the first unique field with this name among these, which begin at a position
abbrev pub unique_from : (name : List ℕ) (position : ℕ) → List FieldPlace → Option (ℕ × Field)
unique_from name position fields = find (λ f. f.1.unique && same_name f.1.name name) (enumerate_from position (map field_of_place fields))

-- the first of the rest is at its number
pub place_there : (fields : List FieldPlace) (number : ℕ) (f : FieldPlace) (more : List FieldPlace)
    → f ∷ more ≡ drop number fields → slice_get fields number ≡ Some f
place_there [] zero f more is = absurd cc
place_there [] (suc k) f more is = absurd cc
place_there (g ∷ fields) zero f more is = by is
  where
    by : f ∷ more ≡ g ∷ fields → Some g ≡ Some f
    by same = cc
place_there (g ∷ fields) (suc k) f more is = place_there fields k f more is

-- and those behind it are the rest
behind : (fields : List FieldPlace) (number : ℕ) (f : FieldPlace) (more : List FieldPlace) → f ∷ more ≡ drop number fields → more ≡ drop (suc number) fields
behind [] zero f more is = absurd cc
behind [] (suc k) f more is = absurd cc
behind (g ∷ fields) zero f more is = by is
  where
    by : f ∷ more ≡ g ∷ fields → more ≡ fields
    by same = cc
behind (g ∷ fields) (suc k) f more is = behind fields k f more is

pub place_more : (fields : List FieldPlace) (number : ℕ) (f : FieldPlace) (more : List FieldPlace)
    → f ∷ more ≡ drop number fields → more ≡ drop (number + 1) fields
place_more fields number f more is = rw (add-one number) (behind fields number f more is)

pub unique_here : (name : List ℕ) (number : ℕ) (f : FieldPlace) (more : List FieldPlace)
    → (f.unique && same_name f.name name) ≡ true → unique_from name (1 + number) (f ∷ more) ≡ Some (suc number, field_of_place f)
unique_here name number f more is = rw is (ap (λ (k : ℕ). Some (k, field_of_place f)) (omega arith))

pub unique_later : (name : List ℕ) (number : ℕ) (f : FieldPlace) (more : List FieldPlace)
    → (f.unique && same_name f.name name) ≡ false → unique_from name (1 + number) (f ∷ more) ≡ unique_from name (1 + (number + 1)) more
unique_later name number f more is = rw is (ap (λ (k : ℕ). unique_from name k more) (omega arith))

-- ---- the value of a text

pub empty_text : (f : Field) (text : List ℕ) → length text ≡ 0 → key_value f (Some text) ≡ Err (refusal.WrongType f.name)
empty_text f [] none = refl
empty_text f (c ∷ cs) none = absurd (omega (arith, none))

pub written_text : (f : Field) (text : List ℕ) → length text ≢ 0
    → key_value f (Some text) ≡ or_refusal f.name (of_type f.kind) text (read_value f.kind text)
written_text f [] some = absurd (some refl)
written_text f (c ∷ cs) some = refl
