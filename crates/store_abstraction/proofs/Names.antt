-- Names and ids of sound tenants have spellings.
use Rattle.std.proofs.Common.{◌≡◌, ℕ, ◌≤◌, Bool, true, false, cond, IsTrue, List, [], ◌∷◌, length, Option, Some, None, refl, sym, subst, arith}
use Rattle.std.specs.Prelude.{encode_utf8_all, is_some, IfSome}
use Rattle.std.specs.List.{AllByRecursion, list_all}
use Rattle.std.specs.Str.{all_scalars, bytes_eq}
use Rattle.std.proofs.lemmas.Slice.Eq.{bytes_eq-Decides}
use Rattle.base_value.specs.Id.{is_digit62, is_id, made}
use Rattle.store_codec.specs.Plain.{FitsText}
use Rattle.model.specs.Known.{IsDrawn, Known, role_id}
use Rattle.model.specs.Sound.{is_name}
use Rattle.model.specs.SoundPeople.{IsSoundRole}
use Rattle.model.specs.Tenant.{Role}
use Rattle.model.specs.World.{having_id, role_prefix}

-- what holds of names, as `model` says
abbrev pub NamesAreTexts : Type 0
NamesAreTexts = (name : List ℕ) → IsTrue (is_name name) → all_scalars name ≡ true

abbrev pub NamesAreShort : Type 0
NamesAreShort = (name : List ℕ) → IsTrue (is_name name) → length (encode_utf8_all name) ≤ 320

pub name_fits : NamesAreTexts → NamesAreShort → (name : List ℕ) → IsTrue (is_name name) → FitsText name
name_fits texts short name h = (omega (arith, short name h), texts name h)

-- what makes ids, as `base_value` says
abbrev pub MakesIds : Type 0
MakesIds = (prefix : List ℕ) (n : ℕ) → length prefix ≡ 3 → IsTrue (list_all is_digit62 prefix) → IsTrue (is_id (made prefix n))

pub drawn_is_id : MakesIds → (prefix : List ℕ) (counter : ℕ) (id : List ℕ) → length prefix ≡ 3 → IsTrue (list_all is_digit62 prefix) → IsDrawn prefix counter id → IsTrue (is_id id)
drawn_is_id makes prefix counter id size digits d = subst (λ (i : List ℕ). IsTrue (is_id i)) (sym d.2) (makes prefix d.0 size digits)

role_among : MakesIds → (k : Known) (rs : List Role) (id : List ℕ) → AllByRecursion (IsSoundRole k) rs → IsTrue (is_some (having_id role_id rs id)) → IsTrue (is_id id)
role_among makes k [] id all h = absurd cc
role_among makes k (r ∷ rs) id all h = by (λ f. role_among makes k rs id all.1 f) (bytes_eq id r.id) refl
  where
    by : (IsTrue (is_some (having_id role_id rs id)) → IsTrue (is_id id)) → (b : Bool) → bytes_eq id r.id ≡ b → IsTrue (is_id id)
    by rest true e = subst (λ (i : List ℕ). IsTrue (is_id i)) (sym ((bytes_eq-Decides id r.id).0 e)) (drawn_is_id makes role_prefix k.counter r.id refl refl all.0.id)
    by rest false e = rest (subst (λ (b : Bool). IsTrue (is_some (cond b (Some r) (having_id role_id rs id)))) e h)

pub role_is_id : MakesIds → (k : Known) (roles : List Role) → AllByRecursion (IsSoundRole k) roles → (role : Option (List ℕ)) → IfSome role (λ i. IsTrue (is_some (having_id role_id roles i))) → IfSome role (λ i. IsTrue (is_id i))
role_is_id makes k roles all None h = tt
role_is_id makes k roles all (Some id) h = role_among makes k roles id all h
