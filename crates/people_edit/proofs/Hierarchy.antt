-- Roles above one another, by their rows and by the tenant.
use Rattle.std.proofs.Common.{◌≡◌, ◌∙◌, ℕ, zero, suc, Bool, true, false, cond, ◌||◌, List, [], ◌∷◌, length, map, Option, Some, None, is_none, refl, ap, ap₂, bytes_eq}
use Rattle.std.specs.Option.{option_and_then, option_map}
use Rattle.std.proofs.lemmas.List.{length-map}
use Rattle.store_rows.specs.declared.role.RoleRow.{RoleRow}
use Rattle.model.specs.Cases.{in_case}
use Rattle.model.specs.Known.{role_id}
use Rattle.model.specs.Membership.{is_below, is_below_within, structure_of}
use Rattle.model.specs.Principals.{role_at}
use Rattle.model.specs.Tenant.{Role, Tenant}
use Rattle.model.specs.World.{having_id}
use Rattle.store_abstraction.specs.Metadata.{role_of}
use Rattle.people_edit.specs.inner.Changing.{above_in, is_bad_above, row_with}

-- one step up
pub climbs : (above : List ℕ → Option (List ℕ)) (at next other : List ℕ) (steps : ℕ) → above at ≡ Some next → bytes_eq next other ≡ false → is_below_within (suc steps) above at other ≡ is_below_within steps above next other
climbs above at next other steps up differ = ap (λ (o : Option (List ℕ)). in_case o false (λ c. bytes_eq c other || is_below_within steps above c other)) up ∙ ap (λ (b : Bool). b || is_below_within steps above next other) differ

pub arrives : (above : List ℕ → Option (List ℕ)) (at next other : List ℕ) (steps : ℕ) → above at ≡ Some next → bytes_eq next other ≡ true → is_below_within (suc steps) above at other ≡ true
arrives above at next other steps up same = ap (λ (o : Option (List ℕ)). in_case o false (λ c. bytes_eq c other || is_below_within steps above c other)) up ∙ ap (λ (b : Bool). b || is_below_within steps above next other) same

pub ends : (above : List ℕ → Option (List ℕ)) (at other : List ℕ) (steps : ℕ) → above at ≡ None → is_below_within (suc steps) above at other ≡ false
ends above at other steps up = ap (λ (o : Option (List ℕ)). in_case o false (λ c. bytes_eq c other || is_below_within steps above c other)) up

-- ---- by the tenant

module _ (org : ℕ) where
  having_mapped : (rs : List Role) (i : List ℕ) → row_with (map (role_of org) rs) i ≡ option_map (role_of org) (having_id role_id rs i)
  having_mapped [] i = refl
  having_mapped (r ∷ rs) i = by (having_mapped rs i) (bytes_eq i r.id)
    where
      by : row_with (map (role_of org) rs) i ≡ option_map (role_of org) (having_id role_id rs i) → (b : Bool)
          → cond b (Some (role_of org r)) (row_with (map (role_of org) rs) i) ≡ option_map (role_of org) (cond b (Some r) (having_id role_id rs i))
      by rest true = refl
      by rest false = rest

  none_mapped : (o : Option Role) → is_none (option_map (role_of org) o) ≡ is_none o
  none_mapped None = refl
  none_mapped (Some r) = refl

  above_mapped : (o : Option Role) → option_and_then (λ (r : RoleRow). r.parent) (option_map (role_of org) o) ≡ option_and_then (λ (r : Role). r.parent) o
  above_mapped None = refl
  above_mapped (Some r) = refl

  -- steps by functions that agree agree
  below_same : (n : ℕ) (f g : List ℕ → Option (List ℕ)) → ((i : List ℕ) → f i ≡ g i) → (a b : List ℕ) → is_below_within n f a b ≡ is_below_within n g a b
  below_same zero f g same a b = refl
  below_same (suc n) f g same a b = ap (λ (o : Option (List ℕ)). in_case o false (λ c. bytes_eq c b || is_below_within n f c b)) (same a) ∙ by (λ c. below_same n f g same c b) (g a)
    where
      by : ((c : List ℕ) → is_below_within n f c b ≡ is_below_within n g c b) → (o : Option (List ℕ)) → in_case o false (λ c. bytes_eq c b || is_below_within n f c b) ≡ in_case o false (λ c. bytes_eq c b || is_below_within n g c b)
      by rest None = refl
      by rest (Some c) = ap (λ (x : Bool). bytes_eq c b || x) (rest c)

  pub bad_above_is : (t : Tenant) (rows : List RoleRow) (role parent : List ℕ) → rows ≡ map (role_of org) t.roles
      → is_bad_above rows role parent ≡ (is_none (role_at t parent) || (bytes_eq parent role || is_below t parent role))
  unfolding is_below
  bad_above_is t rows role parent is =
      ap (λ (rows : List RoleRow). is_bad_above rows role parent) is
      ∙ ap₂ (λ (a b : Bool). a || (bytes_eq parent role || b))
      (ap is_none (having_mapped t.roles parent) ∙ none_mapped (role_at t parent))
      (ap (λ (n : ℕ). is_below_within (suc n) (above_in (map (role_of org) t.roles)) parent role) (length-map t.roles (role_of org))
      ∙ below_same (suc (length t.roles)) (above_in (map (role_of org) t.roles)) (structure_of t).parent
      (λ i. ap (option_and_then (λ (r : RoleRow). r.parent)) (having_mapped t.roles i) ∙ above_mapped (role_at t i)) parent role)
