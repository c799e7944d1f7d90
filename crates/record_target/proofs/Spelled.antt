-- An object and the one that its layout spells.
use Rattle.std.proofs.Common.{◌≡◌, ℕ, ◌+◌, List, [], ◌∷◌, map, Option, Some, refl, ap}
use Rattle.std.specs.List.{enumerate_from}
use Rattle.std.specs.Option.{option_map}
use Rattle.model.specs.Objects.{Numbered, object_numbered}
use Rattle.model.specs.Tenant.{Field, Object, Tenant}
use Rattle.schema_rules.specs.Objects.{field_of_place, numbered_in}
use Rattle.store_abstraction.specs.Layouts.{IsLayout, layout_of, own_layout, place_of}
use Rattle.store_abstraction.specs.Plan.{OrgPlan}

-- without its validation rules
abbrev pub plain : Numbered → Numbered
plain o = record { number = o.number; object = record o.object { validation_rules = [] } }

fields_back : (p : OrgPlan) (n k : ℕ) (fs : List Field) → map field_of_place (map (place_of p n) (enumerate_from k fs)) ≡ fs
fields_back p n k [] = refl
fields_back p n k (f ∷ fs) = ap (λ (more : List Field). f ∷ more) (fields_back p n (k + 1) fs)

pub spelled : (org : ℕ) (p : OrgPlan) (t : Tenant) (o : Numbered) → numbered_in (layout_of org p t o) ≡ plain o
spelled org p t o = ap (λ (fs : List Field). with_fields o fs) (fields_back p o.number 0 o.object.fields)
  where
    with_fields : Numbered → List Field → Numbered
    with_fields o fs = record { number = o.number; object = record { name = o.object.name; access = o.object.access; hierarchy = o.object.hierarchy; fields = fs; validation_rules = [] } }

-- the layout of an object of the tenant is its layout
pub its_layout : (org : ℕ) (p : OrgPlan) (t : Tenant) (o : Numbered) → object_numbered t o.number ≡ Some o.object → IsLayout p t (layout_of org p t o)
unfolding own_layout
its_layout org p t o there = ap (λ (x : Option Object). option_map (layout_of org p t) (option_map (λ (y : Object). as_numbered o.number y) x)) there
  where
    as_numbered : ℕ → Object → Numbered
    as_numbered n y = record { number = n; object = y }
