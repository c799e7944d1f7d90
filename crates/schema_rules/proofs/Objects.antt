-- The fields that a layout tells of are those of its object.
use Rattle.std.proofs.Common.{◌≡◌, ℕ, ◌+◌, List, [], ◌∷◌, map, refl, ap}
use Rattle.std.specs.List.{enumerate_from}
use Rattle.model.specs.Tenant.{Field}
use Rattle.schema_rules.specs.Objects.{field_of_place}
use Rattle.store_abstraction.specs.Layouts.{place_of}
use Rattle.store_abstraction.specs.Plan.{OrgPlan}

pub fields_back : (p : OrgPlan) (n k : ℕ) (fs : List Field) → map field_of_place (map (place_of p n) (enumerate_from k fs)) ≡ fs
fields_back p n k [] = refl
fields_back p n k (f ∷ fs) = ap (λ (x : List Field). f ∷ x) (fields_back p n (k + 1) fs)
