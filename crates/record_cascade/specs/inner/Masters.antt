-- The objects that have a Master field, and the records that refer by it. No public contract reaches these words.
use Rattle.std.specs.Prelude.{◌≡◌, ◌==◌, ℕ, List, [], filter, Option, Some, Result, Ok, Err, slice_get}
use Rattle.std.specs.Cmp.Lexicographic.{slice_cmp}
use Rattle.std.specs.List.{AllByRecursion, enumerate_from, find, flat_map}
use Rattle.std.specs.List.Sorted.{IsStrictlySortedBy}
use Rattle.std.specs.Option.{option_and_then, option_map}
use Rattle.std.specs.Ordering.{nat_cmp}
use Rattle.store_kv.specs.Tables.{Tables}
use Rattle.store_rows.specs.declared.fail.StoreFail.{StoreFail}
use Rattle.store_rows.specs.declared.fail.StoreFail.TheVariants.{Damaged, Keeper, Memory}
use Rattle.model.specs.Cases.{in_case}
use Rattle.model.specs.Fields.{is_master}
use Rattle.model.specs.Objects.{object_number}
use Rattle.model.specs.Relationships.{target_of}
use Rattle.model.specs.Tenant.{Tenant}
use Rattle.record_references.specs.Referring.{all_referring}
pub use Rattle.record_references.specs.Referring.{is_among}
use Rattle.store_abstraction.specs.declared.layout.FieldPlace.{FieldPlace}
use Rattle.store_abstraction.specs.declared.layout.Layout.{Layout}
use Rattle.store_abstraction.specs.Layouts.{IsLayout}
use Rattle.store_abstraction.specs.Local.{StandsIn}
use Rattle.store_abstraction.specs.Plan.{OrgPlan}

-- the number of the first field that is a Master, where the first of all has this number
abbrev pub master_from : ℕ → List FieldPlace → Option ℕ
master_from k fields = option_map (λ f. f.0) (find (λ (f : ℕ × FieldPlace). is_master f.1.kind) (enumerate_from k fields))

-- the object to which the field with this number refers
abbrev pub target_at : List FieldPlace → (number : ℕ) → Option ℕ
target_at fields k = option_and_then (λ (f : FieldPlace). target_of f.kind) (slice_get fields k)

-- the ids of an object's records among these
abbrev pub ids_of : (object : ℕ) → List (List ℕ) → List (List ℕ)
ids_of n ids = filter (λ id. object_number id == n) ids

-- those that the field with this number can name
abbrev pub nameable : List FieldPlace → (number : ℕ) → (ids : List (List ℕ)) → List (List ℕ)
nameable fields k ids = in_case (target_at fields k) [] (λ object. ids_of object ids)

-- the ids of an object's records whose masters are among those with these ids, one master after another
abbrev pub details_in : Layout → (ids : List (List ℕ)) → Tenant → List (List ℕ)
details_in l ids t = in_case (master_from 0 l.fields) [] (λ k. flat_map (λ id. all_referring l.object k id t) (nameable l.fields k ids))

-- these are layouts of one organisation
abbrev pub AreItsLayouts : (org : ℕ) → OrgPlan → Tenant → List Layout → Type 0
AreItsLayouts org q t layouts = AllByRecursion (λ (l : Layout). (l.org ≡ org) × IsLayout q t l) layouts

-- what is found is what each tenant has for which the organisation's rows stand and of which these are layouts
abbrev pub FindsBy : {X : Type 0} → (org : ℕ) → List Layout → (Tenant → X) → Tables → Result X StoreFail → Type 0
FindsBy org layouts value m (Ok x) = (q : OrgPlan) (t : Tenant) → StandsIn org q m (Some t) → AreItsLayouts org q t layouts → x ≡ value t
FindsBy org layouts value m (Err Damaged) = (q : OrgPlan) (t : Tenant) → StandsIn org q m (Some t) → AreItsLayouts org q t layouts → ⊥
FindsBy org layouts value m (Err Keeper) = Unit {0}
FindsBy org layouts value m (Err Memory) = Unit {0}

-- each of these once, in their order
abbrev pub IsInOrder : (these : List (List ℕ)) → List (List ℕ) → Type 0
IsInOrder these ids = ((id : List ℕ) → is_among ids id ≡ is_among these id) × IsStrictlySortedBy (slice_cmp nat_cmp) ids
