-- What names a role or a group, by the rows that were read; and rules that are judged one list after the other.
use Rattle.std.proofs.Common.{◌≡◌, ℕ, Bool, ◌||◌, List, [], ◌∷◌, ◌++◌, map, None, Some, refl, sym, ap, ap₂, subst}
use Rattle.std.specs.Prelude.{Result}
use Rattle.std.specs.List.{list_any}
use Rattle.base_value.specs.declared.sharing.Principal.{Principal}
use Rattle.store_rows.specs.declared.sharing.SharingRow.{SharingRow}
use Rattle.model.specs.declared.refusal.Refusal.{Refusal}
use Rattle.model.specs.Rules.{Rule, first_refusal}
use Rattle.model.specs.Tenant.{SharingRule, Source, meets, owned}
use Rattle.store_abstraction.specs.declared.fail.EditFail.{EditFail}
use Rattle.store_abstraction.specs.declared.fail.EditFail.TheVariants.{Refused, Store}
use Rattle.store_abstraction.specs.Metadata.{sharing_of, source_part}
use Rattle.store_edit.specs.Judging.{FailsRule, Passes}
use Rattle.model_requests.specs.Removals.{is_from}
use Rattle.people_removal.specs.inner.Naming.{is_from_part}

-- ---- rows

pub any_mapped : {X Y : Type 0} (f : X → Y) (p : Y → Bool) (xs : List X) → list_any p (map f xs) ≡ list_any (λ x. p (f x)) xs
any_mapped f p [] = refl
any_mapped f p (x ∷ xs) = ap (λ (b : Bool). p (f x) || b) (any_mapped f p xs)

part_is : (is : Principal → Bool) (s : Source) → is_from_part is (source_part s) ≡ is_from is s
part_is is (owned p) = refl
part_is is (meets text) = refl

pub any_from : (org : ℕ) (is : Principal → Bool) (rules : List SharingRule) → list_any (λ (r : SharingRow). is_from_part is r.source) (map (sharing_of org) rules) ≡ list_any (λ (r : SharingRule). is_from is r.source) rules
any_from org is [] = refl
any_from org is (r ∷ rules) = ap₂ (λ (a b : Bool). a || b) (part_is is r.source) (any_from org is rules)

-- ---- one list of rules after the other

then_is : (a b : List Rule) → first_refusal a ≡ None → first_refusal (a ++ b) ≡ first_refusal b
then_is [] b none = refl
then_is (None ∷ a) b none = then_is a b none
then_is (Some r ∷ a) b none = absurd cc

refused_first : (a b : List Rule) (r : Refusal) → first_refusal a ≡ Some r → first_refusal (a ++ b) ≡ Some r
refused_first [] b r e = absurd cc
refused_first (None ∷ a) b r e = refused_first a b r e
refused_first (Some x ∷ a) b r e = e

pub fails_first : (a b : List Rule) (e : EditFail) → FailsRule (first_refusal a) e → FailsRule (first_refusal (a ++ b)) e
fails_first a b (Refused r) h = refused_first a b r h
fails_first a b (Store s) h = h

pub then_passes : (a b : List Rule) {X : Type 0} (P : X → Type 0) (r : Result X EditFail) → first_refusal a ≡ None → Passes (first_refusal b) P r → Passes (first_refusal (a ++ b)) P r
then_passes a b P r none h = subst (λ (rule : Rule). Passes rule P r) (sym (then_is a b none)) h
