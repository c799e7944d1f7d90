-- A deletion that is decided.
use Rattle.std.proofs.Common.{◌≡◌, ℕ, ◌<◌, ◌≤◌, ◌^◌, List, [], ◌∷◌, ◌++◌, length, map, Some, None, refl, sym, subst, arith, ℤ}
use Rattle.std.specs.Prelude.{Result, Ok, Err}
use Rattle.std.specs.List.{AllByRecursion}
use Rattle.record_cascade.specs.Deletion.{cleared_ids, deletion_rules, gone_ids}
use Rattle.record_delete.specs.declared.deleting.Doomed.{Doomed}
use Rattle.record_delete.specs.Deleting.{IsDeleting, PlansKept, counts_less, deleted_changes, shares_ended}
use Rattle.record_delete.specs.inner.Adding.{Adds, AddsThese}
use Rattle.record_delete.specs.inner.Doomed.{IsDoomed}
use Rattle.record_delete.proofs.AllChanges.{keys_first, keys_second}
use Rattle.record_delete.proofs.Members.{cascade_there}
use Rattle.store_edit.specs.Edits.{FailsBy, Takes}
use Rattle.store_edit.specs.Rows.{AreFew, AreSpelled}
use Rattle.store_edit.specs.Rows as rows
use Rattle.store_kv.specs.declared.keeper.Change.{Change as Spelled}
use Rattle.store_kv.specs.Tables.{Tables}
use Rattle.store_rows.specs.declared.fail.StoreFail.{StoreFail}
use Rattle.store_rows.specs.Keys.{FitsKey}
use Rattle.model.specs.declared.record.Record.{Record}
use Rattle.model.specs.Deletes.{cascade, delete, delete_record, without}
use Rattle.model.specs.Membership.{Has}
use Rattle.model.specs.Objects.{record_at}
use Rattle.model.specs.Paths.{Asked}
use Rattle.model.specs.Rules.{first_refusal}
use Rattle.model.specs.Sound.{IsSound}
use Rattle.model.specs.Tenant.{Tenant}
use Rattle.model.specs.Verdict.{done}
use Rattle.access_traits.specs.Rights.{Whose}
use Rattle.model_invariant.specs.Fit.{IsCaller}
use Rattle.store_abstraction.specs.Changes.{Change}
use Rattle.store_abstraction.specs.Fails.{of_store}
use Rattle.store_abstraction.specs.Layouts.{own_layouts}
use Rattle.store_abstraction.specs.Local.{StandsIn}
use Rattle.store_abstraction.specs.Plan.{FitsPlan, OrgPlan}
use Rattle.record_index.specs.diff.Touched.{touched_changes}

-- what `delete_laws` says
abbrev pub DeleteTakes : Type 0
DeleteTakes = (org : ℕ) (q : OrgPlan) (a : Asked) (name key : List ℕ) (r : Record)
    → org < 2 ^ 32 → IsSound a.tenant → FitsPlan q a.tenant → IsCaller a → record_at a.tenant r.id ≡ Some r → delete a name key ≡ delete_record a r
    → None ≡ first_refusal (deletion_rules a.tenant (cascade a.tenant r))
    → AllByRecursion (λ (c : Change). FitsKey c.0) (shares_ended org a.tenant (gone_ids a.tenant (cascade a.tenant r)))
    → AllByRecursion (λ (c : Change). FitsKey c.0) (touched_changes org q q a.tenant (without a.now (cascade a.tenant r) a.tenant) (gone_ids a.tenant (cascade a.tenant r) ++ cleared_ids a.tenant (cascade a.tenant r)))
    → Takes org q a.tenant (delete a name key) done PlansKept (deleted_changes org q a.now a.tenant (cascade a.tenant r))

module _ (org : ℕ) (now : ℤ) (name key : List ℕ) (x : Doomed) (result : Result (Unit {0}) StoreFail) (old new : List Spelled) where
  -- what its changes are, by the tenant whose rows these are
  abbrev pub AddsDeleted : Tables → Type 0
  AddsDeleted m =
      (q : OrgPlan) (t : Tenant) (rs : List Record) → StandsIn org q m (Some t) → own_layouts org q (Some t) ≡ x.layouts → x.deletion.gone ≡ gone_ids t rs → x.deletion.cleared ≡ cleared_ids t rs
      → ((r : Record) → Has rs r → Has t.records r) → AddsThese (deleted_changes org q now t rs) old new result

  module _ (q : OrgPlan) (a : Asked) (m : Tables) (s : StandsIn org q m (Some a.tenant)) (is : IsDoomed org q a name key x) (adds : AddsDeleted m) where
    gone : List Record
    gone = cascade a.tenant is.item

    added : AddsThese (deleted_changes org q now a.tenant (cascade a.tenant is.item)) old new result
    added = adds q a.tenant (cascade a.tenant is.item) s is.layouts is.deletion.1 is.deletion.2 (cascade_there a.tenant is.item is.there)

    -- a failure isn't damage
    pub not_made : (e : StoreFail) → result ≡ Err e → FailsBy (delete a name key) (of_store e)
    not_made e was = subst (AddsThese (deleted_changes org q now a.tenant (cascade a.tenant is.item)) old new) was added

    -- what was added takes the rows to those of what the verdict leaves
    pub made : (whose : Whose) → DeleteTakes → org < 2 ^ 32 → IsDeleting whose now a → (y : Unit {0}) → result ≡ Ok y → old ≡ []
        → (changes : List Change) × AreSpelled changes new × Takes org q a.tenant (delete a name key) done PlansKept changes
    made whose takes lo f y was none =
        let t = a.tenant in
        let rs = cascade t is.item in
        let moment : now ≡ a.now = sym f.now in
        let it = subst (λ (z : ℤ). AddsThese (deleted_changes org q z t rs) old new (Ok y)) moment (subst (AddsThese (deleted_changes org q now t rs) old new) was added) in
        let counts = counts_less org t (gone_ids t rs) in
        let shares = shares_ended org t (gone_ids t rs) in
        let touched = touched_changes org q q t (without a.now rs t) (gone_ids t rs ++ cleared_ids t rs) in (
          deleted_changes org q a.now t rs,
          subst (λ (xs : List Spelled). new ≡ xs ++ map rows.spelled (deleted_changes org q a.now t rs)) none it.0,
          takes org q a name key is.item lo s.sound s.plan f.caller is.there is.verdict is.deletion.0
              (keys_second counts shares (keys_first (counts ++ shares) touched it.1)) (keys_second (counts ++ shares) touched it.1),
        )

-- ---- whatever the tables have

length_map : (cs : List Change) → length (map rows.spelled cs) ≡ length cs
length_map [] = refl
length_map (c ∷ cs) = let e = length_map cs in omega (arith, e)

pub made_few : (org taken : ℕ) (old new : List Spelled) → old ≡ [] → taken ≤ 1000 → (0 < length new) × Adds org 245101 taken old new → AreFew 245101 1000 new
made_few org taken old new none small own =
    let a = subst (λ (xs : List Spelled). Adds org 245101 taken xs new) none own.1 in
    let many = length_map a.changes in
    let most = a.few in
    let gone = a.gone in
    record {
      some = own.0;
      most = subst (λ (xs : List Spelled). length xs ≤ 245101) (sym a.are) (omega (arith, many, most));
      gone = subst (λ (xs : List Spelled). rows.gone_of xs ≤ 1000) (sym a.are) (omega (arith, gone, small));
    }

pub made_own : (org taken : ℕ) (old new : List Spelled) → old ≡ [] → Adds org 245101 taken old new → rows.AreOf org new
made_own org taken old new none own = let a = subst (λ (xs : List Spelled). Adds org 245101 taken xs new) none own in (a.changes, a.are, a.own)
