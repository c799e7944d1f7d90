-- The changes of a deletion take the organisation's rows to those of the tenant that its verdict leaves.
use Rattle.std.proofs.Common.{◌≡◌, ◌∙◌, ℕ, ◌<◌, ◌^◌, false, IsTrue, List, ◌++◌, Some, None, refl, sym, subst, ℤ}
use Rattle.std.specs.List.{AllByRecursion}
use Rattle.record_cascade.specs.Deletion.{cleared_ids, deletion_rules, gone_ids}
use Rattle.record_delete.specs.Deleting.{PlansKept, counts_less, deleted_changes, shares_ended}
use Rattle.record_delete.proofs.Counted.{counted}
use Rattle.record_delete.proofs.Members.{cascade_there, same_touched}
use Rattle.record_delete.proofs.Sharing.{SamePrincipals}
use Rattle.store_edit.specs.Edits.{Takes}
use Rattle.store_rows.specs.Keys.{FitsKey, Key}
use Rattle.model.specs.declared.record.Record.{Record}
use Rattle.model.specs.Deletes.{cascade, delete, delete_record, without}
use Rattle.model.specs.Objects.{record_at}
use Rattle.model.specs.Paths.{Asked}
use Rattle.model.specs.Rules.{Rule, first_refusal}
use Rattle.model.specs.Sound.{IsSound}
use Rattle.model.specs.Tenant.{Tenant}
use Rattle.model.specs.Verdict.{Verdict, accept, done, unless}
use Rattle.model_invariant.specs.Fit.{IsCaller}
use Rattle.store_abstraction.specs.Changes.{Change, IsOf, is_changed}
use Rattle.store_abstraction.specs.Plan.{FitsPlan, OrgPlan}
use Rattle.store_abstraction.specs.Stands.{org_of_key, row_in}
use Rattle.record_index.specs.diff.Touched.{AreCounts, HasSoundRows, IsTouched, NoneTakes, has, touched_by, touched_changes}
use Rattle.base_value.specs.Dates.{is_moment}

-- what `record_index` says of what is touched, and `model_invariant` of the tenants that deletes leave
abbrev pub Are : Type 0
Are = (org : ℕ) (p q : OrgPlan) (t u : Tenant) (ids : List (List ℕ)) (counts : List Change)
    → IsTouched p q t u ids → HasSoundRows p t → HasSoundRows q u → NoneTakes p q t u ids → AreCounts org p q t u counts
    → AllByRecursion (λ (c : Change). FitsKey c.0) (touched_changes org p q t u ids) → AllByRecursion (IsOf org q u) (counts ++ touched_changes org p q t u ids)

abbrev pub Rest : Type 0
Rest = (org : ℕ) (p q : OrgPlan) (t u : Tenant) (ids : List (List ℕ)) (counts : List Change) (k : Key)
    → IsTouched p q t u ids → HasSoundRows p t → HasSoundRows q u → AreCounts org p q t u counts
    → org_of_key k ≡ Some org → is_changed (counts ++ touched_changes org p q t u ids) k ≡ false → row_in q u k ≡ row_in p t k

pub record TouchedLaws : Type 0 where
  pub are : Are
  pub rest : Rest
  pub taken : (p : OrgPlan) (now : ℤ) (t : Tenant) (gone : List Record) → IsTouched p p t (without now gone t) (touched_by t gone)
  pub kept : (p : OrgPlan) (t : Tenant) → IsSound t → FitsPlan p t → HasSoundRows p t
  pub deleted : (p : OrgPlan) (now : ℤ) (t : Tenant) (gone : List Record) → IsSound t → FitsPlan p t → NoneTakes p p t (without now gone t) (touched_by t gone)
  pub same : (p : OrgPlan) (t u : Tenant) (ids : List (List ℕ)) → IsTouched p p t u ids → FitsPlan p t → FitsPlan p u

abbrev pub DeleteSound : Type 0
DeleteSound = (a : Asked) (object key : List ℕ) → IsTrue (is_moment a.now) → IsSound a.tenant → IsSound (delete a object key).tenant

-- ---- lists of the same ids

module _ (p q : OrgPlan) (t u : Tenant) (xs ys : List (List ℕ)) (alike : (i : List ℕ) → has xs i ≡ has ys i) where
  touched_alike : IsTouched p q t u ys → IsTouched p q t u xs
  touched_alike is = record {
    content = is.content;
    plan = is.plan;
    records = λ i e. is.records i (sym (alike i) ∙ e);
    left = λ i e. is.left i (sym (alike i) ∙ e);
  }

  none_alike : NoneTakes p q t u ys → NoneTakes p q t u xs
  none_alike none n s key i j e = none n s key i j (sym (alike i) ∙ e)

-- ---- a deletion

-- a verdict that no rule refuses
free_verdict : (rule : Rule) (t : Tenant) (it : Verdict) → None ≡ rule → unless rule t it ≡ it
free_verdict rule t it free = subst (λ (r : Rule). unless r t it ≡ it) free refl

pub delete_takes : TouchedLaws → DeleteSound → SamePrincipals → (org : ℕ) (q : OrgPlan) (a : Asked) (name key : List ℕ) (r : Record)
    → org < 2 ^ 32 → IsSound a.tenant → FitsPlan q a.tenant → IsCaller a → record_at a.tenant r.id ≡ Some r
    → delete a name key ≡ delete_record a r
    → None ≡ first_refusal (deletion_rules a.tenant (cascade a.tenant r))
    → AllByRecursion (λ (c : Change). FitsKey c.0) (shares_ended org a.tenant (gone_ids a.tenant (cascade a.tenant r)))
    → AllByRecursion (λ (c : Change). FitsKey c.0) (touched_changes org q q a.tenant (without a.now (cascade a.tenant r) a.tenant) (gone_ids a.tenant (cascade a.tenant r) ++ cleared_ids a.tenant (cascade a.tenant r)))
    → Takes org q a.tenant (delete a name key) done PlansKept (deleted_changes org q a.now a.tenant (cascade a.tenant r))
delete_takes laws sound same org q a name key r lo good fits caller at found free shares keys =
    let t : Tenant = a.tenant in
    let gone : List Record = cascade t r in
    let u : Tenant = without a.now gone t in
    let ids : List (List ℕ) = gone_ids t gone ++ cleared_ids t gone in
    let counts : List Change = counts_less org t (gone_ids t gone) ++ shares_ended org t (gone_ids t gone) in
    let is : delete a name key ≡ accept done u = found ∙ free_verdict (first_refusal (deletion_rules t gone)) t (accept done u) free in
    let alike : ((i : List ℕ) → has ids i ≡ has (touched_by t gone) i) = same_touched t gone (cascade_there t r at) in
    let touched : IsTouched q q t u ids = touched_alike q q t u ids (touched_by t gone) alike (laws.taken q a.now t gone) in
    let none : NoneTakes q q t u ids = none_alike q q t u ids (touched_by t gone) alike (laws.deleted q a.now t gone good fits) in
    let good_then : IsSound u = subst (λ (v : Verdict). IsSound v.tenant) is (sound a name key caller.1 good) in
    let fits_then : FitsPlan q u = laws.same q t u ids touched fits in
    let before : HasSoundRows q t = laws.kept q t good fits in
    let behind : HasSoundRows q u = laws.kept q u good_then fits_then in
    let counts_are : AreCounts org q q t u counts = counted same org q a.now t gone good lo shares in
    subst (λ (v : Verdict). Takes org q t v done PlansKept (counts ++ touched_changes org q q t u ids)) (sym is) (record {
      answer = refl;
      sound = good_then;
      plan = q;
      kept = refl;
      fits = fits_then;
      are = laws.are org q q t u ids counts touched before behind none counts_are keys;
      rest = λ k own unchanged. laws.rest org q q t u ids counts k touched before behind counts_are own unchanged;
    })
