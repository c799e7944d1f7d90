-- The changes of an edit of records take the organisation's rows to those of the tenant that its verdict leaves.
use Rattle.std.proofs.Common.{◌≡◌, ℕ, ◌<◌, ◌^◌, true, false, List, [], ◌∷◌, Option, Some, None, refl, sym, subst}
use Rattle.std.specs.Prelude.{◌++◌}
use Rattle.std.specs.List.{AllByRecursion}
use Rattle.store_edit.specs.Edits.{Planned, Takes}
use Rattle.store_rows.specs.Keys.{FitsKey, Key}
use Rattle.model.specs.Creates.{create_on, create_rules, with_record}
use Rattle.model.specs.declared.record_bodies.Assignment.{Assignment}
use Rattle.model.specs.declared.record.Record.{Record}
use Rattle.model.specs.Edits.{with_given}
use Rattle.model.specs.Keys.{Key as UpsertKey, with_key}
use Rattle.model.specs.Objects.{Numbered, is_of, object_numbered}
use Rattle.model.specs.Paths.{Asked}
use Rattle.model.specs.Rules.{Rule, first_refusal}
use Rattle.model.specs.Sound.{IsSound}
use Rattle.model.specs.Tenant.{Tenant}
use Rattle.model.specs.Updates.{update_on, update_rules, with_changed}
use Rattle.model.specs.Verdict.{Done, Verdict, accept, unless}
use Rattle.store_abstraction.specs.Changes.{Change, IsOf, is_changed}
use Rattle.store_abstraction.specs.Plan.{FitsPlan, OrgPlan}
use Rattle.store_abstraction.specs.Stands.{org_of_key, row_in}
use Rattle.record_index.specs.diff.Touched.{AreCounts, HasSoundRows, IsTouched, NoneTakes, fresh_plan, touched_changes}
use Rattle.record_save.specs.Creating.{PlansNew, answered_new, counts_with, created_changes, new_record}
use Rattle.record_save.specs.Updating.{PlansSame, answered_changed, shares_gone, updated_changes}
use Rattle.record_save.proofs.Counting.{counted}
use Rattle.record_target.proofs.SharePlaces.{SamePrincipals}
use Rattle.record_save.proofs.Sharing as sharing

-- what `record_index` says of what is touched
abbrev pub Are : Type 0
Are = (org : ℕ) (p q : OrgPlan) (t u : Tenant) (ids : List (List ℕ)) (counts : List Change)
    → IsTouched p q t u ids → HasSoundRows p t → HasSoundRows q u → NoneTakes p q t u ids → AreCounts org p q t u counts
    → AllByRecursion (λ (c : Change). FitsKey c.0) (touched_changes org p q t u ids) → AllByRecursion (IsOf org q u) (counts ++ touched_changes org p q t u ids)

abbrev pub Rest : Type 0
Rest = (org : ℕ) (p q : OrgPlan) (t u : Tenant) (ids : List (List ℕ)) (counts : List Change) (k : Key)
    → IsTouched p q t u ids → HasSoundRows p t → HasSoundRows q u → AreCounts org p q t u counts
    → org_of_key k ≡ Some org → is_changed (counts ++ touched_changes org p q t u ids) k ≡ false → row_in q u k ≡ row_in p t k

pub record TouchedLaws : Type 0 where
  pub are : Are
  pub rest : Rest
  pub created : (p : OrgPlan) (t : Tenant) (r : Record) → IsTouched p (fresh_plan r.id p) t (with_record r t) (r.id ∷ [])
  pub changed : (p : OrgPlan) (t : Tenant) (old new : Record) → old.id ≡ new.id → IsTouched p p t (with_changed old new t) (new.id ∷ [])
  pub kept : (p : OrgPlan) (t : Tenant) → IsSound t → FitsPlan p t → HasSoundRows p t
  pub single : (p q : OrgPlan) (t u : Tenant) (id : List ℕ) → IsTouched p q t u (id ∷ []) → HasSoundRows p t → NoneTakes p q t u (id ∷ [])
  pub fresh : (p : OrgPlan) (t : Tenant) (r : Record) → FitsPlan p t → FitsPlan (fresh_plan r.id p) (with_record r t)
  pub same : (p : OrgPlan) (t u : Tenant) (ids : List (List ℕ)) → IsTouched p p t u ids → FitsPlan p t → FitsPlan p u

-- a verdict that no rule refuses
free_verdict : (rule : Rule) (t : Tenant) (it : Verdict) → None ≡ rule → unless rule t it ≡ it
free_verdict rule t it free = subst (λ (r : Rule). unless r t it ≡ it) free refl

-- ---- an edit of one record

module _ (laws : TouchedLaws) (org : ℕ) (q p : OrgPlan) (t u : Tenant) (id : List ℕ) (counts : List Change) (touched : IsTouched q p t u (id ∷ [])) (good : IsSound t) (fits : FitsPlan q t) (fits_then : FitsPlan p u)
    (are_counts : AreCounts org q p t u counts) (keys : AllByRecursion (λ (c : Change). FitsKey c.0) (touched_changes org q p t u (id ∷ []))) where
  taken : (v : Verdict) (answered : Done) (planned : Planned) → v ≡ accept answered u → IsSound v.tenant → planned q t p → Takes org q t v answered planned (counts ++ touched_changes org q p t u (id ∷ []))
  taken v answered planned is sound kept =
      let good_then : IsSound u = subst (λ (v : Verdict). IsSound v.tenant) is sound in
      let before : HasSoundRows q t = laws.kept q t good fits in
      let behind : HasSoundRows p u = laws.kept p u good_then fits_then in
      subst (λ (v : Verdict). Takes org q t v answered planned (counts ++ touched_changes org q p t u (id ∷ []))) (sym is) (record {
        answer = refl;
        sound = good_then;
        plan = p;
        kept = kept;
        fits = fits_then;
        are = laws.are org q p t u (id ∷ []) counts touched before behind (laws.single q p t u id touched before) are_counts keys;
        rest = λ k own none. laws.rest org q p t u (id ∷ []) counts k touched before behind are_counts own none;
      })

-- ---- a create

pub create_takes : TouchedLaws → (org : ℕ) (q : OrgPlan) (a : Asked) (o : Numbered) (key : Option UpsertKey) (given : List Assignment)
    → org < 2 ^ 32 → IsSound a.tenant → FitsPlan q a.tenant → IsSound (create_on a o key given).tenant
    → object_numbered a.tenant o.number ≡ Some o.object → is_of o.number (new_record a o (with_key key given)) ≡ true
    → None ≡ first_refusal (create_rules a o key given (new_record a o (with_key key given)))
    → AllByRecursion (λ (c : Change). FitsKey c.0) (touched_changes org q (fresh_plan (new_record a o (with_key key given)).id q) a.tenant (with_record (new_record a o (with_key key given)) a.tenant) ((new_record a o (with_key key given)).id ∷ []))
    → Takes org q a.tenant (create_on a o key given) (answered_new key (new_record a o (with_key key given)).id) PlansNew (created_changes org q a.tenant o (new_record a o (with_key key given)))
create_takes laws org q a o key given lo good fits sound there of free keys =
    let r : Record = new_record a o (with_key key given) in
    taken laws org q (fresh_plan r.id q) a.tenant (with_record r a.tenant) r.id (counts_with org a.tenant o r) (laws.created q a.tenant r) good fits (laws.fresh q a.tenant r fits) (counted org q a.tenant o r of lo good there) keys
    (create_on a o key given) (answered_new key r.id) PlansNew (free_verdict (first_refusal (create_rules a o key given r)) a.tenant (accept (answered_new key r.id) (with_record r a.tenant)) free) sound (r.id, refl)

-- ---- an update

pub update_takes : TouchedLaws → SamePrincipals → (org : ℕ) (q : OrgPlan) (a : Asked) (o : Numbered) (key : Option UpsertKey) (given : List Assignment) (old : Record)
    → IsSound a.tenant → FitsPlan q a.tenant → IsSound (update_on a o key given old).tenant
    → None ≡ first_refusal (update_rules a o key given old (with_given a o.object (with_key key given) old))
    → AllByRecursion (λ (c : Change). FitsKey c.0) (shares_gone org a.tenant old (with_given a o.object (with_key key given) old))
    → AllByRecursion (λ (c : Change). FitsKey c.0) (touched_changes org q q a.tenant (with_changed old (with_given a o.object (with_key key given) old) a.tenant) (old.id ∷ []))
    → Takes org q a.tenant (update_on a o key given old) (answered_changed key old.id) PlansSame (updated_changes org q a.tenant old (with_given a o.object (with_key key given) old))
update_takes laws same org q a o key given old good fits sound free shares keys =
    let new : Record = with_given a o.object (with_key key given) old in
    let touched = laws.changed q a.tenant old new refl in
    taken laws org q q a.tenant (with_changed old new a.tenant) old.id (shares_gone org a.tenant old new) touched good fits (laws.same q a.tenant (with_changed old new a.tenant) (old.id ∷ []) touched fits)
    (sharing.counted same org q a.tenant old new shares) keys
    (update_on a o key given old) (answered_changed key old.id) PlansSame (free_verdict (first_refusal (update_rules a o key given old new)) a.tenant (accept (answered_changed key old.id) (with_changed old new a.tenant)) free) sound refl
