-- For the proofs of edits: what is judged, by what the steps of it returned.
use Rattle.std.proofs.Common.{◌≡◌, ℕ, List, Some, refl, sym, subst}
use Rattle.std.specs.Prelude.{Err, IfErr, IfOk, IsErrAnd, Ok, Result}
use Rattle.std.specs.List.{AllByRecursion}
use Rattle.store_edit.specs.declared.decided.Decided.{Decided}
use Rattle.store_edit.specs.Edits.{Decides, FailsBy, Planned, Takes}
use Rattle.store_edit.specs.Rows.{AreSpelled}
use Rattle.store_kv.specs.Tables.{Tables}
use Rattle.store_rows.specs.declared.fail.StoreFail.TheVariants.{Damaged, Memory}
use Rattle.model.specs.Paths.{Asked}
use Rattle.model.specs.Verdict.{Done, Verdict, done}
use Rattle.store_abstraction.specs.Changes.{Change}
use Rattle.store_abstraction.specs.declared.fail.EditFail.{EditFail}
use Rattle.store_abstraction.specs.Fails.{of_store}
use Rattle.store_abstraction.specs.Local.{IsIn, StandsIn}
use Rattle.store_abstraction.specs.Plan.{OrgPlan}

module _ {X : Type 0} {answered : X → Done} (org : ℕ) (verdict : Asked → Verdict) (planned : Planned) (fits : Asked → Type 0) (m : Tables) where
  pub passed_on : (e : EditFail) (result : Result (Decided X) EditFail) → IsErrAnd result (λ y. y ≡ e)
      → ((q : OrgPlan) (a : Asked) → StandsIn org q m (Some a.tenant) → fits a → FailsBy (verdict a) e) → Decides org verdict answered planned fits m result
  passed_on e (Ok x) passed h = absurd passed
  passed_on e (Err y) passed h = subst (λ (z : EditFail). Decides {X = X} org verdict answered planned fits m (Err z)) (sym passed) (record { own = tt; decided = h })

  -- with an answer by which these changes take the rows to what the verdict leaves
  pub made_so : (answer : X) (changes : List Change) (result : Result (Decided X) EditFail) → IfOk result (λ x. x.answer ≡ answer) → IfOk result (λ x. AreSpelled changes x.changes.items) → IfErr result (λ e. e ≡ of_store Memory)
      → AllByRecursion (IsIn org) changes → ((q : OrgPlan) (a : Asked) → StandsIn org q m (Some a.tenant) → fits a → Takes org q a.tenant (verdict a) (answered answer) planned changes)
      → Decides org verdict answered planned fits m result
  made_so answer changes (Ok x) same made cause are takes = record {
    own = (changes, made, are);
    decided = λ q a s f. (changes, made, subst (λ (y : X). Takes org q a.tenant (verdict a) (answered y) planned changes) (sym same) (takes q a s f));
  }
  made_so answer changes (Err e) same made cause are takes =
      subst (λ (z : EditFail). Decides {X = X} org verdict answered planned fits m (Err z)) (sym cause) (record { own = tt; decided = λ q a s f d. absurd (apart d) })
    where
      apart : Memory ≡ Damaged → ⊥
      apart d = cc

-- one that answers that it is done and nothing else
pub done_so : (org : ℕ) (verdict : Asked → Verdict) (planned : Planned) (fits : Asked → Type 0) (m : Tables) (changes : List Change) (result : Result (Decided (Unit {0})) EditFail) → IfOk result (λ x. AreSpelled changes x.changes.items) → IfErr result (λ e. e ≡ of_store Memory)
    → AllByRecursion (IsIn org) changes → ((q : OrgPlan) (a : Asked) → StandsIn org q m (Some a.tenant) → fits a → Takes org q a.tenant (verdict a) done planned changes)
    → Decides org verdict (λ (x : Unit {0}). done) planned fits m result
done_so org verdict planned fits m changes result made cause are takes = made_so {answered = λ (x : Unit {0}). done} org verdict planned fits m tt changes result (said result) made cause are takes
  where
    said : (result : Result (Decided (Unit {0})) EditFail) → IfOk result (λ x. x.answer ≡ tt)
    said (Ok x) = refl
    said (Err e) = tt
