-- How a request that shares a record, or ends a share of it, is refused by the rules on the record.
use Rattle.std.proofs.Common.{◌≡◌, ◌∙◌, ℕ, not, List, ◌∷◌, Option, None, sym, ap, subst}
use Rattle.std.specs.Prelude.{Err, IsErrAnd, Ok, Result}
use Rattle.store_edit.specs.Edits.{FailsBy}
use Rattle.model.specs.Cases.{in_case}
use Rattle.model.specs.declared.record.Record.{Record}
use Rattle.model.specs.declared.refusal.Refusal.TheVariants.{InsufficientAccess, NotFound}
use Rattle.model.specs.Levels.{at_least}
use Rattle.model.specs.Objects.{record_at}
use Rattle.model.specs.Paths.{Asked}
use Rattle.model.specs.Rights.{denied, on_readable}
use Rattle.model.specs.Rules.{Rule, first_refusal, refuse_if}
use Rattle.model.specs.Shares.{detail_refused}
use Rattle.model.specs.Verdict.{Verdict, judged, refuse}
use Rattle.store_abstraction.specs.declared.fail.EditFail.{EditFail}
use Rattle.store_abstraction.specs.declared.fail.EditFail.TheVariants.{Refused, Store}
use Rattle.base_value.specs.declared.sharing.Level.{Level}
use Rattle.base_value.specs.declared.sharing.Level.TheVariants.{Full}
use Rattle.store_edit.specs.Judging.{FailsRule, Passes}
use Rattle.store_edit.proofs.StepByStep.{fails_here, rule_fails, second_fails}
use Rattle.access_shares.specs.Shareable.{FindsShareable}
use Rattle.access_shares.specs.inner.Finding.{FindsLevel, IsLevelOn}

module _ (a : Asked) (id : List ℕ) where
  -- a failure is passed on
  pub shareable_passed : (e : EditFail) (r : Result (Unit {0}) EditFail) → IsErrAnd r (λ y. y ≡ e) → FindsShareable a id (Err e) → FindsShareable a id r
  shareable_passed e (Ok x) passed h = absurd passed
  shareable_passed e (Err y) passed h = subst (λ (z : EditFail). FindsShareable a id (Err z)) (sym passed) h

  -- the record can't be read, or the work stopped
  pub level_fails : (e : EditFail) → FindsLevel a id (Err e) → FindsShareable a id (Err e)
  level_fails (Refused r) h =
      λ rest after.
      ap (λ (x : Option Record). (in_case x (refuse a.tenant NotFound) (λ r. judged a.tenant (detail_refused a.tenant r ∷ denied a Full r ∷ rest r) (after r))).answer) h.0
      ∙ ap Err (sym h.1)
  level_fails (Store e) h = λ rest after. h

  module _ (l : Level) (h : IsLevelOn a id l) where
    -- it comes to the record
    on_it : (rest : Record → List Rule) (after : Record → Verdict)
        → on_readable a (record_at a.tenant id) (λ r. judged a.tenant (detail_refused a.tenant r ∷ denied a Full r ∷ rest r) (after r))
        ≡ judged a.tenant (detail_refused a.tenant h.item ∷ denied a Full h.item ∷ rest h.item) (after h.item)
    on_it rest after = ap (λ (x : Option Record). in_case x (refuse a.tenant NotFound) (λ r. judged a.tenant (detail_refused a.tenant r ∷ denied a Full r ∷ rest r) (after r))) h.readable

    denied_is : denied a Full h.item ≡ refuse_if (not (at_least Full l)) InsufficientAccess
    denied_is = sym (ap (λ (k : Level). refuse_if (not (at_least Full k)) InsufficientAccess) h.is)

    -- it is a detail
    pub detail_fails : (e : EditFail) → FailsRule (detail_refused a.tenant h.item) e → FindsShareable a id (Err e)
    detail_fails e f = λ rest after.
        let rules = denied a Full h.item ∷ rest h.item in
        subst (λ (v : Verdict). FailsBy v e) (sym (on_it rest after))
        (rule_fails (first_refusal (detail_refused a.tenant h.item ∷ rules)) a.tenant (after h.item) e (fails_here (detail_refused a.tenant h.item) rules e f))

    -- what the level comes to
    pub by_level : detail_refused a.tenant h.item ≡ None → (r : Result (Unit {0}) EditFail) → Passes (refuse_if (not (at_least Full l)) InsufficientAccess) (λ x. Unit {0}) r → FindsShareable a id r
    by_level whole (Ok x) p = record { item = h.item; readable = h.readable; whole = whole; full = denied_is ∙ p.0 }
    by_level whole (Err e) p = λ rest after.
        subst (λ (v : Verdict). FailsBy v e) (sym (on_it rest after))
        (rule_fails (first_refusal (detail_refused a.tenant h.item ∷ denied a Full h.item ∷ rest h.item)) a.tenant (after h.item) e
        (second_fails (detail_refused a.tenant h.item) (denied a Full h.item) (rest h.item) e whole (subst (λ (x : Rule). FailsRule x e) (sym denied_is) p)))
