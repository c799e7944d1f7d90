-- A deletion that is judged: what it comes to, by what was found on the way.
use Rattle.std.proofs.Common.{◌≡◌, ◌∙◌, ℕ, List, refl, sym, ap, subst}
use Rattle.std.specs.Prelude.{IsErrAnd, Result, Ok, Err}
use Rattle.record_cascade.specs.Deletion.{DeletesWith}
use Rattle.record_delete.specs.declared.deleting.Doomed.{Doomed}
use Rattle.record_delete.specs.inner.Doomed.{Dooms, FindsTarget, IsTarget}
use Rattle.store_edit.specs.Edits.{FailsBy}
use Rattle.model.specs.declared.record.Record.{Record}
use Rattle.model.specs.Deletes.{cascade, delete, delete_record, without}
use Rattle.model.specs.Paths.{Asked}
use Rattle.model.specs.Rules.{Rule}
use Rattle.model.specs.Verdict.{Verdict, accept, done, unless}
use Rattle.record_target.proofs.Naming.{named_there, named_verdict}
use Rattle.record_target.specs.declared.named.Named.{Named}
use Rattle.record_target.specs.Named.{FindsPermitted}
use Rattle.store_abstraction.specs.declared.fail.EditFail.{EditFail}
use Rattle.store_abstraction.specs.declared.fail.EditFail.TheVariants.{Refused, Store}
use Rattle.store_abstraction.specs.Plan.{OrgPlan}
use Rattle.base_value.specs.declared.sharing.Level.TheVariants.{Full}

-- ---- the record that is named

pub target_of : (org : ℕ) (q : OrgPlan) (a : Asked) (name key : List ℕ) (x : Named) → FindsPermitted org q a name key Full (Ok x) → IsTarget a name key x.kept.item.id
target_of org q a name key x (is, permitted) =
    record { item = x.kept.item; is = refl; there = named_there org q a name key x is; verdict = named_verdict org q a name key x is Full permitted (λ o. delete_record a) }

pub no_target : (org : ℕ) (q : OrgPlan) (a : Asked) (name key : List ℕ) (e : EditFail) (out : Result (List ℕ) EditFail) → FindsPermitted org q a name key Full (Err e) → IsErrAnd out (λ y. y ≡ e) → FindsTarget a name key out
no_target org q a name key e (Ok x) h is = absurd is
no_target org q a name key e (Err y) h is = subst (FailsBy (delete a name key)) (sym is) (h (λ o. delete_record a))

-- ---- what its deletion comes to

pub failed : (org : ℕ) (q : OrgPlan) (a : Asked) (name key : List ℕ) (e : EditFail) (out : Result Doomed EditFail) → FailsBy (delete a name key) e → IsErrAnd out (λ y. y ≡ e) → Dooms org q a name key out
failed org q a name key e (Ok x) h is = absurd is
failed org q a name key e (Err y) h is = subst (FailsBy (delete a name key)) (sym is) h

-- the first rule that refuses it is its refusal
pub refused_by : (a : Asked) (name key : List ℕ) (item : Record) → delete a name key ≡ delete_record a item → (e : EditFail) → DeletesWith a.tenant item (Err e) → FailsBy (delete a name key) e
refused_by a name key item is (Refused x) h =
    let gone = cascade a.tenant item in
    ap (λ (v : Verdict). v.answer) is
    ∙ ap (λ (r : Rule). (unless r a.tenant (accept done (without a.now gone a.tenant))).answer) (sym h)
refused_by a name key item is (Store f) h = h
