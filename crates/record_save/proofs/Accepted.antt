-- An update is accepted where none of its rules refuses it, and refused by the first that does.
use Rattle.std.proofs.Common.{◌≡◌, ◌∙◌, ℕ, List, [], ◌∷◌, ◌++◌, Option, Some, None, refl, sym, ap, subst}
use Rattle.std.specs.Prelude.{Result, Ok, Err, IsErrAnd}
use Rattle.store_edit.specs.Edits.{FailsBy}
use Rattle.store_kv.specs.Draft.{Held}
use Rattle.store_kv.specs.State.{KeeperState}
use Rattle.store_rows.specs.declared.share.ShareRow.{ShareRow}
use Rattle.model.specs.Cases.{in_case}
use Rattle.model.specs.declared.record.Record.{Record}
use Rattle.model.specs.declared.record_bodies.Assignment.{Assignment}
use Rattle.model.specs.declared.refusal.Refusal.{Refusal}
use Rattle.model.specs.Edits.{bad_target, duplicate, validation_failed}
use Rattle.model.specs.Keys.{Key}
use Rattle.model.specs.Objects.{Numbered}
use Rattle.model.specs.Paths.{Asked}
use Rattle.model.specs.Rules.{Rule, first_refusal}
use Rattle.model.specs.Tenant.{Object}
use Rattle.model.specs.Updates.{master_changed, retype_conflict, update_on, update_rules, with_changed}
use Rattle.model.specs.Verdict.{accept}
use Rattle.schema_rules.specs.Failing.{rule_failed}
use Rattle.schema_rules.specs.Objects.{object_of_layout}
use Rattle.store_abstraction.specs.Calls.{Calls, ended_edit}
use Rattle.store_abstraction.specs.declared.fail.EditFail.{EditFail}
use Rattle.store_abstraction.specs.declared.fail.EditFail.TheVariants.{Refused, Store}
use Rattle.store_abstraction.specs.declared.layout.Layout.{Layout}
use Rattle.store_abstraction.specs.Plan.{OrgPlan}
use Rattle.record_save.specs.declared.updating.Altered.{Altered}
use Rattle.record_save.specs.inner.Altered.{AdmitsAltered, altered_rules}
use Rattle.record_save.specs.Creating.{IsObject}
use Rattle.record_save.specs.Updating.{answered_changed}
use Rattle.record_save.specs.inner.Giving.{Changes, altered, changed_rules}
use Rattle.record_save.specs.inner.Updated.{IsAltered, Updates}
use Rattle.record_save.proofs.FirstRules.{first_stays, first_then, refused_by}
use Rattle.record_save.proofs.GivenRules.{changes_there}
use Rattle.record_target.proofs.Spelled.{plain, spelled}

-- ---- rules over the object that a layout spells

abbrev behind : Asked → Numbered → Rule → (old new : Record) → List Rule
behind a o own old new = bad_target a o old new ∷ master_changed a.tenant o old new ∷ retype_conflict a.tenant o new ∷ own ∷ duplicate a o new ∷ []

behind_plain : (a : Asked) (o : Numbered) (own : Rule) (old new : Record) → behind a (plain o) own old new ≡ behind a o own old new
behind_plain a o own old new = refl

-- ---- what judging finds

module _ (a : Asked) (o : Numbered) (key : Option Key) (given : List Assignment) (old : Record) (l : Layout) where
  abbrev then : Record
  then = altered a o.object key given old

  abbrev first_rules : (new : Record) → List Rule
  first_rules new = changed_rules a o.object key given old new

  -- it is passed on
  pub update_passed : (e : EditFail) (out : Result Altered EditFail) → IsErrAnd out (λ y. y ≡ e) → FailsBy (update_on a o key given old) e → Updates l.org a o key given old out
  update_passed e (Ok x) is h = absurd is
  update_passed e (Err y) is h = subst (FailsBy (update_on a o key given old)) (sym is) h

  module _ (q : OrgPlan) (at : IsObject l.org q a.tenant o l) where
    behind_is : (new : Record) → altered_rules l old new a ≡ behind a o (validation_failed a o.object new (Some old)) old new
    behind_is new =
        ap (λ (l : Layout). altered_rules l old new a) at.layout
        ∙ (ap (λ (p : Numbered). behind a p (rule_failed a o.number new (Some old) a.tenant) old new) (spelled l.org q a.tenant o)
        ∙ (behind_plain a o (rule_failed a o.number new (Some old) a.tenant) old new
        ∙ ap (λ (at : Option Object). behind a o (in_case at None (λ v. validation_failed a v new (Some old))) old new) at.there))

    rules_are : (new : Record) → update_rules a o key given old new ≡ first_rules new ++ altered_rules l old new a
    rules_are new = ap (λ (rules : List Rule). first_rules new ++ rules) (sym (behind_is new))

    refused_so : (r : Refusal) → Some r ≡ first_refusal (first_rules then ++ altered_rules l old then a) → (update_on a o key given old).answer ≡ Err r
    refused_so r h =
        refused_by r (first_refusal (update_rules a o key given old then)) a.tenant (accept (answered_changed key old.id) (with_changed old then a.tenant))
        (h ∙ sym (ap first_refusal (rules_are then)))

    changes_of : (r : Result Record EditFail) → Changes a (object_of_layout l) key given old r → Changes a o.object key given old r
    changes_of r h = changes_there l.org q a o l key given old r at.layout h

    pub unaltered : (r : Result Record EditFail) (e : EditFail) → Changes a (object_of_layout l) key given old r → r ≡ Err e → FailsBy (update_on a o key given old) e
    unaltered r e h was = by e (subst (Changes a o.object key given old) was (changes_of r h))
      where
        by : (e : EditFail) → Changes a o.object key given old (Err e) → FailsBy (update_on a o key given old) e
        by (Refused y) h = refused_so y (first_stays y (first_rules then) (altered_rules l old then a) h)
        by (Store f) h = h

    -- the record that no rule on what is given refuses
    module _ (made : Result Record EditFail) (new : Record) (changes : Changes a (object_of_layout l) key given old made) (was : made ≡ Ok new) where
      so : (None ≡ first_refusal (first_rules then)) × (new ≡ then)
      so = subst (Changes a o.object key given old) was (changes_of made changes)

      pub unadmitted_too : (r : Result (List ShareRow) EditFail) (e : EditFail) → AdmitsAltered a l old new r → r ≡ Err e → FailsBy (update_on a o key given old) e
      unadmitted_too r e h gave = by e (subst (AdmitsAltered a l old new) gave h)
        where
          by : (e : EditFail) → AdmitsAltered a l old new (Err e) → FailsBy (update_on a o key given old) e
          by (Refused y) h =
              refused_so y (subst (λ (z : Record). Some y ≡ first_refusal (altered_rules l old z a)) so.1 h
              ∙ sym (first_then (first_rules then) (altered_rules l old then a) so.0))
          by (Store f) h = h

      pub accepted : (r : Result (List ShareRow) EditFail) (shares : List ShareRow) → AdmitsAltered a l old new r → r ≡ Ok shares → IsAltered l.org a o key given old (record { new = new; shares = shares })
      accepted r shares h gave =
          let admits = subst (AdmitsAltered a l old new) gave h in
          record {
            new = so.1;
            free = admits.0
                ∙ sym (first_then (first_rules new) (altered_rules l old new a) (subst (λ (z : Record). None ≡ first_refusal (first_rules z)) (sym so.1) so.0))
                ∙ sym (ap first_refusal (rules_are new));
            shares = admits.1;
          }

module _ {K : Type 0} (state : K → KeeperState) (a b : Held K) where
  pub altered_calls : (most : ℕ) (e : EditFail) (out : Result Altered EditFail) → IsErrAnd out (λ y. y ≡ e) → Calls state most (ended_edit {X = List ShareRow} (Err e)) a b → Calls state most (ended_edit out) a b
  altered_calls most e (Ok x) is h = absurd is
  altered_calls most e (Err y) is h = subst (λ (z : EditFail). Calls state most (ended_edit {X = Altered} (Err z)) a b) (sym is) (by e h)
    where
      by : (e : EditFail) → Calls state most (ended_edit {X = List ShareRow} (Err e)) a b → Calls state most (ended_edit {X = Altered} (Err e)) a b
      by (Refused r) h = h
      by (Store f) h = h
