-- What judging a create finds.
use Rattle.std.proofs.Common.{◌≡◌, ◌∙◌, ℕ, ◌<◌, List, [], ◌∷◌, length, Option, Some, None, ◌++◌, sym, subst, arith}
use Rattle.std.specs.Prelude.{Result, Ok, Err, IsErrAnd}
use Rattle.std.proofs.lemmas.Option.{slice_get_within}
use Rattle.std.specs.Option.{option_or}
use Rattle.store_edit.specs.Edits.{FailsBy}
use Rattle.store_kv.specs.Draft.{Held}
use Rattle.store_kv.specs.State.{KeeperState}
use Rattle.store_rows.specs.declared.fail.StoreFail.{StoreFail}
use Rattle.model.specs.Creates.{create_on, create_rules, empty_record}
use Rattle.model.specs.declared.record.Record.{Record}
use Rattle.model.specs.declared.record_bodies.Assignment.{Assignment}
use Rattle.model.specs.Keys.{Key, with_key}
use Rattle.model.specs.Objects.{Numbered, object_numbered}
use Rattle.model.specs.Paths.{Asked}
use Rattle.model.specs.Rules.{Rule, first_refusal}
use Rattle.model.specs.declared.refusal.Refusal.{Refusal}
use Rattle.model.specs.Sound.{IsSound}
use Rattle.model.specs.Tenant.{Tenant}
use Rattle.store_abstraction.specs.Calls.{Calls, ended_edit}
use Rattle.store_abstraction.specs.declared.fail.EditFail.{EditFail}
use Rattle.store_abstraction.specs.declared.fail.EditFail.TheVariants.{Refused, Store}
use Rattle.store_abstraction.specs.declared.layout.Layout.{Layout}
use Rattle.store_abstraction.specs.Fails.{of_store}
use Rattle.record_save.specs.Creating.{new_record}
use Rattle.record_save.specs.declared.creating.Accepted.{Accepted}
use Rattle.record_save.specs.declared.object.Counts.{Counts}
use Rattle.record_save.specs.inner.Judged.{Accepts, Admits, admit_rules}
use Rattle.record_save.specs.inner.Giving.{Alters, given_rules}
use Rattle.record_save.specs.inner.Object.{CountsOf, ReadsCounts}
use Rattle.record_save.proofs.Accepting.{behind, behind_refused, free_of, given_refused, refused_so}
use Rattle.record_save.proofs.FirstRules.{first_stays, first_then}

-- an object's number is one of so few
pub small_number : (t : Tenant) (o : Numbered) → IsSound t → object_numbered t o.number ≡ Some o.object → o.number < 3844
small_number t o sound there =
    let few : o.number < length t.objects = slice_get_within t.objects o.number o.object there in
    omega (arith, few, sound.metadata.few)

-- ---- what fails

module _ (org : ℕ) (a : Asked) (o : Numbered) (key : Option Key) (given : List Assignment) where
  -- it is passed on
  pub passed : (e : EditFail) (out : Result Accepted EditFail) → IsErrAnd out (λ y. y ≡ e) → FailsBy (create_on a o key given) e → Accepts org a o key given out
  passed e (Ok x) is h = absurd is
  passed e (Err y) is h = subst (FailsBy (create_on a o key given)) (sym is) h

  pub unread : (r : Result Counts StoreFail) (e : StoreFail) (out : Result Accepted EditFail) → ReadsCounts org a.tenant o r → r ≡ Err e → IsErrAnd out (λ y. y ≡ of_store e) → Accepts org a o key given out
  unread r e out h was is = passed (of_store e) out is (subst (ReadsCounts org a.tenant o) was h)

  pub read_so : (r : Result Counts StoreFail) (x : Counts) → ReadsCounts org a.tenant o r → r ≡ Ok x → CountsOf org a.tenant o x
  read_so r x h was = subst (ReadsCounts org a.tenant o) was h

  pub unproposed : (r : Result Record EditFail) (e : EditFail) → Alters a o.object key given (empty_record a o) r → r ≡ Err e → FailsBy (create_on a o key given) e
  unproposed r e h was = by e (subst (Alters a o.object key given (empty_record a o)) was h)
    where
      by : (e : EditFail) → Alters a o.object key given (empty_record a o) (Err e) → FailsBy (create_on a o key given) e
      by (Refused y) h = refused_so a o key given y (given_refused a o key given (new_record a o (with_key key given)) y h)
      by (Store f) h = h

  -- the record that no rule on what is given refuses
  module _ (l : Layout) (x : Counts) (new : Record) (proposed : (None ≡ first_refusal (given_rules a.tenant o.object key given (new_record a o (with_key key given)))) × (new ≡ new_record a o (with_key key given)))
      (rules : first_refusal (admit_rules a l x new) ≡ first_refusal (behind a o new)) where
    free : None ≡ first_refusal (given_rules a.tenant o.object key given new)
    free = subst (λ (r : Record). None ≡ first_refusal (given_rules a.tenant o.object key given r)) (sym proposed.1) proposed.0

    pub unadmitted : (r : Result (Unit {0}) EditFail) (e : EditFail) → Admits a l x new r → r ≡ Err e → FailsBy (create_on a o key given) e
    unadmitted r e h was = by e (subst (Admits a l x new) was h)
      where
        by : (e : EditFail) → Admits a l x new (Err e) → FailsBy (create_on a o key given) e
        by (Refused y) h =
            refused_so a o key given y
            (subst (λ (r : Record). Some y ≡ first_refusal (create_rules a o key given r)) proposed.1
            (behind_refused a o key given new y free (h ∙ rules)))
        by (Store f) h = h

    pub admitted : (r : Result (Unit {0}) EditFail) (done : Unit {0}) → Admits a l x new r → r ≡ Ok done → None ≡ first_refusal (create_rules a o key given new)
    admitted r done h was = free_of a o key given new free (subst (Admits a l x new) was h ∙ rules)

-- of the refusals of some rules and of one more, the first
pub refused_first : (rules : List Rule) (others more : Rule) (r : Refusal) → others ≡ first_refusal rules → option_or others more ≡ Some r → Some r ≡ first_refusal (rules ++ more ∷ [])
refused_first rules (Some x) more r e is = sym is ∙ first_stays x rules (more ∷ []) e
refused_first rules None more r e is = by more is ∙ sym (first_then rules (more ∷ []) e)
  where
    by : (more : Rule) → more ≡ Some r → Some r ≡ first_refusal (more ∷ [])
    by (Some x) is = sym is
    by None is = absurd cc

-- none of them refuses
pub refused_none : (rules : List Rule) (others more : Rule) → others ≡ first_refusal rules → option_or others more ≡ None → None ≡ first_refusal (rules ++ more ∷ [])
refused_none rules None None e is = sym (first_then rules (None ∷ []) e)
refused_none rules None (Some x) e is = absurd cc
refused_none rules (Some x) more e is = absurd cc

module _ {K : Type 0} (state : K → KeeperState) (a b : Held K) where
  pub passed_calls : (most : ℕ) (e : EditFail) (out : Result Accepted EditFail) → IsErrAnd out (λ y. y ≡ e) → Calls state most (ended_edit {X = Unit {0}} (Err e)) a b → Calls state most (ended_edit out) a b
  passed_calls most e (Ok x) is h = absurd is
  passed_calls most e (Err y) is h = subst (λ (z : EditFail). Calls state most (ended_edit {X = Accepted} (Err z)) a b) (sym is) (by e h)
    where
      by : (e : EditFail) → Calls state most (ended_edit {X = Unit {0}} (Err e)) a b → Calls state most (ended_edit {X = Accepted} (Err e)) a b
      by (Refused r) h = h
      by (Store f) h = h
