-- Changes that are made, and what they make of the tables.
use Rattle.std.proofs.Common.{◌≡◌, ◌∙◌, ◌≤◌, ◌<◌, ◌^◌, ℕ, ◌+◌, false, List, [], ◌∷◌, ◌++◌, map, Some, None, refl, sym, ap, subst, arith}
use Rattle.std.specs.Prelude.{Result, Ok, Err, IsErrAnd}
use Rattle.std.specs.List.{AllByRecursion}
use Rattle.store_edit.specs.declared.decided.Decided.{Decided}
use Rattle.store_edit.specs.Edits.{ChangesIn, Decides, DecidesTo, EditsAt, MakesEdit, Planned}
use Rattle.store_edit.specs.Rows.{AreOf, gone_of, spelled}
use Rattle.store_kv.specs.Tables.{Tables, after, after_change}
use Rattle.store_kv.specs.declared.keeper.Change.{Change as Spelled}
use Rattle.store_rows.specs.Keys.{Key}
use Rattle.model.specs.Paths.{Asked}
use Rattle.model.specs.Sound.{IsSound}
use Rattle.model.specs.Tenant.{Tenant}
use Rattle.model.specs.Verdict.{Done, Verdict}
use Rattle.store_abstraction.specs.Changes.{Change, IsOf, is_changed, with_change, with_changes}
use Rattle.store_abstraction.specs.declared.fail.EditFail.{EditFail}
use Rattle.store_abstraction.specs.Local.{IsIn, KeepsOthers, StandsIn}
use Rattle.store_abstraction.specs.Plan.{FitsPlan, OrgPlan}
use Rattle.store_abstraction.specs.Stands.{org_of_key, row_in}

-- what `store_abstraction` says of one organisation's rows after changes, and of those of others
abbrev pub EditedIn : Type 0
EditedIn = (m : Tables) (n : ℕ) (t u : Tenant) (p q : OrgPlan) (changes : List Change) → n < 2 ^ 32 → StandsIn n p m (Some t) → IsSound u → FitsPlan q u → AllByRecursion (IsOf n q u) changes
    → ((k : Key) → org_of_key k ≡ Some n → is_changed changes k ≡ false → row_in q u k ≡ row_in p t k) → StandsIn n q (with_changes changes m) (Some u)

abbrev pub KeptIn : Type 0
KeptIn = (m : Tables) (n : ℕ) (changes : List Change) → n < 2 ^ 32 → AllByRecursion (IsIn n) changes → KeepsOthers n m (with_changes changes m)

-- one change more
pub after_push : (cs : List Spelled) (c : Spelled) (m : Tables) → after (cs ++ c ∷ []) m ≡ after (c ∷ []) (after cs m)
after_push [] c m = refl
after_push (x ∷ cs) c m = after_push cs c (after_change x m)

pub gone_push : (cs : List Spelled) (c : Spelled) → gone_of (cs ++ c ∷ []) ≡ gone_of cs + gone_of (c ∷ [])
gone_push [] c = omega arith
gone_push (x ∷ cs) c = let e = gone_push cs c in omega (arith, e)

pub gone_front : (xs ys : List Spelled) → gone_of xs ≤ gone_of (xs ++ ys)
gone_front [] ys = omega arith
gone_front (x ∷ xs) ys = let e = gone_front xs ys in omega (arith, e)

one : (c : Change) (m : Tables) → after_change (spelled c) m ≡ with_change c m
one (k, Some row) m = refl
one (k, None) m = refl

pub after_spelled : (cs : List Change) (m : Tables) → after (map spelled cs) m ≡ with_changes cs m
after_spelled [] m = refl
after_spelled (c ∷ cs) m = ap (after (map spelled cs)) (one c m) ∙ after_spelled cs (with_change c m)

-- ---- edits

module _ {X : Type 0} (edited : EditedIn) (kept : KeptIn) (org : ℕ) (lo : org < 2 ^ 32) (m then : Tables) (answered : X → Done) (planned : Planned) where
  pub changed_at : (q : OrgPlan) (t : Tenant) (v : Verdict) (x : Decided X) → StandsIn org q m (Some t) → DecidesTo org q t v answered planned (Ok x) → then ≡ after x.changes.items m → EditsAt org v answered (planned q t) then (Ok x.answer)
  changed_at q t v x s (changes, spelt, takes) made =
      let is : then ≡ with_changes changes m = made ∙ ap (λ (xs : List Spelled). after xs m) spelt ∙ after_spelled changes m in
      (takes.answer, (takes.plan, takes.kept, subst (λ (z : Tables). StandsIn org takes.plan z (Some v.tenant)) (sym is) (edited m org t v.tenant q takes.plan changes lo s takes.sound takes.fits takes.are takes.rest)))

  others_at : (x : Decided X) → AreOf org x.changes.items → then ≡ after x.changes.items m → KeepsOthers org m then
  others_at x (changes, spelt, are) made =
      subst (KeepsOthers org m) (sym (made ∙ ap (λ (xs : List Spelled). after xs m) spelt ∙ after_spelled changes m)) (kept m org changes lo are)

  -- an edit that is judged, once its changes are made
  pub edit_made : (verdict : Asked → Verdict) (fits : Asked → Type 0) (r : Result (Decided X) EditFail) (x : Decided X) → r ≡ Ok x → Decides org verdict answered planned fits m r → then ≡ after x.changes.items m → MakesEdit org verdict answered planned fits m then (Ok x.answer)
  edit_made verdict fits r x was h made = record {
    others = others_at x (subst (ChangesIn org) was h.own) made;
    edited = λ q a s f. changed_at q a.tenant (verdict a) x s (subst (DecidesTo org q a.tenant (verdict a) answered planned) was (h.decided q a s f)) made;
  }

  -- one that is refused or fails, passed on by a `?`
  pub edit_passed : (verdict : Asked → Verdict) (fits : Asked → Type 0) (r : Result (Decided X) EditFail) (e : EditFail) (out : Result X EditFail) → r ≡ Err e → IsErrAnd out (λ y. y ≡ e) → Decides org verdict answered planned fits m r → MakesEdit org verdict answered planned fits m then out
  edit_passed verdict fits r e (Ok x) was passed h = absurd passed
  edit_passed verdict fits r e (Err y) was passed h = subst (λ (z : EditFail). MakesEdit org verdict answered planned fits m then (Err z)) (sym passed) (record {
    others = tt;
    edited = λ q a s f. subst (DecidesTo org q a.tenant (verdict a) answered planned) was (h.decided q a s f);
  })
