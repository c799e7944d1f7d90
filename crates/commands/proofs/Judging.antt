-- A new organisation, and a new secret of a user, are judged as the definitions have them.
use Rattle.std.proofs.Common.{◌≡◌, ◌+◌, ℕ, Bool, true, false, length, List, Some, None, Result, Ok, Err, refl, sym, ap, subst, ◌∙◌}
use Rattle.std.specs.Prelude.{if◌then◌else◌}
use Rattle.std.specs.Str.{chars}
use Rattle.sha2.specs.Sha256.{sha256}
use Rattle.store_kv.specs.Tables.{Tables}
use Rattle.store_rows.specs.declared.fail.StoreFail.{StoreFail}
use Rattle.store_rows.specs.declared.fail.StoreFail.TheVariants as store
use Rattle.model.specs.declared.limit.Limit.TheVariants as limit
use Rattle.model.specs.declared.refusal.Refusal.{Refusal}
use Rattle.model.specs.declared.refusal.Refusal.TheVariants.{LimitExceeded}
use Rattle.model.specs.Organisations.{is_full, is_secret, org_refusal, org_verdict, with_org}
use Rattle.model.specs.Sound.{is_name}
use Rattle.model.specs.World.{World}
use Rattle.store_abstraction.specs.declared.fail.EditFail.TheVariants.{Refused, Store}
use Rattle.store_abstraction.specs.declared.judged.Judged.TheVariants.{Changed, Same}
use Rattle.store_abstraction.specs.Operations.{Edits, Judges}
use Rattle.store_abstraction.specs.Stands.{Stands}
use Rattle.commands.specs.OrgAdd.{added_printout, org_does, printout_by, world_by}
use Rattle.commands.specs.Printed.{PrintoutText, refused, user_printout}
use Rattle.commands.specs.UserSet.{set_or_refused, user_set_does}
use Rattle.cmd_user_set.specs.UserSet.{user_set_verdict}

-- what a new organisation is refused for, once its name and secret are good
refusal_is : (w : World) (name secret : List ℕ) (b : Bool) → is_name (chars name) ≡ true → is_secret secret ≡ true → is_full w ≡ b → org_refusal w (chars name) secret ≡ (if b then Some (LimitExceeded limit.Organisations) else None)
refusal_is w name secret b good secrets full = rw (good, secrets, full) refl

module _ (w : World) (name secret : List ℕ) (good : is_name (chars name) ≡ true) (secrets : is_secret secret ≡ true) where
  pub judged_full : (after : Tables) (r : Refusal) (p : PrintoutText) → org_verdict (chars name) (sha256 secret) w ≡ Err r → p ≡ refused r → Judges Stands (org_does name secret) w after (Ok (Same p))
  judged_full after r p v e = by (is_full w) refl v
    where
      by : (b : Bool) → is_full w ≡ b → if◌then◌else◌ {A = Result (ℕ × World) Refusal} b (Err (LimitExceeded limit.Organisations)) (Ok (length w + 1, with_org w (chars name) (sha256 secret))) ≡ Err r → Judges Stands (org_does name secret) w after (Ok (Same p))
      by true full v =
          let why : org_refusal w (chars name) secret ≡ Some r = refusal_is w name secret true good secrets full ∙ cc in
          (e ∙ sym (ap (λ o. printout_by o (length w + 1)) why), ap (λ o. world_by o w (with_org w (chars name) (sha256 secret))) why)
      by false full v = absurd cc

  pub judged_done : (after : Tables) (n : ℕ) (next : World) (p : PrintoutText) → org_verdict (chars name) (sha256 secret) w ≡ Ok (n, next) → p ≡ added_printout n → Stands after next → Judges Stands (org_does name secret) w after (Ok (Changed p))
  judged_done after n next p v e s = by (is_full w) refl v
    where
      by : (b : Bool) → is_full w ≡ b → if◌then◌else◌ {A = Result (ℕ × World) Refusal} b (Err (LimitExceeded limit.Organisations)) (Ok (length w + 1, with_org w (chars name) (sha256 secret))) ≡ Ok (n, next) → Judges Stands (org_does name secret) w after (Ok (Changed p))
      by true full v = absurd cc
      by false full v =
          let none : org_refusal w (chars name) secret ≡ None = refusal_is w name secret false good secrets full in
          let same : ◌≡◌ {A = ℕ × World} (length w + 1, with_org w (chars name) (sha256 secret)) (n, next) = cc in (
            e ∙ sym (ap (λ (x : ℕ × World). added_printout x.0) same) ∙ sym (ap (λ o. printout_by o (length w + 1)) none),
            subst (λ (v : World). Stands after v) (sym (ap (λ (x : ℕ × World). x.1) same) ∙ sym (ap (λ o. world_by o w (with_org w (chars name) (sha256 secret))) none)) s,
          )

pub judged_failed : {X : Type 0} (verdict : World → Result (X × World) Refusal) (does : World → PrintoutText × World) (w : World) (after left : Tables) (e : StoreFail) → Edits verdict w left (Err (Store e)) → Judges Stands does w after (Err e)
judged_failed verdict does w after left store.Damaged h is = h
judged_failed verdict does w after left store.Keeper h is = absurd cc
judged_failed verdict does w after left store.Memory h is = absurd cc

-- ---- a new secret

module _ (org user secret : List ℕ) (w : World) (after : Tables) where
  pub judged_set : (ids : ℕ × List ℕ) (p : PrintoutText) → Edits (user_set_verdict (chars org) (chars user) (chars secret)) w after (Ok ids) → p ≡ user_printout ids → Judges Stands (user_set_does org user secret) w after (Ok (Changed p))
  judged_set ids p (next, is, stands) e = (e ∙ sym (ap (λ x. (set_or_refused w x).0) is), subst (λ (v : World). Stands after v) (sym (ap (λ x. (set_or_refused w x).1) is)) stands)

  pub judged_not_set : (r : Refusal) (p : PrintoutText) → Edits {X = ℕ × List ℕ} (user_set_verdict (chars org) (chars user) (chars secret)) w after (Err (Refused r)) → p ≡ refused r → Judges Stands (user_set_does org user secret) w after (Ok (Same p))
  judged_not_set r p is e = (e ∙ sym (ap (λ x. (set_or_refused w x).0) is), ap (λ x. (set_or_refused w x).1) is)
