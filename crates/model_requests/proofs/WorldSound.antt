-- A step of the world leaves each organisation sound.
use Rattle.std.proofs.Common.{◌≡◌, ℕ, zero, suc, ◌≤◌, Bool, true, false, cond, List, [], ◌∷◌, length, Option, Some, None, refl, ap, sym, subst, ◌∙◌, bytes_eq}
use Rattle.std.specs.Prelude.{is_some, pos}
use Rattle.std.specs.List.{AllByRecursion}
use Rattle.std.proofs.lemmas.Option.{same_Some as some_is}
use Rattle.base_lemmas.proofs.Texts.{bytes_eq-self as same_itself}
use Rattle.model.specs.declared.caller.Caller.{Caller}
use Rattle.model.specs.declared.limit.Limit.TheVariants as limit
use Rattle.model.specs.declared.refusal.Refusal.TheVariants.{InvalidSession}
use Rattle.model.specs.Callers.{Named, caller_of}
use Rattle.model.specs.Cases.{in_case}
use Rattle.model.specs.Limits.{limit_number}
use Rattle.model_requests.specs.RequestOf.{answer_to}
use Rattle.model.specs.Sound.{IsSound, IsWorld}
use Rattle.model.specs.Step.{Message, answer_in, if_called, in_key, in_tenant, key_in, refused, step_by}
use Rattle.model.specs.Tenant.{Tenant, User}
use Rattle.model_requests.specs.Answered.{answered}
use Rattle.model.specs.World.{World, having_id, tenant_at, user_at, user_id, with_tenant}
use Rattle.base_value.specs.Dates.{is_moment}
use Rattle.model_invariant.specs.Fit.{IsCaller}
use Rattle.model_invariant.proofs.Changes.{at_has}
use Rattle.model_invariant.proofs.Parts.{all_at}

found_self : (xs : List User) (i : List ℕ) (u : User) → having_id user_id xs i ≡ Some u → is_some (having_id user_id xs u.id) ≡ true
found_self [] i u e = absurd cc
found_self (x ∷ xs) i u e = by (bytes_eq i x.id) e (found_self xs i u)
  where
    either : (b : Bool) → is_some (having_id user_id xs u.id) ≡ true → is_some (cond b (Some x) (having_id user_id xs u.id)) ≡ true
    either true h = refl
    either false h = h

    by : (b : Bool) → cond b (Some x) (having_id user_id xs i) ≡ Some u → (having_id user_id xs i ≡ Some u → is_some (having_id user_id xs u.id) ≡ true) → is_some (cond (bytes_eq u.id x.id) (Some x) (having_id user_id xs u.id)) ≡ true
    by true e more =
        let same : bytes_eq u.id x.id ≡ true = ap (λ (z : User). bytes_eq z.id x.id) (sym (some_is x u e)) ∙ same_itself x.id in
        rw same refl
    by false e more = either (bytes_eq u.id x.id) (more e)

put_sound : (w : World) (n : ℕ) (t : Tenant) → AllByRecursion IsSound w → IsSound t → AllByRecursion IsSound (with_tenant w n t)
put_sound w zero t all s = all
put_sound [] (suc n) t all s = all
put_sound (u ∷ w) (suc zero) t all s = (s, all.1)
put_sound (u ∷ w) (suc (suc n)) t all s = (all.0, put_sound w (suc n) t all.1 s)

put_length : (w : World) (n : ℕ) (t : Tenant) → length (with_tenant w n t) ≡ length w
put_length w zero t = refl
put_length [] (suc n) t = refl
put_length (u ∷ w) (suc zero) t = refl
put_length (u ∷ w) (suc (suc n)) t = ap suc (put_length w (suc n) t)

tenant_sound : (w : World) (n : ℕ) (t : Tenant) → AllByRecursion IsSound w → tenant_at w n ≡ Some t → IsSound t
tenant_sound w zero t all e = absurd cc
tenant_sound w (suc n) t all e = all_at IsSound t w all (at_has n w t e)

pub world_sound : ((org : ℕ) (a : _) (m : Message) → IsCaller a → IsSound a.tenant → IsSound (answer_to org a m).1)
    → (w : World) (m : Message) (now : ℕ) → is_moment (pos now) ≡ true → IsWorld w → IsWorld (step_by answered w m now).1
world_sound law w m now moment s = by (key_in m)
  where
    user : (t : Tenant) → IsSound t → (c : Caller) (o : Option User) → user_at t.users c.user ≡ o
        → IsSound (in_case o (refused InvalidSession t) (λ u. answer_to c.org (record { tenant = t; user = u; now = pos now }) m)).1
    user t h c None e = h
    user t h c (Some u) e = law c.org (record { tenant = t; user = u; now = pos now }) m (found_self t.users c.user u e, moment) h

    called : (t : Tenant) → IsSound t → (c : Option Caller) → IsSound (if_called answered m now c t).1
    called t h None = h
    called t h (Some c) = user t h c (user_at t.users c.user) refl

    here : (n : Named) (o : Option Tenant) → tenant_at w n.org ≡ o → IsWorld (in_tenant w n.org (answer_in answered n m now) o).1
    here n None e = s
    here n (Some t) e =
        let after = (answer_in answered n m now t).1 in
        record {
          few = subst (λ (k : ℕ). k ≤ limit_number limit.Organisations) (sym (put_length w n.org after)) s.few;
          tenants = put_sound w n.org after s.tenants (called t (tenant_sound w n.org t s.tenants e) (caller_of n t));
        }

    by : (n : Option Named) → IsWorld (in_key answered w m now n).1
    by None = s
    by (Some n) = here n (tenant_at w n.org) refl
