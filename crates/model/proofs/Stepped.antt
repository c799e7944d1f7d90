-- The step of the world: who is found, and what changes.
use Rattle.std.proofs.Common.{◌≡◌, ℕ, zero, suc, Bool, true, false, cond, List, [], ◌∷◌, Option, Some, None, refl, sym, ap, subst, ◌∙◌}
use Rattle.std.specs.Option.{option_and_then, option_map}
use Rattle.std.specs.Prelude.{encode_utf8_all}
use Rattle.std.specs.Str.{bytes_eq}
use Rattle.std.proofs.lemmas.Slice.Eq.{bytes_eq-Decides}
use Rattle.std.proofs.lemmas.Option.{same_Some as user_is}
use Rattle.sha2.specs.Sha256.{sha256}
use Rattle.model.specs.declared.caller.Caller.{Caller}
use Rattle.model.specs.declared.refusal.Refusal.TheVariants as refusal
use Rattle.model.specs.declared.reply.Reply.{Reply}
use Rattle.model.specs.Callers.{IsUser, Named, admitted, caller_in, is_admitted, caller_of, named}
use Rattle.model.specs.Step.{Answering, Message, answer_in, caller_by, if_called, in_key, in_org, in_tenant, key_in, org_named, refusal_reply, step_by}
use Rattle.model.specs.Tenant.{Tenant, User}
use Rattle.model.specs.World.{World, tenant_at, user_at, with_tenant}

abbrev no_session : Reply
no_session = refusal_reply refusal.InvalidSession

-- ---- one organisation in place of another

-- the same in its place changes nothing
pub same_put : (w : World) (n : ℕ) (t : Tenant) → tenant_at w n ≡ Some t → with_tenant w n t ≡ w
same_put w zero t e = absurd cc
same_put [] (suc n) t e = absurd cc
same_put (u ∷ w) (suc zero) t e = ap (λ x. x ∷ w) (sym (some_eq u t e))
  where
    some_eq : (a b : Tenant) → ◌≡◌ {A = Option Tenant} (Some a) (Some b) → a ≡ b
    some_eq a b e = ap (λ (o : Option Tenant). from a o) e
      where
        from : Tenant → Option Tenant → Tenant
        from d None = d
        from d (Some x) = x
same_put (u ∷ w) (suc (suc n)) t e = ap (λ x. u ∷ x) (same_put w (suc n) t e)

-- it is found at its place
pub put_found : (w : World) (n : ℕ) (t u : Tenant) → tenant_at w n ≡ Some u → tenant_at (with_tenant w n t) n ≡ Some t
put_found w zero t u e = absurd cc
put_found [] (suc n) t u e = absurd cc
put_found (x ∷ w) (suc zero) t u e = refl
put_found (x ∷ w) (suc (suc n)) t u e = put_found w (suc n) t u e

-- and the others at theirs
pub put_other : (w : World) (n m : ℕ) (t : Tenant) → (n ≡ m → ⊥) → tenant_at (with_tenant w n t) m ≡ tenant_at w m
put_other w zero m t apart = refl
put_other [] (suc n) m t apart = refl
put_other (x ∷ w) (suc zero) zero t apart = refl
put_other (x ∷ w) (suc zero) (suc zero) t apart = absurd (apart refl)
put_other (x ∷ w) (suc zero) (suc (suc m)) t apart = refl
put_other (x ∷ w) (suc (suc n)) zero t apart = refl
put_other (x ∷ w) (suc (suc n)) (suc zero) t apart = refl
put_other (x ∷ w) (suc (suc n)) (suc (suc m)) t apart = put_other w (suc n) (suc m) t (λ e. apart (ap suc e))

-- of two that are put there the second counts
pub put_twice : (w : World) (n : ℕ) (t u : Tenant) → with_tenant (with_tenant w n t) n u ≡ with_tenant w n u
put_twice w zero t u = refl
put_twice [] (suc n) t u = refl
put_twice (x ∷ w) (suc zero) t u = refl
put_twice (x ∷ w) (suc (suc n)) t u = ap (λ v. x ∷ v) (put_twice w (suc n) t u)

-- ---- who is found

-- a caller is of the organisation that is named
org_of_caller : (n : Named) (t : Tenant) (c : Caller) → caller_of n t ≡ Some c → c.org ≡ n.org
org_of_caller n t c e = by (user_at t.users n.user) e
  where
    named_org : ℕ → Option Caller → ℕ
    named_org d None = d
    named_org d (Some x) = x.org

    admits : (u : User) (b : Bool) → cond b (Some (record { org = n.org; user = u.id; admin = u.admin })) None ≡ Some c → c.org ≡ n.org
    admits u true e = sym (ap (λ (o : Option Caller). named_org n.org o) e)
    admits u false e = absurd cc

    by : (o : Option User) → option_and_then (admitted n) o ≡ Some c → c.org ≡ n.org
    by None e = absurd cc
    by (Some u) e = admits u (is_admitted n u) e

-- the caller by what a key names
abbrev found_by : World → Option Named → Option Caller
found_by w o = option_and_then (λ n. option_and_then (caller_of n) (tenant_at w n.org)) o

-- the same two, by the bearer
by_bearer : (w : World) (b : Option (List ℕ)) → option_and_then (λ key. caller_in w (encode_utf8_all key)) b ≡ found_by w (option_and_then (λ key. named (encode_utf8_all key)) b)
by_bearer w None = refl
by_bearer w (Some key) = refl

module _ (answers : Answering) (w : World) (m : Message) (now : ℕ) where
  called_in : (n : Named) (c : Caller) (o : Option Tenant) → option_and_then (caller_of n) o ≡ Some c
      → in_tenant w n.org (answer_in answers n m now) o ≡ in_tenant w n.org (answers c m now) o
  called_in n c None e = absurd cc
  called_in n c (Some t) e = ap (λ (x : Option Caller). ((if_called answers m now x t).0, with_tenant w n.org (if_called answers m now x t).1)) e

  caller_org : (n : Named) (c : Caller) (o : Option Tenant) → option_and_then (caller_of n) o ≡ Some c → c.org ≡ n.org
  caller_org n c None e = absurd cc
  caller_org n c (Some t) e = org_of_caller n t c e

  called_by : (o : Option Named) (c : Caller) → found_by w o ≡ Some c → in_key answers w m now o ≡ in_org w c.org (answers c m now)
  called_by None c e = absurd cc
  called_by (Some n) c e =
      called_in n c (tenant_at w n.org) e
      ∙ ap (λ k. in_org w k (answers c m now)) (sym (caller_org n c (tenant_at w n.org) e))

  pub called : (c : Caller) → caller_by w m ≡ Some c → step_by answers w m now ≡ in_org w c.org (answers c m now)
  called c e = called_by (key_in m) c (sym (by_bearer w m.bearer) ∙ e)

  uncalled_in : (n : Named) (o : Option Tenant) → tenant_at w n.org ≡ o → option_and_then (caller_of n) o ≡ None → in_tenant w n.org (answer_in answers n m now) o ≡ (no_session, w)
  uncalled_in n None at e = refl
  uncalled_in n (Some t) at e =
      ap (λ (x : Option Caller). ((if_called answers m now x t).0, with_tenant w n.org (if_called answers m now x t).1)) e
      ∙ ap (λ (v : World). (no_session, v)) (same_put w n.org t at)

  uncalled_by : (o : Option Named) → found_by w o ≡ None → in_key answers w m now o ≡ (no_session, w)
  uncalled_by None e = refl
  uncalled_by (Some n) e = uncalled_in n (tenant_at w n.org) refl e

  pub uncalled : caller_by w m ≡ None → step_by answers w m now ≡ (refusal_reply refusal.InvalidSession, w)
  uncalled e = uncalled_by (key_in m) (sym (by_bearer w m.bearer) ∙ e)

-- ---- the user who asks

-- who is found has the id that was looked for, and is found by the id
id_is : (us : List User) (i : List ℕ) (u : User) → user_at us i ≡ Some u → u.id ≡ i
id_is [] i u e = absurd cc
id_is (x ∷ us) i u e = by (λ rest. id_is us i u rest) (bytes_eq i x.id) refl e
  where
    by : (user_at us i ≡ Some u → u.id ≡ i) → (b : Bool) → bytes_eq i x.id ≡ b → cond b (Some x) (user_at us i) ≡ Some u → u.id ≡ i
    by rest true same e = ap (λ (y : User). y.id) (sym (user_is x u e)) ∙ sym ((bytes_eq-Decides i x.id).0 same)
    by rest false same e = rest e

found_id : (us : List User) (i : List ℕ) (u : User) → user_at us i ≡ Some u → user_at us u.id ≡ Some u
found_id us i u e = ap (λ k. user_at us k) (id_is us i u e) ∙ e

-- the caller of this name in a tenant is a user of it
user_in : (n : Named) (t : Tenant) (c : Caller) → caller_of n t ≡ Some c → (u : User) × ((user_at t.users c.user ≡ Some u) × (u.admin ≡ c.admin))
user_in n t c e = by (user_at t.users n.user) refl e
  where
    is_it : (a b : Caller) → ◌≡◌ {A = Option Caller} (Some a) (Some b) → a ≡ b
    is_it a b e = cc

    admits : (u : User) (b : Bool) → user_at t.users n.user ≡ Some u → cond b (Some (record { org = n.org; user = u.id; admin = u.admin })) None ≡ Some c
        → (v : User) × ((user_at t.users c.user ≡ Some v) × (v.admin ≡ c.admin))
    admits u true at e =
        let same = is_it (record { org = n.org; user = u.id; admin = u.admin }) c e in
        (u, (ap (λ (x : Caller). user_at t.users x.user) (sym same) ∙ found_id t.users n.user u at, ap (λ (x : Caller). x.admin) same))
    admits u false at e = absurd cc

    by : (o : Option User) → user_at t.users n.user ≡ o → option_and_then (admitted n) o ≡ Some c → (v : User) × ((user_at t.users c.user ≡ Some v) × (v.admin ≡ c.admin))
    by None at e = absurd cc
    by (Some u) at e = admits u (is_admitted n u) at e

module _ (w : World) (m : Message) where
  user_by : (o : Option Named) (c : Caller) → found_by w o ≡ Some c → (t : Tenant) × (u : User) × IsUser w c t u
  user_by None c e = absurd cc
  user_by (Some n) c e = by (tenant_at w n.org) refl e
    where
      by : (o : Option Tenant) → tenant_at w n.org ≡ o → option_and_then (caller_of n) o ≡ Some c → (t : Tenant) × (u : User) × IsUser w c t u
      by None at e = absurd cc
      by (Some t) at e =
          let h = user_in n t c e in
          (t, h.0, record { tenant = ap (λ k. tenant_at w k) (org_of_caller n t c e) ∙ at; user = h.1.0; admin = h.1.1 })

  pub user_of : (c : Caller) → caller_by w m ≡ Some c → (t : Tenant) × (u : User) × IsUser w c t u
  user_of c e = user_by (key_in m) c (sym (by_bearer w m.bearer) ∙ e)

-- ---- one organisation and the others

module _ (answers : Answering) (m : Message) (now org : ℕ) where
  own_in : (w v : World) (does : Tenant → Reply × Tenant) (o : Option Tenant) → tenant_at w org ≡ o → tenant_at v org ≡ o
      → ((in_tenant w org does o).0 ≡ (in_tenant v org does o).0) × (tenant_at (in_tenant w org does o).1 org ≡ tenant_at (in_tenant v org does o).1 org)
  own_in w v does None e f = (refl, e ∙ sym f)
  own_in w v does (Some t) e f = (refl, put_found w org (does t).1 t e ∙ sym (put_found v org (does t).1 t f))

  same_org : (w v : World) (does : Tenant → Reply × Tenant) → tenant_at w org ≡ tenant_at v org
      → ((in_org w org does).0 ≡ (in_org v org does).0) × (tenant_at (in_org w org does).1 org ≡ tenant_at (in_org v org does).1 org)
  same_org w v does e =
      subst (λ (o : Option Tenant). ((in_org w org does).0 ≡ (in_tenant v org does o).0) × (tenant_at (in_org w org does).1 org ≡ tenant_at (in_tenant v org does o).1 org)) e
      (own_in w v does (tenant_at w org) refl (sym e))

  own_named : (w v : World) (o : Option Named) → option_map (λ n. n.org) o ≡ Some org → tenant_at w org ≡ tenant_at v org
      → ((in_key answers w m now o).0 ≡ (in_key answers v m now o).0) × (tenant_at (in_key answers w m now o).1 org ≡ tenant_at (in_key answers v m now o).1 org)
  own_named w v None e same = absurd cc
  own_named w v (Some n) e same =
      subst (λ k. ((in_org w k (answer_in answers n m now)).0 ≡ (in_org v k (answer_in answers n m now)).0) × (tenant_at (in_org w k (answer_in answers n m now)).1 org ≡ tenant_at (in_org v k (answer_in answers n m now)).1 org))
      (sym (some_eq n.org org e)) (same_org w v (answer_in answers n m now) same)
    where
      some_eq : (a b : ℕ) → ◌≡◌ {A = Option ℕ} (Some a) (Some b) → a ≡ b
      some_eq a b e = ap (λ (o : Option ℕ). from a o) e
        where
          from : ℕ → Option ℕ → ℕ
          from d None = d
          from d (Some x) = x

  pub own_alone : (w v : World) → org_named m ≡ Some org → tenant_at w org ≡ tenant_at v org
      → ((step_by answers w m now).0 ≡ (step_by answers v m now).0) × (tenant_at (step_by answers w m now).1 org ≡ tenant_at (step_by answers v m now).1 org)
  own_alone w v e same = own_named w v (key_in m) e same

  other_in : (w : World) (k : ℕ) (does : Tenant → Reply × Tenant) (o : Option Tenant) → (k ≡ org → ⊥) → tenant_at (in_tenant w k does o).1 org ≡ tenant_at w org
  other_in w k does None apart = refl
  other_in w k does (Some t) apart = put_other w k org (does t).1 apart

  other_named : (w : World) (o : Option Named) → (option_map (λ n. n.org) o ≡ Some org → ⊥) → tenant_at (in_key answers w m now o).1 org ≡ tenant_at w org
  other_named w None apart = refl
  other_named w (Some n) apart = other_in w n.org (answer_in answers n m now) (tenant_at w n.org) (λ e. apart (ap Some e))

  pub other_stays : (w : World) → (org_named m ≡ Some org → ⊥) → tenant_at (step_by answers w m now).1 org ≡ tenant_at w org
  other_stays w apart = other_named w (key_in m) apart
