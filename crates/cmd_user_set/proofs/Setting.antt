-- A new secret of one user: in the organisation, and in the world.
use Rattle.std.proofs.Common.{◌≡◌, ℕ, ◌<◌, ◌^◌, Bool, true, false, List, Option, Some, None, Result, Ok, Err, refl, sym, ap, subst, ◌∙◌, IsTrue}
use Rattle.std.specs.Prelude.{IfOk, IfSome, IsErrAnd, if◌then◌else◌}
use Rattle.base_value.specs.Id.{id_in}
use Rattle.store_kv.specs.Tables.{Tables}
use Rattle.store_rows.specs.declared.fail.StoreFail.TheVariants.{Damaged, Keeper, Memory}
use Rattle.model.specs.declared.people_bodies.UserChange.{UserChange}
use Rattle.model.specs.declared.refusal.Refusal.{Refusal}
use Rattle.model.specs.declared.refusal.Refusal.TheVariants.{NotFound, SecretRefused}
use Rattle.model.specs.Asker.{asking}
use Rattle.model.specs.Cases.{in_case}
use Rattle.model.specs.Organisations.{is_secret}
use Rattle.model.specs.People.{set_user}
use Rattle.model.specs.Tenant.{Tenant, User}
use Rattle.model.specs.Verdict.{Verdict, done}
use Rattle.model.specs.World.{World, tenant_at, user_at, with_tenant}
use Rattle.store_abstraction.specs.declared.fail.EditFail.{EditFail}
use Rattle.store_abstraction.specs.declared.fail.EditFail.TheVariants.{Refused, Store}
use Rattle.store_abstraction.specs.Local.{KeepsOthers, StandsIn}
use Rattle.store_abstraction.specs.Operations.{Edits}
use Rattle.store_abstraction.specs.Plan.{OrgPlan, Plan, with_plan}
use Rattle.store_abstraction.specs.Stands.{Stands, StandsBy}
use Rattle.store_edit.specs.Edits.{EditsAt, MakesEdit, OthersStay}
use Rattle.cmd_user_set.specs.UserSet.{key_change, user_named, user_set_verdict, with_key, world_with_key}
use Rattle.cmd_user_set.specs.inner.Named.{ChangesKey, FindsUser, GivesKey}
use Rattle.cmd_user_set.proofs.Accepted.{is_accepted}
use Rattle.cmd_user_set.proofs.Finding.{EachStands}
use Rattle.cmd_user_set.proofs.There.{IsThere, there_so}

-- ---- in the organisation

-- a text that is no secret
pub not_secret : {X : Type 0} (org : ℕ) (user secret : List ℕ) (m : Tables) → is_secret secret ≡ false → ChangesKey {X = X} org user secret m m (Err (Refused SecretRefused))
not_secret org user secret m isnt = record { others = tt; given = λ q t i u s is there. (isnt, refl) }

-- an edit by this change
module _ {X : Type 0} (org : ℕ) (user secret : List ℕ) (m after : Tables) (yes : is_secret secret ≡ true) where
  abbrev MakesKey : UserChange → Result X EditFail → Type 0
  MakesKey b r = MakesEdit org (λ a. set_user a.tenant user b) (λ x. done) (λ q t next. next ≡ q) (λ a. IfSome b.secret (λ s. IsTrue (is_secret s))) m after r

  others_so : (r : Result X EditFail) → OthersStay org m after r → IfOk r (λ x. KeepsOthers org m after)
  others_so (Ok x) h = h
  others_so (Err e) h = h

  given_so : (q : OrgPlan) (t : Tenant) (i : List ℕ) (u : User) → id_in user ≡ Some i → user_at t.users i ≡ Some u → (r : Result X EditFail)
      → EditsAt org (set_user t user (key_change secret)) (λ x. done) (λ next. next ≡ q) after r → GivesKey org user secret t after r
  given_so q t i u is there (Ok x) h = (yes, (h.1.0, h.1.2))
  given_so q t i u is there (Err (Refused r)) h = absurd by
    where
      by : ⊥
      by = let answers = ap (λ (v : Verdict). v.answer) (is_accepted t user secret i u is there) in absurd cc
  given_so q t i u is there (Err (Store e)) h = h

  pub changed_so : (b : UserChange) (r : Result X EditFail) → b ≡ key_change secret → MakesKey b r → ChangesKey org user secret m after r
  changed_so b r is made =
      let h = subst (λ (x : UserChange). MakesKey x r) is made in
      record { others = others_so r h.others; given = λ q t i u s named there. given_so q t i u named there r (h.edited q (asking t 0 u) s yes) }

-- ---- in the world

-- what it comes to, by who is named
abbrev Outcome : Type 0
Outcome = Result ((ℕ × List ℕ) × World) Refusal

module _ (org user secret : List ℕ) (w : World) where
  abbrev if_secret : ℕ × List ℕ → Bool → Outcome
  if_secret ids b = if b then Ok (ids, world_with_key w ids.0 user secret) else Err SecretRefused

  verdict_by : (o : Option (ℕ × List ℕ)) → user_named w org user ≡ o → user_set_verdict org user secret w ≡ in_case o (Err NotFound) (λ ids. if_secret ids (is_secret secret))
  verdict_by o is = ap (λ x. in_case x (Err NotFound) (λ ids. if_secret ids (is_secret secret))) is

  -- nobody is named
  none_named : (after : Tables) (e : EditFail) → FindsUser (user_named w org user) (Err e) → Edits (user_set_verdict org user secret) w after (Err e)
  none_named after (Refused r) (none, why) = verdict_by None none ∙ ap Err (sym why)
  none_named after (Store Damaged) h = h
  none_named after (Store Keeper) h = tt
  none_named after (Store Memory) h = tt

  pub not_named : (after : Tables) (r : Result (ℕ × List ℕ) EditFail) (e : EditFail) (out : Result (ℕ × List ℕ) EditFail) → r ≡ Err e → IsErrAnd out (λ y. y ≡ e) → FindsUser (user_named w org user) r
      → Edits (user_set_verdict org user secret) w after out
  not_named after r e (Ok x) was passed h = absurd passed
  not_named after r e (Err y) was passed h =
      subst (λ (z : EditFail). Edits (user_set_verdict org user secret) w after (Err z)) (sym passed) (none_named after e (subst (FindsUser (user_named w org user)) was h))

-- what `store_abstraction` says of a world in which one organisation is another
abbrev pub WholeStands : Type 0
WholeStands = (p : Plan) (m after : Tables) (w : World) (n : ℕ) (t u : Tenant) (q : OrgPlan) → n < 2 ^ 32 → StandsBy p m w → tenant_at w n ≡ Some t → StandsIn n q after (Some u) → KeepsOthers n m after
    → StandsBy (with_plan n q p) after (with_tenant w n u)

module _ (each : EachStands) (whole : WholeStands) (before mid after : Tables) (w : World) (s : Stands before w) (org user secret : List ℕ) (ids : ℕ × List ℕ) (lo : ids.0 < 2 ^ 32) (same : mid ≡ before) (named : user_named w org user ≡ Some ids) where
  there : IsThere w user ids.0 ids.1
  there = there_so w org user ids named

  in_org : {X : Type 0} (r : Result X EditFail) → ChangesKey ids.0 user secret before after r → GivesKey ids.0 user secret there.tenant after r
  in_org r h = h.given (s.0.org ids.0) there.tenant ids.1 there.it (subst (StandsIn ids.0 (s.0.org ids.0) before) there.at (each s.0 before w ids.0 lo s.1)) there.id there.user

  from_mid : {X : Type 0} (r : Result X EditFail) → ChangesKey ids.0 user secret mid after r → ChangesKey ids.0 user secret before after r
  from_mid r h = subst (λ (m : Tables). ChangesKey ids.0 user secret m after r) same h

  pub key_set : {X : Type 0} (x : X) (r : Result X EditFail) → r ≡ Ok x → ChangesKey ids.0 user secret mid after r → Edits (user_set_verdict org user secret) w after (Ok ids)
  key_set {X = X} x r was changes =
      let h = from_mid (Ok x) (subst (λ (y : Result X EditFail). ChangesKey ids.0 user secret mid after y) was changes) in
      let g = in_org (Ok x) h in
      let is : world_with_key w ids.0 user secret ≡ with_tenant w ids.0 (with_key user secret there.tenant) = ap (λ o. in_case o w (λ t. with_tenant w ids.0 (with_key user secret t))) there.at in (
        world_with_key w ids.0 user secret,
        verdict_by org user secret w (Some ids) named ∙ ap (if_secret org user secret w ids) g.0,
        subst (Stands after) (sym is) (with_plan ids.0 g.1.0 s.0, whole s.0 before after w ids.0 there.tenant (with_key user secret there.tenant) g.1.0 lo s.1 there.at g.1.1 h.others),
      )

  key_refused : (X : Type 0) (e : EditFail) → GivesKey {X = X} ids.0 user secret there.tenant after (Err e) → Edits (user_set_verdict org user secret) w after (Err e)
  key_refused X (Refused r) (isnt, why) = verdict_by org user secret w (Some ids) named ∙ (ap (if_secret org user secret w ids) isnt ∙ ap Err (sym why))
  key_refused X (Store Damaged) h = absurd (h refl)
  key_refused X (Store Keeper) h = tt
  key_refused X (Store Memory) h = tt

  pub key_not_set : {X : Type 0} (r : Result X EditFail) (e : EditFail) (out : Result (ℕ × List ℕ) EditFail) → r ≡ Err e → IsErrAnd out (λ y. y ≡ e) → ChangesKey ids.0 user secret mid after r
      → Edits (user_set_verdict org user secret) w after out
  key_not_set r e (Ok x) was passed h = absurd passed
  key_not_set {X = X} r e (Err y) was passed h =
      subst (λ (z : EditFail). Edits (user_set_verdict org user secret) w after (Err z)) (sym passed)
      (key_refused X e (in_org (Err e) (from_mid (Err e) (subst (λ (y : Result X EditFail). ChangesKey ids.0 user secret mid after y) was h))))
