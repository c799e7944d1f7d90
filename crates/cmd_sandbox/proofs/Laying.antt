-- A record that is made leaves its object, and how its fields are kept.
use Rattle.std.proofs.Common.{◌≡◌, ◌∙◌, ℕ, true, IsTrue, List, [], Option, Some, None, Result, Ok, Err, pos, refl, sym, ap, subst, ℤ}
use Rattle.store_edit.specs.declared.decided.Decided.{Decided}
use Rattle.store_edit.specs.Edits.{DecidesTo, EditsAt}
use Rattle.record_input.specs.Given.{Finds}
use Rattle.record_input.specs.declared.found.Found.{Found}
use Rattle.store_kv.specs.Draft.{Held, tables_of}
use Rattle.store_kv.specs.Memory.{InMemory, memory_state}
use Rattle.store_rows.specs.declared.fail.StoreFail.{StoreFail}
use Rattle.model.specs.Creates.{create, create_on, create_rules, empty_record, with_record}
use Rattle.model.specs.Edits.{with_given}
use Rattle.model.specs.Keys.{with_key}
use Rattle.model.specs.Organisations.{first_user}
use Rattle.model.specs.Objects.{Numbered, object_named, object_numbered}
use Rattle.model.specs.Paths.{Asked}
use Rattle.model.specs.Sound.{IsSound}
use Rattle.model.specs.Tenant.{Object, Tenant}
use Rattle.model.specs.Verdict.{Verdict, accept, made_new}
use Rattle.model.specs.declared.record_bodies.Assignment.{Assignment}
use Rattle.model.specs.declared.refusal.Refusal.{Refusal}
use Rattle.record_target.specs.Usable.{IsReady}
use Rattle.record_save.specs.Creating.{IsAsker, IsGiving, IsObject, PlansNew, ReadsFound}
use Rattle.record_save.proofs.Accepting.{object_at}
use Rattle.record_save.proofs.Creates.{create_named, decides_same}
use Rattle.access_traits.specs.Rights.{Whose}
use Rattle.model_invariant.specs.Fit.{IsCaller, OfObjects, ReadsWell}
use Rattle.store_abstraction.specs.Layouts.{layout_of}
use Rattle.store_abstraction.specs.Local.{StandsIn}
use Rattle.store_abstraction.specs.Plan.{OrgPlan}
use Rattle.store_abstraction.specs.declared.fail.EditFail.{EditFail}
use Rattle.store_abstraction.specs.declared.layout.Layout.{Layout}
use Rattle.cmd_sandbox.specs.Making.{IsLaidOut, NeverFails, StepsLaidOut, StepsOwn}
use Rattle.cmd_sandbox.specs.Own.{refusal_of}
use Rattle.base_value.specs.Dates.{is_moment}
use Rattle.cmd_sandbox.proofs.Keeping.{judged_is, named_is, record_fits, record_keeps}

-- it is in the organisation with this number by its own
pub ready_own : (l : Layout) → IsReady 1 l → IsReady l.org l
ready_own l ready = record { own = refl; usable = ready.usable; converting = ready.converting }

module _ (a : Asked) (name : List ℕ) (given : List Assignment) where
  -- the object and its layout are there in a tenant
  abbrev Stays : OrgPlan → Numbered → Layout → Tenant → Type 0
  Stays q o l t = (object_named t name ≡ Some o) × (l ≡ layout_of 1 q t o)

  pub object_stays : (q : OrgPlan) (o : Numbered) (l : Layout) → Stays q o l a.tenant → Stays q o l (create a name given).tenant
  unfolding object_named
  object_stays q o l there =
      named_is (Stays q o l) a.tenant there name (λ x. create_on a x None given)
      (λ x. judged_is (Stays q o l) a.tenant there
      (create_rules a x None given (with_given a x.object (with_key None given) (empty_record a x)))
      (accept (made_new (with_given a x.object (with_key None given) (empty_record a x)).id) (with_record (with_given a x.object (with_key None given) (empty_record a x)) a.tenant))
      there)

  -- nothing but what was left of a record differs in how it is kept
  layout_fresh : (q next : OrgPlan) (t : Tenant) (o : Numbered) → PlansNew q a.tenant next → layout_of 1 q t o ≡ layout_of 1 next t o
  layout_fresh q next t o (id, is) = ap (λ (p : OrgPlan). layout_of 1 p t o) (sym is)

  -- a record was made
  pub laid_out : (now : ℕ) (before after : Held InMemory) (l : Layout) (id : List ℕ) (laid : IsLaidOut now before name l a)
      → EditsAt 1 (create a name given) (λ (id : List ℕ). made_new id) (PlansNew laid.owned.plan a.tenant) (tables_of memory_state after) (Ok id)
      → NeverFails after
      → StepsLaidOut now after name l a (create a name given) (Ok None)
  laid_out now before after l id laid (answer, (next, plans, stands)) sure =
      let v = create a name given in
      let stays = object_stays laid.owned.plan laid.object l (laid.named, laid.layout) in (
        ap refusal_of answer,
        record {
          owned = record { plan = next; stands = stands; sure = sure; users = record_keeps a name given ∙ laid.owned.users; user = laid.owned.user; moment = laid.owned.moment };
          object = laid.object;
          named = stays.0;
          layout = stays.1 ∙ layout_fresh laid.owned.plan next v.tenant laid.object plans;
        },
      )

-- ---- a record is decided

abbrev Named : Type 0
Named = (t : Tenant) (name : List ℕ) (o : Numbered) → object_named t name ≡ Some o → object_numbered t o.number ≡ Some o.object

-- by the object's layout, and by its name
module _ (now : ℕ) (d : Held InMemory) (name : List ℕ) (l : Layout) (a : Asked) (given : List Assignment) (laid : IsLaidOut now d name l a) (own : l.org ≡ 1) where
  pub decided_so : {whose : Whose} {user : List ℕ} {moment : ℤ} {found : List Found} (r : Result (Decided (List ℕ)) EditFail) → Named
      → IsGiving whose user moment (ReadsFound name found given) a → IsSound (create a name given).tenant
      → ((o : Numbered) → StandsIn l.org laid.owned.plan (tables_of memory_state d) (Some a.tenant) → IsObject l.org laid.owned.plan a.tenant o l → IsAsker whose user moment a → ReadsWell a o.object given
      → Finds a.tenant o.object None found given → IsSound (create_on a o None given).tenant
      → DecidesTo l.org laid.owned.plan a.tenant (create_on a o None given) (λ (id : List ℕ). made_new id) PlansNew r)
      → DecidesTo 1 laid.owned.plan a.tenant (create a name given) (λ (id : List ℕ). made_new id) PlansNew r
  decided_so r law its sound decides =
      let q = laid.owned.plan in
      let o = laid.object in
      let at = object_at law 1 q a.tenant name l own (o, laid.named, laid.layout) in
      let read = its.reads o.number o.object at.there in
      let same = create_named a name o given laid.named in
      decides_same (λ (id : List ℕ). made_new id) 1 l.org q a.tenant (create_on a o None given) (create a name given) PlansNew r own same
      (decides o (subst (λ (n : ℕ). StandsIn n q (tables_of memory_state d) (Some a.tenant)) (sym own) laid.owned.stands) at its.asker read.reads (read.finds o laid.named refl)
      (subst (λ (v : Verdict). IsSound v.tenant) same sound))

  -- the same of what a body in JSON gives
  pub record_decided : {user : List ℕ} {moment : ℤ} (r : Result (Decided (List ℕ)) EditFail) → Named → user ≡ first_user → moment ≡ pos now → IsTrue (is_moment (pos now))
      → ((b : Asked) (o : Object) → ReadsFound name [] given b o)
      → (IsCaller a → OfObjects a (λ o. ReadsWell a o given) → IsSound a.tenant → IsSound (create a name given).tenant)
      → ((o : Numbered) → StandsIn l.org laid.owned.plan (tables_of memory_state d) (Some a.tenant) → IsObject l.org laid.owned.plan a.tenant o l
      → IsAsker (λ t u. u.admin ≡ true) user moment a → ReadsWell a o.object given
      → Finds a.tenant o.object None [] given → IsSound (create_on a o None given).tenant
      → DecidesTo l.org laid.owned.plan a.tenant (create_on a o None given) (λ (id : List ℕ). made_new id) PlansNew r)
      → DecidesTo 1 laid.owned.plan a.tenant (create a name given) (λ (id : List ℕ). made_new id) PlansNew r
  record_decided {user = user} {moment = moment} r law is at calendar reads sound decides =
      let its = record_fits now d a user moment given laid.owned is at calendar reads in
      decided_so r law its (sound its.caller (λ n o there. (its.reads n o there).reads) laid.owned.stands.sound) decides

-- ---- the layout is read anew for each record

pub step_owned_by : (now : ℕ) (after : Held InMemory) (name : List ℕ) (l : Layout) (a : Asked) (v : Verdict) (r : Result (Option Refusal) StoreFail) → StepsLaidOut now after name l a v r → StepsOwn now after a v r
step_owned_by now after name l a v (Ok None) h = (h.0, h.1.owned)
step_owned_by now after name l a v (Ok (Some why)) h = h
step_owned_by now after name l a v (Err e) h = h
