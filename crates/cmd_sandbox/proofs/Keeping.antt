-- Requests leave the users, and the administrator may make a record.
use Rattle.std.proofs.Common.{◌≡◌, ◌∙◌, ℕ, Bool, true, false, cond, List, [], ◌∷◌, Ok, Option, Some, None, IsTrue, refl, sym, ap, subst, pos, ℤ}
use Rattle.std.specs.Prelude.{is_some}
use Rattle.base_lemmas.proofs.Texts.{bytes_eq-self as same_id}
use Rattle.retype_step.specs.Background.{StepsTo}
use Rattle.store_kv.specs.Draft.{Held, tables_of}
use Rattle.store_kv.specs.Memory.{InMemory, memory_state}
use Rattle.store_kv.specs.Tables.{Tables}
use Rattle.record_input.specs.Given.{FindNone, Finds}
use Rattle.record_input.specs.declared.found.Found.{Found}
use Rattle.record_save.specs.Creating.{IsGiving, ReadsFound}
use Rattle.base_value.specs.Dates.{is_moment}
use Rattle.model.specs.Cases.{in_case}
use Rattle.model.specs.Creates.{create, create_on, create_rules, empty_record, with_record}
use Rattle.model.specs.Edits.{with_given}
use Rattle.model.specs.Fields.{column_named}
use Rattle.model.specs.Jobs.{job_step}
use Rattle.model.specs.Keys.{Key, with_key}
use Rattle.model.specs.Metadata.{add_object, object_rules}
use Rattle.model.specs.NewFields.{add_field, field_rules, new_field, on_target, with_field}
use Rattle.model.specs.Objects.{Numbered, object_named}
use Rattle.model.specs.Paths.{Asked}
use Rattle.model.specs.Retyping.{begin_on, begin_retype, in_use, new_type, place_to_change, under_way}
use Rattle.model.specs.Rules.{Rule, first_refusal}
use Rattle.model.specs.Organisations.{first_user}
use Rattle.model.specs.Tenant.{Object, Tenant, User}
use Rattle.model.specs.Verdict.{Verdict, accept, done, judged, made_new, on_object, refuse, unless}
use Rattle.model.specs.World.{user_at}
use Rattle.model.specs.declared.metadata_bodies.NewField.{NewField}
use Rattle.model.specs.declared.metadata_bodies.NewObject.{NewObject}
use Rattle.model.specs.declared.metadata_bodies.SpelledType.{SpelledType}
use Rattle.model.specs.declared.metadata_bodies.SpelledType.TheVariants.{LookupTo, Plain}
use Rattle.model.specs.declared.record_bodies.Assignment.{Assignment}
use Rattle.model.specs.declared.refusal.Refusal.{Refusal}
use Rattle.model.specs.declared.refusal.Refusal.TheVariants.{InvalidField, InvalidType, RetypeUnsupported}
use Rattle.model_invariant.specs.Fit.{ReadsWell}
use Rattle.store_abstraction.specs.Local.{StandsIn}
use Rattle.model.specs.Asker.{stepped}
use Rattle.cmd_sandbox.specs.Making.{IsOwned, KeepsUsers, NeverFails}
use Rattle.cmd_sandbox.specs.Own.{its_administrator}

-- ---- what a verdict leaves has what was so before it, and of what it accepts

module _ (P : Tenant → Type 0) (t : Tenant) (before : P t) where
  pub judged_is : (rules : List Rule) (v : Verdict) → P v.tenant → P (judged t rules v).tenant
  judged_is rules v after = by (first_refusal rules)
    where
      by : (x : Rule) → P (unless x t v).tenant
      by None = after
      by (Some why) = before

  found_is : {X : Type 0} (x : Option X) (why : Refusal) (f : X → Verdict) → ((y : X) → P (f y).tenant) → P (in_case x (refuse t why) f).tenant
  found_is None why f there = before
  found_is (Some y) why f there = there y

  pub named_is : (name : List ℕ) (f : Numbered → Verdict) → ((o : Numbered) → P (f o).tenant) → P (on_object t name f).tenant
  named_is name f there = found_is (object_named t name) (InvalidType name) f there

-- ---- the users

module _ (a : Asked) where
  abbrev AreKept : Tenant → Type 0
  AreKept u = u.users ≡ a.tenant.users

  pub object_keeps : (new : NewObject) → KeepsUsers a (add_object a.tenant new)
  object_keeps new = judged_is AreKept a.tenant refl (object_rules a.tenant new) _ refl

  -- a field of an object, by the object of its lookup
  abbrev field_on : NewField → Numbered → Option ℕ → Verdict
  field_on new o target = judged a.tenant (field_rules a.tenant o target new) (accept done (with_field o.number (new_field target new) a.tenant))

  field_on_keeps : (new : NewField) (o : Numbered) (target : Option ℕ) → AreKept (field_on new o target).tenant
  field_on_keeps new o target = judged_is AreKept a.tenant refl (field_rules a.tenant o target new) _ refl

  target_keeps : (kind : SpelledType) (f : Option ℕ → Verdict) → ((target : Option ℕ) → AreKept (f target).tenant) → AreKept (on_target a.tenant kind f).tenant
  target_keeps (Plain kind) f there = there None
  target_keeps (LookupTo object on_delete child) f there = named_is AreKept a.tenant refl object (λ o. f (Some o.number)) (λ o. there (Some o.number))

  pub field_keeps : (new : NewField) → KeepsUsers a (add_field a.tenant new)
  field_keeps new =
      named_is AreKept a.tenant refl new.object (λ o. on_target a.tenant new.kind (field_on new o))
      (λ o. target_keeps new.kind (field_on new o) (field_on_keeps new o))

  pub record_keeps : (object : List ℕ) (given : List Assignment) → KeepsUsers a (create a object given)
  record_keeps object given =
      named_is AreKept a.tenant refl object (λ o. create_on a o None given)
      (λ o. judged_is AreKept a.tenant refl
      (create_rules a o None given (with_given a o.object (with_key None given) (empty_record a o)))
      (accept (made_new (with_given a o.object (with_key None given) (empty_record a o)).id) (with_record (with_given a o.object (with_key None given) (empty_record a o)) a.tenant))
      refl)

  abbrev change_on : (o : Numbered) (field : List ℕ) (kind : SpelledType) → Verdict
  change_on o field kind = in_case (column_named o.object field) (refuse a.tenant (InvalidField field)) (λ c. begin_on a.tenant o (new_type kind) c.name c.at)

  change_on_keeps : (o : Numbered) (field : List ℕ) (kind : SpelledType) → AreKept (change_on o field kind).tenant
  change_on_keeps o field kind =
      found_is AreKept a.tenant refl (column_named o.object field) (InvalidField field) (λ c. begin_on a.tenant o (new_type kind) c.name c.at)
      (λ c. judged_is AreKept a.tenant refl (under_way a.tenant ∷ []) _
      (found_is AreKept a.tenant refl (place_to_change o.object (new_type kind) c.at) (RetypeUnsupported c.name) _
      (λ place. judged_is AreKept a.tenant refl (in_use a.tenant o place c.name ∷ []) _ refl)))

  pub change_keeps : (object field : List ℕ) (kind : SpelledType) → KeepsUsers a (begin_retype a.tenant object field kind)
  change_keeps object field kind =
      named_is AreKept a.tenant refl object (λ o. change_on o field kind) (λ o. change_on_keeps o field kind)

-- ---- who makes a record

alone : (u : User) → is_some (user_at (u ∷ []) u.id) ≡ true
alone u = ap (λ (b : Bool). is_some (cond b (Some u) None)) (same_id u.id)

abbrev FindsNone : Type 0
FindsNone = (t : Tenant) (o : Object) (key : Option Key) (found : List Found) (body : List Assignment) → FindNone body → Finds t o key found body

-- nothing finds a record in what is given
pub record_reads : {name : List ℕ} {found : List Found} (law : FindsNone) (given : List Assignment) → FindNone given → ((b : Asked) (o : Object) → ReadsWell b o given)
    → (b : Asked) (o : Object) → ReadsFound name found given b o
record_reads {found = found} law given none reads b o = record { reads = reads b o; finds = λ x named is. law b.tenant o None found given none }

pub record_fits : {name : List ℕ} {found : List Found} (now : ℕ) (d : Held InMemory) (a : Asked) (user : List ℕ) (moment : ℤ) (given : List Assignment) → IsOwned now d a → user ≡ first_user → moment ≡ pos now
    → IsTrue (is_moment (pos now)) → ((b : Asked) (o : Object) → ReadsFound name found given b o) → IsGiving (λ t u. u.admin ≡ true) user moment (ReadsFound name found given) a
record_fits now d a user moment given made is at calendar reads = record {
  asker = record { rights = ap (λ (u : User). u.admin) made.user; user = ap (λ (u : User). u.id) made.user ∙ sym is; now = made.moment ∙ sym at };
  caller = (
    ap (λ (us : List User). is_some (user_at us a.user.id)) made.users ∙ ap (λ (u : User). is_some (user_at (its_administrator ∷ []) u.id)) made.user ∙ alone its_administrator,
    subst (λ (z : ℤ). IsTrue (is_moment z)) (sym made.moment) calendar,
  );
  reads = λ n o there. reads a o;
}

-- ---- a step

module _ (now : ℕ) (before after : Held InMemory) (a : Asked) (users : (job_step a.tenant).users ≡ a.tenant.users) (owned : IsOwned now before a) (sure : NeverFails after) where
  pub step_owned : (made : Bool) → StepsTo 1 a.tenant (tables_of memory_state after) (Ok made) → (made ≡ false → tables_of memory_state after ≡ tables_of memory_state before)
      → IsOwned now after (stepped a)
  step_owned true h same = record { plan = h.1.0; stands = h.1.1; sure = sure; users = users ∙ owned.users; user = owned.user; moment = owned.moment }
  step_owned false h same =
      let stands = subst (λ (x : Tables). StandsIn 1 owned.plan x (Some a.tenant)) (sym (same refl)) owned.stands in
      record {
        plan = owned.plan;
        stands = subst (λ (t : Tenant). StandsIn 1 owned.plan (tables_of memory_state after) (Some t)) (sym h) stands;
        sure = sure;
        users = users ∙ owned.users;
        user = owned.user;
        moment = owned.moment;
      }
