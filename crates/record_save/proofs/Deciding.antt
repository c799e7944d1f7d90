-- An upsert by its unique field and the value comes to an update of the record that has the value, or to a create where none has it.
use Rattle.std.proofs.Common.{◌≡◌, ◌∙◌, ℕ, suc, Bool, true, false, not, List, [], ◌∷◌, Option, Some, None, refl, sym, ap, subst, inl, inr}
use Rattle.std.specs.Prelude.{Result, Ok, Err, IsErrAnd, slice_get, ℤ}
use Rattle.std.proofs.lemmas.Option.{same_Some as some_is}
use Rattle.store_edit.specs.Edits.{ChangesIn, DecidesTo, FailsBy, Planned, Takes}
use Rattle.store_edit.specs.declared.decided.Decided.{Decided}
use Rattle.record_input.specs.Given as given_specs
use Rattle.record_input.specs.Given.{Finds}
use Rattle.record_input.specs.declared.found.Found.{Found}
use Rattle.record_input.specs.declared.key.AllGiven.{AllGiven}
use Rattle.store_kv.specs.Tables.{Tables}
use Rattle.store_rows.specs.declared.fail.StoreFail.{StoreFail}
use Rattle.store_rows.specs.declared.fail.StoreFail.TheVariants.{Damaged, Keeper, Memory}
use Rattle.model.specs.Cases.{in_case}
use Rattle.model.specs.Creates.{create_on}
use Rattle.model.specs.Given.{record_by_value}
use Rattle.model.specs.Keys.{Key, with_key}
use Rattle.model.specs.Levels.{at_least, level}
use Rattle.model.specs.Objects.{Numbered}
use Rattle.model.specs.Paths.{Asked}
use Rattle.model.specs.Rights.{denied}
use Rattle.model.specs.Rules.{Rule, refuse_if}
use Rattle.model.specs.Sound.{IsSound}
use Rattle.model.specs.Tenant.{Field, Tenant}
use Rattle.model.specs.Updates.{update_on}
use Rattle.model.specs.Upserts.{upsert_by}
use Rattle.model.specs.Verdict.{Done, Verdict, judged, upserted}
use Rattle.model.specs.declared.record.Record.{Record}
use Rattle.model.specs.declared.record_bodies.Assignment.{Assignment}
use Rattle.model.specs.declared.refusal.Refusal.TheVariants.{InsufficientAccess}
use Rattle.record_target.proofs.Spelled.{its_layout}
use Rattle.record_target.specs.Kept.{IsKept}
use Rattle.record_target.specs.declared.kept.KeptRecord.{KeptRecord}
use Rattle.record_save.specs.Creating.{IsAsker, IsObject, PlansNew, answered_new}
use Rattle.record_save.specs.Updating.{PlansSame, answered_changed}
use Rattle.access_traits.specs.Rights.{FindsFor, Whose, level_there}
use Rattle.model_invariant.specs.Fit.{ReadsWell, key_of}
use Rattle.store_abstraction.specs.Calls.{done, ended, ended_edit}
use Rattle.store_abstraction.specs.Changes.{Change}
use Rattle.store_abstraction.specs.Fails.{of_store}
use Rattle.store_abstraction.specs.Layouts.{IsLayout}
use Rattle.store_abstraction.specs.Local.{StandsIn}
use Rattle.store_abstraction.specs.Plan.{OrgPlan}
use Rattle.store_abstraction.specs.declared.fail.EditFail.{EditFail}
use Rattle.store_abstraction.specs.declared.fail.EditFail.TheVariants.{Refused}
use Rattle.store_abstraction.specs.declared.layout.FieldPlace.{FieldPlace}
use Rattle.store_abstraction.specs.declared.layout.Layout.{Layout}
use Rattle.record_save.specs.upsert.Upserting.{PlansEither}
use Rattle.record_save.specs.declared.upsert.finding.FoundKey.{FoundKey}
use Rattle.record_save.specs.declared.upsert.upsert.Upserted.{Upserted}
use Rattle.record_save.specs.upsert.inner.Deciding.{Allows, DecidesAllowed, DecidesByKey, DecidesGiven, answered_upsert, changed, made, may_edit}
use Rattle.record_save.specs.upsert.Finding.{FindsKept, numbered_field}
use Rattle.base_value.specs.declared.sharing.Level.{Level}
use Rattle.base_value.specs.declared.sharing.Level.TheVariants.{Edit, Nothing}
use Rattle.base_value.specs.declared.value.Value.{Value}

-- ---- the verdict, by the record that has the value

module _ (a : Asked) (o : Numbered) (body : List Assignment) (f : ℕ × Field) (v : Value) where
  abbrev by_record : Option Record → Verdict
  by_record x = in_case x (create_on a o (Some (key_of f v)) body) (λ r. judged a.tenant (denied a Edit r ∷ []) (update_on a o (Some (key_of f v)) body r))

  comes_to_create : record_by_value a.tenant o.number f.0 v ≡ None → upsert_by a o body f v ≡ create_on a o (Some (key_of f v)) body
  comes_to_create e = ap by_record e

  -- the user may edit it
  comes_to_update : (r : Record) → denied a Edit r ≡ None → record_by_value a.tenant o.number f.0 v ≡ Some r → upsert_by a o body f v ≡ update_on a o (Some (key_of f v)) body r
  comes_to_update r allowed e = ap by_record e ∙ ap (λ (d : Rule). judged a.tenant (d ∷ []) (update_on a o (Some (key_of f v)) body r)) allowed

-- ---- the same changes, with the answer of an upsert

module _ (org : ℕ) (q : OrgPlan) (t : Tenant) (v w : Verdict) (same : v ≡ w) where
  takes_too : (x : Done) (planned : Planned) (changes : List Change) → ((next : OrgPlan) → planned q t next → PlansEither q t next) → Takes org q t v x planned changes → Takes org q t w x PlansEither changes
  takes_too x planned changes either takes =
      subst (λ (z : Verdict). Takes org q t z x PlansEither changes) same
      (record { answer = takes.answer; sound = takes.sound; plan = takes.plan; kept = either takes.plan takes.kept; fits = takes.fits; are = takes.are; rest = takes.rest })

  fails_too : (e : EditFail) → FailsBy v e → FailsBy w e
  fails_too e h = subst (λ (z : Verdict). FailsBy z e) same h

  made_to : (key : Key) (r : Result (Decided (List ℕ)) EditFail) → DecidesTo org q t v (answered_new (Some key)) PlansNew r → DecidesTo org q t w answered_upsert PlansEither (made r)
  made_to key (Ok x) h = (h.0, h.1, takes_too (upserted x.answer true) PlansNew h.0 (λ next kept. inl kept) h.2)
  made_to key (Err e) h = fails_too e h

  changed_to : (key : Key) (id : List ℕ) (r : Result (Decided (Unit {0})) EditFail) → DecidesTo org q t v (λ (u : Unit {0}). answered_changed (Some key) id) PlansSame r → DecidesTo org q t w answered_upsert PlansEither (changed id r)
  changed_to key id (Ok x) h = (h.0, h.1, takes_too (answered_changed (Some key) id) PlansSame h.0 (λ next kept. inr kept) h.2)
  changed_to key id (Err e) h = fails_too e h

made_in : (org : ℕ) (r : Result (Decided (List ℕ)) EditFail) → ChangesIn org r → ChangesIn org (made r)
made_in org (Ok x) h = h
made_in org (Err e) h = tt

changed_in : (org : ℕ) (id : List ℕ) (r : Result (Decided (Unit {0})) EditFail) → ChangesIn org r → ChangesIn org (changed id r)
changed_in org id (Ok x) h = h
changed_in org id (Err e) h = tt

-- ---- decided

-- what `record_save` says of a create, and of an update
abbrev pub New : Layout → Whose → (user : List ℕ) → (now : ℤ) → Option Key → List Assignment → List Found → Tables → Result (Decided (List ℕ)) EditFail → Type 0
New l whose user now key body found m r = (q : OrgPlan) (a : Asked) (o : Numbered) → StandsIn l.org q m (Some a.tenant) → IsObject l.org q a.tenant o l → IsAsker whose user now a
    → ReadsWell a o.object (with_key key body) → Finds a.tenant o.object key found body → IsSound (create_on a o key body).tenant → DecidesTo l.org q a.tenant (create_on a o key body) (answered_new key) PlansNew r

abbrev pub Changed : Layout → Whose → (now : ℤ) → Option Key → List Assignment → List Found → KeptRecord → Tables → Result (Decided (Unit {0})) EditFail → Type 0
Changed l whose now key body found k m r = (q : OrgPlan) (a : Asked) (o : Numbered) (id : List ℕ) → StandsIn l.org q m (Some a.tenant) → IsObject l.org q a.tenant o l
    → IsKept q a.tenant l id k → whose a.tenant a.user → a.now ≡ now
    → ReadsWell a o.object (with_key key body) → Finds a.tenant o.object key found body → IsSound (update_on a o key body k.item).tenant
    → DecidesTo l.org q a.tenant (update_on a o key body k.item) (λ (u : Unit {0}). answered_changed key k.item.id) PlansSame r

module _ (l : Layout) (whose : Whose) (user : List ℕ) (now : ℤ) (body : List Assignment) (found : List Found) (k : FoundKey) (m after : Tables) (field : FieldPlace) (at : slice_get l.fields k.number ≡ Some field) (stays : after ≡ m) where
  abbrev its : ℕ × Field
  its = numbered_field k field

  abbrev key : Key
  key = key_of its k.value

  abbrev Decided_at : Result (Decided Upserted) EditFail → OrgPlan → Asked → Numbered → FieldPlace → Type 0
  Decided_at r q a o f = ReadsWell a o.object (with_key (Some (key_of (numbered_field k f) k.value)) body)
      → Finds a.tenant o.object (Some (key_of (numbered_field k f) k.value)) found body
      → IsSound (upsert_by a o body (numbered_field k f) k.value).tenant
      → DecidesTo l.org q a.tenant (upsert_by a o body (numbered_field k f) k.value) answered_upsert PlansEither r

  -- of the field that is there
  of_field : (r : Result (Decided Upserted) EditFail) (q : OrgPlan) (a : Asked) (o : Numbered) (f : FieldPlace) → slice_get l.fields k.number ≡ Some f → Decided_at r q a o field → Decided_at r q a o f
  of_field r q a o f there h = subst (Decided_at r q a o) (some_is field f (sym at ∙ there)) h

  layout_there : (q : OrgPlan) (a : Asked) (o : Numbered) → IsObject l.org q a.tenant o l → IsLayout q a.tenant l
  layout_there q a o object = subst (IsLayout q a.tenant) (sym object.layout) (its_layout l.org q a.tenant o object.there)

  value_there : (q : OrgPlan) (a : Asked) (o : Numbered) (x : Option Record) → IsObject l.org q a.tenant o l → record_by_value a.tenant l.object (suc k.number) k.value ≡ x → record_by_value a.tenant o.number (suc k.number) k.value ≡ x
  value_there q a o x object h = subst (λ (n : ℕ). record_by_value a.tenant n (suc k.number) k.value ≡ x) (ap (λ (y : Layout). y.object) object.layout) h

  pub made_decides : ((q : OrgPlan) (t : Tenant) → StandsIn l.org q m (Some t) → IsLayout q t l → FindsKept q t l k.number k.value (Ok None))
      → (r : Result (Decided (List ℕ)) EditFail) → ChangesIn l.org r → New l whose user now (Some key) body found after r → DecidesByKey l whose user now body found k m (made r)
  made_decides finds r own new = record {
    own = made_in l.org r own;
    decided = λ q a o f stands object asker there. of_field (made r) q a o f there (λ reads known sound.
        let is = comes_to_create a o body its k.value (value_there q a o None object (finds q a.tenant stands (layout_there q a o object))) in
        made_to l.org q a.tenant (create_on a o (Some key) body) (upsert_by a o body its k.value) (sym is) key r
        (new q a o (subst (λ (x : Tables). StandsIn l.org q x (Some a.tenant)) (sym stays) stands) object asker reads known (subst (λ (z : Verdict). IsSound z.tenant) is sound)));
  }

  pub changed_decides : (kept : KeptRecord) → Allows l whose kept m (Ok tt) → ((q : OrgPlan) (t : Tenant) → StandsIn l.org q m (Some t) → IsLayout q t l → FindsKept q t l k.number k.value (Ok (Some kept)))
      → (r : Result (Decided (Unit {0})) EditFail) → ChangesIn l.org r → Changed l whose now (Some key) body found kept after r → DecidesByKey l whose user now body found k m (changed kept.item.id r)
  changed_decides kept allows finds r own new = record {
    own = changed_in l.org kept.item.id r own;
    decided = λ q a o f stands object asker there. of_field (changed kept.item.id r) q a o f there (λ reads known sound.
        let kept_is = finds q a.tenant stands (layout_there q a o object) in
        let is = comes_to_update a o body its k.value kept.item (allows q a stands asker.rights kept_is.1) (value_there q a o (Some kept.item) object kept_is.0) in
        changed_to l.org q a.tenant (update_on a o (Some key) body kept.item) (upsert_by a o body its k.value) (sym is) key kept.item.id r
        (new q a o kept.item.id (subst (λ (x : Tables). StandsIn l.org q x (Some a.tenant)) (sym stays) stands) object kept_is.1 asker.rights asker.now reads known (subst (λ (z : Verdict). IsSound z.tenant) is sound)));
  }

  -- the user may not edit it, or the work on the tables stopped
  pub refused_decides : (kept : KeptRecord) (e : EditFail) → Allows l whose kept m (Err e) → ((q : OrgPlan) (t : Tenant) → StandsIn l.org q m (Some t) → IsLayout q t l → FindsKept q t l k.number k.value (Ok (Some kept)))
      → DecidesByKey l whose user now body found k m (Err e)
  refused_decides kept e refuses finds = record {
    own = tt;
    decided = λ q a o f stands object asker there. of_field (Err e) q a o f there (λ reads known sound.
        let kept_is = finds q a.tenant stands (layout_there q a o object) in
        subst (λ (z : Verdict). FailsBy z e) (sym (ap (by_record a o body its k.value) (value_there q a o (Some kept.item) object kept_is.0)))
        (refuses q a (update_on a o (Some key) body kept.item) stands asker.rights kept_is.1));
  }

  -- it is an update, where the user may edit it
  pub edited_decides : (given : AllGiven) → given_specs.key_of given ≡ Some key → given.body.now ≡ body → given.found.now ≡ found → (kept : KeptRecord) (allowed : Result (Unit {0}) EditFail) → Allows l whose kept m allowed
      → ((q : OrgPlan) (t : Tenant) → StandsIn l.org q m (Some t) → IsLayout q t l → FindsKept q t l k.number k.value (Ok (Some kept)))
      → (r : Result (Decided Upserted) EditFail) → DecidesAllowed l whose now given kept after allowed r → DecidesByKey l whose user now body found k m r
  edited_decides given key_is body_is found_is kept (Ok x) allows finds r h =
      subst (DecidesByKey l whose user now body found k m) (sym h.2)
      (changed_decides kept allows finds h.0 h.1.own
      (subst (λ (fs : List Found). Changed l whose now (Some key) body fs kept after h.0) found_is
      (subst (λ (b : List Assignment). Changed l whose now (Some key) b given.found.now kept after h.0) body_is
      (subst (λ (x : Option Key). Changed l whose now x given.body.now given.found.now kept after h.0) key_is h.1.decided))))
  edited_decides given key_is body_is found_is kept (Err e) allows finds r h = subst (DecidesByKey l whose user now body found k m) (sym h) (refused_decides kept e allows finds)

  -- so it is, by what is given
  pub decides : (given : AllGiven) → given_specs.key_of given ≡ Some key → given.body.now ≡ body → given.found.now ≡ found → (kept : Option KeptRecord)
      → ((q : OrgPlan) (t : Tenant) → StandsIn l.org q m (Some t) → IsLayout q t l → FindsKept q t l k.number k.value (Ok kept))
      → (r : Result (Decided Upserted) EditFail) → DecidesGiven l whose user now given kept after r → DecidesByKey l whose user now body found k m r
  decides given key_is body_is found_is None finds r h =
      subst (DecidesByKey l whose user now body found k m) (sym h.2)
      (made_decides finds h.0 h.1.own
      (subst (λ (fs : List Found). New l whose user now (Some key) body fs after h.0) found_is
      (subst (λ (b : List Assignment). New l whose user now (Some key) b given.found.now after h.0) body_is
      (subst (λ (x : Option Key). New l whose user now x given.body.now given.found.now after h.0) key_is h.1.decided))))
  decides given key_is body_is found_is (Some kept) finds r h =
      edited_decides given key_is body_is found_is kept h.0 (subst (λ (x : Tables). Allows l whose kept x h.0) stays h.1) finds r h.2

-- the work on the tables stopped
pub stopped : (l : Layout) (whose : Whose) (user : List ℕ) (now : ℤ) (body : List Assignment) (found : List Found) (k : FoundKey) (m : Tables) (e : StoreFail) (out : Result (Decided Upserted) EditFail) → IsErrAnd out (λ y. y ≡ of_store e)
    → ((q : OrgPlan) (t : Tenant) → StandsIn l.org q m (Some t) → IsLayout q t l → FindsKept q t l k.number k.value (Err e)) → DecidesByKey l whose user now body found k m out
stopped l whose user now body found k m e (Ok x) is finds = absurd is
stopped l whose user now body found k m e (Err y) is finds =
    subst (λ (z : EditFail). DecidesByKey l whose user now body found k m (Err z)) (sym is) (record {
      own = tt;
      decided = λ q a o f stands object asker there reads known sound. finds q a.tenant stands (subst (IsLayout q a.tenant) (sym object.layout) (its_layout l.org q a.tenant o object.there));
    })

-- ---- the level on the record

-- by its own id
level_kept : (q : OrgPlan) (a : Asked) (l : Layout) (k : KeptRecord) → IsKept q a.tenant l k.item.id k → level_there a.tenant a.user l.object k.item.id ≡ level a.tenant a.user k.item
level_kept q a l k is = ap (λ (r : Option Record). in_case r Nothing (level a.tenant a.user)) is.is

-- the level that was read says whether the user may edit it
pub allows : (l : Layout) (whose : Whose) (k : KeptRecord) (m : Tables) (read : Result Level StoreFail) → FindsFor l.org whose (λ t u. level_there t u l.object k.item.id) m read → Allows l whose k m (may_edit read)
allows l whose k m (Err Damaged) finds = λ q a verdict stands hers is. absurd (finds q a.tenant a.user stands hers)
allows l whose k m (Err Keeper) finds = λ q a verdict stands hers is e. absurd cc
allows l whose k m (Err Memory) finds = λ q a verdict stands hers is e. absurd cc
allows l whose k m (Ok x) finds = by (at_least Edit x) (λ q a stands hers is. ap (at_least Edit) (finds q a.tenant a.user stands hers ∙ level_kept q a l k is))
  where
    by : (b : Bool) → ((q : OrgPlan) (a : Asked) → StandsIn l.org q m (Some a.tenant) → whose a.tenant a.user → IsKept q a.tenant l k.item.id k → b ≡ at_least Edit (level a.tenant a.user k.item))
        → Allows l whose k m (in_case (refuse_if (not b) InsufficientAccess) (Ok tt) (λ r. Err (Refused r)))
    by true same = λ q a stands hers is. ap (λ (b : Bool). refuse_if (not b) InsufficientAccess) (sym (same q a stands hers is))
    by false same = λ q a verdict stands hers is. ap (λ (b : Bool). (judged a.tenant (refuse_if (not b) InsufficientAccess ∷ []) verdict).answer) (sym (same q a stands hers is))

-- how it ends is how the level's reading ended
pub edit_ends : (read : Result Level StoreFail) → ended_edit (may_edit read) ≡ ended read
edit_ends (Err e) = refl
edit_ends (Ok x) = by (at_least Edit x)
  where
    by : (b : Bool) → ended_edit {X = Unit {0}} (in_case (refuse_if (not b) InsufficientAccess) (Ok tt) (λ r. Err (Refused r))) ≡ done
    by true = refl
    by false = refl

-- ---- how it ends

-- as what is made of it
pub made_ends : (r : Result (Decided (List ℕ)) EditFail) → ended_edit (made r) ≡ ended_edit r
made_ends (Ok x) = refl
made_ends (Err e) = refl

pub changed_ends : (id : List ℕ) (r : Result (Decided (Unit {0})) EditFail) → ended_edit (changed id r) ≡ ended_edit r
changed_ends id (Ok x) = refl
changed_ends id (Err e) = refl
