-- An upsert, decided by its object, its unique field and the value.
use Rattle.std.specs.Prelude.{◌≡◌, ℕ, true, false, not, List, [], ◌∷◌, Option, None, Some, Result, Ok, Err, slice_get, ℤ}
use Rattle.store_edit.specs.Edits.{ChangesIn, DecidesTo, FailsBy}
use Rattle.store_edit.specs.declared.decided.Decided.{Decided}
use Rattle.record_input.specs.Given.{Finds}
use Rattle.record_input.specs.declared.found.Found.{Found}
use Rattle.record_input.specs.declared.key.AllGiven.{AllGiven}
use Rattle.store_kv.specs.Tables.{Tables}
use Rattle.store_rows.specs.declared.fail.StoreFail.{StoreFail}
use Rattle.model.specs.Cases.{in_case}
use Rattle.model.specs.Keys.{with_key}
use Rattle.model.specs.Levels.{at_least}
use Rattle.model.specs.Objects.{Numbered}
use Rattle.model.specs.Paths.{Asked}
use Rattle.model.specs.Rights.{denied}
use Rattle.model.specs.Rules.{refuse_if}
use Rattle.model.specs.Sound.{IsSound}
use Rattle.model.specs.Upserts.{upsert_by}
use Rattle.model.specs.Verdict.{Done, Verdict, judged, upserted}
use Rattle.model.specs.declared.record_bodies.Assignment.{Assignment}
use Rattle.model.specs.declared.refusal.Refusal.TheVariants.{InsufficientAccess}
use Rattle.record_target.specs.Kept.{IsKept}
use Rattle.record_target.specs.declared.kept.KeptRecord.{KeptRecord}
use Rattle.record_save.specs.Creating.{DecidesNew, IsAsker, IsObject}
use Rattle.record_save.specs.Updating.{DecidesChanged}
use Rattle.access_traits.specs.Rights.{Whose}
use Rattle.model_invariant.specs.Fit.{ReadsWell, key_of}
use Rattle.store_abstraction.specs.Local.{StandsIn}
use Rattle.store_abstraction.specs.Plan.{OrgPlan}
use Rattle.store_abstraction.specs.declared.fail.EditFail.{EditFail}
use Rattle.store_abstraction.specs.declared.fail.EditFail.TheVariants.{Refused, Store}
use Rattle.store_abstraction.specs.declared.layout.FieldPlace.{FieldPlace}
use Rattle.store_abstraction.specs.declared.layout.Layout.{Layout}
use Rattle.record_save.specs.upsert.Upserting.{PlansEither}
use Rattle.record_save.specs.declared.upsert.finding.FoundKey.{FoundKey}
use Rattle.record_save.specs.declared.upsert.upsert.Upserted.{Upserted}
use Rattle.record_save.specs.upsert.Finding.{numbered_field}
use Rattle.base_value.specs.declared.sharing.Level.{Level}
use Rattle.base_value.specs.declared.sharing.Level.TheVariants.{Edit}

-- ---- answers

abbrev pub answered_upsert : Upserted → Done
answered_upsert x = upserted x.id x.created

-- a create, or an update of the record with this id, with the answer of an upsert
abbrev pub made : Result (Decided (List ℕ)) EditFail → Result (Decided Upserted) EditFail
made (Ok x) = Ok (record { answer = record { id = x.answer; created = true }; changes = x.changes })
made (Err e) = Err e

abbrev pub changed : (id : List ℕ) → Result (Decided (Unit {0})) EditFail → Result (Decided Upserted) EditFail
changed id (Ok x) = Ok (record { answer = record { id = id; created = false }; changes = x.changes })
changed id (Err e) = Err e

-- ---- whether the user may edit the record

-- nothing, or why the record isn't edited, by the user's level on it
abbrev pub may_edit : Result Level StoreFail → Result (Unit {0}) EditFail
may_edit (Ok level) = in_case (refuse_if (not (at_least Edit level)) InsufficientAccess) (Ok tt) (λ r. Err (Refused r))
may_edit (Err e) = Err (Store e)

-- it isn't refused for the level on the record; or why an upsert of it fails, whatever it would come to
abbrev pub Allows : Layout → Whose → KeptRecord → Tables → Result (Unit {0}) EditFail → Type 0
Allows l whose k m (Ok x) =
    (q : OrgPlan) (a : Asked) → StandsIn l.org q m (Some a.tenant) → whose a.tenant a.user → IsKept q a.tenant l k.item.id k
    → denied a Edit k.item ≡ None
Allows l whose k m (Err e) =
    (q : OrgPlan) (a : Asked) (verdict : Verdict) → StandsIn l.org q m (Some a.tenant) → whose a.tenant a.user
    → IsKept q a.tenant l k.item.id k → FailsBy (judged a.tenant (denied a Edit k.item ∷ []) verdict) e

-- ---- decided

-- what is given to the record is judged as its update, where the user may edit it, and else that stops it
abbrev pub DecidesAllowed : Layout → Whose → (now : ℤ) → AllGiven → KeptRecord → Tables → (allowed : Result (Unit {0}) EditFail)
    → Result (Decided Upserted) EditFail → Type 0
DecidesAllowed l whose now given k m (Ok x) result =
    (r : Result (Decided (Unit {0})) EditFail) × DecidesChanged l whose now given k m r × (result ≡ changed k.item.id r)
DecidesAllowed l whose now given k m (Err e) result = result ≡ Err e

abbrev pub DecidesEdited : Layout → Whose → (now : ℤ) → AllGiven → KeptRecord → Tables → Result (Decided Upserted) EditFail → Type 0
DecidesEdited l whose now given k m result =
    (allowed : Result (Unit {0}) EditFail) × Allows l whose k m allowed × DecidesAllowed l whose now given k m allowed result

-- what is given is judged as a create where there is no such record, and else as its update
abbrev pub DecidesGiven : Layout → Whose → (user : List ℕ) → (now : ℤ) → AllGiven → Option KeptRecord → Tables
    → Result (Decided Upserted) EditFail → Type 0
DecidesGiven l whose user now given None m result =
    (r : Result (Decided (List ℕ)) EditFail) × DecidesNew l whose user now given m r × (result ≡ made r)
DecidesGiven l whose user now given (Some k) m result = DecidesEdited l whose now given k m result

-- over these tables, whatever they have, only rows of the organisation are changed; and where these stand for the tenant of who
-- asks, valid values stay valid with what is given, and what finds a record finds one that is told, it comes to the verdict
pub record DecidesByKey (l : Layout) (whose : Whose) (user : List ℕ) (now : ℤ) (body : List Assignment) (found : List Found)
    (k : FoundKey) (m : Tables) (result : Result (Decided Upserted) EditFail) : Type 0 where
  pub own : ChangesIn l.org result
  pub decided : (q : OrgPlan) (a : Asked) (o : Numbered) (f : FieldPlace) → StandsIn l.org q m (Some a.tenant)
      → IsObject l.org q a.tenant o l → IsAsker whose user now a → slice_get l.fields k.number ≡ Some f
      → ReadsWell a o.object (with_key (Some (key_of (numbered_field k f) k.value)) body)
      → Finds a.tenant o.object (Some (key_of (numbered_field k f) k.value)) found body
      → IsSound (upsert_by a o body (numbered_field k f) k.value).tenant
      → DecidesTo l.org q a.tenant (upsert_by a o body (numbered_field k f) k.value) answered_upsert PlansEither result
