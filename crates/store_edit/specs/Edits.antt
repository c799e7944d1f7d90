-- An edit as data: judged, it is refused, or it is an answer and changes of rows.
use Rattle.std.specs.Prelude.{◌≡◌, ◌≢◌, ◌<◌, ℕ, false, IfErr, List, OnOk, Some, Result, Ok, Err}
use Rattle.std.specs.List.{AllByRecursion}
use Rattle.store_edit.specs.declared.decided.Decided.{Decided}
use Rattle.store_edit.specs.Rows.{AreOf, AreSpelled}
use Rattle.store_kv.specs.Draft.{DraftReads, Held, count_of}
use Rattle.store_kv.specs.State.{KeeperState}
use Rattle.store_kv.specs.Tables.{Tables}
use Rattle.store_rows.specs.declared.fail.StoreFail.TheVariants.{Damaged}
use Rattle.store_rows.specs.Keys.{Key}
use Rattle.model.specs.Paths.{Asked}
use Rattle.model.specs.Sound.{IsSound}
use Rattle.model.specs.Tenant.{Tenant}
use Rattle.model.specs.Verdict.{Done, Verdict}
use Rattle.store_abstraction.specs.Calls.{Makes, ended_edit}
use Rattle.store_abstraction.specs.Changes.{Change, IsOf, is_changed}
use Rattle.store_abstraction.specs.declared.fail.EditFail.{EditFail}
use Rattle.store_abstraction.specs.declared.fail.EditFail.TheVariants.{Refused, Store}
use Rattle.store_abstraction.specs.Fails.{IsRefusal}
use Rattle.store_abstraction.specs.Local.{KeepsOthers, StandsIn}
use Rattle.store_abstraction.specs.Plan.{FitsPlan, OrgPlan}
use Rattle.store_abstraction.specs.Stands.{org_of_key, row_in}

-- ---- judging

-- how the rows are kept after an edit: the plan before it, the tenant, and the plan after it
abbrev pub Planned : Type 1
Planned = OrgPlan → Tenant → OrgPlan → Type 0

-- the verdict answers this; and by these changes the rows of the tenant t, kept by the plan q, become those of the tenant that
-- the verdict leaves
pub record Takes (org : ℕ) (q : OrgPlan) (t : Tenant) (v : Verdict) (answered : Done) (planned : Planned) (changes : List Change) : Type 0 where
  pub answer : v.answer ≡ Ok answered
  pub sound : IsSound v.tenant
  pub plan : OrgPlan
  pub kept : planned q t plan
  pub fits : FitsPlan plan v.tenant
  pub are : AllByRecursion (IsOf org plan v.tenant) changes
  pub rest : (k : Key) → org_of_key k ≡ Some org → is_changed changes k ≡ false → row_in plan v.tenant k ≡ row_in q t k

-- why an edit isn't made, by its verdict: as that refuses it, or since the work on the tables stopped, though they aren't damaged
abbrev pub FailsBy : Verdict → EditFail → Type 0
FailsBy v (Refused r) = v.answer ≡ Err r
FailsBy v (Store e) = e ≢ Damaged

-- what judging comes to in the organisation with this number: what is answered and the changes, or why there are none.
-- `answered` is what the verdict calls an answer
abbrev pub DecidesTo : {X : Type 0} → (org : ℕ) → OrgPlan → Tenant → Verdict → (answered : X → Done) → Planned → Result (Decided X) EditFail → Type 0
DecidesTo org q t v answered planned (Ok x) = (changes : List Change) × AreSpelled changes x.changes.items × Takes org q t v (answered x.answer) planned changes
DecidesTo org q t v answered planned (Err e) = FailsBy v e

-- the changes, if there are any, are at keys of the organisation
abbrev pub ChangesIn : {X : Type 0} → (org : ℕ) → Result (Decided X) EditFail → Type 0
ChangesIn org (Ok x) = AreOf org x.changes.items
ChangesIn org (Err e) = Unit {0}

-- judged over these tables: whatever they have, only the organisation's rows are changed; and where these stand for the
-- tenant of who asks, and what is asked fits who asks, it comes to the verdict
pub record Decides {X : Type 0} (org : ℕ) (verdict : Asked → Verdict) (answered : X → Done) (planned : Planned) (fits : Asked → Type 0) (m : Tables) (result : Result (Decided X) EditFail) : Type 0 where
  pub own : ChangesIn org result
  pub decided : (q : OrgPlan) (a : Asked) → StandsIn org q m (Some a.tenant) → fits a → DecidesTo org q a.tenant (verdict a) answered planned result

-- ---- making

-- an edit in the organisation with this number: it answers what the verdict answers, and the rows then stand for what the
-- verdict leaves, by such a plan; or it is refused as the verdict says
abbrev pub EditsAt : {X : Type 0} → (org : ℕ) → Verdict → (answered : X → Done) → (OrgPlan → Type 0) → Tables → Result X EditFail → Type 0
EditsAt org v answered planned after (Ok x) = (v.answer ≡ Ok (answered x)) × ((q : OrgPlan) × planned q × StandsIn org q after (Some v.tenant))
EditsAt org v answered planned after (Err e) = FailsBy v e

-- no row of others changes where it is done
abbrev pub OthersStay : {X : Type 0} → (org : ℕ) → Tables → Tables → Result X EditFail → Type 0
OthersStay org m after (Ok x) = KeepsOthers org m after
OthersStay org m after (Err e) = Unit {0}

-- made over these tables, of which those came: whatever they have, no row of others changes; and where the organisation's
-- rows stand for the tenant of who asks, and what is asked fits who asks, it comes to the verdict
pub record MakesEdit {X : Type 0} (org : ℕ) (verdict : Asked → Verdict) (answered : X → Done) (planned : Planned) (fits : Asked → Type 0) (m after : Tables) (result : Result X EditFail) : Type 0 where
  pub others : OthersStay org m after result
  pub edited : (q : OrgPlan) (a : Asked) → StandsIn org q m (Some a.tenant) → fits a → EditsAt org (verdict a) answered (planned q a.tenant) after result

module _ {K X : Type 0} (state : K → KeeperState) where
  -- what it leaves of a draft: its changes and what it is shown are at most so many; there are some if it is done, and none if it
  -- is refused
  pub record DraftsEdit (most gone shown : ℕ) (result : Result X EditFail) (old new : Held K) : Type 0 where
    pub makes : Makes state most gone shown (ended_edit result) old new
    pub some : OnOk result (0 < count_of new)
    pub refused : IfErr result (λ e. IsRefusal e → DraftReads state shown old new)
