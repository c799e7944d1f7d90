-- Operations by their definitions, over a draft and over a keeper: on the world for which tables stand, or on one organisation.
use Rattle.std.specs.Prelude.{◌≡◌, ◌≢◌, ◌⊎◌, ◌<◌, ◌≤◌, ℕ, ◌+◌, IfErr, IfOk, IsErrOf, IsTrue, OnErr, Option, Result, Ok, Err, Some, is_ok}
use Rattle.store_kv.specs.Draft.{DraftReads, Held, count_of}
use Rattle.store_kv.specs.State.{KeeperCause, KeeperState, Quiet, Shows, StaysAfter, Steps, Tells}
use Rattle.store_kv.specs.Tables.{Tables}
use Rattle.store_rows.specs.declared.fail.StoreFail.{StoreFail}
use Rattle.store_rows.specs.declared.fail.StoreFail.TheVariants.{Damaged, Keeper, Memory}
use Rattle.model.specs.declared.refusal.Refusal.{Refusal}
use Rattle.model.specs.declared.reply.Reply.{Reply}
use Rattle.model.specs.Paths.{Asked}
use Rattle.model.specs.Replies.{reply_of}
use Rattle.model.specs.Tenant.{Tenant}
use Rattle.model.specs.Verdict.{Verdict}
use Rattle.model.specs.World.{World}
use Rattle.store_abstraction.specs.Calls.{Makes, ended}
use Rattle.store_abstraction.specs.Local.{KeepsOthers, StandsFor, StandsIn}
use Rattle.store_abstraction.specs.Plan.{OrgPlan}
use Rattle.store_abstraction.specs.Stands.{Stands}
use Rattle.store_abstraction.specs.declared.fail.EditFail.{EditFail}
use Rattle.store_abstraction.specs.declared.fail.EditFail.TheVariants.{Refused, Store}
use Rattle.store_abstraction.specs.declared.judged.Judged.{Judged}
use Rattle.store_abstraction.specs.declared.judged.Judged.TheVariants.{Changed, Same}

-- an edit of the world by its verdict: what it returns and the world for which the draft's tables then stand, or why it is refused
abbrev pub Edits : {X : Type 0} → (World → Result (X × World) Refusal) → World → Tables → Result X EditFail → Type 0
Edits verdict w after (Ok x) = (next : World) × (verdict w ≡ Ok (x, next)) × Stands after next
Edits verdict w after (Err (Refused r)) = verdict w ≡ Err r
Edits verdict w after (Err (Store Damaged)) = ⊥
Edits verdict w after (Err (Store Keeper)) = Unit {0}
Edits verdict w after (Err (Store Memory)) = Unit {0}

-- ---- over a draft

-- the draft holds changes that are to be made
abbrev pub IsChange : {X : Type 0} → Result (Judged X) StoreFail → Type 0
IsChange (Ok (Same x)) = ⊥
IsChange (Ok (Changed x)) = Unit {0}
IsChange (Err e) = ⊥

-- judging found that nothing is to be changed
abbrev pub IsSame : {X : Type 0} → Result (Judged X) StoreFail → Type 0
IsSame (Ok (Same x)) = Unit {0}
IsSame (Ok (Changed x)) = ⊥
IsSame (Err e) = ⊥

-- what judging returned, changes or none
abbrev pub Returns : {X : Type 0} → Result (Judged X) StoreFail → X → Type 0
Returns (Ok (Same x)) y = y ≡ x
Returns (Ok (Changed x)) y = y ≡ x
Returns (Err e) y = ⊥

-- an operation on s, for which tables stand in this sense: what it returns, and for what the draft's tables then stand
abbrev pub Judges : {S X : Type 0} → (Tables → S → Type 0) → (S → X × S) → S → Tables → Result (Judged X) StoreFail → Type 0
Judges stands does s after (Ok (Same x)) = (x ≡ (does s).0) × ((does s).1 ≡ s)
Judges stands does s after (Ok (Changed x)) = (x ≡ (does s).0) × stands after (does s).1
Judges stands does s after (Err e) = e ≢ Damaged

-- the reply to a request by its verdict, to who asks in the organisation with this number: the verdict leaves the organisation
-- as it was, or its rows then stand for what it leaves
abbrev pub RepliesAt : (org : ℕ) → Asked → Verdict → Tables → Result (Judged Reply) StoreFail → Type 0
RepliesAt org a v after (Ok (Same r)) = (r ≡ reply_of a v.answer) × (v.tenant ≡ a.tenant)
RepliesAt org a v after (Ok (Changed r)) = (r ≡ reply_of a v.answer) × StandsFor org after (Some v.tenant)
RepliesAt org a v after (Err e) = e ≢ Damaged

-- a request in the organisation with this number, judged over these tables, of which those came: whatever they have, no row of
-- others changes; and where the organisation's rows stand for the tenant of such a one as asks, the reply is by the verdict
pub record Responds (org : ℕ) (IsAsking : Asked → Type 0) (verdict : Asked → Verdict) (m after : Tables) (result : Result (Judged Reply) StoreFail) : Type 0 where
  pub others : IsChange result → KeepsOthers org m after
  pub replied : (q : OrgPlan) (a : Asked) → StandsIn org q m (Some a.tenant) → IsAsking a → RepliesAt org a (verdict a) after result

module _ {K X : Type 0} (state : K → KeeperState) where
  -- what judging leaves of a draft: its changes are at most so many, and there are some exactly if there are to be
  pub record Drafts (most gone shown : ℕ) (result : Result (Judged X) StoreFail) (old new : Held K) : Type 0 where
    pub makes : Makes state most gone shown (ended result) old new
    pub changing : IsChange result → 0 < count_of new
    pub same : IsSame result → DraftReads state shown old new

-- ---- over a keeper that tells its tables

-- an operation on s: done whole, or nothing is changed
abbrev pub Does : {S X : Type 0} → (Tables → S → Type 0) → (S → X × S) → S → KeeperState → Result X StoreFail → Type 0
Does stands does s new (Ok x) = (x ≡ (does s).0) × (new.tells × stands new.tables (does s).1)
Does stands does s new (Err e) = (e ≢ Damaged) × (new.tells × stands new.tables s)

-- how it ends when it was judged over these tables, of which the draft made those
abbrev pub Ends : {X : Type 0} → Result (Judged X) StoreFail → (before drafted : Tables) → KeeperState → Result X StoreFail → Type 0
Ends (Ok (Same x)) before drafted new (Ok y) = (y ≡ x) × Shows new before
Ends (Ok (Same x)) before drafted new (Err e) = ⊥
Ends (Ok (Changed x)) before drafted new (Ok y) = (y ≡ x) × Shows new drafted
Ends (Ok (Changed x)) before drafted new (Err e) = (e ≢ Damaged) × Shows new before
Ends (Err e) before drafted new (Ok y) = ⊥
Ends (Err e) before drafted new (Err f) = (f ≡ e) × Shows new before

-- the keeper failed at the commit
abbrev pub FailsAtCommit : {X : Type 0} → Result (Judged X) StoreFail → Result X StoreFail → Type 0
FailsAtCommit (Ok j) result = IsErrOf result Keeper
FailsAtCommit (Err e) result = ⊥

-- what the end keeps, whatever is told: at most so many rows are written, and none without a change
pub record Finishes {X : Type 0} (judged : Result (Judged X) StoreFail) (count : ℕ) (old new : KeeperState) (result : Result X StoreFail) : Type 0 where
  pub returned : IfOk result (Returns judged)
  pub stopped : IfErr judged (λ e. result ≡ Err e)
  pub steps : Steps old new
  pub stays : IsTrue (is_ok judged) → StaysAfter (is_ok result) old new
  pub cause : KeeperCause old new (FailsAtCommit judged result)
  pub quiet : Quiet old new (FailsAtCommit judged result)
  pub written : new.written ≤ old.written + count
  pub unwritten : (IsChange judged → ⊥) → new.written ≡ old.written
  pub shown : new.shown ≡ old.shown

-- ---- in one organisation, over a keeper

-- an operation in the organisation with this number
pub record DoesIn {X : Type 0} (org : ℕ) (does : Option Tenant → X × Option Tenant) (old new : KeeperState) (result : Result X StoreFail) : Type 0 where
  -- whatever the tables have, no row of others changes, and no row at all if it failed
  pub others : Tells old new → KeepsOthers org old.tables new.tables
  pub kept : Tells old new → OnErr result (Shows new old.tables)
  -- where the organisation's rows stand for a tenant, or for none, it is done
  pub done : Tells old new → (q : OrgPlan) (t : Option Tenant) → StandsIn org q old.tables t → Does (StandsFor org) does t new result
  -- a crash leaves what it might have left before, or the operation done whole
  pub crash : old.tells → IsTrue old.trusted → IsTrue new.is_clean → (m : Tables) → new.may_leave m
      → old.may_leave m ⊎ (KeepsOthers org old.tables m × ((q : OrgPlan) (t : Option Tenant) → StandsIn org q old.tables t → StandsFor org m (does t).1))
