-- How far the organisation is made.
use Rattle.std.specs.Prelude.{◌≡◌, ℕ, List, [], ◌∷◌, IsTrue, Option, Some, None, Result, Ok, Err, pos}
use Rattle.store_kv.specs.Draft.{Held, state_of, tables_of}
use Rattle.store_kv.specs.Memory.{InMemory, memory_state}
use Rattle.store_rows.specs.declared.fail.StoreFail.{StoreFail}
use Rattle.store_rows.specs.declared.fail.StoreFail.TheVariants.{Memory}
use Rattle.model.specs.Creates.{create}
use Rattle.model.specs.Objects.{Numbered, object_named}
use Rattle.model.specs.Paths.{Asked}
use Rattle.model.specs.Verdict.{Verdict}
use Rattle.model.specs.declared.record_bodies.Assignment.{Assignment}
use Rattle.model.specs.declared.refusal.Refusal.{Refusal}
use Rattle.store_abstraction.specs.Layouts.{layout_of}
use Rattle.store_abstraction.specs.Local.{StandsIn}
use Rattle.store_abstraction.specs.declared.layout.Layout.{Layout}
use Rattle.store_abstraction.specs.Plan.{OrgPlan}
use Rattle.cmd_sandbox.specs.Own.{its_administrator, past, refusal_of}

-- no call of the draft's keeper fails
abbrev pub NeverFails : Held InMemory → Type 0
NeverFails d = IsTrue (state_of memory_state d).never_fails

-- in this draft the rows of the first organisation stand for the tenant of its administrator, who asks at this moment, and no call of
-- its keeper fails
pub record IsOwned (now : ℕ) (d : Held InMemory) (a : Asked) : Type 0 where
  pub plan : OrgPlan
  pub stands : StandsIn 1 plan (tables_of memory_state d) (Some a.tenant)
  pub sure : NeverFails d
  pub users : a.tenant.users ≡ its_administrator ∷ []
  pub user : a.user ≡ its_administrator
  pub moment : a.now ≡ pos now

-- it is so of what is returned; and where nothing is, memory is wanting
abbrev pub OrMemory : {X : Type 0} → Result X StoreFail → (X → Type 0) → Type 0
OrMemory (Ok x) holds = holds x
OrMemory (Err e) holds = e ≡ Memory

-- a verdict leaves the users
abbrev pub KeepsUsers : Asked → Verdict → Type 0
KeepsUsers a v = v.tenant.users ≡ a.tenant.users

-- one verdict: it is refused, or the organisation is what it leaves
abbrev pub StepsOwn : (now : ℕ) → (after : Held InMemory) → Asked → Verdict → Result (Option Refusal) StoreFail → Type 0
StepsOwn now after a v (Ok None) = (refusal_of v.answer ≡ None) × IsOwned now after (past a v)
StepsOwn now after a v (Ok (Some why)) = refusal_of v.answer ≡ Some why
StepsOwn now after a v (Err e) = e ≡ Memory

-- ---- an object by its layout

-- the same, and this is the layout of the object with this name
pub record IsLaidOut (now : ℕ) (d : Held InMemory) (name : List ℕ) (l : Layout) (a : Asked) : Type 0 where
  pub owned : IsOwned now d a
  pub object : Numbered
  pub named : object_named a.tenant name ≡ Some object
  pub layout : l ≡ layout_of 1 owned.plan a.tenant object

-- the layout of the object with this name; or there is none, and each record of it is refused so
abbrev pub IsLayoutFound : (now : ℕ) → Held InMemory → (name : List ℕ) → Asked → Result (Result Layout Refusal) StoreFail → Type 0
IsLayoutFound now d name a (Ok (Ok l)) = IsLaidOut now d name l a
IsLayoutFound now d name a (Ok (Err why)) = (given : List Assignment) → refusal_of (create a name given).answer ≡ Some why
IsLayoutFound now d name a (Err e) = e ≡ Memory

-- one verdict that leaves the object as it was
abbrev pub StepsLaidOut : (now : ℕ) → (after : Held InMemory) → (name : List ℕ) → Layout → Asked → Verdict → Result (Option Refusal) StoreFail → Type 0
StepsLaidOut now after name l a v (Ok None) = (refusal_of v.answer ≡ None) × IsLaidOut now after name l (past a v)
StepsLaidOut now after name l a v (Ok (Some why)) = refusal_of v.answer ≡ Some why
StepsLaidOut now after name l a v (Err e) = e ≡ Memory
