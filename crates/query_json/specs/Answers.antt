-- Answers that change nothing.
-- Source of the status: RFC 9110, 15.3.1, of 200.
use Rattle.std.specs.Prelude.{◌≡◌, ◌≢◌, ◌⊎◌, ℕ, List, true, IsTrue, Some, None, Result, Ok, Err, ℤ}
use Rattle.query_exec.specs.Written.{ShowsRecords}
use Rattle.store_kv.specs.Draft.{DraftReads, Held, tables_of}
use Rattle.store_kv.specs.State.{KeeperState}
use Rattle.store_kv.specs.Tables.{Tables}
use Rattle.store_rows.specs.declared.fail.StoreFail.{StoreFail}
use Rattle.store_rows.specs.declared.fail.StoreFail.TheVariants.{Damaged, Memory}
use Rattle.soql.specs.declared.query.Query.{Query}
use Rattle.model.specs.Asking.{ask, query_rules}
use Rattle.model.specs.Objects.{Numbered, object_named}
use Rattle.model.specs.Paths.{Asked}
use Rattle.model.specs.Refusals.{is_refusal_status}
use Rattle.model.specs.Replies.{reply_of}
use Rattle.model.specs.Rules.{first_refusal}
use Rattle.model.specs.Step.{refusal_reply}
use Rattle.model.specs.Verdict.{Verdict}
use Rattle.model.specs.declared.refusal.Refusal.{Refusal}
use Rattle.model.specs.declared.reply.Reply.{Reply}
use Rattle.access_traits.specs.Rights.{Whose}
use Rattle.model.specs.Flat.{is_flat}
use Rattle.store_abstraction.specs.Calls.{Ending}
use Rattle.store_abstraction.specs.Layouts.{layout_of, own_layouts}
use Rattle.store_abstraction.specs.Local.{StandsIn}
use Rattle.store_abstraction.specs.Plan.{OrgPlan}
use Rattle.store_abstraction.specs.declared.layout.Layout.{Layout}

-- a reply that goes with no change: it refuses, or it is of 200
abbrev pub IsReadReply : Reply → Type 0
IsReadReply r = IsTrue (is_refusal_status r.status) ⊎ (r.status ≡ 200)

-- a refusal; or it is out of memory
abbrev pub Refuses : Refusal → Result Reply StoreFail → Type 0
Refuses refusal (Ok r) = r ≡ refusal_reply refusal
Refuses refusal (Err e) = e ≡ Memory

-- the reply is by the verdict, which leaves the organisation as it was
abbrev pub AnswersBy : Asked → Verdict → Result Reply StoreFail → Type 0
AnswersBy a v (Ok r) = (r ≡ reply_of a v.answer) × (v.tenant ≡ a.tenant)
AnswersBy a v (Err e) = e ≢ Damaged

-- who asks at this moment, in a tenant for which the organisation's rows stand and whose object this is, sees so
pub record IsAskedOf (l : Layout) (sees : Whose) (moment : ℤ) (q : Query) (m : Tables) (p : OrgPlan) (a : Asked) : Type 0 where
  pub stands : StandsIn l.org p m (Some a.tenant)
  pub object : Numbered
  pub named : object_named a.tenant q.tail.from ≡ Some object
  pub its : l ≡ layout_of l.org p a.tenant object
  pub sight : sees a.tenant a.user
  pub now : a.now ≡ moment

-- the same over all layouts of the tenant, with these rights
pub record IsAskedOver (layouts : List Layout) (l : Layout) (sees whose : Whose) (moment : ℤ) (q : Query) (m : Tables) (p : OrgPlan) (a : Asked) : Type 0 where
  pub asked : IsAskedOf l sees moment q m p a
  pub all : layouts ≡ own_layouts l.org p (Some a.tenant)
  pub rights : whose a.tenant a.user

-- the reply to a flat query of this object
abbrev pub AnswersFlat : Layout → (sees : Whose) → (moment : ℤ) → Query → Tables → Result Reply StoreFail → Type 0
AnswersFlat l sees moment q m result =
    (p : OrgPlan) (a : Asked) → IsAskedOf l sees moment q m p a → is_flat q ≡ true → AnswersBy a (ask a q) result

-- the reply to any query of this object
abbrev pub AnswersRelated : List Layout → Layout → (sees whose : Whose) → (moment : ℤ) → Query → Tables → Result Reply StoreFail → Type 0
AnswersRelated layouts l sees whose moment q m result =
    (p : OrgPlan) (a : Asked) → IsAskedOver layouts l sees whose moment q m p a → AnswersBy a (ask a q) result

module _ {K : Type 0} (state : K → KeeperState) where
  -- of whoever asks so: if the query breaks a rule, no data row was shown
  abbrev pub ReadsUnrefused : Layout → (asks : OrgPlan → Asked → Type 0) → Query → (old new : Held K) → Type 0
  ReadsUnrefused l asks q old new = (p : OrgPlan) (a : Asked) → asks p a → first_refusal (query_rules a.tenant l.object q) ≢ None → DraftReads state 0 old new

  -- what a flat query of this object was shown: each record once at most, and none if it is refused
  pub record ShowsFlat (l : Layout) (sees : Whose) (moment : ℤ) (q : Query) (each : ℕ) (e : Ending) (old new : Held K) : Type 0 where
    pub records : ShowsRecords state l (λ p a. sees a.tenant a.user) each e old new
    pub refused : ReadsUnrefused l (λ p a. IsAskedOf l sees moment q (tables_of state old) p a × (is_flat q ≡ true)) q old new
