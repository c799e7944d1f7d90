-- A request that is answered by the rights of who asks.
use Rattle.std.proofs.Common.{◌≡◌, ◌∙◌, ◌+◌, ℕ, false, List, arith}
use Rattle.std.specs.Prelude.{◌≢◌, Result, Ok, Err, Some}
use Rattle.api_edit.specs.Administration.{AsksWith}
use Rattle.access_user.specs.Granting.{FindsRights, IsUserRights}
use Rattle.access_user.specs.declared.rights.UserRights.{UserRights}
use Rattle.store_kv.specs.Draft.{DraftReads, Held}
use Rattle.store_kv.specs.State.{KeeperState}
use Rattle.store_kv.specs.Tables.{Tables}
use Rattle.store_rows.specs.declared.fail.StoreFail.{StoreFail}
use Rattle.store_rows.specs.declared.fail.StoreFail.TheVariants.{Damaged, Keeper, Memory}
use Rattle.model.specs.declared.caller.Caller.{Caller}
use Rattle.model.specs.declared.reply.Reply.{Reply}
use Rattle.model.specs.Paths.{Asked}
use Rattle.model.specs.Verdict.{Verdict}
use Rattle.access_traits.specs.Rights.{Whose}
use Rattle.store_abstraction.specs.Calls.{Calls, Ending, Makes, done, ended, ended_by}
use Rattle.store_abstraction.specs.Local.{StandsIn}
use Rattle.store_abstraction.specs.Operations.{Drafts, Responds}
use Rattle.store_abstraction.specs.Plan.{OrgPlan}
use Rattle.store_abstraction.specs.declared.judged.Judged.{Judged}
use Rattle.model.specs.Asker.{IsAsking}
use Rattle.model.specs.Bounds.{edit_shown, request_changes, request_gone}
use Rattle.api.proofs.Responses.{MakesOf, MostOf}

-- by rights that are those of who asks
pub with_rights : (whose : Whose) (org : ℕ) (c : Caller) (now : ℕ) (verdict : Asked → Verdict) (m after : Tables) (result : Result (Judged Reply) StoreFail)
    → ((p : OrgPlan) (a : Asked) → StandsIn org p m (Some a.tenant) → IsAsking c now a → whose a.tenant a.user)
    → Responds org (AsksWith whose c now) verdict m after result → Responds org (IsAsking c now) verdict m after result
with_rights whose org c now verdict m after result has h = record {
  others = h.others;
  replied = λ p a s asking. h.replied p a s (asking, has p a s asking);
}

-- rights that weren't read
pub no_rights : (org : ℕ) (id : List ℕ) (IsAsking : Asked → Type 0) (verdict : Asked → Verdict) (m after : Tables) (e : StoreFail) → FindsRights org id m (Err e)
    → Responds org IsAsking verdict m after (Err e)
no_rights org id IsAsking verdict m after e finds = record {
  others = λ change. absurd change;
  replied = λ p a s asking. by e finds p a s;
}
  where
    by : (e : StoreFail) → FindsRights org id m (Err e) → (p : OrgPlan) (a : Asked) → StandsIn org p m (Some a.tenant) → e ≢ Damaged
    by Damaged finds p a s = absurd (finds p (Some a.tenant) s)
    by Keeper finds p a s = λ e. absurd cc
    by Memory finds p a s = λ e. absurd cc

-- those that were read of a user who doesn't administer
pub from_rights : (c : Caller) (now : ℕ) (m : Tables) (r : UserRights) → c.admin ≡ false → FindsRights c.org c.user m (Ok r)
    → (p : OrgPlan) (a : Asked) → StandsIn c.org p m (Some a.tenant) → IsAsking c now a → IsUserRights a.tenant a.user r
from_rights c now m r plain finds p a s asking = finds p a.tenant a.user s asking.user (asking.admin ∙ plain)

-- ---- what is left of the draft

module _ {K : Type 0} (state : K → KeeperState) where
  -- a read, and then the request
  pub after_rights : ((shown most gone later : ℕ) (e : Ending) (a b c : Held K) → Calls state shown done a b → Makes state most gone later e b c → Makes state most gone (shown + later) e a c)
      → ((shown later : ℕ) (a b c : Held K) → DraftReads state shown a b → DraftReads state later b c → DraftReads state (shown + later) a c)
      → (result : Result (Judged Reply) StoreFail) (a b c : Held K) → Calls state 0 done a b → Drafts state request_changes request_gone edit_shown result b c
      → Drafts state request_changes request_gone edit_shown result a c
  after_rights makes_then reads result a b c calls h = record {
    makes = makes_then 0 request_changes request_gone edit_shown (ended result) a b c calls h.makes;
    changing = h.changing;
    same = λ is. reads 0 edit_shown a b c calls.reads (h.same is);
  }

  -- a read that failed
  pub failed_drafts : MakesOf state → MostOf state → (e : StoreFail) (a b : Held K) → Calls state 0 (ended_by e) a b → Drafts {X = Reply} state request_changes request_gone edit_shown (Err e) a b
  failed_drafts makes most e a b calls = record {
    makes = most 0 0 0 request_changes request_gone edit_shown (ended_by e) a b (omega arith) (omega arith) (λ _. omega arith) (makes 0 (ended_by e) a b calls);
    changing = λ change. absurd change;
    same = λ same. absurd same;
  }
