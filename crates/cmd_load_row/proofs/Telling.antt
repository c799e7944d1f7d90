-- What a line says of the edit that a row asked for.
use Rattle.std.proofs.Common.{◌≡◌, ◌∙◌, ◌⊎◌, ◌<◌, ◌+◌, arith, inl, inr, ℕ, false, IsTrue, List, sym, ap, subst, refl, Result, Ok, Err}
use Rattle.std.specs.Prelude.{◌≢◌, IfErr, OnOk, Some}
use Rattle.cmd_load_plan.specs.Rows.{row_line, row_request}
use Rattle.cmd_load_plan.specs.declared.plan.LoadPlan.{LoadPlan}
use Rattle.store_edit.specs.Edits.{DraftsEdit, OthersStay}
use Rattle.access_user.specs.Granting.{FindsRights, IsUserRights}
use Rattle.access_user.specs.declared.rights.UserRights.{UserRights}
use Rattle.store_kv.specs.Draft.{DraftReads, Held, count_of}
use Rattle.store_kv.specs.State.{KeeperState}
use Rattle.store_kv.specs.Tables.{Tables}
use Rattle.store_rows.specs.declared.fail.StoreFail.{StoreFail}
use Rattle.store_rows.specs.declared.fail.StoreFail.TheVariants.{Damaged, Keeper, Memory}
use Rattle.model.specs.declared.caller.Caller.{Caller}
use Rattle.model.specs.Paths.{Asked}
use Rattle.model_requests.specs.Requests.{verdict_on}
use Rattle.model.specs.Tenant.{Tenant}
use Rattle.access_traits.specs.Rights.{Whose}
use Rattle.store_abstraction.specs.Calls.{Calls, Ending, HasFallen, Makes, done, ended, ended_by, ended_edit, is_done, stopped}
use Rattle.store_abstraction.specs.Fails.{IsRefusal, is_judged}
use Rattle.store_abstraction.specs.Local.{KeepsOthers, StandsFor, StandsIn}
use Rattle.store_abstraction.specs.Operations.{Drafts, IsChange, IsSame, Judges}
use Rattle.store_abstraction.specs.Plan.{OrgPlan}
use Rattle.store_abstraction.specs.declared.fail.EditFail.{EditFail}
use Rattle.store_abstraction.specs.declared.fail.EditFail.TheVariants.{Refused, Store}
use Rattle.store_abstraction.specs.declared.judged.Judged.{Judged}
use Rattle.model.specs.Asker.{IsAsking}
use Rattle.model.specs.Asker.{asking}
use Rattle.record_save.specs.declared.upsert.upsert.Upserted.{Upserted}
use Rattle.cmd_load_row.specs.Loads.{JudgesRow, load_shown, row_changes, row_does}
use Rattle.cmd_load_row.specs.inner.Edits.{AsksBy, EditsRow, EditsTo}
use Rattle.cmd_load_row.specs.inner.Told.{JudgesBy, told_row}
use Rattle.cmd_load_row.proofs.Editing.{CallLaws}

abbrev Edit : Type 0
Edit = Result Upserted EditFail

abbrev Returned : Type 0
Returned = Result (Judged (List ℕ)) StoreFail

-- the line of what was edited, or out of memory
abbrev pub IsTold : (number : ℕ) → Edit → Returned → Type 0
IsTold number edit result = (result ≡ told_row number edit) ⊎ ((result ≡ Err Memory) × IsTrue (is_judged edit))

by_line : (P : Returned → Type 0) (number : ℕ) (edit : Edit) (result : Returned) → IsTold number edit result → P (told_row number edit) → (IsTrue (is_judged edit) → P (Err Memory)) → P result
by_line P number edit result (inl e) told none = subst P (sym e) told
by_line P number edit result (inr e) told none = subst P (sym e.0) (none e.1)

judges : (org number : ℕ) (p : LoadPlan) (cells : List (List ℕ)) (a : Asked) (after : Tables) (edit : Edit) → EditsTo org a.tenant (verdict_on a (row_request p cells)) after edit
    → Judges (StandsFor org) (row_does p number cells a) (Some a.tenant) after (told_row number edit)
judges org number p cells a after (Ok x) e = (sym (e.0 number), e.1)
judges org number p cells a after (Err (Refused r)) e = (ap (row_line number) (sym e.0), ap (λ (t : Tenant). Some t) e.1)
judges org number p cells a after (Err (Store f)) e = e

others : (org number : ℕ) (m after : Tables) (edit : Edit) → OthersStay org m after edit → IsChange (told_row number edit) → KeepsOthers org m after
others org number m after (Ok x) stay change = stay
others org number m after (Err (Refused r)) stay change = absurd change
others org number m after (Err (Store f)) stay change = absurd change

-- the line of a row by the edit that was made for it
pub row_judged : (whose : Whose) (c : Caller) (p : LoadPlan) (number : ℕ) (cells : List (List ℕ)) (now : ℕ) (m after : Tables) (edit : Edit) (result : Returned) → IsTold number edit result
    → EditsRow c.org (AsksBy whose c now) (row_request p cells) m after edit → JudgesBy whose c p number cells now m after result
row_judged whose c p number cells now m after edit result is e = record {
  others = by_line (λ r. IsChange r → KeepsOthers c.org m after) number edit result is (others c.org number m after edit e.others) (λ judged none. absurd none);
  judged = λ q t u stands asks.
      by_line (Judges (StandsFor c.org) (row_does p number cells (asking t now u)) (Some t) after) number edit result is
      (judges c.org number p cells (asking t now u) after edit (e.edited q (asking t now u) stands asks)) (λ judged same. cc);
}

-- ---- what is left of the draft

changes : (P : Type 0) (number : ℕ) (edit : Edit) → OnOk edit P → IsChange (told_row number edit) → P
changes P number (Ok x) some changing = some
changes P number (Err (Refused r)) some changing = absurd changing
changes P number (Err (Store f)) some changing = absurd changing

same_if : (P : Type 0) (number : ℕ) (edit : Edit) → IfErr edit (λ e. IsRefusal e → P) → IsSame (told_row number edit) → P
same_if P number (Ok x) refused is = absurd is
same_if P number (Err (Refused r)) refused is = refused tt
same_if P number (Err (Store f)) refused is = absurd is

ended_so : (number : ℕ) (edit : Edit) → ended (told_row number edit) ≡ ended_edit edit
ended_so number (Ok x) = refl
ended_so number (Err (Refused r)) = refl
ended_so number (Err (Store f)) = refl

module _ {K : Type 0} (state : K → KeeperState) (old new : Held K) where
  -- out of memory for the line of an edit that was judged
  stopped_after : (edit : Edit) → IsTrue (is_judged edit) → Makes state row_changes 0 load_shown (ended_edit edit) old new → Makes state row_changes 0 load_shown stopped old new
  stopped_after edit judged h = record {
    works = h.works;
    stays = λ trusted done. absurd (not_done done);
    cause = record { rose = λ none. absurd none; never = λ sure none. none };
    quiet = λ none. h.quiet (not_fallen edit judged);
  }
    where
      not_done : IsTrue (is_done stopped) → ⊥
      not_done d = cc

      not_fallen : (edit : Edit) → IsTrue (is_judged edit) → HasFallen (ended_edit edit) → ⊥
      not_fallen (Ok x) judged f = f
      not_fallen (Err (Refused r)) judged f = f
      not_fallen (Err (Store e)) judged f = absurd cc

  pub row_drafts : (number : ℕ) (edit : Edit) (result : Returned) → IsTold number edit result → DraftsEdit state row_changes 0 load_shown edit old new → Drafts state row_changes 0 load_shown result old new
  row_drafts number edit result is h = by_line (λ r. Drafts state row_changes 0 load_shown r old new) number edit result is
      (record {
        makes = subst (λ (e : Ending). Makes state row_changes 0 load_shown e old new) (sym (ended_so number edit)) h.makes;
        changing = changes (0 < count_of new) number edit h.some;
        same = same_if (DraftReads state load_shown old new) number edit h.refused;
      })
      (λ judged. record { makes = stopped_after edit judged h.makes; changing = λ none. absurd none; same = λ none. absurd none })

-- ---- the rights of who asks

-- by rights that are those of who asks
pub with_rights : (whose : Whose) (c : Caller) (p : LoadPlan) (number : ℕ) (cells : List (List ℕ)) (now : ℕ) (m after : Tables) (result : Returned)
    → ((q : OrgPlan) (a : Asked) → StandsIn c.org q m (Some a.tenant) → IsAsking c now a → whose a.tenant a.user)
    → JudgesBy whose c p number cells now m after result → JudgesRow c p number cells now m after result
with_rights whose c p number cells now m after result has h = record {
  others = h.others;
  judged = λ q t u stands asks. h.judged q t u stands (asks, has q (asking t now u) stands asks);
}

-- those that were read of a user who doesn't administer
pub from_rights : (c : Caller) (now : ℕ) (m : Tables) (r : UserRights) → c.admin ≡ false → FindsRights c.org c.user m (Ok r)
    → (q : OrgPlan) (a : Asked) → StandsIn c.org q m (Some a.tenant) → IsAsking c now a → IsUserRights a.tenant a.user r
from_rights c now m r plain finds q a stands asks = finds q a.tenant a.user stands asks.user (asks.admin ∙ plain)

-- rights that weren't read
pub no_rights : (c : Caller) (p : LoadPlan) (number : ℕ) (cells : List (List ℕ)) (now : ℕ) (m after : Tables) (e : StoreFail) → FindsRights c.org c.user m (Err e)
    → JudgesRow c p number cells now m after (Err e)
no_rights c p number cells now m after e finds = record {
  others = λ change. absurd change;
  judged = λ q t u stands asks. by e finds q t stands;
}
  where
    by : (e : StoreFail) → FindsRights c.org c.user m (Err e) → (q : OrgPlan) (t : Tenant) → StandsIn c.org q m (Some t) → e ≢ Damaged
    by Damaged finds q t stands = absurd (finds q (Some t) stands)
    by Keeper finds q t stands = λ e. absurd cc
    by Memory finds q t stands = λ e. absurd cc

module _ {K : Type 0} (state : K → KeeperState) where
  -- a read, and then the row
  pub after_rights : ((shown most gone later : ℕ) (e : Ending) (a b c : Held K) → Calls state shown done a b → Makes state most gone later e b c → Makes state most gone (shown + later) e a c)
      → ((shown later : ℕ) (a b c : Held K) → DraftReads state shown a b → DraftReads state later b c → DraftReads state (shown + later) a c)
      → (result : Returned) (a b c : Held K) → Calls state 0 done a b → Drafts state row_changes 0 load_shown result b c → Drafts state row_changes 0 load_shown result a c
  after_rights makes_then reads result a b c calls h = record {
    makes = makes_then 0 row_changes 0 load_shown (ended result) a b c calls h.makes;
    changing = h.changing;
    same = λ is. reads 0 load_shown a b c calls.reads (h.same is);
  }

  -- a read that failed
  pub failed_drafts : CallLaws state → (e : StoreFail) (a b : Held K) → Calls state 0 (ended_by e) a b → Drafts {X = List ℕ} state row_changes 0 load_shown (Err e) a b
  failed_drafts laws e a b calls = record {
    makes = laws.most 0 0 0 row_changes 0 load_shown (ended_by e) a b (omega arith) (omega arith) (λ _. omega arith) (laws.makes 0 (ended_by e) a b calls);
    changing = λ change. absurd change;
    same = λ same. absurd same;
  }
