-- What is told of an organisation and to whom, by what is told of a part of it or by rights.
use Rattle.std.proofs.Common.{◌≡◌, ◌≢◌, ◌∙◌, ◌≤◌, ℕ, Bool, true, false, cond, List, Result, Ok, Err, refl, sym, subst, arith}
use Rattle.std.specs.Prelude.{Some, if◌then◌else◌}
use Rattle.access_user.specs.Granting.{FindsRights, IsUserRights}
use Rattle.access_user.specs.declared.rights.UserRights.{UserRights}
use Rattle.base_json.specs.declared.tree.Json.{Json}
use Rattle.model.specs.declared.caller.Caller.{Caller}
use Rattle.model.specs.declared.reply.Reply.{Reply}
use Rattle.model.specs.Asker.{IsAsking}
use Rattle.model.specs.Paths.{Asked}
use Rattle.model.specs.Tenant.{Tenant}
use Rattle.model_reads.specs.Reads.{description_told, is_describe, read_shown, record_told, told_of}
use Rattle.model_reads.specs.Told.{Telling}
use Rattle.model_reads.specs.declared.read.Read.{Read}
use Rattle.store_abstraction.specs.Calls.{Calls, Ending, done, ended, ended_edit, fell}
use Rattle.store_abstraction.specs.Local.{StandsIn}
use Rattle.store_abstraction.specs.Plan.{OrgPlan}
use Rattle.store_abstraction.specs.declared.fail.EditFail.{EditFail}
use Rattle.store_abstraction.specs.declared.fail.EditFail.TheVariants.{Refused, Store}
use Rattle.store_kv.specs.Draft.{DraftReads, DraftTells, Held}
use Rattle.store_kv.specs.State.{KeeperState}
use Rattle.store_kv.specs.Tables.{Tables}
use Rattle.store_rows.specs.declared.fail.StoreFail.{StoreFail}
use Rattle.store_rows.specs.declared.fail.StoreFail.TheVariants.{Damaged, Keeper, Memory}
use Rattle.api_read.specs.inner.Ends.{EndsAs}
use Rattle.api_read.specs.Tells.{IsAsker, TellsOf, TellsSo, TellsTo}

-- told to all of these, it is told to each that is one of them
pub tells_them : (org : ℕ) (asks those : Asked → Type 0) (tell : Asked → Telling) (m : Tables) (result : Result Json EditFail)
    → ((q : OrgPlan) (a : Asked) → StandsIn org q m (Some a.tenant) → asks a → those a) → TellsTo org those tell m result → TellsTo org asks tell m result
tells_them org asks those tell m result are h q a s asking = h q a s (are q a s asking)

-- told of the organisation, whoever asks
pub tells_all : (org : ℕ) (asks : Asked → Type 0) (tell : Tenant → Telling) (m : Tables) (result : Result Json EditFail)
    → TellsOf org tell m result → TellsTo org asks (λ a. tell a.tenant) m result
tells_all org asks tell m result h q a s asking = h q a.tenant s

-- the same of the read that it is
pub tells_so : (c : Caller) (m : Tables) (read is : Read) (result : Result Json EditFail) → read ≡ is
    → TellsTo c.org (IsAsker c) (λ a. told_of c.org a is) m result → TellsTo c.org (IsAsker c) (λ a. told_of c.org a read) m result
tells_so c m read is result e h = subst (λ (r : Read). TellsTo c.org (IsAsker c) (λ a. told_of c.org a r) m result) (sym e) h

pub calls_so : {K : Type 0} (state : K → KeeperState) (read is : Read) (result : Result Json EditFail) (a b : Held K) → read ≡ is
    → Calls state (read_shown is) (ended_edit result) a b → Calls state (read_shown read) (ended_edit result) a b
calls_so state read is result a b e h = subst (λ (r : Read). Calls state (read_shown r) (ended_edit result) a b) (sym e) h

-- who asks is the caller
pub asker_of : (c : Caller) (moment : ℕ) (a : Asked) → IsAsking c moment a → IsAsker c a
asker_of c moment a asking = record { user = asking.user; admin = asking.admin }

-- ---- rights that were read

-- those of a user who doesn't administer
pub rights_of_asker : (c : Caller) (m : Tables) (r : UserRights) → c.admin ≡ false → FindsRights c.org c.user m (Ok r)
    → (q : OrgPlan) (a : Asked) → StandsIn c.org q m (Some a.tenant) → IsAsker c a → IsUserRights a.tenant a.user r
rights_of_asker c m r plain finds q a s asking = finds q a.tenant a.user s asking.user (asking.admin ∙ plain)

-- none
pub no_rights : (org : ℕ) (id : _) (asks : Asked → Type 0) (tell : Asked → Telling) (m : Tables) (e : StoreFail) → FindsRights org id m (Err e)
    → TellsTo org asks tell m (Err (Store e))
no_rights org id asks tell m Damaged finds q a s asking = absurd (finds q (Some a.tenant) s)
no_rights org id asks tell m Keeper finds q a s asking = λ e. absurd cc
no_rights org id asks tell m Memory finds q a s asking = λ e. absurd cc

-- ---- a wider bound of data rows
pub calls_within : {K : Type 0} (state : K → KeeperState) → ((shown most : ℕ) (a b : Held K) → (DraftTells state a b → shown ≤ most) → DraftReads state shown a b → DraftReads state most a b)
    → (shown most : ℕ) (e : Ending) (a b : Held K) → shown ≤ most → Calls state shown e a b → Calls state most e a b
calls_within state wider shown most e a b few h = record { reads = wider shown most a b (λ _. few) h.reads; stays = h.stays; cause = h.cause; quiet = h.quiet }

-- ---- no call

-- what is made without a look at the tables
pub calls_none : {K : Type 0} (state : K → KeeperState) → ((shown : ℕ) (e : Ending) (a b : Held K) → (e ≡ fell → ⊥) → Calls state shown done a b → Calls state shown e a b)
    → ((e : Ending) (a : Held K) → e ≡ done → Calls state 0 e a a) → (result : Result Json EditFail) (a : Held K) → (ended_edit result ≡ fell → ⊥) → Calls state 0 (ended_edit result) a a
calls_none state weaker none result a cause = weaker 0 (ended_edit result) a a cause (none done a refl)

-- ---- a record or a description

pub described : (a : Asked) (object key pairs : List ℕ) (b : Bool) (result : Result Json EditFail) → is_describe key ≡ b
    → TellsSo (cond b (description_told a.tenant object) (record_told a object key pairs)) result
    → TellsSo (if is_describe key then description_told a.tenant object else record_told a object key pairs) result
described a object key pairs b result e h =
    subst (λ (x : Bool). TellsSo (cond x (description_told a.tenant object) (record_told a object key pairs)) result) (sym e) h

-- ---- the reply

pub reply_calls : {K : Type 0} (state : K → KeeperState) → ((shown : ℕ) (e : Ending) (a b : Held K) → (e ≡ fell → ⊥) → Calls state shown done a b → Calls state shown e a b)
    → (shown : ℕ) (told : Result Json EditFail) (result : Result Reply StoreFail) (a b : Held K) → EndsAs told result → Calls state shown (ended_edit told) a b → Calls state shown (ended result) a b
reply_calls state weaker shown (Ok v) result a b ends calls = weaker shown (ended result) a b ends calls
reply_calls state weaker shown (Err (Refused r)) result a b ends calls = weaker shown (ended result) a b ends calls
reply_calls state weaker shown (Err (Store e)) result a b ends calls = subst (λ (r : Result Reply StoreFail). Calls state shown (ended r) a b) (sym ends) calls
