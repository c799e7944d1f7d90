-- How far the change of a field's type is, as a reply.
use Rattle.std.proofs.Common.{◌≡◌, ℕ, List, Option, Some, None, Result, Ok, Err, refl, sym, ap, subst}
use Rattle.std.specs.Prelude.{IfErr}
use Rattle.std.specs.Option.{option_and_then, option_map}
use Rattle.std.specs.Str.{encode_utf8_all}
use Rattle.query_json.specs.Answers.{AnswersBy, Refuses}
use Rattle.store_kv.specs.Draft.{Held}
use Rattle.store_kv.specs.State.{KeeperState}
use Rattle.store_kv.specs.Tables.{Tables}
use Rattle.store_rows.specs.declared.fail.StoreFail.{StoreFail}
use Rattle.store_rows.specs.declared.fail.StoreFail.TheVariants.{Damaged, Keeper, Memory}
use Rattle.model.specs.declared.refusal.Refusal.TheVariants.{NotFound}
use Rattle.model.specs.declared.reply.Reply.{Reply}
use Rattle.model.specs.Cases.{in_case}
use Rattle.model.specs.Paths.{Asked}
use Rattle.model.specs.Replies.{job_json}
use Rattle.model.specs.Retyping.{get_retype, state_of}
use Rattle.model.specs.Tenant.{Job, Tenant}
use Rattle.model.specs.Verdict.{Verdict, accept, refuse}
use Rattle.api_output.specs.States.{IsStateOf}
use Rattle.retype_request.specs.States.{state_in}
use Rattle.retype_request.specs.declared.state.ChangeState.{ChangeState}
use Rattle.store_abstraction.specs.Calls.{Calls, Ending, done, ended, ended_by, fell, stopped}
use Rattle.store_abstraction.specs.Local.{FindsIn, StandsIn}
use Rattle.store_abstraction.specs.Plan.{OrgPlan}
use Rattle.api.proofs.Refusing.{refused_so}

-- how far it is in a tenant, if there ever was one
abbrev pub state_there : OrgPlan → Option Tenant → Option ChangeState
state_there q t = option_and_then (λ u. option_map (state_in u) u.job) t

-- the parts of a state are those of its change
pub parts_of : (t : Tenant) (j : Job) (s : ChangeState) → s ≡ state_in t j → IsStateOf t j s.object s.field s.phase s.outcome s.failed
parts_of t j s is = record {
  object = ap (λ (x : ChangeState). x.object) is;
  field = ap (λ (x : ChangeState). x.field) is;
  phase = ap (λ (x : ChangeState). x.phase) is;
  outcome = ap (λ (x : ChangeState). x.outcome) is;
  failed = ap (λ (x : ChangeState). x.failed) is;
}

-- a reply with that body
pub state_replied : (a : Asked) (j : Job) (body : List ℕ) → body ≡ encode_utf8_all (job_json a.tenant j) → AnswersBy a (accept (state_of a.tenant j) a.tenant) (Ok (record { status = 200; body = body }))
state_replied a j body is = (ap (λ (b : List ℕ). record { status = 200; body = b }) is, refl)

pub no_memory : (a : Asked) (v : Verdict) → AnswersBy a v (Err Memory)
no_memory a v damaged = cc

-- ---- what is found, as a reply

-- a state is that of the change that there is
record IsThere (t : Tenant) (s : ChangeState) : Type 0 where
  job : Job
  there : t.job ≡ Some job
  same : s ≡ state_in t job

is_there : (t : Tenant) (s : ChangeState) → Some s ≡ option_map (state_in t) t.job → IsThere t s
is_there t s e = by t.job refl e
  where
    by : (j : Option Job) → t.job ≡ j → Some s ≡ option_map (state_in t) j → IsThere t s
    by None there e = absurd cc
    by (Some j) there e = record { job = j; there = there; same = cc }

pub state_answered : (org : ℕ) (a : Asked) (p : OrgPlan) (m : Tables) (s : ChangeState) (result : Result Reply StoreFail) → StandsIn org p m (Some a.tenant) → FindsIn org state_there m (Ok (Some s))
    → ((a : Asked) (j : Job) → s ≡ state_in a.tenant j → AnswersBy a (accept (state_of a.tenant j) a.tenant) result) → AnswersBy a (get_retype a.tenant) result
state_answered org a p m s result stands finds value =
    let is = is_there a.tenant s (finds p (Some a.tenant) stands) in
    let verdict : get_retype a.tenant ≡ accept (state_of a.tenant is.job) a.tenant =
    ap (λ (j : Option Job). in_case j (refuse a.tenant NotFound) (λ j. accept (state_of a.tenant j) a.tenant)) is.there in
    subst (λ (v : Verdict). AnswersBy a v result) (sym verdict) (value a is.job is.same)

none_there : (t : Tenant) → None ≡ option_map (state_in t) t.job → t.job ≡ None
none_there t e = by t.job e
  where
    by : (j : Option Job) → None ≡ option_map (state_in t) j → j ≡ None
    by None e = refl
    by (Some j) e = absurd cc

pub never_changed : (org : ℕ) (a : Asked) (p : OrgPlan) (m : Tables) (result : Result Reply StoreFail) → StandsIn org p m (Some a.tenant) → FindsIn org state_there m (Ok None)
    → Refuses NotFound result → AnswersBy a (get_retype a.tenant) result
never_changed org a p m result stands finds refused =
    let verdict : get_retype a.tenant ≡ refuse a.tenant NotFound =
    ap (λ (j : Option Job). in_case j (refuse a.tenant NotFound) (λ j. accept (state_of a.tenant j) a.tenant)) (none_there a.tenant (finds p (Some a.tenant) stands)) in
    subst (λ (v : Verdict). AnswersBy a v result) (sym verdict) (refused_so a NotFound result refused)

pub change_failed : (org : ℕ) (a : Asked) (v : Verdict) (p : OrgPlan) (m : Tables) (f : StoreFail) → StandsIn org p m (Some a.tenant) → FindsIn org state_there m (Err f) → AnswersBy a v (Err f)
change_failed org a v p m Damaged s finds = absurd (finds p (Some a.tenant) s)
change_failed org a v p m Keeper s finds = λ e. absurd cc
change_failed org a v p m Memory s finds = λ e. absurd cc

-- ---- the draft, over which only reads were made

module _ {K : Type 0} (state : K → KeeperState) (weaker : (shown : ℕ) (e : Ending) (a b : Held K) → (e ≡ fell → ⊥) → Calls state shown done a b → Calls state shown e a b) (a b : Held K) where
  pub replied_calls : (r : Result Reply StoreFail) → IfErr r (λ e. e ≡ Memory) → Calls state 0 done a b → Calls state 0 (ended r) a b
  replied_calls (Ok x) h calls = calls
  replied_calls (Err e) h calls = subst (λ (f : StoreFail). Calls state 0 (ended_by f) a b) (sym h) (weaker 0 stopped a b (λ e. cc) calls)

  pub refused_after : (r : Result Reply StoreFail) → Refuses NotFound r → Calls state 0 done a b → Calls state 0 (ended r) a b
  refused_after (Ok x) h calls = calls
  refused_after (Err e) h calls = replied_calls (Err e) h calls
