-- What the answer to a caller's message leaves is sound.
use Rattle.std.proofs.Common.{◌≡◌, ℕ, Bool, true, false, not, ◌&&◌, cond, List, Result, Ok, Err, refl, sym, subst}
use Rattle.std.specs.Prelude.{is_some}
use Rattle.model.specs.declared.refusal.Refusal.{Refusal}
use Rattle.model.specs.declared.refusal.Refusal.TheVariants as refusal
use Rattle.model_requests.specs.declared.route.Route.{Route}
use Rattle.model_requests.specs.declared.routed.Routed.{Routed}
use Rattle.model_requests.specs.declared.routed.Routed.TheVariants.{NotAllowed, NotFound, Reads, To}
use Rattle.model.specs.Jobs.{job_step}
use Rattle.model.specs.Paths.{Asked}
use Rattle.model_requests.specs.RequestOf.{answer_to, request_of, verdict_at, verdict_or}
use Rattle.model_requests.specs.Requests.{Request, verdict_on}
use Rattle.model_requests.specs.Routing.{is_administration, routed}
use Rattle.model.specs.Sound.{IsSound}
use Rattle.model.specs.Step.{Message}
use Rattle.model.specs.Tenant.{Tenant, User}
use Rattle.model.specs.Verdict.{Verdict, refuse}
use Rattle.model_reads.specs.declared.read.Read.{Read}
use Rattle.model_reads.specs.Reads.{for_administrators, read_verdict}
use Rattle.model.specs.World.{user_at}
use Rattle.model_invariant.specs.Fit.{IsCaller}
use Rattle.model_requests.specs.Fit.{IsFit}

-- after the job's step
abbrev pub stepped : Asked → Asked
stepped a = record a { tenant = job_step a.tenant }

-- what a read leaves
abbrev pub ReadsSame : Type 0
ReadsSame = (org : ℕ) (a : Asked) (r : Read) → (read_verdict org a r).tenant ≡ a.tenant

-- what holds of each verdict on a request that is read, and of the organisation itself, holds of what any message comes to
module _ (P : Tenant → Type 0) (org : ℕ) (a : Asked) (body : List ℕ) (kept : P a.tenant) (same : ReadsSame)
    (each : (r : Route) (x : Request) → request_of r body ≡ Ok x → P (verdict_on a x).tenant) where
  barred_kept : (v : Verdict) (b : Bool) → P v.tenant → P (cond b (refuse a.tenant refusal.AdminRequired) v).tenant
  barred_kept v true h = kept
  barred_kept v false h = h

  pub verdict_kept : (r : Routed) → P (verdict_at org a body r).tenant
  verdict_kept NotFound = kept
  verdict_kept NotAllowed = kept
  verdict_kept (To r) = barred_kept (verdict_or a (request_of r body)) (is_administration r && not a.user.admin) (read (request_of r body) refl)
    where
      read : (o : Result Request Refusal) → request_of r body ≡ o → P (verdict_or a o).tenant
      read (Ok x) e = each r x e
      read (Err why) e = kept
  verdict_kept (Reads r) = barred_kept (read_verdict org a r) (for_administrators r && not a.user.admin) (subst P (sym (same org a r)) kept)

-- who asks is a caller still
pub caller_stepped : ((t : Tenant) → (job_step t).users ≡ t.users) → (a : Asked) → IsCaller a → IsCaller (stepped a)
caller_stepped users_kept a caller = (subst (λ (users : List User). is_some (user_at users a.user.id) ≡ true) (sym (users_kept a.tenant)) caller.0, caller.1)

pub answer_sound : ((t : Tenant) → (job_step t).users ≡ t.users)
    → ((t : Tenant) → IsSound t → IsSound (job_step t))
    → ReadsSame
    → ((a : Asked) (x : Request) → IsCaller a → IsFit a x → IsSound a.tenant → IsSound (verdict_on a x).tenant)
    → ((a : Asked) (r : Route) (body : List ℕ) (x : Request) → IsSound a.tenant → request_of r body ≡ Ok x → IsFit a x)
    → (org : ℕ) (a : Asked) (m : Message) → IsCaller a → IsSound a.tenant → IsSound (answer_to org a m).1
answer_sound users_kept step same verdict fits org a m caller sound =
    let s = step a.tenant sound in
    verdict_kept IsSound org (stepped a) m.body s same
    (λ r x e. verdict (stepped a) x (caller_stepped users_kept a caller) (fits (stepped a) r m.body x s e) s) (routed m.method m.target)
