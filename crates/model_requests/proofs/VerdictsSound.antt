-- What a request that only looks leaves.
use Rattle.std.proofs.Common.{◌≡◌, Option, Some, None, refl}
use Rattle.soql.specs.declared.query.Query.{Query}
use Rattle.model.specs.declared.refusal.Refusal.TheVariants as refusal
use Rattle.model.specs.Asking.{ask, query_rules}
use Rattle.model.specs.Cases.{in_case}
use Rattle.model.specs.Objects.{Numbered, object_named}
use Rattle.model.specs.Paths.{Asked}
use Rattle.model.specs.Retyping.{get_retype, state_of}
use Rattle.model.specs.Rules.{Rule, first_refusal}
use Rattle.model.specs.Tenant.{Job, Tenant}
use Rattle.model.specs.Verdict.{accept, judged, refuse, rows_of, unless}

-- a query leaves all as it is
pub asked_same : (a : Asked) (q : Query) → (ask a q).tenant ≡ a.tenant
asked_same a q = by (object_named a.tenant q.tail.from)
  where
    ruled : (r : Rule) → (unless r a.tenant (accept (rows_of q) a.tenant)).tenant ≡ a.tenant
    ruled None = refl
    ruled (Some r) = refl

    by : (o : Option Numbered)
        → (in_case o (refuse a.tenant (refusal.InvalidType q.tail.from)) (λ o. judged a.tenant (query_rules a.tenant o.number q) (accept (rows_of q) a.tenant))).tenant ≡ a.tenant
    by None = refl
    by (Some o) = ruled (first_refusal (query_rules a.tenant o.number q))

-- and so does a look at the change of a field's type
pub looked_same : (t : Tenant) → (get_retype t).tenant ≡ t
looked_same t = by t.job
  where
    by : (job : Option Job) → (in_case job (refuse t refusal.NotFound) (λ j. accept (state_of t j) t)).tenant ≡ t
    by None = refl
    by (Some j) = refl
