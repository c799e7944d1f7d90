use Rattle.std.proofs.Common.{Some, subst, sym}
use Rattle.store_kv.specs.Tables.{Tables}
use Rattle.model.specs.Rules.{first_refusal}
use Rattle.store_abstraction.specs.Local.{StandsIn}
use Rattle.store_edit.specs.Judging.{Passes}
use Rattle.store_edit.proofs.Reading.{two_reads}
use Rattle.store_edit.proofs.StepByStep.{passed_on}
use Rattle.people_removal.specs.declared.named.Named.{Named}
use Rattle.people_removal.specs.declared.named.Named.TheVariants as named
use Rattle.people_removal.specs.inner.Naming.{holders, principals_with, uses}
use Rattle.people_removal.proofs.Judging.{fails_first, then_passes}
use Rattle.people_removal.proofs.uses.check_uses.Goals as goal

pub returns-in_err-check_holders-in-Role-clause-passes : goal.returns-in_err-check_holders-in-Role-clause-passes
returns-in_err-check_holders-in-Role-clause-passes g c told q t s =
    let id = c.in-Role.id in
    let e = c.in_err-check_holders-in-Role.field-0.0 in
    subst (λ (n : Named). Passes (first_refusal (uses t n)) (λ (x : Unit {0}). Unit {0}) c.from_residual.result) (sym c.in-Role.is)
    (passed_on (first_refusal (uses t (named.Role id))) (λ (x : Unit {0}). Unit {0}) c.from_residual.result e c.from_residual.ensures.1
    (fails_first (holders t id) (principals_with t (named.Role id)) e (c.in_err-check_holders-in-Role.ensures.passes told q t s)))

pub returns-in_ok-check_holders-in-Role-clause-passes : goal.returns-in_ok-check_holders-in-Role-clause-passes
returns-in_ok-check_holders-in-Role-clause-passes g c told q t s =
    let state = g.K.Keeper.state in
    let calls = c.call_laws.ensures in
    let id = c.in-Role.id in
    let reads = two_reads state calls.told_first calls.told_then calls.tables c.args.draft.now c.check_holders.new.draft c.check_principals.new.draft c.in_ok-check_holders-in-Role.ensures.calls c.check_principals.ensures.calls told in
    let stands = subst (λ (m : Tables). StandsIn c.args.org q m (Some t)) (sym reads.same) s in
    let next = subst (λ (n : Named). Passes (first_refusal (principals_with t n)) (λ (x : Unit {0}). Unit {0}) c.check_principals.result) c.in-Role.is (c.check_principals.ensures.passes reads.then q t stands) in
    subst (λ (n : Named). Passes (first_refusal (uses t n)) (λ (x : Unit {0}). Unit {0}) c.check_principals.result) (sym c.in-Role.is)
    (then_passes (holders t id) (principals_with t (named.Role id)) (λ (x : Unit {0}). Unit {0}) c.check_principals.result (c.in_ok-check_holders-in-Role.ensures.passes reads.first q t s).0 next)

pub returns-in-Group-clause-passes : goal.returns-in-Group-clause-passes
returns-in-Group-clause-passes g c told q t s =
    subst (λ (n : Named). Passes (first_refusal (uses t n)) (λ (x : Unit {0}). Unit {0}) c.check_principals-in-Group.result) (sym c.in-Group.is)
    (subst (λ (n : Named). Passes (first_refusal (principals_with t n)) (λ (x : Unit {0}). Unit {0}) c.check_principals-in-Group.result) c.in-Group.is (c.check_principals-in-Group.ensures.passes told q t s))
