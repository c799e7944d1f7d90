use Rattle.std.proofs.Common.{◌≡◌, [], ◌∷◌, Err, Ok, Result, ap, lit<, pos, refl, subst, sym, ℕ}
use Rattle.sha2.specs.Sha256.{sha256}
use Rattle.store_kv.specs.Tables.{Tables}
use Rattle.store_rows.specs.declared.fail.StoreFail.{StoreFail}
use Rattle.store_rows.specs.declared.fail.StoreFail.TheVariants.{Damaged, Keeper, Memory}
use Rattle.store_abstraction.specs.Fails.{KeeperFailsEdit}
use Rattle.store_abstraction.specs.Operations.{Edits}
use Rattle.store_abstraction.specs.declared.fail.EditFail.{EditFail}
use Rattle.store_abstraction.specs.declared.fail.EditFail.TheVariants.{Store}
use Rattle.store_kv.specs.Draft.{tables_of}
use Rattle.store_kv.specs.Memory.{memory_state}
use Rattle.model.specs.Organisations.{is_secret, org_verdict}
use Rattle.model.specs.Sound.{is_name}
use Rattle.model.specs.World.{World}
use Rattle.model.specs.declared.refusal.Refusal.{Refusal}
use Rattle.store_abstraction.specs.Stands.{Stands}
use Rattle.std.specs.Str.{chars}
use Rattle.cmd_sandbox.specs.Own.{asker, org_name, org_secret}
use Rattle.cmd_sandbox.proofs.organisation.make_org.Goals as goal

abbrev world_in : Result (ℕ × World) Refusal → World
world_in (Ok x) = x.1
world_in (Err why) = []

pub add_org-requires-clause-name : goal.add_org-requires-clause-name
unfolding is_name chars
add_org-requires-clause-name c = refl

pub add_org-requires-clause-secret : goal.add_org-requires-clause-secret
unfolding is_secret
add_org-requires-clause-secret c = refl

pub returns-in-Ok : goal.returns-in-Ok
returns-in-Ok c stands sure now =
    let after = tables_of memory_state c.add_org.new.draft in
    let adds = c.in-Ok.ensures.adds (tt, refl) [] stands refl in
    let is : (asker (pos now)).tenant ∷ [] ≡ adds.0 = ap world_in adds.1 in
    let s = subst (λ (w : World). Stands after w) (sym is) adds.2 in
    record { plan = s.0.org 1; stands = c.local_laws.ensures.each s.0 after ((asker (pos now)).tenant ∷ []) 1 (lit< tt) s.1; sure = (c.in-Ok.ensures.works.reads.steps.sure sure).0; users = refl; user = refl; moment = refl }

pub returns-in-Err-Store : goal.returns-in-Err-Store
returns-in-Err-Store c stands sure now =
    let is = c.in-Err-Store.field-0-is in
    by (tables_of memory_state c.add_org.new.draft) c.in-Err-Store.fail (λ fell. c.in-Err-Store.ensures.cause.never sure (subst (λ (e : EditFail). KeeperFailsEdit {X = ℕ} (Err e)) (sym is) fell))
    (subst (λ (e : EditFail). Edits {X = ℕ} (org_verdict org_name (sha256 org_secret)) [] (tables_of memory_state c.add_org.new.draft) (Err e)) is
    (c.in-Err-Store.ensures.adds (tt, refl) [] stands refl))
  where
    by : (m : Tables) (fail : StoreFail) → (KeeperFailsEdit {X = ℕ} (Err (Store fail)) → ⊥) → Edits {X = ℕ} (org_verdict org_name (sha256 org_secret)) [] m (Err (Store fail)) → fail ≡ Memory
    by m Keeper never edits = absurd (never refl)
    by m Memory never edits = refl
    by m Damaged never edits = absurd edits

-- there is room for one
pub returns : goal.returns
returns c stands sure now =
    let h = subst (λ (e : EditFail). Edits {X = ℕ} (org_verdict org_name (sha256 org_secret)) [] (tables_of memory_state c.add_org.new.draft) (Err e)) c.in-Err-Refused.field-0-is
    (c.in-Err-Refused.ensures.adds (tt, refl) [] stands refl) in
    absurd cc
