use Rattle.std.proofs.Common.{◌∙◌, List, Some, ap, lit<, subst, sym, ℕ}
use Rattle.store_edit.proofs.Making.{changed_at}
use Rattle.store_edit.specs.Edits.{FailsBy}
use Rattle.store_edit.specs.declared.decided.Decided.{Decided}
use Rattle.store_kv.specs.Draft.{tables_of}
use Rattle.store_kv.specs.Memory.{memory_state}
use Rattle.store_kv.specs.Tables.{after}
use Rattle.model.specs.Creates.{create}
use Rattle.model.specs.Verdict.{made_new}
use Rattle.cmd_sandbox.specs.Own.{refusal_of}
use Rattle.cmd_sandbox.proofs.Laying.{laid_out}
use Rattle.cmd_sandbox.proofs.Sure.{never_fell, only_memory, read_same, read_sure}
use Rattle.record_save.specs.Creating.{PlansNew}
use Rattle.cmd_sandbox.proofs.records.make_record_of.Goals as goal

pub returns-in-Ok-make_changes : goal.returns-in-Ok-make_changes
returns-in-Ok-make_changes c name a laid =
    let given = c.args.given.now in
    let m = tables_of memory_state c.args.draft.now in
    let then = tables_of memory_state c.make_changes.new.draft in
    let same = read_same 168 _ c.args.draft.now c.decide_record.new.draft c.decide_record.ensures.calls in
    let sure = read_sure 168 _ c.args.draft.now c.decide_record.new.draft c.decide_record.ensures.calls laid.owned.sure in
    let laws = c.local_laws.ensures in
    laid_out a name given c.args.now c.args.draft.now c.make_changes.new.draft c.args.layout.now c.in-Ok.decided.answer laid
    (changed_at laws.edited laws.kept 1 (lit< tt) m then (λ (id : List ℕ). made_new id) PlansNew laid.owned.plan a.tenant (create a name given) c.in-Ok.decided laid.owned.stands
    (c.in-Ok.ensures.decided name a laid) (c.in-Ok-make_changes.ensures.ok ∙ ap (after c.in-Ok.decided.changes.items) same))
    (c.make_changes.ensures.works.reads.steps.sure sure).0

pub returns-in-Err-Refused : goal.returns-in-Err-Refused
returns-in-Err-Refused c name a laid =
    ap refusal_of (subst (FailsBy (create a name c.args.given.now)) c.in-Err-Refused.field-0-is (c.in-Err-Refused.ensures.decided name a laid))
    ∙ ap Some (sym c.in-Err-Refused.refusal-is)

pub returns-in-Err-Store : goal.returns-in-Err-Store
returns-in-Err-Store c name a laid =
    let is = c.in-Err-Store.field-0-is in
    c.in-Err-Store.fail-is
    ∙ only_memory c.in-Err-Store.fail (never_fell (Decided (List ℕ)) c.in-Err-Store.field-0 c.in-Err-Store.fail is (c.in-Err-Store.ensures.calls.cause.never laid.owned.sure))
    (subst (FailsBy (create a name c.args.given.now)) is (c.in-Err-Store.ensures.decided name a laid))
