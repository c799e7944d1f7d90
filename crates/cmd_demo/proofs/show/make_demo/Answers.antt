use Rattle.std.proofs.Common.{Err, [], pos, subst, sym}
use Rattle.store_kv.specs.Tables.{Tables}
use Rattle.cmd_sandbox.proofs.Fresh.{never_fails, no_tables}
use Rattle.store_abstraction.specs.Stands.{Stands}
use Rattle.store_abstraction.specs.declared.fail.EditFail.{EditFail}
use Rattle.cmd_demo.specs.Demos.{demo_outcome}
use Rattle.cmd_demo.specs.inner.Coming.{Returns}
use Rattle.cmd_demo.proofs.Watching.{returned_err, returned_ok}
use Rattle.cmd_demo.proofs.show.make_demo.Goals as goal

pub returns-in-Ok : goal.returns-in-Ok
returns-in-Ok c =
    let stands = subst (λ (m : Tables). Stands m []) (sym (no_tables c.new-draft.result _ c.new-draft.ensures.empty c.new-draft.ensures.same c.in_ok-keeper.ensures.no_rows)) c.stands_laws.ensures.empty in
    returned_ok (demo_outcome c.args.count (pos c.args.now)) c.in-Ok.demo (c.in-Ok.ensures stands (never_fails c.new-draft.result _ c.new-draft.ensures.same c.in_ok-keeper.ensures.failing))

pub returns-in-Err-Refused : goal.returns-in-Err-Refused
returns-in-Err-Refused c =
    let stands = subst (λ (m : Tables). Stands m []) (sym (no_tables c.new-draft.result _ c.new-draft.ensures.empty c.new-draft.ensures.same c.in_ok-keeper.ensures.no_rows)) c.stands_laws.ensures.empty in
    let due = demo_outcome c.args.count (pos c.args.now) in
    returned_err due c.in-Err-Refused.refusal (subst (λ (e : EditFail). Returns due (Err e)) c.in-Err-Refused.field-0-is (c.in-Err-Refused.ensures stands (never_fails c.new-draft.result _ c.new-draft.ensures.same c.in_ok-keeper.ensures.failing)))
