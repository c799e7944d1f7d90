use Rattle.std.proofs.Common.{Ok, Result, subst}
use Rattle.model.specs.Creates.{create}
use Rattle.model.specs.declared.refusal.Refusal.{Refusal}
use Rattle.cmd_sandbox.specs.Making.{IsLayoutFound}
use Rattle.cmd_sandbox.proofs.Laying.{step_owned_by}
use Rattle.store_abstraction.specs.declared.layout.Layout.{Layout}
use Rattle.cmd_sandbox.proofs.records.make_record.Goals as goal

abbrev Found : Type 0
Found = Result Layout Refusal

pub returns-in-Ok-Ok : goal.returns-in-Ok-Ok
returns-in-Ok-Ok c a made =
    let name = c.args.object.now in
    let m = c.ready_object.new.draft in
    let found = subst (IsLayoutFound c.args.now m name a) c.in-Ok-Ok.is (c.ready_object.ensures.found c.args.now a made) in
    step_owned_by c.args.now c.make_record_of.new.draft name c.in-Ok-Ok.layout a (create a name c.args.given.now) c.make_record_of.result
    (c.make_record_of.ensures name a (subst (λ (x : Found). IsLayoutFound c.args.now m name a (Ok x)) c.in-Ok-Ok.field-0-is found))

pub returns-in-Ok-Err : goal.returns-in-Ok-Err
returns-in-Ok-Err c a made =
    let name = c.args.object.now in
    let m = c.ready_object.new.draft in
    let found = subst (IsLayoutFound c.args.now m name a) c.in-Ok-Err.is (c.ready_object.ensures.found c.args.now a made) in
    subst (λ (x : Found). IsLayoutFound c.args.now m name a (Ok x)) c.in-Ok-Err.field-0-is found c.args.given.now

pub returns-in-Err : goal.returns-in-Err
returns-in-Err c a made = c.in-Err.ensures.found c.args.now a made
