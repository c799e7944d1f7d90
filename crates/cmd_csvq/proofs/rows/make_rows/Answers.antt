use Rattle.std.proofs.Common.{◌∙◌, Err, List, Ok, Result, subst, sym, ℕ}
use Rattle.csv.specs.Records.{fields_of}
use Rattle.model.specs.declared.refusal.Refusal.{Refusal}
use Rattle.store_abstraction.specs.declared.layout.Layout.{Layout}
use Rattle.cmd_csvq.specs.Organisation.{object_name}
use Rattle.cmd_csvq.proofs.Making.{first_refused, no_rows}
use Rattle.cmd_sandbox.specs.Making.{IsLayoutFound}
use Rattle.cmd_csvq.proofs.rows.make_rows.Goals as goal

abbrev Found : Type 0
Found = Result Layout Refusal

pub returns-then-is_empty : goal.returns-then-is_empty
returns-then-is_empty c a made =
    no_rows c.args.now c.args.draft.now (fields_of c.args.heading.now) a c.args.rows.now (sym c.is_empty.ensures ∙ c.if-is_empty.true) made

pub returns-in-Ok-Ok : goal.returns-in-Ok-Ok
returns-in-Ok-Ok c a made =
    let m = c.ready_object.new.draft in
    let found = subst (λ (name : List ℕ). IsLayoutFound c.args.now m name a c.ready_object.result) c.in_ok-object.ensures (c.ready_object.ensures.found c.args.now a made) in
    let there = subst (IsLayoutFound c.args.now m object_name a) c.in-Ok-Ok.is found in
    c.make_rows_of.ensures a (subst (λ (x : Found). IsLayoutFound c.args.now m object_name a (Ok x)) c.in-Ok-Ok.field-0-is there)

pub returns-in-Ok-Err : goal.returns-in-Ok-Err
returns-in-Ok-Err c a made =
    let m = c.ready_object.new.draft in
    let found = subst (λ (name : List ℕ). IsLayoutFound c.args.now m name a c.ready_object.result) c.in_ok-object.ensures (c.ready_object.ensures.found c.args.now a made) in
    let there = subst (IsLayoutFound c.args.now m object_name a) c.in-Ok-Err.is found in
    first_refused c.args.now m (fields_of c.args.heading.now) a c.args.rows.now c.in-Ok-Err.refusal (sym c.is_empty.ensures ∙ c.if-is_empty.false)
    (subst (λ (x : Found). IsLayoutFound c.args.now m object_name a (Ok x)) c.in-Ok-Err.field-0-is there)

pub returns : goal.returns
returns c a made =
    c.in-Err.fail-is ∙ subst (λ (name : List ℕ). IsLayoutFound c.args.now c.ready_object.new.draft name a (Err c.in-Err.fail)) c.in_ok-object.ensures (c.in-Err.ensures.found c.args.now a made)
