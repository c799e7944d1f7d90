use Rattle.std.proofs.Common.{◌<◌, Ok, Option, arith, length, map, refl, rules, subst}
use Rattle.base_lemmas.proofs.Options.{none_from_no_some as nothing_there}
use Rattle.csv.specs.Records.{fields_of}
use Rattle.model.specs.Creates.{create}
use Rattle.model.specs.declared.refusal.Refusal.{Refusal}
use Rattle.cmd_sandbox.specs.Own.{past}
use Rattle.cmd_csvq.specs.Organisation.{given_of, object_name, with_rows}
use Rattle.cmd_sandbox.specs.Making.{StepsLaidOut}
use Rattle.cmd_csvq.proofs.Making.{rows_end, rows_on, rows_stop}
use Rattle.cmd_csvq.specs.inner.Making.{Goes}
use Rattle.cmd_csvq.proofs.Turns.{goes_out, handed_on}
use Rattle.cmd_csvq.proofs.rows.make_rows_of.Goals as goal

pub loop-place-init : goal.loop-place-init
loop-place-init c a made = (a, made, refl)

pub loop-place-preserved : goal.loop-place-preserved
loop-place-preserved c a made =
    let heading = fields_of c.args.heading.now in
    let place = c.loop-place.place in
    let row = c.index-rows-place.result in
    let so_far = c.loop-place.invariant a made in
    let v = create so_far.0 object_name (given_of heading (fields_of row)) in
    let within : place < length c.args.rows.now = search rules in
    let h = subst (λ (r : Option Refusal). StepsLaidOut c.args.now c.make_row.new.draft object_name c.args.layout.now so_far.0 v (Ok r))
    (nothing_there c.in_ok-refusal.field-0 c.in_default.not-Some) (c.in_ok-refusal.ensures so_far.0 so_far.1) in
    (past so_far.0 v, h.1, rows_on c.args.now heading a so_far.0 c.args.rows.now place row within c.index-rows-place.is so_far.2 h.0)

pub returns-in-Some : goal.returns-in-Some
returns-in-Some c a made =
    let heading = fields_of c.args.heading.now in
    let place = c.loop-place.place in
    let row = c.index-rows-place.result in
    let so_far = c.loop-place.invariant a made in
    let v = create so_far.0 object_name (given_of heading (fields_of row)) in
    let within : place < length c.args.rows.now = search rules in
    let h = subst (λ (r : Option Refusal). StepsLaidOut c.args.now c.make_row.new.draft object_name c.args.layout.now so_far.0 v (Ok r))
    c.in-Some.is (c.in_ok-refusal.ensures so_far.0 so_far.1) in
    rows_stop c.args.now heading a so_far.0 c.args.rows.now place row within c.index-rows-place.is so_far.2 c.make_row.new.draft c.in-Some.refusal _ refl h

pub returns : goal.returns
returns c a made =
    let so_far = c.loop-place.invariant a made in
    rows_end c.args.now c.loop-place.draft (fields_of c.args.heading.now) a so_far.0 c.args.rows.now c.loop-place.place (omega arith) so_far.2 so_far.1.owned

pub returns-in_err-refusal : goal.returns-in_err-refusal
returns-in_err-refusal c a made =
    let so_far = c.loop-place.invariant a made in
    let due = with_rows (fields_of c.args.heading.now) 1 a (map fields_of c.args.rows.now) in
    handed_on (Goes c.args.now c.make_row.new.draft due) c.from_residual.result c.in_err-refusal.field-0.0 c.from_residual.ensures
    (goes_out c.args.now c.make_row.new.draft due c.in_err-refusal.field-0.0 (c.in_err-refusal.ensures so_far.0 so_far.1))
