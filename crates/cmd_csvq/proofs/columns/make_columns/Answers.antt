use Rattle.std.proofs.Common.{◌∙◌, ◌<◌, ◌+◌, Bool, Ok, ap, arith, drop, length, refl, rules, subst, sym}
use Rattle.std.specs.Prelude.{Option}
use Rattle.csv.specs.Records.{fields_of}
use Rattle.cmd_csvq.specs.Organisation.{with_columns}
use Rattle.cmd_csvq.specs.inner.Making.{Takes}
use Rattle.cmd_csvq.proofs.Cells.{split_at}
use Rattle.cmd_csvq.proofs.Making.{columns_end, columns_stop}
use Rattle.std.proofs.Common.{false}
use Rattle.cmd_csvq.specs.inner.Making.{Goes}
use Rattle.cmd_csvq.proofs.Turns.{goes_out, handed_on}
use Rattle.cmd_csvq.proofs.columns.make_columns.Goals as goal

pub loop-place-init : goal.loop-place-init
loop-place-init c now a made = (a, made, refl)

pub loop-place-preserved : goal.loop-place-preserved
loop-place-preserved c now a made =
    let cells = fields_of c.args.heading.now in
    let place = c.loop-place.place in
    let so_far = c.loop-place.invariant now a made in
    let took = subst (λ (r : Option Bool). Takes now c.take_column.new.draft c.loop-place.named so_far.0 c.cell_at-cell.result.now (Ok r)) c.in-Some.is (c.in_ok-next.ensures now so_far.0 so_far.1) in
    let within : place < length cells = search rules in
    let split = split_at cells place c.cell_at-cell.result.now within c.cell_at-cell.ensures in
    (took.0, took.1, sym (took.2 (drop (place + 1) cells)) ∙ ap (with_columns c.loop-place.named so_far.0) (sym split) ∙ so_far.2)

pub returns-in-None : goal.returns-in-None
returns-in-None c now a made =
    let cells = fields_of c.args.heading.now in
    let place = c.loop-place.place in
    let so_far = c.loop-place.invariant now a made in
    let within : place < length cells = search rules in
    let none = subst (λ (r : Option Bool). Takes now c.take_column.new.draft c.loop-place.named so_far.0 c.cell_at-cell.result.now (Ok r)) c.in-None.is (c.in_ok-next.ensures now so_far.0 so_far.1) in
    columns_stop now c.take_column.new.draft a so_far.0 cells place c.loop-place.named c.cell_at-cell.result.now _
    (split_at cells place c.cell_at-cell.result.now within c.cell_at-cell.ensures) none so_far.2 c.in_ok-from_str-in-None.ensures

pub returns : goal.returns
returns c now a made =
    let so_far = c.loop-place.invariant now a made in
    columns_end now c.loop-place.draft a so_far.0 (fields_of c.args.heading.now) c.loop-place.place c.loop-place.named (omega arith) so_far.2 so_far.1

pub returns-in_err-next : goal.returns-in_err-next
returns-in_err-next c now a made =
    let so_far = c.loop-place.invariant now a made in
    let made = with_columns false a (fields_of c.args.heading.now) in
    handed_on (Goes now c.take_column.new.draft made) c.from_residual.result c.in_err-next.field-0.0 c.from_residual.ensures
    (goes_out now c.take_column.new.draft made c.in_err-next.field-0.0 (c.in_err-next.ensures now so_far.0 so_far.1))
