use Rattle.std.proofs.Common.{◌≡◌, arith, subst, sym, true, List}
use Rattle.std.specs.List.{list_all}
use Rattle.csv.specs.Records.{fields_of}
use Rattle.model.specs.declared.record_bodies.Assignment.{Assignment}
use Rattle.model_invariant.specs.Fit.{is_spelled}
use Rattle.cmd_csvq.proofs.Cells.{given_end, given_more, no_cell, no_name, none_left, one_given, rest_given, spelled_more}
use Rattle.cmd_csvq.proofs.given.given_of.Goals as goal

pub returns-in_default-clause-same : goal.returns-in_default-clause-same
returns-in_default-clause-same c =
    given_end c.loop-place.given.items _ _ c.loop-place.invariant.same (no_name (fields_of c.args.heading.now) (fields_of c.args.row.now) c.loop-place.place c.in_default.ensures.value)

pub returns-in_default-get-clause-same : goal.returns-in_default-get-clause-same
returns-in_default-get-clause-same c =
    given_end c.loop-place.given.items _ _ c.loop-place.invariant.same (no_cell (fields_of c.args.heading.now) (fields_of c.args.row.now) c.loop-place.place c.in_default-get.ensures.value)

pub loop-place-preserved : goal.loop-place-preserved
loop-place-preserved c =
    let hs = fields_of c.args.heading.now in
    let cs = fields_of c.args.row.now in
    let place = c.loop-place.place in
    record {
      same = given_more c.loop-place.given.items c.push.new.self.items (rest_given hs cs place) _ _ _ c.in_ok-assignment.field-0 c.loop-place.invariant.same
          (one_given hs cs place c.in-Some.name.now c.in-Some-get.cell.now _ (omega arith) c.in-Some.ensures.value c.in-Some-get.ensures.value) c.in_ok-assignment.ensures.same c.in_ok-push.ensures.items;
      spelled = subst (λ (g : List Assignment). list_all (λ y. is_spelled y.given) g ≡ true) (sym c.in_ok-push.ensures.items)
          (spelled_more c.loop-place.given.items c.in_ok-assignment.field-0 c.loop-place.invariant.spelled c.in_ok-assignment.ensures.spelled);
    }

pub returns-clause-same : goal.returns-clause-same
returns-clause-same c =
    given_end c.loop-place.given.items _ _ c.loop-place.invariant.same (none_left (fields_of c.args.heading.now) (fields_of c.args.row.now) c.loop-place.place (omega arith))
