use Rattle.std.proofs.Common.{◌≡◌, ◌++◌, ◌+◌, Bor, List, ℕ, length, map, subst, sym, true}
use Rattle.std.proofs.lemmas.List.{length_push}
use Rattle.std.proofs.lemmas.Slice.Zip.{zip_end, zip_turn}
use Rattle.std.specs.Iterator.Adapters.{zip_first, zip_second}
use Rattle.std.specs.List.{list_all}
use Rattle.std.specs.Slice.Iter.{iter_rest}
use Rattle.model.specs.declared.record_bodies.Assignment.{Assignment}
use Rattle.cmd_load_plan.specs.Rows.{given_row, has_characters}
use Rattle.cmd_load_plan.proofs.Giving.{given_end, given_more, more_spelled, none_left, one_given, rest_given}
use Rattle.cmd_load_plan.proofs.rows.row_values.Goals as goal

pub loop-column-preserved : goal.loop-column-preserved
loop-column-preserved c =
    let columns = c.args.columns.now in
    let cells = c.args.cells.now in
    let n = length c.loop-column.yielded in
    let all = given_row columns (map (λ (x : Bor (List ℕ)). x.now) cells) in
    let first : iter_rest (zip_first c.into_iter-column-iterator.result) ≡ columns = cc in
    let second : iter_rest (zip_second c.into_iter-column-iterator.result) ≡ cells = cc in
    let turn = zip_turn columns cells c.loop-column.yielded c.into_iter-column-iterator.result c.loop-column.column-iterator c.next.new.self c.next.result first second c.loop-column.yielded_by (c.in-Some.column, c.in-Some.cell) c.in-Some.is c.next.ensures.steps in
    let one = one_given columns cells n c.in-Some.column.now c.in-Some.cell.now turn.0 turn.1 (turn.2 c.in-Some.column.now) (turn.3 c.in-Some.cell.now) in
    record {
      same = subst (λ (m : ℕ). c.push.new.self.items ++ rest_given columns cells m ≡ all) (sym (length_push c.loop-column.yielded (c.in-Some.column, c.in-Some.cell)))
          (given_more c.loop-column.given.items c.push.new.self.items (rest_given columns cells n) (rest_given columns cells (n + 1)) all _ _ c.loop-column.invariant.same one c.in_ok-assignment.ensures.same c.in_ok-push.ensures.items);
      spelled = subst (λ (g : List Assignment). list_all (λ y. has_characters y.given) g ≡ true) (sym {A = List Assignment} c.in_ok-push.ensures.items)
          (more_spelled c.loop-column.given.items c.in_ok-assignment.field-0 c.loop-column.invariant.spelled c.in_ok-assignment.ensures.spelled);
    }

pub returns : goal.returns
returns c =
    let columns = c.args.columns.now in
    let cells = c.args.cells.now in
    let first : iter_rest (zip_first c.into_iter-column-iterator.result) ≡ columns = cc in
    let second : iter_rest (zip_second c.into_iter-column-iterator.result) ≡ cells = cc in
    let end = zip_end columns cells c.loop-column.yielded c.into_iter-column-iterator.result c.loop-column.column-iterator c.next.new.self c.next.result first second c.loop-column.yielded_by c.in-None.is c.next.ensures.steps in
    record {
      same = given_end c.loop-column.given.items _ _ c.loop-column.invariant.same (none_left columns cells (length c.loop-column.yielded) end);
      spelled = c.loop-column.invariant.spelled;
    }
