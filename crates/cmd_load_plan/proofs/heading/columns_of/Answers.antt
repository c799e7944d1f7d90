use Rattle.std.proofs.Common.{◌≡◌, ◌∙◌, ◌+◌, [], Bor, List, ap, drop, false, get_or, map, sym, true, ℕ}
use Rattle.schema_rules.specs.Objects.{numbered_in}
use Rattle.cmd_load_plan.specs.declared.plan.LoadColumn.{LoadColumn}
use Rattle.cmd_load_plan.specs.Columns.{columns_behind, gives_field}
use Rattle.cmd_load_plan.proofs.Planning.{cells_none, cells_split, ends_with, given_before, goes_on, no_column, one_column, stops_at}
use Rattle.cmd_load_plan.proofs.heading.columns_of.Goals as goal

abbrev blank : Bor (List ℕ)
blank = record { ref_ptr = (0, 0); now = [] }

abbrev texts : List (Bor (List ℕ)) → List (List ℕ)
texts xs = map (λ (x : Bor (List ℕ)). x.now) xs

pub cells-init : goal.cells-init
cells-init c q t are =
    ap (λ (cs : List LoadColumn). columns_behind t (numbered_in c.args.layout.now) cs (texts c.args.heading.now)) c.new-columns.ensures.items

pub returns-in_default : goal.returns-in_default
returns-in_default c q t are =
    let o = numbered_in c.args.layout.now in
    let heading = c.args.heading.now in
    let i = c.cells.cell-index in
    let before = c.cells.columns.items in
    let cell = (get_or heading i blank).now in
    stops_at (columns_behind t o [] (texts heading)) t o before (texts (drop i heading)) (texts (drop (i + 1) heading)) cell c.in_ok-from_str.field-0
    (c.cells.invariant q t are) (cells_split heading i blank c.cells-test.true)
    (no_column t o before cell (texts (drop (i + 1) heading)) (sym c.in_default.is ∙ c.in_ok-named.ensures q t are)) c.in_ok-from_str.ensures

pub returns-then-gives_field : goal.returns-then-gives_field
returns-then-gives_field c q t are =
    let o = numbered_in c.args.layout.now in
    let heading = c.args.heading.now in
    let i = c.cells.cell-index in
    let before = c.cells.columns.items in
    let cell = (get_or heading i blank).now in
    let column = c.in-Some.column in
    let again : gives_field before column.field ≡ true =
    ap (λ (cs : List LoadColumn). gives_field cs column.field) (sym {A = List LoadColumn} c.as_slice.ensures.value) ∙ sym c.gives_field.ensures ∙ c.if-gives_field.true in
    stops_at (columns_behind t o [] (texts heading)) t o before (texts (drop i heading)) (texts (drop (i + 1) heading)) cell c.in_ok-from_str-2.field-0
    (c.cells.invariant q t are) (cells_split heading i blank c.cells-test.true)
    (given_before t o before cell (texts (drop (i + 1) heading)) column (sym c.in-Some.is ∙ c.in_ok-named.ensures q t are) again) c.in_ok-from_str-2.ensures

pub cells-preserved : goal.cells-preserved
cells-preserved c q t are =
    let o = numbered_in c.args.layout.now in
    let heading = c.args.heading.now in
    let i = c.cells.cell-index in
    let before = c.cells.columns.items in
    let cell = (get_or heading i blank).now in
    let column = c.in-Some.column in
    let new : gives_field before column.field ≡ false =
    ap (λ (cs : List LoadColumn). gives_field cs column.field) (sym {A = List LoadColumn} c.as_slice.ensures.value) ∙ sym c.gives_field.ensures ∙ c.if-gives_field.false in
    goes_on (columns_behind t o [] (texts heading)) t o before c.push.new.self.items (texts (drop i heading)) (texts (drop (i + 1) heading)) cell column
    (c.cells.invariant q t are) (cells_split heading i blank c.cells-test.true)
    (one_column t o before cell (texts (drop (i + 1) heading)) column (sym c.in-Some.is ∙ c.in_ok-named.ensures q t are) new) c.in_ok-push.ensures.items

pub returns : goal.returns
returns c q t are =
    let o = numbered_in c.args.layout.now in
    let heading = c.args.heading.now in
    let i = c.cells.cell-index in
    ends_with (columns_behind t o [] (texts heading)) t o c.cells.columns.items c.from_vec.result (texts (drop i heading))
    (c.cells.invariant q t are) (cells_none heading i c.cells-test.false) c.from_vec.ensures
