use Rattle.std.proofs.Common.{◌∷◌, ◌++◌, ◌∙◌, List, ℕ, ap, map, sym}
use Rattle.std.specs.Prelude.{codes}
use Rattle.std.specs.Str.{chars}
use Rattle.query_plan.specs.Shown.{child_text, shown_text}
use Rattle.query_plan.specs.declared.plan.Child.{Child}
use Rattle.query_plan.specs.declared.plan.Member.{Member}
use Rattle.query_plan.specs.declared.plan.Shown.{Shown}
use Rattle.base_json.specs.Printing.{printed_text}
use Rattle.model.specs.RowsJson.{children_json, member_json}
use Rattle.query_json.specs.row.Shows.{shows}
use Rattle.query_json.proofs.Pieces.{puts_after, puts_same}
use Rattle.query_json.proofs.row.rows.write_part.Goals as goal

pub returns-in_ok-write_member_start-in-Children : goal.returns-in_ok-write_member_start-in-Children
returns-in_ok-write_member_start-in-Children g c r is =
    let name = chars c.as_str.result.now in
    let object = chars c.as_str-in-Children.result.now in
    let members = c.as_slice.result.now in
    let found = c.children_at-found.result.now in
    let rows = λ (object : List ℕ) (members : List Member) (found : List Child). children_json (map (child_text shows object members) found) in
    let text = λ (name object : List ℕ) (members : List Member) (found : List Child). 44 ∷ member_json name (rows object members found) in
    puts_same c.args.writer.now c.write_children.new.writer c.write_children.result
    (ap (λ (n : List ℕ). text n object members found) c.as_str.ensures.characters
    ∙ ap (λ (o : List ℕ). text c.in-Children.name o members found) c.as_str-in-Children.ensures.characters
    ∙ ap (λ (ms : List Member). text c.in-Children.name c.in-Children.object ms found) c.as_slice.ensures
    ∙ ap (λ (kids : List Child). text c.in-Children.name c.in-Children.object c.in-Children.members kids) c.children_at-found.ensures
    ∙ ap (λ (p : Shown). 44 ∷ shown_text shows c.args.parents.now c.args.children.now r p) (sym c.in-Children.is))
    (puts_after c.args.writer.now c.write_member_start.new.writer c.write_children.new.writer (44 ∷ (printed_text name ++ codes ":")) (rows object members found) c.write_children.result
    c.in_ok-write_member_start-in-Children.ensures c.write_children.ensures)
