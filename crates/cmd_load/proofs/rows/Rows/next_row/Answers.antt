use Rattle.std.proofs.Common.{◌≡◌, ◌∙◌, ◌+◌, ◌∷◌, [], List, Some, None, ap, drop, rules, subst, sym, ℕ}
use Rattle.std.specs.Prelude.{slice_get}
use Rattle.csv.specs.Records.{fields_of}
use Rattle.base_csv.specs.Table.{table_of}
use Rattle.cmd_load.specs.Batches.{AskedInTurn}
use Rattle.cmd_load.specs.Inputs.{Unread}
use Rattle.cmd_load.proofs.Reading.{none_there, one_asked, one_there}
use Rattle.cmd_load.proofs.rows.Rows.next_row.Goals as goal

pub returns-in_default-next : goal.returns-in_default-next
returns-in_default-next g c =
    let inside = c.self.inside.records in
    let view = ap (λ (u : Unread). u.left) c.self.view_is in
    let none : None ≡ slice_get (table_of inside.source) inside.read = rw c.in_default-next.is at c.in-Ok.ensures.record in
    (sym view ∙ none_there (table_of inside.source) inside.read none, search rules, search rules)

pub returns : goal.returns
returns g c =
    let inside = c.self.inside.records in
    let new = c.next.new.self in
    let cells = fields_of c.in-Some.cells in
    let view = ap (λ (u : Unread). u.left) c.self.view_is in
    let some : Some cells ≡ slice_get (table_of inside.source) inside.read = rw c.in-Some.is at c.in-Ok.ensures.record in
    let more : new.read ≡ inside.read + 1 = rw c.in-Some.is at c.in-Ok.ensures.read in
    let number : c.read-number.result ≡ c.args.self.now.number = search rules in (
      sym view
          ∙ (one_there (table_of inside.source) inside.read cells some
          ∙ (ap (λ (n : ℕ). cells ∷ drop n (table_of inside.source)) (sym more) ∙ ap (λ (s : List ℕ). cells ∷ drop new.read (table_of s)) (sym c.next.ensures.source))),
      search rules,
      number,
      subst (λ (n : ℕ). AskedInTurn (g.C.Clock.coming c.args.clock.now) (g.C.Clock.coming c.now-moment.new.self) c.args.self.now.number (record { number = n; cells = cells; moment = c.now-moment.result } ∷ [])) (sym number)
          (one_asked (g.C.Clock.coming c.args.clock.now) (g.C.Clock.coming c.now-moment.new.self) c.args.self.now.number c.now-moment.result cells c.now-moment.ensures.first c.now-moment.ensures.asked),
    )
