use Rattle.std.proofs.Common.{◌<◌, ◌∙◌, ap, arith, length}
use Rattle.base_csv.specs.Progress.{Progress}
use Rattle.base_csv.specs.Table.{first_refused}
use Rattle.base_csv.proofs.Fits.{refused-later}
use Rattle.base_csv.proofs.records.Records.next.Goals as goal

pub returns-in-Ok-Some-clause-later : goal.returns-in-Ok-Some-clause-later
returns-in-Ok-Some-clause-later c row e =
    let source = ap (λ (p : Progress). p.source) c.self.view_is in
    let read = ap (λ (p : Progress). p.read) c.self.view_is in
    let s = rw c.in-Ok-Some.field-0-is at c.in-Ok-Some.ensures.stands in
    let some : 0 < length s.all = omega (arith, s.number) in
    let back = refused-later c.self.inside.source.now _ s.rest s.all row s.marks s.reached some s.fit (ap first_refused source ∙ e) in
    omega (arith, back, s.number, read)
