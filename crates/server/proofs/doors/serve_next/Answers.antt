use Rattle.std.proofs.Common.{◌≡◌, arith, true, rules, sym, ap, subst, ◌∙◌, Ok}
use Rattle.std.proofs.lemmas.Result.{err_from_is_err_and}
use Rattle.base_io.specs.Doors.{Nexts}
use Rattle.base_io.specs.declared.traits.IoFail.{IoFail}
use Rattle.server.specs.Doors.{BringsTo, NextEnds}
use Rattle.server.specs.Falls.{FallsBringing, OutputsUndone}
use Rattle.server.proofs.Bringing.{next_fell, undone_by_failure, undone_by_none, undone_by_one}
use Rattle.server.proofs.Fallen.{not_fell}
use Rattle.server.proofs.Brought.{next_true, next_false, next_failed, rose_by, later_by}
use Rattle.server.proofs.doors.serve_next.Goals as goal

pub returns-in_err-next-clause-serves : goal.returns-in_err-next-clause-serves
returns-in_err-next-clause-serves g c told sense w d moments s e asked =
    let state = g.K.Keeper.state in
    let held = g.D.Door.held in
    let faults = g.D.Door.line_faults in
    let old = c.args.door.now in
    let new = c.next.new.self in
    let coming = g.C.Clock.coming c.args.clock.now in
    let k = state c.args.keeper.now in
    let same = c.next.ensures.line_faults in
    let p = err_from_is_err_and c.from_residual.result c.from_residual.ensures.1 in
    subst (λ r. BringsTo sense w moments d (NextEnds r) coming (held new) (faults old) (faults new) k k) (sym p.1)
    (next_failed sense w moments d (held old) (held new) coming (faults old) (faults new) k told.0 s (omega (arith, same)) e asked p.0 c.in_err-next.ensures.next)

pub returns-then-not-branch-clause-serves : goal.returns-then-not-branch-clause-serves
returns-then-not-branch-clause-serves g c told sense w d moments s e asked =
    let held = g.D.Door.held in
    let faults = g.D.Door.line_faults in
    let old = c.args.door.now in
    let new = c.next.new.self in
    let same = c.next.ensures.line_faults in
    next_false sense w moments d (held old) (held new) (g.C.Clock.coming c.args.clock.now) (faults old) (faults new) (g.K.Keeper.state c.args.keeper.now) told.0 s (omega (arith, same)) e asked
    (rw c.if-not-branch.true at c.in_ok-next.ensures.next)

pub returns-clause-serves : goal.returns-clause-serves
returns-clause-serves g c told sense w d moments s e asked =
    let state = g.K.Keeper.state in
    let held = g.D.Door.held in
    let faults = g.D.Door.line_faults in
    let connection = c.connection-ended in
    let old = state c.args.keeper.now in
    let new = state connection.new.keeper in
    let coming = g.C.Clock.coming connection.new.clock in
    let first = c.args.door.now in
    let begun = c.new-wire.result.door.now in
    let over = connection.new.wire.door.now in
    let same : faults begun ≡ faults first = ap faults c.new-wire.ensures.held ∙ c.next.ensures.line_faults in
    let brings : BringsTo sense w moments d (NextEnds (Ok true)) coming (held over) (faults first) (faults over) old new =
    next_true sense w moments old new coming (faults first) (faults over) (later_by (faults first) (faults begun) (faults over) _ same connection.ensures.reads) d (held first) (held begun) (held over) connection.result e
    (subst (λ x. Nexts {E = IoFail} (held first) (held x) (Ok true)) (sym c.new-wire.ensures.held) (rw c.if-not-branch.false at c.in_ok-next.ensures.next))
    (rose_by connection.result (faults first) (faults begun) (faults over) same connection.ensures.reads connection.ensures.writes)
    connection.ensures.stays.1
    (λ input i. connection.ensures.serves told sense w moments input s asked i) in
    subst (λ x. BringsTo sense w moments d (NextEnds (Ok true)) coming (held x) (faults first) (faults x) old new) (search rules) brings

pub returns-in_err-next-clause-falls : goal.returns-in_err-next-clause-falls
returns-in_err-next-clause-falls g c fell w d moments s e asked = absurd (not_fell (g.K.Keeper.state c.args.keeper.now) fell)

pub returns-then-not-branch-clause-falls : goal.returns-then-not-branch-clause-falls
returns-then-not-branch-clause-falls g c fell w d moments s e asked = absurd (not_fell (g.K.Keeper.state c.args.keeper.now) fell)

pub returns-clause-falls : goal.returns-clause-falls
returns-clause-falls g c fell w d moments s e asked =
    let held = g.D.Door.held in
    let connection = c.connection-ended in
    let new = g.K.Keeper.state connection.new.keeper in
    let first = c.args.door.now in
    let begun = c.new-wire.result.door.now in
    let over = connection.new.wire.door.now in
    let brings : FallsBringing w moments d (held over) new =
    next_fell w moments new d (held first) (held begun) (held over) e
    (subst (λ x. Nexts {E = IoFail} (held first) (held x) (Ok true)) (sym c.new-wire.ensures.held) (rw c.if-not-branch.false at c.in_ok-next.ensures.next))
    connection.ensures.stays.1
    (λ input i. connection.ensures.falls fell w moments input s asked i) in
    subst (λ x. FallsBringing w moments d (held x) new) (search rules) brings

pub returns-in_err-next-clause-undone : goal.returns-in_err-next-clause-undone
returns-in_err-next-clause-undone g c shut clean = undone_by_failure (g.D.Door.held c.args.door.now) (g.D.Door.held c.next.new.self) _ c.in_err-next.ensures.next

pub returns-then-not-branch-clause-undone : goal.returns-then-not-branch-clause-undone
returns-then-not-branch-clause-undone g c shut clean = undone_by_none (g.D.Door.held c.args.door.now) (g.D.Door.held c.next.new.self) (rw c.if-not-branch.true at c.in_ok-next.ensures.next)

pub returns-clause-undone : goal.returns-clause-undone
returns-clause-undone g c shut clean =
    let held = g.D.Door.held in
    let connection = c.connection-ended in
    let first = c.args.door.now in
    let begun = c.new-wire.result.door.now in
    let over = connection.new.wire.door.now in
    let undone : OutputsUndone (held first) (held over) =
    undone_by_one (held first) (held begun) (held over)
    (subst (λ x. Nexts {E = IoFail} (held first) (held x) (Ok true)) (sym c.new-wire.ensures.held) (rw c.if-not-branch.false at c.in_ok-next.ensures.next))
    connection.ensures.stays.1 (connection.ensures.undone shut clean) in
    subst (λ x. OutputsUndone (held first) (held x)) (search rules) undone
