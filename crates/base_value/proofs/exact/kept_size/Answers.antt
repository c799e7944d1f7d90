use Rattle.std.proofs.Common.{◌<◌, ◌≤◌, arith}
use Rattle.base_value.specs.inner.Mantissas.{places_up, places_down}
use Rattle.base_value.proofs.Sizes.{size_zero, sized, unsized}
use Rattle.base_value.proofs.exact.kept_size.Goals as goal

pub returns-then-kept-eq0-clause-value : goal.returns-then-kept-eq0-clause-value
returns-then-kept-eq0-clause-value c = λ n t h e. size_zero c.args.kept c.args.zeros n c.args.places h c.args.down t c.if-kept-eq0.true

pub returns-then-up-below-clause-value : goal.returns-then-up-below-clause-value
returns-then-up-below-clause-value c = λ n t h e.
    let some : 0 < c.args.kept = omega arith in
    let lt : places_up c.args.down c.args.zeros c.args.power < places_down c.args.down c.args.places c.args.power = rw (← c.places_up-up.ensures, ← c.places_down-below.ensures) c.if-up-below.true in
    unsized c.args.kept c.args.zeros n c.args.places h c.args.down c.args.power t e some c.requires.zeros c.requires.places lt

pub returns-clause-value : goal.returns-clause-value
returns-clause-value c = λ n t h e.
    let some : 0 < c.args.kept = omega arith in
    let le : places_down c.args.down c.args.places c.args.power ≤ places_up c.args.down c.args.zeros c.args.power = rw (← c.places_up-up.ensures, ← c.places_down-below.ensures) c.if-up-below.false in
    sized c.args.kept c.args.zeros n c.args.places h c.args.down c.args.power t c.scale.result e some c.requires.zeros c.requires.places le (rw (← c.places_up-up.ensures, ← c.places_down-below.ensures) c.scale.ensures)
