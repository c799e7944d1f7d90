use Rattle.std.proofs.Common.{◌+◌, ◌<◌, List, Ok, length, subst}
use Rattle.store_kv.specs.Draft.{tables_of}
use Rattle.store_kv.specs.Tables.{Tables}
use Rattle.model.specs.Rules.{Rule}
use Rattle.access_traits.specs.Rights.{Whose}
use Rattle.store_abstraction.specs.declared.layout.FieldPlace.{FieldPlace}
use Rattle.record_constraints.specs.Judged.{FindsRule}
use Rattle.record_constraints.specs.inner.Clashes.{clash_at, clashes_from}
use Rattle.record_constraints.proofs.Clashing.{finds_next, finds_stop}
use Rattle.record_constraints.proofs.duplicates.+clashes_from.Goals as goal

pub returns-in-Ok-None-clause-finds : goal.returns-in-Ok-None-clause-finds
returns-in-Ok-None-clause-finds g t c told =
    let a = c.args.draft.now in
    let l = c.args.layout.now in
    let whose : Whose = g.R.Rights.whose c.args.rights.now in
    let new = c.args.new.now in
    let number = c.args.number in
    let m = tables_of g.K.Keeper.state a in
    let within = subst (λ (fs : List FieldPlace). number < length fs) c.as_slice.ensures c.if-number-as_slice.true in
    let tell = c.draft_laws.ensures.both 4 4 a c.clash_at.new.draft c.clashes_from.new.draft c.clash_at.ensures.calls.reads c.clashes_from.ensures.calls.reads told in
    let none = subst (λ (x : Rule). FindsRule l whose (clash_at l new number) m (Ok x)) c.in-Ok-None.field-0-is (c.in-Ok-None.ensures.finds tell.0) in
    finds_next l new number within whose m none c.clashes_from.result
    (subst (λ (x : Tables). FindsRule l whose (clashes_from l new (number + 1)) x c.clashes_from.result) tell.2 (c.clashes_from.ensures.finds tell.1))

pub returns-in-Ok-Some-clause-finds : goal.returns-in-Ok-Some-clause-finds
returns-in-Ok-Some-clause-finds g t c told =
    let l = c.args.layout.now in
    let whose : Whose = g.R.Rights.whose c.args.rights.now in
    let new = c.args.new.now in
    let number = c.args.number in
    let m = tables_of g.K.Keeper.state c.args.draft.now in
    let within = subst (λ (fs : List FieldPlace). number < length fs) c.as_slice.ensures c.if-number-as_slice.true in
    let some = subst (λ (x : Rule). FindsRule l whose (clash_at l new number) m (Ok x)) c.in-Ok-Some.field-0-is (c.in-Ok-Some.ensures.finds told) in
    finds_stop l new number within whose m c.in-Ok-Some.refusal some
