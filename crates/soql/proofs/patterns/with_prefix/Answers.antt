use Rattle.std.proofs.Common.{reverse, Some, sym, ap, ◌∙◌}
use Rattle.std.proofs.lemmas.Iterator.Adapters.{YieldsList-from_rev_slice}
use Rattle.std.proofs.lemmas.Iterator.Consumers.{YieldsList-end}
use Rattle.std.proofs.lemmas.List.{reverse-reverse}
use Rattle.soql.specs.inner.Rests.{row_behind, with_one}
use Rattle.soql.proofs.Rows.{row_behind-one, row_behind-none, reverse-map-push}
use Rattle.soql.proofs.patterns.with_prefix.Goals as goal

pub loop-c-init : goal.loop-c-init
loop-c-init c = λ parts is. is ∙ sym (row_behind-none parts c.args.backwards.now)

pub loop-c-preserved : goal.loop-c-preserved
loop-c-preserved c =
    λ parts is.
    c.in_ok-row.ensures ∙ ap (with_one (Some c.in-Some.c.now) c.args.backwards.now) (c.as_slice.ensures.value ∙ c.loop-c.invariant parts is)
    ∙ sym (row_behind-one parts c.in-Some.c.now _ c.args.backwards.now)
    ∙ ap (λ prefix. row_behind prefix parts c.args.backwards.now) (sym (reverse-map-push (λ c. c.now) c.loop-c.yielded c.in-Some.c))

pub returns : goal.returns
returns c =
    let all = YieldsList-end (YieldsList-from_rev_slice c.args.prefix.now cc) c.loop-c.yielded _ c.loop-c.yielded_by _ _ c.in-None.is c.next.ensures.steps in
    λ parts is. c.loop-c.invariant parts is ∙ ap (λ prefix. row_behind prefix parts c.args.backwards.now) (ap reverse all.0 ∙ reverse-reverse c.args.prefix.now)
