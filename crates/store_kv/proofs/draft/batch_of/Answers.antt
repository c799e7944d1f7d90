use Rattle.std.proofs.Common.{◌++◌, ◌∷◌, map, List, sym, ap, ◌∙◌}
use Rattle.store_kv.specs.Tables.{after}
use Rattle.store_kv.specs.Laid.{Entry}
use Rattle.store_kv.specs.inner.Changes.{change_of}
use Rattle.store_kv.proofs.Ranges.{append_none, append_one}
use Rattle.store_kv.proofs.Scans.{batch_laid}
use Rattle.store_kv.proofs.draft.batch_of.Goals as goal

pub loop-place-preserved : goal.loop-place-preserved
loop-place-preserved c =
    let rest = c.next.new.self in
    let so_far = c.loop-place.changes.items in
    ap (λ l. l ++ map change_of rest) c.in_ok-push.ensures.items ∙ append_one so_far c.change_to.result (map change_of rest) ∙ ap (λ x. so_far ++ x ∷ map change_of rest) c.change_to.ensures
    ∙ ap (λ (l : List Entry). so_far ++ map change_of l) (sym c.in-Some.ensures.steps) ∙ c.loop-place.invariant

pub returns-clause-each : goal.returns-clause-each
returns-clause-each c =
    sym (append_none c.loop-place.changes.items _ (ap (map change_of) c.in-None.ensures.steps.0)) ∙ c.loop-place.invariant ∙ ap (map change_of) c.into_iter-place-iterator.ensures.into_iter_gives.0

pub returns-clause-same : goal.returns-clause-same
returns-clause-same c m =
    let all = sym (append_none c.loop-place.changes.items _ (ap (map change_of) c.in-None.ensures.steps.0)) ∙ c.loop-place.invariant ∙ ap (map change_of) c.into_iter-place-iterator.ensures.into_iter_gives.0 in
    ap (λ l. after l m) all ∙ batch_laid c.args.entries.entries c.into_iter-place-iterator.ensures.into_iter_gives.5 m
