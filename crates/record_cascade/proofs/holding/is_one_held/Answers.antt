use Rattle.std.proofs.Common.{◌≡◌, List, ℕ, Option, [], sym, ap, subst, ◌∙◌}
use Rattle.std.specs.List.{flat_map}
use Rattle.store_kv.specs.Draft.{tables_of}
use Rattle.model.specs.Cases.{in_case}
use Rattle.model.specs.Tenant.{Tenant}
use Rattle.record_references.specs.Referring.{all_referring}
use Rattle.store_abstraction.specs.Layouts.{FindsOf}
use Rattle.record_cascade.specs.inner.Holding.{is_any, staying}
use Rattle.record_cascade.specs.inner.Masters.{ids_of, is_among}
use Rattle.record_cascade.proofs.Held.{held_finds}
use Rattle.record_cascade.proofs.holding.is_one_held.Goals as goal

pub returns-in_ok-targets-in-Some-2-clause-finds :
    goal.returns-in_ok-targets-in-Some-2-clause-finds
returns-in_ok-targets-in-Some-2-clause-finds g c told =
    let m = tables_of g.K.Keeper.state c.args.draft.now in
    let l = c.args.layout.now in
    let k = c.args.number in
    let gone = c.args.gone.now.keys in
    let object = c.in-Some.object in
    let targets = c.in_ok-targets-in-Some-2.targets.keys in
    let these : c.as_slice.result.now ≡ ids_of object gone = c.as_slice.ensures.value ∙ c.in_ok-targets-in-Some.ensures in
    let same = λ (i : List ℕ). c.in_ok-targets-in-Some-2.ensures.0 i ∙ ap (λ (ids : List (List ℕ)). is_among ids i) these in
    let is = sym c.in-Some.is ∙ c.target_of.ensures in
    subst (λ (o : Option ℕ). FindsOf l (λ (t : Tenant). is_any (in_case o [] (λ object. staying gone (flat_map (λ id. all_referring l.object k id t) (ids_of object gone))))) m c.any_referring.result) is
    (held_finds l.object k gone targets (ids_of object gone) same l m c.any_referring.result (c.any_referring.ensures.finds told))
