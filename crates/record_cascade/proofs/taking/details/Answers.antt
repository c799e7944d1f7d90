use Rattle.std.proofs.Common.{List, ℕ, sym, ap, subst, ◌∙◌}
use Rattle.std.specs.List.{flat_map}
use Rattle.base_lemmas.proofs.Results.{err_from_parts as returned}
use Rattle.store_kv.specs.Draft.{tables_of}
use Rattle.model.specs.Deletes.{details_of}
use Rattle.store_abstraction.specs.declared.layout.Layout.{Layout}
use Rattle.record_cascade.specs.Cascade.{FindsWith}
use Rattle.record_cascade.specs.inner.Masters.{IsInOrder, details_in}
use Rattle.record_cascade.proofs.Going.{details_failed, details_found}
use Rattle.record_cascade.proofs.Objects.{layouts_are}
use Rattle.record_cascade.proofs.taking.details.Goals as goal

pub returns-in_err-found-clause-finds : goal.returns-in_err-found-clause-finds
returns-in_err-found-clause-finds g c told =
    let finds = c.in_err-found.ensures.finds told in
    subst (FindsWith c.args.org c.args.layouts.now c.args.ids.now details_of (tables_of g.K.Keeper.state c.args.draft.now)) (sym (returned c.from_residual.result c.in_err-found.field-0.0 c.from_residual.ensures))
    (details_failed (λ t. flat_map (λ (l : Layout). details_in l c.args.ids.now t) c.args.layouts.now) details_of c.args.org c.args.layouts.now c.args.ids.now (tables_of g.K.Keeper.state c.args.draft.now) c.in_err-found.field-0.0 finds)

pub returns-clause-finds : goal.returns-clause-finds
returns-clause-finds g c told q t s are rs same =
    let org = c.args.org in
    let layouts = c.args.layouts.now in
    let found = c.in_ok-found.ensures.finds told q t s (layouts_are org q t layouts are) in
    details_found org q t s.sound layouts are rs c.in_ok-found.found c.in_ok-in_order.field-0
    (found ∙ ap (λ (is : List (List ℕ)). flat_map (λ (l : Layout). details_in l is t) layouts) (sym same))
    (subst (λ (is : List (List ℕ)). IsInOrder is c.in_ok-in_order.field-0) c.as_slice.ensures c.in_ok-in_order.ensures)
