use Rattle.std.proofs.Common.{◌∙◌, Option, ap, subst, sym}
use Rattle.query_plan.specs.declared.paths.branches.Place.{Place}
use Rattle.query_plan.specs.paths.Branches.{FindsPlace}
use Rattle.query_check.specs.declared.columns.Column.{Column}
use Rattle.query_check.specs.Columns.{column_in}
use Rattle.query_bind.specs.inner.Spots.{IsBound, bound_at}
use Rattle.query_bind.proofs.Placing.{nowhere_bound, place_bound}
use Rattle.query_bind.proofs.spots.far_bound.Goals as goal

pub returns-in-Some-2-clause-binds : goal.returns-in-Some-2-clause-binds
returns-in-Some-2-clause-binds c far s d r serve there is =
    let l = c.args.layout.now in
    let names = c.args.names.now in
    let branches = c.place_in.new.branches.items in
    let place = c.in-Some-2.place in
    let last = c.in-Some.last.now in
    let before = c.in-Some.before.now in
    subst (IsBound s l branches names d r)
    (sym (c.bound_at-in-Some-2.ensures ∙ ap (λ (o : Option Column). bound_at o place.branch) (c.column_in.ensures ∙ ap (column_in place.layout.now) c.as_str.ensures.characters)))
    (place_bound c.args.layouts.now l branches names before last c.in-Some.ensures.cases.0 far place
    (λ org q t all laid sound. subst (λ (o : Option Place). FindsPlace q t l.object before branches o) c.in-Some-2.is (c.in_ok-place.ensures.finds org q t all laid sound))
    s d r serve there is)

pub returns-in-None-clause-binds : goal.returns-in-None-clause-binds
returns-in-None-clause-binds c far s d r serve there is =
    let l = c.args.layout.now in
    let branches = c.place_in.new.branches.items in
    let before = c.in-Some.before.now in
    nowhere_bound c.args.layouts.now l branches c.args.names.now before c.in-Some.last.now c.in-Some.ensures.cases.0 far c.bound_at-in-None.result
    (λ org q t all laid sound. subst (λ (o : Option Place). FindsPlace q t l.object before branches o) c.in-None.is (c.in_ok-place.ensures.finds org q t all laid sound))
    s d r serve there is
