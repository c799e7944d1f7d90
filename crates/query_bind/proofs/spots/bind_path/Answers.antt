use Rattle.std.proofs.Common.{◌≡◌, ◌∙◌, ℕ, List, None, Option, ap, false, subst, sym}
use Rattle.model.specs.Flat.{has_one_name}
use Rattle.query_check.specs.declared.columns.Column.{Column}
use Rattle.query_bind.specs.declared.spots.Bound.{Bound}
use Rattle.query_check.specs.Columns.{column_in}
use Rattle.query_bind.specs.inner.Spots.{Binds, IsBound, bound_at}
use Rattle.query_bind.proofs.Placing.{own_bound, several_names}
use Rattle.query_plan.proofs.Within.{if_ok}
use Rattle.query_bind.proofs.spots.bind_path.Goals as goal

pub returns-in-Some-clause-binds : goal.returns-in-Some-clause-binds
returns-in-Some-clause-binds c s d r serve there is =
    let l = c.args.layout.now in
    let names = c.args.path.now.names in
    let branches = c.args.branches.now.items in
    subst (IsBound s l branches names d r)
    (sym (c.bound_at.ensures ∙ ap (λ (o : Option Column). bound_at o None) (c.column_in.ensures ∙ ap (column_in l) c.as_str.ensures.characters)))
    (own_bound c.args.layouts.now l branches names c.in-Some.name.now (sym c.in-Some.ensures) s d r serve there is)

pub returns-in-None-clause-binds : goal.returns-in-None-clause-binds
returns-in-None-clause-binds c =
    let ls = c.args.layouts.now in
    let l = c.args.layout.now in
    let branches = c.far_bound.new.branches.items in
    let names = c.args.path.now.names in
    let given = c.as_slice.result.now in
    if_ok {P = λ (b : Bound). has_one_name given ≡ false → Binds ls l branches given b} {Q = λ (b : Bound). Binds ls l branches names b} c.far_bound.result
    (λ b h. subst (λ (ns : List (List ℕ)). Binds ls l branches ns b) c.as_slice.ensures (h (ap has_one_name c.as_slice.ensures ∙ several_names names (sym c.in-None.ensures))))
    c.far_bound.ensures.binds
