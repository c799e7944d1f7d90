use Rattle.std.proofs.Common.{◌≡◌, ◌∙◌, None, Some, ap, subst, sym, ℕ, List}
use Rattle.store_kv.specs.Draft.{tables_of}
use Rattle.store_kv.specs.Tables.{Tables}
use Rattle.store_abstraction.specs.Layouts.{own_layout_named}
use Rattle.store_abstraction.specs.declared.layout.Layout.{Layout}
use Rattle.store_abstraction.specs.Local.{StandsIn}
use Rattle.cmd_load_row.proofs.Knowing.{none_named, none_sought, parents_known}
use Rattle.cmd_load_row.proofs.Searched.{named_so, none_so}
use Rattle.cmd_load_row.proofs.parents.find_parents.Goals as goal

pub returns-then-find_none-clause-finds : goal.returns-then-find_none-clause-finds
returns-then-find_none-clause-finds g c told q t s =
    none_sought t c.args.object.now c.args.given.now c.new.result (sym c.find_none.ensures ∙ c.if-find_none.true)

pub returns-in-None-clause-finds : goal.returns-in-None-clause-finds
returns-in-None-clause-finds g c told q t s =
    none_named t c.args.object.now c.args.given.now c.new-in-None.result (none_so c.args.org c.args.object.now q t
    (subst (λ (n : List ℕ). None ≡ own_layout_named c.args.org n q (Some t)) c.as_str.ensures.characters (sym c.in-None.is ∙ c.in_ok-layout_named.ensures.finds told q (Some t) s)))

pub returns-in-Some-clause-finds : goal.returns-in-Some-clause-finds
returns-in-Some-clause-finds g c told q t s =
    let state = g.K.Keeper.state in
    let org = c.args.org in
    let l = c.in-Some.layout in
    let a = c.args.draft.now in
    let tells = c.draft_laws.ensures.both 0 0 a c.layout_named.new.draft c.parents_by.new.draft c.layout_named.ensures.calls.reads c.parents_by.ensures.calls.reads told in
    let on = named_so org c.args.object.now q t l
    (subst (λ (n : List ℕ). Some l ≡ own_layout_named org n q (Some t)) c.as_str.ensures.characters (sym c.in-Some.is ∙ c.in_ok-layout_named.ensures.finds tells.0 q (Some t) s))
    in
    let stands = subst (λ (n : ℕ). StandsIn n q (tables_of state c.layout_named.new.draft) (Some t)) (ap (λ (k : Layout). k.org) (sym on.2)) (subst (λ (m : Tables). StandsIn org q m (Some t)) (sym tells.2) s) in
    parents_known org q t c.args.object.now c.args.given.now l c.object_laws.ensures.named s.sound on.0 on.1 on.2 c.parents_by.result (c.parents_by.ensures.finds tells.1 q t stands)
