use Rattle.std.proofs.Common.{◌∙◌, Ok, ap, subst}
use Rattle.std.specs.Str.{chars}
use Rattle.store_kv.specs.Draft.{tables_of}
use Rattle.store_kv.specs.Tables.{Tables}
use Rattle.store_abstraction.specs.Layouts.{own_layout_named}
use Rattle.store_abstraction.specs.Local.{FindsIn}
use Rattle.cmd_load.specs.inner.Owned.{FindsBehind}
use Rattle.cmd_load.proofs.Owned.{no_target, target_found}
use Rattle.cmd_load.proofs.target.target_named.Goals as goal

pub returns-in-Ok-Some-clause-finds : goal.returns-in-Ok-Some-clause-finds
returns-in-Ok-Some-clause-finds g c told q t s =
    let state = g.K.Keeper.state in
    let a = c.args.draft.now in
    let tell = c.draft_laws.ensures.both 0 0 a c.layout_named.new.draft c.target_with.new.draft c.layout_named.ensures.calls.reads c.target_with.ensures.calls.reads told in
    let m = tables_of state a in
    target_found c.object_laws.ensures.named c.args.org c.args.object.now m q t s c.in-Ok-Some.layout c.target_with.result
    (subst (FindsIn c.args.org (own_layout_named c.args.org (chars c.args.object.now)) m) (c.in-Ok-Some.is ∙ ap Ok c.in-Ok-Some.field-0-is) (c.layout_named.ensures.finds tell.0))
    (subst (λ (n : Tables). FindsBehind c.args.org c.in-Ok-Some.layout n c.target_with.result) tell.2 (c.target_with.ensures.finds tell.1))

pub returns-in_ok-no_object-in-Ok-None-clause-finds : goal.returns-in_ok-no_object-in-Ok-None-clause-finds
returns-in_ok-no_object-in-Ok-None-clause-finds g c told q t s =
    let m = tables_of g.K.Keeper.state c.args.draft.now in
    no_target c.object_laws.ensures.named c.args.org c.args.object.now m q t s c.in_ok-no_object-in-Ok-None.field-0 c.in_ok-no_object-in-Ok-None.ensures
    (subst (FindsIn c.args.org (own_layout_named c.args.org (chars c.args.object.now)) m) (c.in-Ok-None.is ∙ ap Ok c.in-Ok-None.field-0-is) (c.layout_named.ensures.finds told))
