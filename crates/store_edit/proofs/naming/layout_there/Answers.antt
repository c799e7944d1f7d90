use Rattle.std.specs.Str.{chars}
use Rattle.store_kv.specs.Draft.{tables_of}
use Rattle.store_edit.proofs.Named.{layout_absent, layout_present}
use Rattle.store_edit.proofs.naming.layout_there.Goals as goal

pub returns-in-Some-clause-names : goal.returns-in-Some-clause-names
returns-in-Some-clause-names g c told q t s =
    layout_present c.args.org q t (tables_of g.K.Keeper.state c.args.draft.now) (chars c.as_str.result.now) c.args.name.now c.layout_named.result c.in_ok-layout.field-0 c.in-Some.layout
    c.as_str.ensures.characters (c.layout_named.ensures.finds told) c.in_ok-layout.was c.in-Some.is s

pub returns-in_ok-invalid_type-in-None-clause-names : goal.returns-in_ok-invalid_type-in-None-clause-names
returns-in_ok-invalid_type-in-None-clause-names g c told q t s = (
  layout_absent c.args.org q t (tables_of g.K.Keeper.state c.args.draft.now) (chars c.as_str.result.now) c.args.name.now c.layout_named.result c.in_ok-layout.field-0
      c.as_str.ensures.characters (c.layout_named.ensures.finds told) c.in_ok-layout.was c.in-None.is s,
  c.in_ok-invalid_type-in-None.ensures,
)
