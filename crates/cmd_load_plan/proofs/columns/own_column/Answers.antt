use Rattle.std.specs.Str.{chars}
use Rattle.schema_rules.specs.Objects.{object_of_layout}
use Rattle.cmd_load_plan.proofs.Naming.{own_none, own_refused, own_there}
use Rattle.cmd_load_plan.proofs.columns.own_column.Goals as goal

pub returns-in_default : goal.returns-in_default
returns-in_default c = own_none (object_of_layout c.args.layout.now) (chars c.args.name.now) c.in_default.ensures

pub returns-in_ok-field : goal.returns-in_ok-field
returns-in_ok-field c =
    own_there (object_of_layout c.args.layout.now) (chars c.args.name.now) c.in-Some.column c.in-Some.ensures c.in_ok-field.field c.if-column.true c.in_ok-field.ensures

pub returns-else-column : goal.returns-else-column
returns-else-column c =
    own_refused (object_of_layout c.args.layout.now) (chars c.args.name.now) c.in-Some.column c.in-Some.ensures c.if-column.false
