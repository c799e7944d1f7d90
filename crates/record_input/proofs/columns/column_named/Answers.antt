use Rattle.std.specs.Option.{option_map}
use Rattle.std.specs.Str.{chars}
use Rattle.schema_rules.specs.Objects.{object_of_layout}
use Rattle.record_input.specs.Columns.{shown}
use Rattle.record_input.proofs.Refused.{created_column, id_column, modified_column, other_column}
use Rattle.record_input.proofs.columns.column_named.Goals as goal

pub returns-then-same_name : goal.returns-then-same_name
returns-then-same_name c =
    id_column (object_of_layout c.args.layout.now) (chars c.args.name.now) (shown c.unwritable.result) c.if-same_name.ensures c.unwritable.ensures

pub returns-then-same_name-2 : goal.returns-then-same_name-2
returns-then-same_name-2 c =
    created_column (object_of_layout c.args.layout.now) (chars c.args.name.now) (shown c.unwritable-then-same_name-2.result)
    c.if-same_name.ensures c.if-same_name-2.ensures c.unwritable-then-same_name-2.ensures

pub returns-then-same_name-3 : goal.returns-then-same_name-3
returns-then-same_name-3 c =
    modified_column (object_of_layout c.args.layout.now) (chars c.args.name.now) (shown c.unwritable-then-same_name-3.result)
    c.if-same_name.ensures c.if-same_name-2.ensures c.if-same_name-3.ensures c.unwritable-then-same_name-3.ensures

pub returns-else-same_name-3 : goal.returns-else-same_name-3
returns-else-same_name-3 c =
    other_column (object_of_layout c.args.layout.now) (chars c.args.name.now) (option_map shown c.writable_named.result)
    c.if-same_name.ensures c.if-same_name-2.ensures c.if-same_name-3.ensures c.writable_named.ensures
