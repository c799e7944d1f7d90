use Rattle.std.specs.Str.{chars}
use Rattle.schema_rules.specs.Objects.{field_of_place}
use Rattle.api_read.specs.inner.DescribedLayouts.{custom_by, name_in}
use Rattle.api_read.proofs.DescribedMembers.{field_value, flags_of, head_of}
use Rattle.api_read.proofs.describe.fields.custom.Goals as goal

pub returns : goal.returns
unfolding chars
returns c =
    let d = custom_by (name_in c.args.layouts.now) (field_of_place c.args.field.now) in
    let flags = c.custom_flags-flags.result in
    let are = c.custom_flags-flags.ensures in
    field_value d c.in_ok-members.members c.put_flags.new.members c.put.new.self c.put-2.new.self c.put-3.new.self c.finish.result
    c.in_ok-refers.field-0 c.in_ok-relationship.field-0 c.in_ok-values.field-0
    (head_of d c.in_ok-members.members (chars c.as_str.result.now) (chars c.type_word.result.now) c.characters_of.result c.digits_of.result c.decimals_of.result c.in_ok-members.ensures
    c.as_str.ensures.characters c.type_word.ensures c.characters_of.ensures c.digits_of.ensures c.decimals_of.ensures)
    (flags_of d c.in_ok-members.members c.put_flags.new.members flags.nillable flags.unique flags.custom flags.is_name flags.createable flags.updateable c.in_ok-put_flags.ensures
    are.nillable are.unique are.custom are.is_name are.createable are.updateable)
    c.in_ok-put.ensures c.in_ok-put-2.ensures c.in_ok-put-3.ensures c.finish.ensures c.in_ok-refers.ensures c.in_ok-relationship.ensures c.in_ok-values.ensures
