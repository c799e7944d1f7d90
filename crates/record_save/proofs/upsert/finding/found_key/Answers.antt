use Rattle.std.specs.Option.{option_map}
use Rattle.base_lemmas.proofs.Lists.{slice_get_as_read as read_there}
use Rattle.record_save.proofs.Keys.{has_unique, key_passed, named_at, named_within, type_at, unread}
use Rattle.record_save.proofs.upsert.finding.found_key.Goals as goal

pub read_value-requires : goal.read_value-requires
read_value-requires c =
    let l = c.args.layout.now in
    let number = c.in_ok-number.number in
    let f = c.index-fields-number.result in
    let inside = named_within l c.args.key.now c.found_field.result c.found_field.ensures number c.in_ok-number.was in
    type_at l number f c.requires.usable.types (read_there l.fields c.as_slice-fields.result.now number f c.as_slice-fields.ensures inside c.index-fields-number.is)

pub returns-in_err-value-clause-finds : goal.returns-in_err-value-clause-finds
returns-in_err-value-clause-finds c =
    let l = c.args.layout.now in
    let name = c.args.key.now in
    let text = option_map (λ t. t.now) c.args.text in
    let number = c.in_ok-number.number in
    let f = c.index-fields-number.result in
    let e = c.in_err-value.field-0.0 in
    let inside = named_within l name c.found_field.result c.found_field.ensures number c.in_ok-number.was in
    let at = read_there l.fields c.as_slice-fields.result.now number f c.as_slice-fields.ensures inside c.index-fields-number.is in
    key_passed l name text e c.from_residual-in_err-value.result c.from_residual-in_err-value.ensures.1
    (unread l name text number f c.read_value.result e (named_at l name c.found_field.result c.found_field.ensures number f c.in_ok-number.was at) c.read_value.ensures.reads c.in_err-value.was)

pub returns-clause-finds : goal.returns-clause-finds
returns-clause-finds c =
    let l = c.args.layout.now in
    let name = c.args.key.now in
    let number = c.in_ok-number.number in
    let f = c.index-fields-number.result in
    let inside = named_within l name c.found_field.result c.found_field.ensures number c.in_ok-number.was in
    let at = read_there l.fields c.as_slice-fields.result.now number f c.as_slice-fields.ensures inside c.index-fields-number.is in
    record { field = f; at = at; named = named_at l name c.found_field.result c.found_field.ensures number f c.in_ok-number.was at; value = c.in_ok-value.ensures.reads }

pub returns-clause-unique : goal.returns-clause-unique
returns-clause-unique c =
    let l = c.args.layout.now in
    let name = c.args.key.now in
    let number = c.in_ok-number.number in
    let f = c.index-fields-number.result in
    let inside = named_within l name c.found_field.result c.found_field.ensures number c.in_ok-number.was in
    let at = read_there l.fields c.as_slice-fields.result.now number f c.as_slice-fields.ensures inside c.index-fields-number.is in (
      inside,
      has_unique l name number c.in_ok-value.value f at (named_at l name c.found_field.result c.found_field.ensures number f c.in_ok-number.was at)
          (type_at l number f c.requires.usable.types at) c.in_ok-value.ensures.valid,
    )
