use Rattle.std.proofs.Common.{◌≡◌, ◌+◌, ◌∷◌, arith, length, sym, ap, ◌∙◌, true, false, ◌&&◌}
use Rattle.std.specs.Str.{chars}
use Rattle.model.specs.Fields.{same_name}
use Rattle.record_input.proofs.Uniques.{place_more, place_there, unique_from, unique_here, unique_later}
use Rattle.record_input.proofs.key.unique_named.Goals as goal

pub returns-then-is_unique_named : goal.returns-then-is_unique_named
returns-then-is_unique_named c =
    let name = chars c.args.name.now in
    let field = c.in-Some.field.now in
    let more = c.in-Some.more.now in
    let number = c.fields.number in
    let front : c.fields.rest.now ≡ field ∷ more = c.in-Some.ensures.cases.0 in
    let here : (field.unique && same_name field.name name) ≡ true = sym c.is_unique_named.ensures ∙ c.if-is_unique_named.true in (
      field,
      place_there c.args.layout.now.fields number field more (sym front ∙ c.fields.invariant.rest),
      c.fields.invariant.same ∙ ap (unique_from name (1 + number)) front ∙ unique_here name number field more here,
    )

pub fields-preserved : goal.fields-preserved
fields-preserved c =
    let name = chars c.args.name.now in
    let field = c.in-Some.field.now in
    let more = c.in-Some.more.now in
    let number = c.fields.number in
    let front : c.fields.rest.now ≡ field ∷ more = c.in-Some.ensures.cases.0 in
    let later : (field.unique && same_name field.name name) ≡ false = sym c.is_unique_named.ensures ∙ c.if-is_unique_named.false in
    record {
      count = omega (arith, c.fields.invariant.count, ap length front);
      rest = place_more c.args.layout.now.fields number field more (sym front ∙ c.fields.invariant.rest);
      same = c.fields.invariant.same ∙ ap (unique_from name (1 + number)) front ∙ unique_later name number field more later;
    }
