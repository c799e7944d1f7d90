use Rattle.std.proofs.Common.{refl}
use Rattle.std.specs.Str.{chars}
use Rattle.cmd_load_plan.proofs.Places.{place_fits, place_is, place_missing, place_of_none, small_number}
use Rattle.cmd_load_plan.proofs.columns.unique_place.Goals as goal

pub returns-in_default : goal.returns-in_default
returns-in_default c org q t all sound =
    place_missing q t c.args.object (chars c.args.field.now) ((c.in_default.ensures.missing org q t all).0 refl)

pub returns-in_default-unique_named : goal.returns-in_default-unique_named
returns-in_default-unique_named c org q t all sound =
    let found = c.in-Some.ensures.found org q t all in
    place_of_none q t c.args.object (chars c.args.field.now) c.in-Some.target.now found.1 found.2 c.in_default-unique_named.ensures

pub returns : goal.returns
returns c org q t all sound =
    let n = c.args.object in
    let field = chars c.args.field.now in
    let target = c.in-Some.target.now in
    let number = c.in-Some-unique_named.number in
    let found = c.in-Some.ensures.found org q t all in
    let named = c.in-Some-unique_named.ensures in
    small_number c.try_from.result number c.ok.result _ c.ok.ensures.value c.try_from.ensures
    (place_fits q t n field target found.1 found.2 number sound named) (place_is q t n field target found.1 found.2 number named)
