use Rattle.std.proofs.Common.{ap, arith, length, ◌∙◌}
use Rattle.access_user.proofs.Granted.{sharer_of}
use Rattle.access_user.proofs.Judged.{few_fields}
use Rattle.access_user.proofs.climbing.own_of.Goals as goal

pub returns-then-as_slice-gt-MOST_FIELDS : goal.returns-then-as_slice-gt-MOST_FIELDS
returns-then-as_slice-gt-MOST_FIELDS c q t u may =
    omega (arith, few_fields q t c.args.layout.now may.granted.sound may.layout, ap length c.as_slice.ensures, c.if-as_slice-gt-MOST_FIELDS.true)

pub returns : goal.returns
returns c q t u may o there =
    let r = c.args.rights.now in
    c.in_ok-own_levels.ensures r.org q t u o (sharer_of t u r may.granted) may.granted.user
    (c.as_slice-2.ensures.value ∙ may.granted.rules) there may.layout
