use Rattle.std.proofs.Common.{◌∙◌, sym}
use Rattle.std.specs.Str.{chars}
use Rattle.access_rules.proofs.SpelledOnes.{spells_nothing}
use Rattle.access_rules.proofs.members.find_spelled.Goals as goal

pub returns-in_ok-from_str-in-None-clause-passes : goal.returns-in_ok-from_str-in-None-clause-passes
returns-in_ok-from_str-in-None-clause-passes g c told q t s =
    spells_nothing c.id_laws.ensures.made t s.sound c.args.spelled.now (chars c.args.member.now) c.in_ok-from_str-in-None.field-0 (sym c.principal_in.ensures.same ∙ c.in-None.is) c.in_ok-from_str-in-None.ensures
