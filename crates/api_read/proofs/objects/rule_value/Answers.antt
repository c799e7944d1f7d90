use Rattle.std.specs.Str.{chars}
use Rattle.api_read.proofs.ObjectsTold.{rule_made}
use Rattle.api_read.proofs.objects.rule_value.Goals as goal

pub returns : goal.returns
returns c =
    rule_made c.rule_texts.result c.args.object.now c.args.row.now (chars c.as_str.result.now) (chars c.as_str-2.result.now) (chars c.as_str-3.result.now) (chars c.as_str-4.result.now)
    c.as_str.ensures.characters c.as_str-2.ensures.characters c.as_str-3.ensures.characters c.as_str-4.ensures.characters c.rule_texts.ensures
