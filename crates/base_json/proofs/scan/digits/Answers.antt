use Rattle.std.specs.Str.{chars}
use Rattle.base_json.proofs.Shorter.{some_shorter}
use Rattle.base_json.proofs.scan.digits.Goals as goal

pub returns-clause-shorter : goal.returns-clause-shorter
returns-clause-shorter c =
    some_shorter (chars c.args.text.now) c.in_ok-front.front (chars c.in_ok-front.rest.now) c.in_ok-front.ensures.front c.in_ok-front.ensures.back
    (λ none. let test = c.if-is_empty.false in let same = c.is_empty.ensures.1 none in absurd (cc))
