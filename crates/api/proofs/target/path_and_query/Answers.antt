use Rattle.std.proofs.Common.{ap, ◌∙◌, lit<}
use Rattle.std.specs.Str.{chars}
use Rattle.model_requests.specs.Routing.{without_slash}
use Rattle.api.proofs.Characters.{chars-cut, chars-whole}
use Rattle.api.proofs.target.path_and_query.Goals as goal

pub returns-in-Some-clause-path : goal.returns-in-Some-clause-path
returns-in-Some-clause-path c =
    let (i, j, found, front, back, _, _, _) = c.in-Some.ensures.cases in
    c.without_slash.ensures ∙ ap without_slash (ap chars front ∙ (chars-cut 63 (lit< tt) c.args.target.now i j c.utf8.target found).0)

pub returns-in-Some-clause-query : goal.returns-in-Some-clause-query
returns-in-Some-clause-query c =
    let (i, j, found, front, back, _, _, _) = c.in-Some.ensures.cases in
    ap chars back ∙ (chars-cut 63 (lit< tt) c.args.target.now i j c.utf8.target found).1

pub returns-in-None-clause-path : goal.returns-in-None-clause-path
returns-in-None-clause-path c = c.without_slash-in-None.ensures ∙ ap without_slash (chars-whole 63 c.args.target.now c.utf8.target c.in-None.ensures.cases).0

pub returns-in-None-clause-query : goal.returns-in-None-clause-query
returns-in-None-clause-query c = (chars-whole 63 c.args.target.now c.utf8.target c.in-None.ensures.cases).1
