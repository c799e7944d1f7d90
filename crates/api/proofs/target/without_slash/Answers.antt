use Rattle.std.proofs.Common.{lit<, Some, None}
use Rattle.std.proofs.lemmas.Str.Pattern.{strip_suffix_char}
use Rattle.api.proofs.Slashes.{no_slash_taken, slash_taken}
use Rattle.api.proofs.target.without_slash.Goals as goal

pub returns-in-Some : goal.returns-in-Some
returns-in-Some c = slash_taken c.args.path.now c.in-Some.front.now c.utf8.path (strip_suffix_char 47 c.args.path.now (Some c.in-Some.front) c.in-Some.ensures.cases (lit< tt))

pub returns-in-None : goal.returns-in-None
returns-in-None c = no_slash_taken c.args.path.now c.utf8.path (strip_suffix_char 47 c.args.path.now None c.in-None.ensures.cases (lit< tt))
