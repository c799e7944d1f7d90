use Rattle.std.proofs.Common.{arith, subst, refl}
use Rattle.std.specs.Prelude.{string_bytes}
use Rattle.std.proofs.lemmas.Bool.{false≢true as false_isnt_true}
use Rattle.cli_args.specs.Lines.{IsPort}
use Rattle.cli_args.proofs.Forms.{line_of_words, not_one}
use Rattle.cli_args.proofs.line.read_line.Goals as goal

pub returns-in-len1-clause-refused : goal.returns-in-len1-clause-refused
returns-in-len1-clause-refused c = let few = c.in-len1.len_below in (λ _. not_one string_bytes c.args.words.now (omega (arith, few)), λ _. refl)

pub returns-in-None-clause-refused : goal.returns-in-None-clause-refused
returns-in-None-clause-refused c =
    let least = c.in-len2-up.len_at_least in
    let port : IsPort (string_bytes c.port-item.result) = subst IsPort c.as_str.ensures.value (c.in-Some.ensures.port.0 refl) in
    let line = line_of_words string_bytes c.args.words.now c.port-item.result (omega (arith, least)) c.port-item.is port (λ none. false_isnt_true (c.in-None.ensures.1 none)) in
    ((λ wrong right. false_isnt_true wrong), (λ none. absurd (none line)))
