use Rattle.base_grammar.specs.Lexing.{tokens_of}
use Rattle.formula.specs.grammar.Signs.{lexis}
use Rattle.model_invariant.proofs.FormulaTexts.{read_by, reads_formulas, refused_by, spelled_by}
use Rattle.model_invariant.proofs.rule_text.texts.text_laws.Goals as goal

pub returns-clause-spelled : goal.returns-clause-spelled
returns-clause-spelled c = λ o criteria text. spelled_by o criteria text c.spelling_laws.ensures.spelled

pub returns-clause-read : goal.returns-clause-read
returns-clause-read c = λ o criteria text. read_by o criteria text c.spelling_laws.ensures.computed

pub returns-clause-refused : goal.returns-clause-refused
returns-clause-refused c = λ o criteria text. refused_by o criteria text c.spelling_laws.ensures.refused

pub returns-clause-formulas : goal.returns-clause-formulas
returns-clause-formulas c =
    reads_formulas c.spelling_laws.ensures.spelled
    (λ text ts are. c.token_laws.ensures.one_list lexis text ts (tokens_of lexis 0 text) are (c.token_laws.ensures.meets lexis text))
    c.formula_laws.ensures.within_not c.formula_laws.ensures.within_and c.formula_laws.ensures.within_or
