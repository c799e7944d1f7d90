use Rattle.std.proofs.Common.{refl}
use Rattle.std.specs.Char.{encode_utf8}
use Rattle.base_value.specs.Numerals as numeral
use Rattle.base_grammar.specs.Counts as count
use Rattle.base_grammar.specs.Lexing as lexing
use Rattle.base_grammar.specs.Reader as reader
use Rattle.base_grammar.specs.Tokens as token
use denote.Hole.Carrier.{hidden}
use Rattle.formula.specs.declared.formula.Formula.TheBlock.{hidden-the_row-Formula-0, hidden-the_row-Formula-1}
use Rattle.formula.specs.grammar.Reading as read
use Rattle.formula.specs.grammar.Signs as sign
use Rattle.formula.specs.grammar.Spelling as spelling
use Rattle.formula_parser.proofs.texts.spelled_rows.Goals as goal

pub returns : goal.returns
unfolding hidden-the_row-Formula-0 hidden-the_row-Formula-1 hidden encode_utf8 numeral.is_digit numeral.without_sign numeral.is_unsigned_numeral numeral.is_numeral numeral.is_written_number numeral.of_digits numeral.exactly numeral.size_of numeral.is_negative count.number_count lexing.mark_len lexing.token_len lexing.mark_token lexing.token_of lexing.front_len lexing.token_at lexing.tokens_of reader.read_many reader.repeat reader.sign token.is_blank token.is_letter token.in_word token.in_run token.begins_run token.run_token token.class_of token.text_token token.single_token token.is_written read.field read.picklist read.text read.relation read.measured read.simple read.len_word read.prior_field read.length_term read.prior_term read.term_of read.ending read.comparison read.truth read.is_new read.is_blank read.is_changed read.choice read.is_pickval read.of_fields read.plain read.more_formulas read.formulas read.negation read.conjunction read.disjunction read.formula_over read.nested read.whole sign.escape sign.is_mark sign.is_pair sign.function_word sign.mark_sign sign.pair_sign spelling.formula_in
returns c = record {
  large = refl;
  other_case = refl;
  no_number = refl;
  words = refl;
  missing = refl;
  too_short = refl;
  long_enough = refl;
  nulls = refl;
  less = refl;
  not_new = refl;
  new = refl;
  criteria = refl;
  no_past = refl;
  other_kind = refl;
  no_field = refl;
}
