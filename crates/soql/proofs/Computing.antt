-- What reading a text as a query computes with, under one name.
use Rattle.std.specs.Char.{encode_utf8}
use Rattle.std.specs.Str.{chars}
use Rattle.base_value.specs.Numerals as numeral
use Rattle.base_grammar.specs.Counts as count
use Rattle.base_grammar.specs.Lexing as lexing
use Rattle.base_grammar.specs.Reader as reader
use Rattle.base_grammar.specs.Tokens as token
use Rattle.soql.specs.Lexis as lexis
use Rattle.soql.specs.grammar.Grammar as grammar
use Rattle.soql.specs.grammar.Readers as read
use Rattle.soql.specs.grammar.Signs as sign
use Rattle.soql.specs.grammar.Spelling as spelling

unfoldable pub reading_queries : Unit {0}
unfolding encode_utf8 chars numeral.is_digit numeral.without_sign numeral.is_unsigned_numeral numeral.is_numeral numeral.is_written_number numeral.of_digits numeral.exactly numeral.size_of numeral.is_negative count.number_count lexing.mark_len lexing.token_len lexing.mark_token lexing.token_of lexing.front_len lexing.token_at lexing.tokens_of reader.read_many reader.repeat reader.sign token.is_blank token.is_letter token.in_word token.in_run token.begins_run token.run_token token.class_of token.text_token token.single_token token.is_written lexis.escaped lexis.is_mark lexis.is_pair grammar.part_of read.name read.literal read.operator read.pattern read.descending read.last read.count read.more_names read.names read.path read.more_literals read.literal_list read.literals read.comparison read.likeness read.membership read.exclusion read.ending read.of_path read.more_units read.joined read.conjunction read.disjunction read.chain read.cond_of read.negation read.group read.inner read.unit read.condition read.direction read.nulls read.directed read.key read.more_keys read.keys read.ordering read.filtered read.filter read.counted read.limit read.offset read.sourced read.ordered read.tail read.more_paths read.paths read.within_child read.child read.path_item read.any_item read.item_of read.more_items read.items read.selected read.whole sign.condition_word sign.clause_word sign.name_sign sign.word_sign sign.number_sign sign.mark_sign sign.pair_sign spelling.query_in spelling.place_in spelling.reads_query
reading_queries = tt
