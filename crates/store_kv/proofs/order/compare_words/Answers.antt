use Rattle.std.proofs.Common.{ap, ◌∙◌, arith}
use Rattle.std.specs.Int.{w64, to_be_bytes}
use Rattle.store_kv.specs.Tables.{bytes_cmp}
use Rattle.store_kv.proofs.Words.{words_order}
use Rattle.store_kv.proofs.order.compare_words.Goals as goal

pub returns : goal.returns
returns c =
    let m = c.word_of.result in
    let n = c.word_of-2.result in
    c.cmp.ensures ∙ words_order c.digit_laws.ensures.ordered m n (omega arith) (omega arith) ∙ ap (λ l. bytes_cmp l (to_be_bytes w64 n)) c.word_of.ensures ∙ ap (bytes_cmp c.args.one.now) c.word_of-2.ensures
