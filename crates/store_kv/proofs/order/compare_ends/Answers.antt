use Rattle.std.proofs.Common.{◌-◌, length, drop, ap, ◌∙◌}
use Rattle.store_kv.specs.Tables.{bytes_cmp}
use Rattle.store_kv.proofs.Words.{ends_order}
use Rattle.store_kv.proofs.order.compare_ends.Goals as goal

pub returns-in-Some-Some : goal.returns-in-Some-Some
returns-in-Some-Some c =
    let one = c.args.one.now in
    let other = c.args.other.now in
    c.compare_words.ensures ∙ ap (λ l. bytes_cmp l c.in-Some-Some.other_end.now) c.in-Some-Some.ensures.cases.1 ∙ ap (bytes_cmp (drop (length one - 8) one)) c.in-Some-Some.ensures'.cases.1
    ∙ ends_order one other c.requires.long c.requires.short c.requires.level c.requires.same
