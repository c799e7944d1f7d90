use Rattle.std.proofs.Common.{arith, ◌+◌, ap}
use Rattle.base_grammar.proofs.Tokenizing.{byte_len-parted, some_left, turn, end}
use Rattle.base_grammar.proofs.lexer.all_tokens.Goals as goal

pub bytes_of-at-requires : goal.bytes_of-at-requires
bytes_of-at-requires g c =
    let size = byte_len-parted c.tokens.rest.now c.split_at.result.0.now c.split_at.result.1.now c.front_len.result c.split_at.ensures.front c.split_at.ensures.back in
    omega (arith, size, c.tokens.invariant.room, c.requires)

pub overflow_add-at : goal.overflow_add-at
overflow_add-at g c =
    let size = byte_len-parted c.tokens.rest.now c.split_at.result.0.now c.split_at.result.1.now c.front_len.result c.split_at.ensures.front c.split_at.ensures.back in
    omega (arith, size, c.tokens.invariant.room, c.requires, c.bytes_of-at.ensures)

pub tokens-preserved : goal.tokens-preserved
tokens-preserved g c =
    let size = byte_len-parted c.tokens.rest.now c.split_at.result.0.now c.split_at.result.1.now c.front_len.result c.split_at.ensures.front c.split_at.ensures.back in
    record {
      same = turn g.L.Lexis.lexis c.args.chars.now c.tokens.rest.now c.split_at.result.0.now c.split_at.result.1.now c.tokens.found c.add_token.new.found c.tokens.at
          (c.tokens.at + c.bytes_of-at.result) c.front_len.result c.tokens.invariant.same (some_left c.tokens.rest.now c.is_empty.result c.is_empty.ensures c.tokens-test.true) c.front_len.ensures.value
          c.split_at.ensures.front c.split_at.ensures.back c.in_ok-add_token.ensures (ap (λ n. c.tokens.at + n) c.bytes_of-at.ensures);
      room = omega (arith, size, c.tokens.invariant.room, c.bytes_of-at.ensures);
    }

pub returns : goal.returns
returns g c = end g.L.Lexis.lexis c.args.chars.now c.tokens.rest.now c.tokens.found c.tokens.at c.is_empty.result c.tokens.invariant.same c.is_empty.ensures c.tokens-test.false
