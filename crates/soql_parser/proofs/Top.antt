-- The laws of a text.
use Rattle.std.proofs.Common.{◌≡◌, ℕ, List, length, Result, IfOk, subst}
use Rattle.std.specs.Str.{chars}
use Rattle.base_grammar.specs.Lexing.{tokens_of}
use Rattle.base_grammar.specs.Place.{IsOrMemory, OnMalformed, UnlessMemory, at_end, starts}
use Rattle.base_grammar.specs.Tokens.{AreTokens}
use Rattle.base_grammar.specs.declared.token.Placed.{Placed}
use Rattle.base_grammar.specs.declared.fail.ParseFail.{ParseFail}
use Rattle.base_grammar.proofs.Meets.{meets}
use Rattle.base_grammar.proofs.Unique.{one_list}
use Rattle.base_grammar.proofs.Wholes as wholes
use Rattle.soql.specs.Lexis.{lexis}
use Rattle.soql.specs.declared.query.Query.{Query}
use Rattle.soql.specs.grammar.Readers as spec
use Rattle.soql.specs.grammar.Signs.{sign_of, signs}
use Rattle.soql.specs.declared.grammar.sign.Sign.{Sign}
use Rattle.soql.specs.grammar.Spelling.{IsRefusedAt, Spells, place_in, query_in, reads_query}
use Rattle.soql.proofs.Spelled.{spelled, computed, refused}

module _ (bytes : List ℕ) where
  -- by these tokens
  is_read : (all : List Placed) → AreTokens lexis 0 (chars bytes) all → at_end (starts all) (length bytes) (spec.whole (signs all)) ≡ reads_query bytes
  unfolding reads_query query_in place_in
  is_read all are =
      let found : List Placed = tokens_of lexis 0 (chars bytes) in
      let P : List Placed → Type 0 = λ us. at_end (starts us) (length bytes) (spec.whole (signs us)) ≡ reads_query bytes in
      subst P (one_list lexis 0 (chars bytes) found all (meets lexis 0 (chars bytes)) are)
      (wholes.both_computed (starts found) (signs found) (length bytes) (wholes.as_many (λ placed. sign_of placed.token) found) (spec.whole (signs found)))

  pub reads_by : (all : List Placed) → AreTokens lexis 0 (chars bytes) all → (ts : List Sign) → ts ≡ signs all → (ss : List ℕ) → ss ≡ starts all
      → (r : Result Query ParseFail) → UnlessMemory r (λ outcome. outcome ≡ at_end ss (length bytes) (spec.whole ts))
      → UnlessMemory r (λ outcome. reads_query bytes ≡ outcome)
  reads_by all are ts same_signs ss same_starts r h =
      wholes.returned r (at_end ss (length bytes) (spec.whole ts)) (reads_query bytes) (rw (same_signs, same_starts) (is_read all are)) h

  -- what is returned is what reading computes
  module _ (r : Result Query ParseFail) (reads : UnlessMemory r (λ outcome. reads_query bytes ≡ outcome)) where
    pub found_by : IfOk r (λ query. Spells (chars bytes) query)
    unfolding reads_query
    found_by =
        wholes.found_by (Spells (chars bytes)) (IsRefusedAt (chars bytes) (length bytes)) (query_in (chars bytes)) (place_in (chars bytes) (length bytes))
        (spelled (chars bytes)) (computed (chars bytes)) (refused (chars bytes) (length bytes)) r reads

    pub only_by : (query : Query) → Spells (chars bytes) query → IsOrMemory r query
    unfolding reads_query
    only_by =
        wholes.only_by (Spells (chars bytes)) (IsRefusedAt (chars bytes) (length bytes)) (query_in (chars bytes)) (place_in (chars bytes) (length bytes))
        (spelled (chars bytes)) (computed (chars bytes)) (refused (chars bytes) (length bytes)) r reads

    pub place_by : OnMalformed r (λ at. IsRefusedAt (chars bytes) (length bytes) at)
    unfolding reads_query
    place_by =
        wholes.place_by (Spells (chars bytes)) (IsRefusedAt (chars bytes) (length bytes)) (query_in (chars bytes)) (place_in (chars bytes) (length bytes))
        (spelled (chars bytes)) (computed (chars bytes)) (refused (chars bytes) (length bytes)) r reads
