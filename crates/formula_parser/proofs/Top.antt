-- The laws of a text.
use Rattle.std.proofs.Common.{◌≡◌, ℕ, Bool, List, Result, IfOk, subst}
use Rattle.std.specs.Option.{ok_or}
use Rattle.base_grammar.specs.Lexing.{tokens_of}
use Rattle.base_grammar.specs.Place.{IsOrMemory, OnMalformed, UnlessMemory, at_end, starts}
use Rattle.base_grammar.specs.Tokens.{AreTokens}
use Rattle.base_grammar.specs.declared.token.Placed.{Placed}
use Rattle.base_grammar.specs.declared.fail.ParseFail.{ParseFail}
use Rattle.base_grammar.proofs.Meets.{meets}
use Rattle.base_grammar.proofs.Unique.{one_list}
use Rattle.base_grammar.proofs.Wholes as wholes
use Rattle.formula.specs.declared.formula.Formula.{Formula}
use Rattle.formula.specs.declared.formula.NamedField.{NamedField}
use Rattle.formula.specs.grammar.Reading as spec
use Rattle.formula.specs.grammar.Signs.{lexis, sign_of, signs}
use Rattle.formula.specs.declared.grammar.sign.Sign.{Sign}
use Rattle.formula.specs.grammar.Spelling.{IsRefusedAt, Spells, formula_in, place_in}
use Rattle.formula.proofs.Spelled.{spelled, computed, refused}

module _ (criteria : Bool) (fields : List NamedField) (text : List ℕ) (end : ℕ) where
  -- by these tokens
  is_read : (all : List Placed) → AreTokens lexis 0 text all
      → at_end (starts all) end (spec.whole (signs criteria fields all)) ≡ ok_or (formula_in criteria fields text) (place_in criteria fields text end)
  unfolding formula_in place_in
  is_read all are =
      let found : List Placed = tokens_of lexis 0 text in
      let P : List Placed → Type 0 = λ us. at_end (starts us) end (spec.whole (signs criteria fields us)) ≡ ok_or (formula_in criteria fields text) (place_in criteria fields text end) in
      subst P (one_list lexis 0 text found all (meets lexis 0 text) are)
      (wholes.both_computed (starts found) (signs criteria fields found) end (wholes.as_many (λ placed. sign_of criteria fields placed.token) found)
      (spec.whole (signs criteria fields found)))

  pub reads_by : (all : List Placed) → AreTokens lexis 0 text all → (ts : List Sign) → ts ≡ signs criteria fields all → (ss : List ℕ) → ss ≡ starts all
      → (r : Result Formula ParseFail) → UnlessMemory r (λ outcome. outcome ≡ at_end ss end (spec.whole ts))
      → UnlessMemory r (λ outcome. ok_or (formula_in criteria fields text) (place_in criteria fields text end) ≡ outcome)
  reads_by all are ts same_signs ss same_starts r h =
      wholes.returned r (at_end ss end (spec.whole ts)) (ok_or (formula_in criteria fields text) (place_in criteria fields text end))
      (rw (same_signs, same_starts) (is_read all are)) h

  -- what is returned is what reading computes
  module _ (r : Result Formula ParseFail)
      (reads : UnlessMemory r (λ outcome. ok_or (formula_in criteria fields text) (place_in criteria fields text end) ≡ outcome)) where
    pub found_by : IfOk r (λ f. Spells criteria fields text f)
    found_by =
        wholes.found_by (Spells criteria fields text) (IsRefusedAt criteria fields text end) (formula_in criteria fields text) (place_in criteria fields text end)
        (spelled criteria fields text) (computed criteria fields text) (refused criteria fields text end) r reads

    pub only_by : (f : Formula) → Spells criteria fields text f → IsOrMemory r f
    only_by =
        wholes.only_by (Spells criteria fields text) (IsRefusedAt criteria fields text end) (formula_in criteria fields text) (place_in criteria fields text end)
        (spelled criteria fields text) (computed criteria fields text) (refused criteria fields text end) r reads

    pub place_by : OnMalformed r (λ at. IsRefusedAt criteria fields text end at)
    place_by =
        wholes.place_by (Spells criteria fields text) (IsRefusedAt criteria fields text end) (formula_in criteria fields text) (place_in criteria fields text end)
        (spelled criteria fields text) (computed criteria fields text) (refused criteria fields text end) r reads
