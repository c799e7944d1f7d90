-- Signs that some characters have.
use Rattle.std.proofs.Common.{◌≡◌, ℕ, ◌+◌, List, [], ◌∷◌, ◌++◌, refl}
use Rattle.base_grammar.specs.declared.token.Placed.{Placed}
use Rattle.base_grammar.specs.declared.token.Token.{Token}
use Rattle.base_grammar.specs.Tokens.{AreTokens, IsToken, byte_len}
use Rattle.soql.specs.Lexis.{lexis}
use Rattle.soql.specs.grammar.Signs.{sign_of, signs}
use Rattle.soql.specs.declared.grammar.sign.Sign.{Sign}

pub record IsWritten (s : Sign) : Type 0 where
  pub chars : List ℕ
  pub token : Token
  pub is : IsToken lexis chars token
  pub same : s ≡ sign_of token

abbrev pub AreWritten : List Sign → Type 0
AreWritten [] = Unit {0}
AreWritten (s ∷ ss) = IsWritten s × AreWritten ss

-- those of a text are
pub signs_written : (all : List Placed) (at : ℕ) (cs : List ℕ) → AreTokens lexis at cs all → AreWritten (signs all)
signs_written [] at cs h = tt
signs_written (t ∷ all) at cs h = (record { chars = h.1; token = t.token; is = h.5.is; same = refl }, signs_written all (at + byte_len h.0 + byte_len h.1) h.2 h.7)

pub written_split : (x y : List Sign) → AreWritten (x ++ y) → AreWritten x × AreWritten y
written_split [] y h = (tt, h)
written_split (s ∷ x) y h = let rest = written_split x y h.1 in ((h.0, rest.0), rest.1)
