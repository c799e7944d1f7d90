-- Names with dots between them.
use Rattle.std.proofs.Common.{◌≡◌, ℕ, ◌<◌, List, [], ◌∷◌, ◌++◌, length, refl, ap, ◌∙◌, codes, arith}
use Rattle.std.specs.Str.{IsUtf8, chars}
use Rattle.std.proofs.lemmas.Str.{chars-append}

dot_text : chars (codes ".") ≡ codes "."
unfolding chars
dot_text = refl

-- a name, a dot and more behind it
pub joined_text : (w x y begun rest name more : List ℕ) → IsUtf8 w → IsUtf8 x → w ≡ begun → x ≡ w ++ codes "." → y ≡ x ++ rest → chars begun ≡ name → chars rest ≡ more
    → chars y ≡ (name ++ codes ".") ++ more
joined_text w x y begun rest name more uw ux e f g named later =
    ap chars g
    ∙ chars-append x rest ux
    ∙ ap (λ t. chars t ++ chars rest) f
    ∙ ap (λ t. t ++ chars rest) (chars-append w (codes ".") uw)
    ∙ ap (λ t. (chars w ++ t) ++ chars rest) dot_text
    ∙ ap (λ t. (chars t ++ codes ".") ++ chars rest) e
    ∙ ap (λ t. (t ++ codes ".") ++ chars rest) named
    ∙ ap (λ t. (name ++ codes ".") ++ t) later

pub nothing_there : {X : Type 0} (xs : List X) → length xs < 1 → xs ≡ []
nothing_there [] h = refl
nothing_there (x ∷ xs) h = absurd (omega (arith, h))
