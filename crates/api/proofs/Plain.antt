-- A table is plain if the test says so.
use Rattle.std.proofs.Common.{◌≡◌, ℕ, List, [], ◌∷◌, true, arith, ltb, ◌==◌, ◌&&◌}
use Rattle.std.proofs.lemmas.Bool.Decides.{nat_tests}
use Rattle.std.specs.Prelude.{not}
use Rattle.std.proofs.lemmas.Bool.{and_parts as both}
use Rattle.api.specs.router.Pick.{Piece, text, param, PatternOf, IsPlain, IsPlainPattern, ArePlain, is_plain_text, is_plain_pattern, are_plain}

plain-text : (t : List ℕ) → is_plain_text t ≡ true → IsPlain t
plain-text [] h = tt
plain-text (b ∷ bs) h =
    let x = both (ltb b 256) (not (b == 47) && is_plain_text bs) h in
    let y = both (not (b == 47)) (is_plain_text bs) x.1 in
    let x0 = x.0 in
    let y0 = y.0 in
    (grind (arith, nat_tests), (λ e. grind (arith, nat_tests)), plain-text bs y.1)

plain-pattern : (ps : List Piece) → is_plain_pattern ps ≡ true → IsPlainPattern ps
plain-pattern [] h = tt
plain-pattern (text t ∷ ps) h =
    let x = both (is_plain_text t) (is_plain_pattern ps) h in
    (plain-text t x.0, plain-pattern ps x.1)
plain-pattern (param ∷ ps) h = plain-pattern ps h

pub plain-patterns : {K : Type 0} (table : List (PatternOf K)) → are_plain table ≡ true → ArePlain table
plain-patterns [] h = tt
plain-patterns ((ps, k) ∷ r) h =
    let x = both (is_plain_pattern ps) (are_plain r) h in
    (plain-pattern ps x.0, plain-patterns r x.1)
