-- An id's characters are ASCII.
use Rattle.std.proofs.Common.{◌≡◌, ℕ, zero, suc, ◌<◌, true, IsTrue, List, [], ◌∷◌, length, arith, lit<}
use Rattle.std.specs.Prelude.{◌==◌}
use Rattle.std.specs.List.{list_all}
use Rattle.std.specs.Str.{IsAscii}
use Rattle.std.proofs.lemmas.Bool.Decides.{nat_tests}
use Rattle.base_lemmas.proofs.Bools.{and_first as and_left, and_second as and_right}
use Rattle.base_value.specs.Id.{is_digit62, is_id}

digit_ascii : (c : ℕ) → is_digit62 c ≡ true → c < 128
digit_ascii c h = grind (arith, nat_tests)

digits_ascii : (cs : List ℕ) → list_all is_digit62 cs ≡ true → IsAscii cs
digits_ascii [] h i = lit< tt
digits_ascii (c ∷ cs) h zero = digit_ascii c (and_left (is_digit62 c) (list_all is_digit62 cs) h)
digits_ascii (c ∷ cs) h (suc i) = digits_ascii cs (and_right (is_digit62 c) (list_all is_digit62 cs) h) i

pub id_ascii : (id : List ℕ) → IsTrue (is_id id) → IsAscii id
id_ascii id h = digits_ascii id (and_right (length id == 15) (list_all is_digit62 id) h)
