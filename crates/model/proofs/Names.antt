-- Names are texts of few bytes.
use Rattle.std.proofs.Common.{◌≡◌, ℕ, ◌≤◌, true, ◌&&◌, IsTrue, List, length, refl, arith}
use Rattle.std.specs.Prelude.{nat_le, encode_utf8_all}
use Rattle.std.specs.Str.{all_scalars}
use Rattle.std.proofs.lemmas.Bool.Decides.{nat_tests}
use Rattle.std.proofs.lemmas.Bool.{and_parts as both}
use Rattle.base_lemmas.proofs.Lists.{length-encodes as four_each}
use Rattle.model.specs.Sound.{is_name}

small : (n : ℕ) → nat_le n 80 ≡ true → n ≤ 80
small n h = grind (arith, nat_tests)

pub name_text : (name : List ℕ) → IsTrue (is_name name) → all_scalars name ≡ true
unfolding is_name
name_text name h = (both (all_scalars name) (nat_le 1 (length name) && nat_le (length name) 80) h).0

pub name_short : (name : List ℕ) → IsTrue (is_name name) → length (encode_utf8_all name) ≤ 320
unfolding is_name
name_short name h =
    let p = both (all_scalars name) (nat_le 1 (length name) && nat_le (length name) 80) h in
    let q = both (nat_le 1 (length name)) (nat_le (length name) 80) p.1 in
    omega (arith, four_each name, small (length name) q.1)

pub name_when : (name : List ℕ) → all_scalars name ≡ true → (nat_le 1 (length name) && nat_le (length name) 80) ≡ is_name name
unfolding is_name
name_when name h = rw h refl
