-- Reading, one level at a time.
use Rattle.std.proofs.Common.{◌≡◌, ◌≢◌, ℕ, zero, suc, ◌-◌, List, refl, arith}
use Rattle.base_json.specs.Characters.{after_spaces}
use Rattle.base_json.specs.Reading.{behind, listed, listed_by, repeated, item_turn, element, pair, value, value_of, lists_at, objects_at}

pub value_is : (levels : ℕ) (cs : List ℕ) → value_of (lists_at levels) (objects_at levels) cs ≡ value levels cs
unfolding value
value_is zero cs = refl
value_is (suc levels) cs = refl

-- what stands behind the bracket of a list, where one may be open
pub lists_is : (levels : ℕ) (cs : List ℕ) → levels ≢ 0
    → lists_at levels cs ≡ listed_by (behind 93 (after_spaces cs)) (repeated (item_turn (element (value (levels - 1))) 93) cs)
unfolding listed
lists_is zero cs some = absurd (some refl)
lists_is (suc levels) cs some = let e : suc levels - 1 ≡ levels = omega arith in rw e refl

pub objects_is : (levels : ℕ) (cs : List ℕ) → levels ≢ 0
    → objects_at levels cs ≡ listed_by (behind 125 (after_spaces cs)) (repeated (item_turn (pair (value (levels - 1))) 125) cs)
unfolding listed
objects_is zero cs some = absurd (some refl)
objects_is (suc levels) cs some = let e : suc levels - 1 ≡ levels = omega arith in rw e refl
