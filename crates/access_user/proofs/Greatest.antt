-- The greater of levels.
use Rattle.std.proofs.Common.{◌≡◌, ◌∙◌, Bool, true, false, cond, nat_le, List, [], ◌∷◌, ◌++◌, refl, sym, ap, arith}
use Rattle.std.proofs.lemmas.Bool.Decides.{nat_tests}
use Rattle.base_value.specs.declared.sharing.Level.{Level}
use Rattle.base_value.specs.declared.sharing.Level.TheVariants.{Nothing, Read, Edit, Full}
use Rattle.model.specs.Levels.{at_least, greatest, rank}
use Rattle.access_user.specs.level.Own.{greater, up_to}

pub none_left : (a : Level) → greater Nothing a ≡ a
none_left Nothing = refl
none_left Read = refl
none_left Edit = refl
none_left Full = refl

none_right : (a : Level) → greater a Nothing ≡ a
none_right Nothing = refl
none_right Read = refl
none_right Edit = refl
none_right Full = refl

pub full_left : (a : Level) → greater Full a ≡ Full
full_left Nothing = refl
full_left Read = refl
full_left Edit = refl
full_left Full = refl

full_right : (a : Level) → greater a Full ≡ Full
full_right Nothing = refl
full_right Read = refl
full_right Edit = refl
full_right Full = refl

-- ---- in any order

same_order : (a b : Level) → greater a b ≡ greater b a
same_order Nothing b = none_left b ∙ sym (none_right b)
same_order Full b = full_left b ∙ sym (full_right b)
same_order Read Nothing = refl
same_order Read Read = refl
same_order Read Edit = refl
same_order Read Full = refl
same_order Edit Nothing = refl
same_order Edit Read = refl
same_order Edit Edit = refl
same_order Edit Full = refl

pub in_turn : (a b c : Level) → greater (greater a b) c ≡ greater a (greater b c)
in_turn Nothing b c = ap (λ (x : Level). greater x c) (none_left b) ∙ sym (none_left (greater b c))
in_turn Full b c = ap (λ (x : Level). greater x c) (full_left b) ∙ full_left c ∙ sym (full_left (greater b c))
in_turn Read Nothing c = ap (greater Read) (sym (none_left c))
in_turn Read Full c = full_left c ∙ sym (ap (greater Read) (full_left c))
in_turn Read Read Nothing = refl
in_turn Read Read Read = refl
in_turn Read Read Edit = refl
in_turn Read Read Full = refl
in_turn Read Edit Nothing = refl
in_turn Read Edit Read = refl
in_turn Read Edit Edit = refl
in_turn Read Edit Full = refl
in_turn Edit Nothing c = ap (greater Edit) (sym (none_left c))
in_turn Edit Full c = full_left c ∙ sym (ap (greater Edit) (full_left c))
in_turn Edit Read Nothing = refl
in_turn Edit Read Read = refl
in_turn Edit Read Edit = refl
in_turn Edit Read Full = refl
in_turn Edit Edit Nothing = refl
in_turn Edit Edit Read = refl
in_turn Edit Edit Edit = refl
in_turn Edit Edit Full = refl

-- the first goes to the second
pub swapped : (a b c : Level) → greater a (greater b c) ≡ greater b (greater a c)
swapped a b c = sym (in_turn a b c) ∙ ap (λ (x : Level). greater x c) (same_order a b) ∙ in_turn b a c

pub greatest_both : (xs ys : List Level) → greatest (xs ++ ys) ≡ greater (greatest xs) (greatest ys)
greatest_both [] ys = sym (none_left (greatest ys))
greatest_both (x ∷ xs) ys = ap (greater x) (greatest_both xs ys) ∙ sym (in_turn x (greatest xs) (greatest ys))

-- ---- what a greater level includes

includes_left : (least a b : Level) → at_least least a ≡ true → at_least least (greater a b) ≡ true
includes_left least a b e = by (at_least a b) refl
  where
    by : (more : Bool) → at_least a b ≡ more → at_least least (cond more b a) ≡ true
    by false is = e
    by true is = let low : nat_le (rank least) (rank a) ≡ true = e in let high : nat_le (rank a) (rank b) ≡ true = is in grind (arith, nat_tests)

pub read_left : (a b : Level) → at_least Read a ≡ true → at_least Read (greater a b) ≡ true
read_left a b e = includes_left Read a b e

pub read_right : (a b : Level) → at_least Read b ≡ true → at_least Read (greater a b) ≡ true
read_right a b e = ap (at_least Read) (same_order a b) ∙ read_left b a e

-- as far as a level is asked for that the first includes, the second adds nothing
pub settled_left : (asked a b : Level) → at_least asked a ≡ true → up_to asked a ≡ up_to asked (greater a b)
settled_left asked a b e = as_asked a e ∙ sym (as_asked (greater a b) (includes_left asked a b e))
  where
    as_asked : (x : Level) → at_least asked x ≡ true → up_to asked x ≡ asked
    as_asked x e = ap (λ (includes : Bool). cond includes asked x) e
