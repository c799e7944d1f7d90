-- A text as it grows.
use Rattle.std.proofs.Common.{◌≡◌, ℕ, Bool, true, false, not, List, [], ◌∷◌, ◌++◌, Result, Ok, Err, OnOk, if◌then◌else◌, refl, sym, ◌∙◌, ap, append_assoc, append-nil, codes}
use Rattle.std.specs.Result.{is_ok}
use Rattle.std.specs.List.{flat_map, join_by}
use Rattle.std.specs.Str.{IsUtf8, chars}
use Rattle.std.proofs.lemmas.Str.{chars-append}
use Rattle.soql.specs.declared.query.Cond.{Cond, Not}
use Rattle.soql_printer.specs.Printing.{as_unit, is_simple, only_if, printed_condition}
use Rattle.soql_printer.specs.inner.Units.{unit_text}
use Rattle.soql_printer.proofs.Units.{printed_not}

-- ---- characters
pub grown : {X E : Type 0} (r : Result X E) (old new bytes before more : List ℕ) → IsUtf8 old → new ≡ (if is_ok r then old ++ bytes else old)
    → chars old ≡ before → chars bytes ≡ more → OnOk r (chars new ≡ before ++ more)
grown (Ok x) old new bytes before more utf8 e b m = rw (e, ← b, ← m) (chars-append old bytes utf8)
grown (Err x) old new bytes before more utf8 e b m = tt

-- ---- pieces one after the other
pub three : (w x y z a b c : List ℕ) → x ≡ w ++ a → y ≡ x ++ b → z ≡ y ++ c → z ≡ w ++ (a ++ b ++ c)
three w x y z a b c e f g = rw (g, f, e) (simp append_assoc)

pub four : (w x y z v a b c d : List ℕ) → x ≡ w ++ a → y ≡ x ++ b → z ≡ y ++ c → v ≡ z ++ d → v ≡ w ++ (a ++ (b ++ (c ++ d)))
four w x y z v a b c d e f g h = rw (h, g, f, e) (simp append_assoc)

-- ---- conditions within another
unit_parts : (bare : Bool) (text : List ℕ) → only_if (not bare) (codes "(") ++ (text ++ only_if (not bare) (codes ")")) ≡ as_unit bare text
unit_parts true text = append-nil text
unit_parts false text = refl

unit_is : (part got : Cond) (bare : Bool) → got ≡ part → bare ≡ is_simple got
    → only_if (not bare) (codes "(") ++ (printed_condition got ++ only_if (not bare) (codes ")")) ≡ unit_text part
unfolding unit_text
unit_is part got bare e b = rw (e, b, e) (unit_parts (is_simple part) (printed_condition part))

pub not_text : (w x y z v : List ℕ) (bare : Bool) (part got whole : Cond) → got ≡ part → whole ≡ Not part → bare ≡ is_simple got → x ≡ w ++ codes "NOT "
    → y ≡ x ++ only_if (not bare) (codes "(") → z ≡ y ++ printed_condition got → v ≡ z ++ only_if (not bare) (codes ")") → v ≡ w ++ printed_condition whole
not_text w x y z v bare part got whole same is b e f g h =
    four w x y z v (codes "NOT ") _ _ _ e f g h ∙ ap (λ t. w ++ (codes "NOT " ++ t)) (unit_is part got bare same b)
    ∙ ap (λ t. w ++ t) (sym (printed_not part) ∙ ap printed_condition (sym is))

-- the texts of what is left, where some were written or none
abbrev pub left_text : (begun : Bool) → List ℕ → List Cond → List ℕ
left_text begun between rest = if begun then flat_map (λ u. between ++ unit_text u) rest else join_by unit_text between rest

left_more : (begun : Bool) (between : List ℕ) (part : Cond) (rest : List Cond) → only_if begun between ++ (unit_text part ++ left_text true between rest) ≡ left_text begun between (part ∷ rest)
left_more true between part rest = sym (append_assoc between (unit_text part) (flat_map (λ u. between ++ unit_text u) rest))
left_more false between part rest = refl

pub unit_more : (w x y z v between : List ℕ) (begun bare : Bool) (part got : Cond) (rest : List Cond) → got ≡ part → bare ≡ is_simple got → x ≡ w ++ only_if begun between
    → y ≡ x ++ only_if (not bare) (codes "(") → z ≡ y ++ printed_condition got → v ≡ z ++ only_if (not bare) (codes ")")
    → v ++ left_text true between rest ≡ w ++ left_text begun between (part ∷ rest)
unit_more w x y z v between begun bare part got rest same b e f g h =
    ap (λ t. t ++ left_text true between rest) (four w x y z v (only_if begun between) _ _ _ e f g h ∙ ap (λ t. w ++ (only_if begun between ++ t)) (unit_is part got bare same b))
    ∙ append_assoc w (only_if begun between ++ unit_text part) (left_text true between rest)
    ∙ ap (λ t. w ++ t) (append_assoc (only_if begun between) (unit_text part) (left_text true between rest) ∙ left_more begun between part rest)

pub none_left : (begun : Bool) (between : List ℕ) → left_text begun between [] ≡ []
none_left true between = refl
none_left false between = refl
