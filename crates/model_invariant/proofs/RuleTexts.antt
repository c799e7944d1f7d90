-- The texts of rules: those that spell a formula are short, and those of a body are of characters.
use Rattle.std.proofs.Common.{◌≡◌, ℕ, Bool, true, false, ◌&&◌, cond, List, [], ◌∷◌, ◌++◌, length, Option, Some, None, refl, subst, arith, nat_lt, nat_le, bytes_eq}
use Rattle.std.specs.Prelude.{Err}
use Rattle.std.specs.List.{find, list_all}
use Rattle.std.specs.Option.{option_map}
use Rattle.std.specs.Str.{all_scalars}
use Rattle.std.proofs.lemmas.Bool.Decides.{nat_tests}
use Rattle.base_lemmas.proofs.Bools.{and_first as both_left, and_second as both_right}
use Rattle.base_json.specs.Reading.{◌>>=◌}
use Rattle.base_json.specs.declared.tree.Json.{Json}
use Rattle.base_json.specs.declared.tree.Json.TheVariants as json
use Rattle.model.specs.Limits.{formula_limit}
use Rattle.base_value.specs.Texts.{texts_differ}
use Rattle.model.specs.Given.{json_text}
use Rattle.model.specs.Members.{Body, as_text, entry_named, formed, is_one_of, member_names, text_in}
use Rattle.model.specs.FormulaTexts.{reads_text}
use Rattle.model.specs.RuleFormulas.{formula_of, malformed}
use Rattle.model.specs.Tenant.{Object}

-- a text that isn't refused has at most 4,000 characters
pub short_text : (o : Object) (criteria : Bool) (text : List ℕ) → malformed (formula_of o criteria text) ≡ None → nat_le (length text) formula_limit ≡ true
unfolding formula_of
short_text o criteria text e = by (nat_lt formula_limit (length text)) refl e
  where
    low : (n : ℕ) → nat_lt formula_limit n ≡ false → nat_le n formula_limit ≡ true
    low n h = grind (arith, nat_tests)

    by : (b : Bool) → nat_lt formula_limit (length text) ≡ b → malformed (cond b (Err 0) (reads_text o criteria text)) ≡ None → nat_le (length text) formula_limit ≡ true
    by true h e = absurd cc
    by false h e = low (length text) h

-- ---- bodies of characters

abbrev pub AreSpelled : Body → Type 0
AreSpelled b = list_all (λ (m : List ℕ × Json). all_scalars (json_text m.1)) b ≡ true

entry_spelled : (b : Body) (name : List ℕ) (v : Json) → AreSpelled b → entry_named b name ≡ Some v → all_scalars (json_text v) ≡ true
entry_spelled [] name v h e = absurd cc
entry_spelled (m ∷ b) name v h e =
    by (bytes_eq m.0 name) (both_left (all_scalars (json_text m.1)) (list_all (λ (m : List ℕ × Json). all_scalars (json_text m.1)) b) h)
    (entry_spelled b name v (both_right (all_scalars (json_text m.1)) (list_all (λ (m : List ℕ × Json). all_scalars (json_text m.1)) b) h)) e
  where
    by : (c : Bool) → all_scalars (json_text m.1) ≡ true → (entry_named b name ≡ Some v → all_scalars (json_text v) ≡ true)
        → option_map (λ (x : List ℕ × Json). x.1) (cond c (Some m) (find (λ (x : List ℕ × Json). bytes_eq x.0 name) b)) ≡ Some v → all_scalars (json_text v) ≡ true
    by true first rest e = subst (λ (x : Json). all_scalars (json_text x) ≡ true) (some_json m.1 v e) first
      where
        some_json : (x y : Json) → ◌≡◌ {A = Option Json} (Some x) (Some y) → x ≡ y
        some_json x y e = cc
    by false first rest e = rest e

text_is : (v : Json) (text : List ℕ) → as_text v ≡ Some text → json_text v ≡ text
text_is (json.Text t) text e = cc
text_is v text e = absurd cc

-- a member that is a text is of characters
pub text_spelled : (b : Body) (name text : List ℕ) → AreSpelled b → text_in b name ≡ Some text → all_scalars text ≡ true
text_spelled b name text h e = by (entry_named b name) refl e
  where
    by : (o : Option Json) → entry_named b name ≡ o → (o >>= as_text) ≡ Some text → all_scalars text ≡ true
    by None w e = absurd cc
    by (Some v) w e = subst (λ (x : List ℕ). all_scalars x ≡ true) (text_is v text e) (entry_spelled b name v h w)

-- a body of its form is that body
pub formed_same : (needed optional : List (List ℕ)) (body b : Body) → formed needed optional body ≡ Some b → body ≡ b
formed_same needed optional body b e =
    by (texts_differ (member_names body) && (list_all (is_one_of (needed ++ optional)) (member_names body) && list_all (is_one_of (member_names body)) needed)) e
  where
    by : (c : Bool) → cond c (Some body) None ≡ Some b → body ≡ b
    by true e = cc
    by false e = absurd cc
