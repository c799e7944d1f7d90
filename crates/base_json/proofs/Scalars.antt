-- What is printed is made of Unicode scalars.
use Rattle.std.proofs.Common.{◌≡◌, ℕ, zero, suc, ◌/◌, ◌%◌, ◌<◌, ◌≤◌, ◌&&◌, nat_lt, Bool, true, false, cond, List, [], ◌∷◌, ◌++◌, map, Option, Some, None, refl, arith, ne_eqb as not_same}
use Rattle.std.specs.List.{AllByRecursion, flat_map}
use Rattle.std.specs.Str.{all_scalars}
use Rattle.std.proofs.Math.Utf8.{scalar}
use Rattle.std.proofs.lemmas.Bool.Decides.{nat_tests}
use Rattle.base_lemmas.proofs.Texts.{scalars-ascii as ascii_scalars}
use Rattle.base_json.specs.Characters.{short_escape}
use Rattle.base_value.specs.Printing.{print_number}
use Rattle.base_value.proofs.NumberLaws.{number_ascii}
use Rattle.base_json.specs.Printing.{letter_for, hex_digit, escaped_by, escaped, printed_text}
use Rattle.base_json.specs.Whole.{joined, printed_layer, printed_member, printed, Fits_layer, Fits_member, Fits}
use Rattle.base_json.specs.declared.tree.Num.TheVariants.{Exact, Beyond}
use Rattle.base_json.specs.declared.tree.Json.{Json, out-Json}
use Rattle.base_json.specs.declared.tree.Json.TheOpen.{Json-F}
use Rattle.base_json.specs.declared.tree.Member.{Member, out-Member}
use Rattle.base_json.proofs.Written.{letter_is}

scalars_append : (xs ys : List ℕ) → all_scalars xs ≡ true → all_scalars ys ≡ true → all_scalars (xs ++ ys) ≡ true
scalars_append [] ys p q = q
scalars_append (x ∷ xs) ys p q = by_first (scalar x) p (λ r. scalars_append xs ys r q)
  where
    by_first : (b : Bool) → (b && all_scalars xs) ≡ true → (all_scalars xs ≡ true → all_scalars (xs ++ ys) ≡ true) → (b && all_scalars (xs ++ ys)) ≡ true
    by_first true r more = more r
    by_first false r more = absurd (cc)

small_scalar : (c : ℕ) → c < 128 → scalar c ≡ true
small_scalar c h = grind (arith, nat_tests)

small_then : (c : ℕ) (cs : List ℕ) → c < 128 → all_scalars cs ≡ true → all_scalars (c ∷ cs) ≡ true
small_then c cs h p = rw (small_scalar c h) p

hex_small : (d : ℕ) → d < 16 → hex_digit d < 128
hex_small d h = grind (arith, nat_tests)

great_letter : (l c : ℕ) → 128 ≤ l → short_escape l ≡ Some c → ⊥
great_letter l c g h =
    let none : short_escape l ≡ None =
    rw (not_same l 34 (omega arith), not_same l 92 (omega arith), not_same l 47 (omega arith), not_same l 98 (omega arith), not_same l 102 (omega arith), not_same l 110 (omega arith), not_same l 114 (omega arith), not_same l 116 (omega arith)) refl in
    cc

letter_small : (c l : ℕ) → letter_for c ≡ Some l → l < 128
letter_small c l h = by_test (nat_lt l 128) refl
  where
    by_test : (b : Bool) → nat_lt l 128 ≡ b → l < 128
    by_test true e = grind (arith, nat_tests, e)
    by_test false e = let great : 128 ≤ l = grind (arith, nat_tests, e) in absurd (great_letter l c great (letter_is c l h))

escaped_scalars : (c : ℕ) → scalar c ≡ true → all_scalars (escaped c) ≡ true
unfolding escaped
escaped_scalars c h = by_letter (letter_for c) refl
  where
    by_size : (b : Bool) → nat_lt c 32 ≡ b → all_scalars (cond b (92 ∷ 117 ∷ 48 ∷ 48 ∷ hex_digit (c / 16) ∷ hex_digit (c % 16) ∷ []) (c ∷ [])) ≡ true
    by_size true e =
        let below : c < 32 = grind (arith, nat_tests, e) in
        small_then (hex_digit (c / 16)) (hex_digit (c % 16) ∷ []) (hex_small (c / 16) (omega arith)) (small_then (hex_digit (c % 16)) [] (hex_small (c % 16) (omega arith)) refl)
    by_size false e = rw h refl

    by_letter : (o : Option ℕ) → letter_for c ≡ o → all_scalars (escaped_by o c) ≡ true
    by_letter (Some l) e = small_then l [] (letter_small c l e) refl
    by_letter None e = by_size (nat_lt c 32) refl

content_scalars : (cs : List ℕ) → all_scalars cs ≡ true → all_scalars (flat_map escaped cs) ≡ true
content_scalars [] h = refl
content_scalars (c ∷ cs) h = by_first (scalar c) refl h (content_scalars cs)
  where
    by_first : (b : Bool) → scalar c ≡ b → (b && all_scalars cs) ≡ true → (all_scalars cs ≡ true → all_scalars (flat_map escaped cs) ≡ true) → all_scalars (escaped c ++ flat_map escaped cs) ≡ true
    by_first true e r more = scalars_append (escaped c) (flat_map escaped cs) (escaped_scalars c e) (more r)
    by_first false e r more = absurd (cc)

text_scalars : (cs : List ℕ) → all_scalars cs ≡ true → all_scalars (printed_text cs) ≡ true
text_scalars cs h = scalars_append (flat_map escaped cs) (34 ∷ []) (content_scalars cs h) refl

module _ {A : Type 0} (text : A → List ℕ) (Good : A → Type 0) (each : (x : A) → Good x → all_scalars (text x) ≡ true) where
  joined_scalars : (xs : List A) → AllByRecursion Good xs → all_scalars (joined (map text xs)) ≡ true
  joined_scalars [] all = refl
  joined_scalars (x ∷ []) all = each x all.0
  joined_scalars (x ∷ y ∷ ys) all = scalars_append (text x) (44 ∷ joined (map text (y ∷ ys))) (each x all.0) (joined_scalars (y ∷ ys) all.1)

layer_scalars : (lists : List Json → List ℕ) (objects : List Member → List ℕ) (Lists : List Json → Type 0) (Objects : List Member → Type 0)
    → ((xs : List Json) → Lists xs → all_scalars (lists xs) ≡ true) → ((ms : List Member) → Objects ms → all_scalars (objects ms) ≡ true)
    → (layer : Json-F Json Member) → Fits_layer Lists Objects layer → all_scalars (printed_layer lists objects layer) ≡ true
layer_scalars lists objects Lists Objects p q Json-F.Null h = refl
layer_scalars lists objects Lists Objects p q (Json-F.Bool true) h = refl
layer_scalars lists objects Lists Objects p q (Json-F.Bool false) h = refl
layer_scalars lists objects Lists Objects p q (Json-F.Number (Exact z)) h = ascii_scalars (print_number z) (number_ascii z)
layer_scalars lists objects Lists Objects p q (Json-F.Number Beyond) h = absurd h
layer_scalars lists objects Lists Objects p q (Json-F.Text t) h = text_scalars t h
layer_scalars lists objects Lists Objects p q (Json-F.List xs) h = scalars_append (lists xs) (93 ∷ []) (p xs h) refl
layer_scalars lists objects Lists Objects p q (Json-F.Object ms) h = scalars_append (objects ms) (125 ∷ []) (q ms h) refl

member_scalars : (value : Json → List ℕ) (Good : Json → Type 0) → ((v : Json) → Good v → all_scalars (value v) ≡ true)
    → (m : Member) → Fits_member Good m → all_scalars (printed_member value m) ≡ true
member_scalars value Good each m h =
    scalars_append (printed_text (out-Member m).name) (58 ∷ value (out-Member m).value) (text_scalars (out-Member m).name h.0) (each (out-Member m).value h.1)

pub value_scalars : (levels : ℕ) (v : Json) → Fits levels v → all_scalars (printed levels v) ≡ true
unfolding printed Fits
value_scalars zero v h = layer_scalars (λ xs. []) (λ ms. []) (λ xs. ⊥) (λ ms. ⊥) (λ xs h. absurd h) (λ ms h. absurd h) (out-Json v) h
value_scalars (suc levels) v h =
    layer_scalars (λ xs. joined (map (printed levels) xs)) (λ ms. joined (map (printed_member (printed levels)) ms)) (AllByRecursion (Fits levels)) (AllByRecursion (Fits_member (Fits levels)))
    (joined_scalars (printed levels) (Fits levels) (value_scalars levels))
    (joined_scalars (printed_member (printed levels)) (Fits_member (Fits levels)) (member_scalars (printed levels) (Fits levels) (value_scalars levels)))
    (out-Json v) h
