-- What is printed of a value spells it.
use Rattle.std.proofs.Common.{◌≡◌, ℕ, zero, suc, ◌||◌, ◌==◌, true, false, List, [], ◌∷◌, ◌++◌, map, refl, sym, ◌∙◌, ap, subst, append_assoc, append-nil, arith}
use Rattle.std.specs.List.{AllByRecursion}
use Rattle.std.specs.Str.{encode_utf8_all}
use Rattle.std.proofs.lemmas.Bool.Decides.{nat_tests}
use Rattle.base_value.specs.Numerals.{is_digit}
use Rattle.base_json.specs.Characters.{Part, is_space, after_spaces}
use Rattle.base_json.specs.Grammar.{Quoted, Items, Listed, Element, Pair, Sort, null, truth, falsehood, number, string, array, object, ValueAs, ValueOf, never, Value, depth, IsText, Spells}
use Rattle.base_json.specs.Printing.{printed_text, Ends}
use Rattle.base_json.specs.Whole.{joined, printed_layer, printed_member, printed, Fits_layer, Fits_member, Fits}
use Rattle.base_json.specs.declared.tree.Num.TheVariants.{Exact, Beyond}
use Rattle.base_json.specs.declared.tree.Json.{Json, out-Json, roll-Json, roll-out-Json}
use Rattle.base_json.specs.declared.tree.Json.TheOpen.{Json-F}
use Rattle.base_json.specs.declared.tree.Json.TheVariants as j
use Rattle.base_json.specs.declared.tree.Member.{Member, out-Member}
use Rattle.base_json.proofs.Values.{numeral_first}
use Rattle.base_json.proofs.Scalars.{value_scalars}
use Rattle.base_json.proofs.Written.{number_printed, text_printed}

-- ---- no value begins with white space

space_not : (c : ℕ) → ((c == 45) || is_digit c) ≡ true → is_space c ≡ false
unfolding is_digit
space_not c h = grind (arith, nat_tests)

value_first : (lists : Part (List Json)) (objects : Part (List Member)) (sort : Sort) (cs : List ℕ) (v : Json) (rest : List ℕ)
    → ValueAs lists objects sort cs v rest → after_spaces cs ≡ cs
value_first lists objects null cs v rest h = rw h.0 refl
value_first lists objects truth cs v rest h = rw h.0 refl
value_first lists objects falsehood cs v rest h = rw h.0 refl
value_first lists objects number cs v rest h = let first = numeral_first cs h.0 rest h.1 in rw (first.2, space_not first.0 first.3) refl
value_first lists objects string cs v rest h = rw h.1.1 refl
value_first lists objects array cs v rest h = rw h.2 refl
value_first lists objects object cs v rest h = rw h.2 refl

first_of : (levels : ℕ) (cs : List ℕ) (v : Json) (rest : List ℕ) → Value levels cs v rest → after_spaces cs ≡ cs
unfolding Value
first_of zero cs v rest h = value_first _ _ h.0 cs v rest h.1
first_of (suc levels) cs v rest h = value_first _ _ h.0 cs v rest h.1

-- ---- items

module _ {A : Type 0} (part : Part A) (end : ℕ) (text : A → List ℕ) (Good : A → Type 0)
    (comma : (x : A) (rest : List ℕ) → Good x → part (text x ++ 44 ∷ rest) x (44 ∷ rest))
    (last : (x : A) (rest : List ℕ) → Good x → part (text x ++ end ∷ rest) x (end ∷ rest)) where
  items_printed : (x : A) (xs : List A) (rest : List ℕ) → Good x → AllByRecursion Good xs → Items part end (joined (map text (x ∷ xs)) ++ end ∷ rest) (x ∷ xs) rest
  items_printed x [] rest h all = last x rest h
  items_printed x (y ∷ ys) rest h all = (
    joined (map text (y ∷ ys)) ++ end ∷ rest,
    subst (λ (cs : List ℕ). part cs x (44 ∷ (joined (map text (y ∷ ys)) ++ end ∷ rest)))
        (sym (append_assoc (text x) (44 ∷ joined (map text (y ∷ ys))) (end ∷ rest))) (comma x (joined (map text (y ∷ ys)) ++ end ∷ rest) h),
    items_printed y ys rest all.0 all.1,
  )

  listed_printed : (xs : List A) (rest : List ℕ) → (after_spaces (end ∷ rest) ≡ end ∷ rest) → AllByRecursion Good xs → Listed part end (joined (map text xs) ++ end ∷ rest) xs rest
  listed_printed [] rest e all = e
  listed_printed (x ∷ xs) rest e all = items_printed x xs rest all.0 all.1

-- ---- values

-- what is printed of a value spells it, in front of what ends a number
abbrev IsPrinted : ℕ → Type 0
IsPrinted levels = (v : Json) (rest : List ℕ) → Fits levels v → Ends rest → Value levels (printed levels v ++ rest) v rest

element_printed : (levels : ℕ) → IsPrinted levels → (v : Json) (rest : List ℕ) → Fits levels v → Ends rest → after_spaces rest ≡ rest
    → Element (Value levels) (printed levels v ++ rest) v rest
element_printed levels is v rest h ends e =
    let value = is v rest h ends in
    (rest, subst (λ (cs : List ℕ). Value levels cs v rest) (sym (first_of levels (printed levels v ++ rest) v rest value)) value, sym e)

pair_printed : (levels : ℕ) → IsPrinted levels → (m : Member) (rest : List ℕ) → Fits levels (out-Member m).value → Ends rest → after_spaces rest ≡ rest
    → Pair (Value levels) (printed_member (printed levels) m ++ rest) m rest
pair_printed levels is m rest h ends e =
    let name = (out-Member m).name in
    let v = (out-Member m).value in (
      name,
      v,
      58 ∷ (printed levels v ++ rest),
      printed levels v ++ rest,
      subst (λ (cs : List ℕ). Quoted (after_spaces cs) name (58 ∷ (printed levels v ++ rest)))
          (sym (append_assoc (printed_text name) (58 ∷ printed levels v) rest)) (text_printed name (58 ∷ (printed levels v ++ rest))),
      refl,
      element_printed levels is v rest h ends e,
      refl,
    )

is_layer : (v : Json) (layer : Json-F Json Member) → out-Json v ≡ layer → v ≡ roll-Json layer
is_layer v layer e = sym (roll-out-Json v) ∙ ap roll-Json e

module _ (lists : Part (List Json)) (objects : Part (List Member)) (print_lists : List Json → List ℕ) (print_objects : List Member → List ℕ)
    (Good_lists : List Json → Type 0) (Good_objects : List Member → Type 0)
    (lists_are : (xs : List Json) (rest : List ℕ) → Good_lists xs → lists (print_lists xs ++ 93 ∷ rest) xs rest)
    (objects_are : (ms : List Member) (rest : List ℕ) → Good_objects ms → objects (print_objects ms ++ 125 ∷ rest) ms rest) where
  layer_printed : (layer : Json-F Json Member) (v : Json) (rest : List ℕ) → v ≡ roll-Json layer → Fits_layer Good_lists Good_objects layer → Ends rest
      → ValueOf lists objects (printed_layer print_lists print_objects layer ++ rest) v rest
  layer_printed Json-F.Null v rest e h ends = (null, (refl, e ∙ j.rolls-Null))
  layer_printed (Json-F.Bool true) v rest e h ends = (truth, (refl, e ∙ j.rolls-Bool true))
  layer_printed (Json-F.Bool false) v rest e h ends = (falsehood, (refl, e ∙ j.rolls-Bool false))
  layer_printed (Json-F.Number (Exact z)) v rest e h ends = (number, (Exact z, number_printed z rest h ends, e ∙ j.rolls-Number (Exact z)))
  layer_printed (Json-F.Number Beyond) v rest e h ends = absurd h
  layer_printed (Json-F.Text t) v rest e h ends = (string, (t, text_printed t rest, e ∙ j.rolls-Text t))
  layer_printed (Json-F.List xs) v rest e h ends =
      (array, (xs, print_lists xs ++ 93 ∷ rest, ap (λ cs. 91 ∷ cs) (append_assoc (print_lists xs) (93 ∷ []) rest), lists_are xs rest h, e ∙ j.rolls-List xs))
  layer_printed (Json-F.Object ms) v rest e h ends =
      (object, (ms, print_objects ms ++ 125 ∷ rest, ap (λ cs. 123 ∷ cs) (append_assoc (print_objects ms) (125 ∷ []) rest), objects_are ms rest h, e ∙ j.rolls-Object ms))

pub value_printed : (levels : ℕ) → IsPrinted levels
unfolding printed Fits Value is_digit
value_printed zero v rest h ends =
    layer_printed never never (λ xs. []) (λ ms. []) (λ xs. ⊥) (λ ms. ⊥) (λ xs rest h. absurd h) (λ ms rest h. absurd h) (out-Json v) v rest (is_layer v (out-Json v) refl) h ends
value_printed (suc levels) v rest h ends =
    let is = value_printed levels in
    layer_printed (Listed (Element (Value levels)) 93) (Listed (Pair (Value levels)) 125)
    (λ xs. joined (map (printed levels) xs)) (λ ms. joined (map (printed_member (printed levels)) ms))
    (AllByRecursion (Fits levels)) (AllByRecursion (Fits_member (Fits levels)))
    (λ xs rest all. listed_printed (Element (Value levels)) 93 (printed levels) (Fits levels)
    (λ x rest h. element_printed levels is x (44 ∷ rest) h refl refl) (λ x rest h. element_printed levels is x (93 ∷ rest) h refl refl) xs rest refl all)
    (λ ms rest all. listed_printed (Pair (Value levels)) 125 (printed_member (printed levels)) (Fits_member (Fits levels))
    (λ m rest h. pair_printed levels is m (44 ∷ rest) h.1 refl refl) (λ m rest h. pair_printed levels is m (125 ∷ rest) h.1 refl refl) ms rest refl all)
    (out-Json v) v rest (is_layer v (out-Json v) refl) h ends

pub text_of_value : (v : Json) → Fits depth v → IsText (printed depth v) v
text_of_value v h =
    subst (λ (cs : List ℕ). Element (Value depth) cs v []) (append-nil (printed depth v)) (element_printed depth (value_printed depth) v [] h refl refl)

pub whole_printed : (v : Json) → Fits depth v → Spells (encode_utf8_all (printed depth v)) v
whole_printed v h = (printed depth v, refl, value_scalars depth v h, text_of_value v h)
