-- What is written, piece by piece.
use Rattle.std.proofs.Common.{◌≡◌, ℕ, zero, suc, ◌+◌, ◌-◌, ◌<◌, List, [], ◌∷◌, ◌++◌, length, get_or, take, map, refl, sym, ap, ◌∙◌, append_assoc, append-nil, arith}
use Rattle.std.specs.Prelude.{ℤ, Bool, true, false}
use Rattle.std.specs.Char.{encode_utf8}
use Rattle.std.specs.Str.{encode_utf8_all}
use Rattle.std.proofs.lemmas.List.{length-map, length-take-le, map-append, take_more}
use Rattle.std.proofs.lemmas.Str.{encodes-append}
use Rattle.std.proofs.lemmas.Str.Ascii.{encodes-IsAscii}
use Rattle.base_value.specs.Printing.{print_number}
use Rattle.base_value.proofs.NumberLaws.{number_ascii}
use Rattle.base_json.specs.Printing.{printed_null, printed_text, printed_truth}
use Rattle.base_json.specs.Whole.{joined, printed, printed_layer, printed_member, printed_num}
use Rattle.base_json.specs.declared.tree.Json.{Json, out-Json, roll-Json, out-roll-Json}
use Rattle.base_json.specs.declared.tree.Json.TheOpen.{Json-F}
use Rattle.base_json.specs.declared.tree.Json.TheVariants as j
use Rattle.base_json.specs.declared.tree.Member.{Member}
use Rattle.base_json.specs.declared.tree.Num.{Num}
use Rattle.base_json_tree.specs.inner.Printed.{comma_at, in_list, in_object, items_at, members_at}

-- one piece behind another
pub after : (w0 w1 w2 a b : List ℕ) → w1 ≡ w0 ++ encode_utf8_all a → w2 ≡ w1 ++ encode_utf8_all b → w2 ≡ w0 ++ encode_utf8_all (a ++ b)
after w0 w1 w2 a b e f =
    f ∙ ap (λ w. w ++ encode_utf8_all b) e ∙ append_assoc w0 (encode_utf8_all a) (encode_utf8_all b)
    ∙ ap (λ t. w0 ++ t) (sym (encodes-append a b))

-- what is between brackets
pub enclosed : (w0 w1 w2 w3 inside : List ℕ) (first last : ℕ) → w1 ≡ w0 ++ encode_utf8_all (first ∷ []) → w2 ≡ w1 ++ encode_utf8_all inside
    → w3 ≡ w2 ++ encode_utf8_all (last ∷ []) → w3 ≡ w0 ++ encode_utf8_all (first ∷ (inside ++ last ∷ []))
enclosed w0 w1 w2 w3 inside first last e1 e2 e3 =
    after w0 w2 w3 (first ∷ inside) (last ∷ []) (after w0 w1 w2 (first ∷ []) inside e1 e2) e3

-- nothing
pub nothing : (w : List ℕ) → w ≡ w ++ encode_utf8_all []
nothing w = sym (append-nil w)

pub number_in_utf8 : (w0 w1 : List ℕ) (z : ℤ) → w1 ≡ w0 ++ print_number z → w1 ≡ w0 ++ encode_utf8_all (print_number z)
number_in_utf8 w0 w1 z e = e ∙ ap (λ (t : List ℕ). w0 ++ t) (sym (encodes-IsAscii (print_number z) (number_ascii z)))

-- ---- with commas between them
joined_last : (rows : List (List ℕ)) (row : List ℕ) → (joined rows ++ comma_at (length rows)) ++ row ≡ joined (rows ++ row ∷ [])
joined_last [] row = refl
joined_last (x ∷ []) row = append_assoc x (44 ∷ []) row
joined_last (x ∷ y ∷ ys) row =
    let first = joined (y ∷ ys) in
    ap (λ t. t ++ row) (append_assoc x (44 ∷ first) (44 ∷ [])) ∙ append_assoc x (44 ∷ (first ++ 44 ∷ [])) row
    ∙ ap (λ t. x ++ 44 ∷ t) (joined_last (y ∷ ys) row)

module _ {A : Type 0} (text : A → List ℕ) (items : List A) (place : ℕ) where
  one_more : (item : A) → place < length items → item ≡ get_or items place item
      → (joined (map text (take place items)) ++ comma_at place) ++ text item ≡ joined (map text (take (place + 1) items))
  one_more item h is =
      let before = take place items in
      let count : length (map text before) ≡ place = length-map before text ∙ length-take-le place items (omega arith) in
      ap (λ k. (joined (map text before) ++ comma_at k) ++ text item) (sym count) ∙ joined_last (map text before) (text item)
      ∙ ap joined (sym (map-append text before (item ∷ [])))
      ∙ ap (λ row. joined (map text row)) (sym (take_more items place item h ∙ ap (λ x. before ++ x ∷ []) (sym is)))

  pub turn : (item : A) (w0 w1 w2 w3 : List ℕ) → place < length items → item ≡ get_or items place item → w1 ≡ w0 ++ encode_utf8_all (joined (map text (take place items)))
      → w2 ≡ w1 ++ encode_utf8_all (comma_at place) → w3 ≡ w2 ++ encode_utf8_all (text item)
      → w3 ≡ w0 ++ encode_utf8_all (joined (map text (take (place + 1) items)))
  turn item w0 w1 w2 w3 h is e1 e2 e3 =
      let front = joined (map text (take place items)) in
      after w0 w2 w3 (front ++ comma_at place) (text item) (after w0 w1 w2 front (comma_at place) e1 e2) e3 ∙ ap (λ t. w0 ++ encode_utf8_all t) (one_more item h is)

-- a name, a colon and a value
pub member_written : (w0 w1 w2 name text value : List ℕ) → text ≡ name → w1 ≡ w0 ++ encode_utf8_all (printed_text text ++ 58 ∷ []) → w2 ≡ w1 ++ encode_utf8_all value
    → w2 ≡ w0 ++ encode_utf8_all (printed_text name ++ 58 ∷ value)
member_written w0 w1 w2 name text value is e1 e2 =
    after w0 w1 w2 (printed_text text ++ 58 ∷ []) value e1 e2 ∙ ap (λ t. w0 ++ encode_utf8_all t) (append_assoc (printed_text text) (58 ∷ []) value)
    ∙ ap (λ t. w0 ++ encode_utf8_all (printed_text t ++ 58 ∷ value)) is

-- ---- a value, one level at a time
-- what is within brackets that may be open
pub items_within : (levels : ℕ) (items : List Json) → 0 < levels → joined (map (printed (levels - 1)) items) ≡ items_at levels items
items_within zero items h = absurd (omega (arith, h))
items_within (suc levels) items h = let e : suc levels - 1 ≡ levels = omega arith in rw e refl

pub members_within : (levels : ℕ) (members : List Member) → 0 < levels → joined (map (printed_member (printed (levels - 1))) members) ≡ members_at levels members
members_within zero members h = absurd (omega (arith, h))
members_within (suc levels) members h = let e : suc levels - 1 ≡ levels = omega arith in rw e refl

printed_by : (levels : ℕ) (v : Json) → printed levels v ≡ printed_layer (items_at levels) (members_at levels) (out-Json v)
unfolding printed
printed_by zero v = refl
printed_by (suc levels) v = refl

-- by the layer that a value is made of
by_layer : (levels : ℕ) (v : Json) (layer : Json-F Json Member) → roll-Json layer ≡ v → printed levels v ≡ printed_layer (items_at levels) (members_at levels) layer
by_layer levels v layer e =
    printed_by levels v ∙ ap (λ l. printed_layer (items_at levels) (members_at levels) l) (ap out-Json (sym e) ∙ out-roll-Json layer)

null_bytes : encode_utf8_all printed_null ≡ printed_null
unfolding encode_utf8
null_bytes = refl

truth_bytes : (b : Bool) → encode_utf8_all (printed_truth b) ≡ printed_truth b
unfolding encode_utf8
truth_bytes true = refl
truth_bytes false = refl

module _ (levels : ℕ) (v : Json) (w0 w1 : List ℕ) where
  written_as : (characters : List ℕ) → printed levels v ≡ characters → w1 ≡ w0 ++ encode_utf8_all characters → w1 ≡ w0 ++ encode_utf8_all (printed levels v)
  written_as characters is e = e ∙ ap (λ t. w0 ++ encode_utf8_all t) (sym is)

  pub null_written : v ≡ j.Null → w1 ≡ w0 ++ printed_null → w1 ≡ w0 ++ encode_utf8_all (printed levels v)
  null_written is e = written_as printed_null (by_layer levels v Json-F.Null (j.rolls-Null ∙ sym is)) (e ∙ ap (λ t. w0 ++ t) (sym null_bytes))

  pub truth_written : (b : Bool) → v ≡ j.Bool b → w1 ≡ w0 ++ printed_truth b → w1 ≡ w0 ++ encode_utf8_all (printed levels v)
  truth_written b is e = written_as (printed_truth b) (by_layer levels v (Json-F.Bool b) (j.rolls-Bool b ∙ sym is)) (e ∙ ap (λ t. w0 ++ t) (sym (truth_bytes b)))

  pub num_written : (n : Num) → v ≡ j.Number n → w1 ≡ w0 ++ encode_utf8_all (printed_num n) → w1 ≡ w0 ++ encode_utf8_all (printed levels v)
  num_written n is e = written_as (printed_num n) (by_layer levels v (Json-F.Number n) (j.rolls-Number n ∙ sym is)) e

  pub text_written : (characters text : List ℕ) → v ≡ j.Text text → characters ≡ text → w1 ≡ w0 ++ encode_utf8_all (printed_text characters)
      → w1 ≡ w0 ++ encode_utf8_all (printed levels v)
  text_written characters text is same e =
      written_as (printed_text text) (by_layer levels v (Json-F.Text text) (j.rolls-Text text ∙ sym is)) (e ∙ ap (λ t. w0 ++ encode_utf8_all (printed_text t)) same)

  pub list_written : (given items : List Json) → v ≡ j.List items → given ≡ items → w1 ≡ w0 ++ encode_utf8_all (in_list levels given)
      → w1 ≡ w0 ++ encode_utf8_all (printed levels v)
  list_written given items is same e =
      written_as (in_list levels items) (by_layer levels v (Json-F.List items) (j.rolls-List items ∙ sym is)) (e ∙ ap (λ xs. w0 ++ encode_utf8_all (in_list levels xs)) same)

  pub object_written : (given members : List Member) → v ≡ j.Object members → given ≡ members → w1 ≡ w0 ++ encode_utf8_all (in_object levels given)
      → w1 ≡ w0 ++ encode_utf8_all (printed levels v)
  object_written given members is same e =
      written_as (in_object levels members) (by_layer levels v (Json-F.Object members) (j.rolls-Object members ∙ sym is)) (e ∙ ap (λ ms. w0 ++ encode_utf8_all (in_object levels ms)) same)
