-- Order keys are bytes.
use Rattle.std.proofs.Common.{◌≡◌, ℕ, zero, suc, ◌<◌, true, false, List, [], ◌∷◌, ◌++◌, refl, sym, subst, arith, lit<}
use Rattle.std.specs.Prelude.{nat_lt}
use Rattle.std.specs.List.{AllByRecursion, list_all}
use Rattle.std.specs.Str.{all_scalars, encode_utf8_all}
use Rattle.std.proofs.lemmas.Bool.{and_parts}
use Rattle.std.proofs.lemmas.Bool.Decides.{nat_tests}
use Rattle.base_lemmas.proofs.Texts.{scalar_below as scalar_low}
use lib.Utf8.{encode, scalar}
use Rattle.caseless.specs.Caseless.{default_case_fold}
use Rattle.ucd_case.specs.CaseFolding.{full_folding, or_itself}
use Rattle.ucd_case.proofs.CaseFoldingLemmas.{full_folding_stepped}
use Rattle.ucd_table.proofs.Computing.{tables}
use Rattle.ucd_table.proofs.RangedFacts.{values_ok, Stepped-at_values}
use Rattle.base_value.specs.Bytes.{IsBytes}
use Rattle.base_value.specs.Digits.{digits}
use Rattle.base_value.specs.Id.{is_digit62, is_id}
use Rattle.base_value.specs.OrderKeys.{order_key, ordered_bytes, raised}
use Rattle.base_value.specs.Types.{is_type}
use Rattle.base_value.specs.Values.{kind_place, valid}
use Rattle.base_value.specs.declared.value.FieldType.{FieldType}
use Rattle.base_value.specs.declared.value.Value.{Value}
use Rattle.base_value.specs.declared.value.Value.TheVariants as value
use Rattle.base_value.proofs.DigitOrder.{digits_low}
use Rattle.base_value.proofs.TextOrder.{Size, encode_is, size_of, spelled, one, two, three, four}
use Rattle.base_value.proofs.ValueLaws.{id_of_kind, text_scalars}

abbrev AreBytes : List ℕ → Type 0
AreBytes bs = AllByRecursion (λ b. b < 256) bs

at_each : (bs : List ℕ) → AreBytes bs → IsBytes bs
at_each [] h i = omega arith
at_each (b ∷ bs) h zero = h.0
at_each (b ∷ bs) h (suc i) = at_each bs h.1 i

joined : (P : ℕ → Type 0) (xs ys : List ℕ) → AllByRecursion P xs → AllByRecursion P ys → AllByRecursion P (xs ++ ys)
joined P [] ys h g = g
joined P (x ∷ xs) ys h g = (h.0, joined P xs ys h.1 g)

-- ---- texts

-- characters have numbers below this
abbrev AreLow : List ℕ → Type 0
AreLow cs = AllByRecursion (λ c. c < 1114112) cs

spelled_bytes : (x : ℕ) (s : Size x) → x < 1114112 → AreBytes (spelled x s)
spelled_bytes x (one h) lt = (omega (arith, h), tt)
spelled_bytes x (two g h) lt = (omega (arith, h), (omega arith, tt))
spelled_bytes x (three g h) lt = (omega (arith, h), (omega arith, (omega arith, tt)))
spelled_bytes x (four g) lt = (omega (arith, lt), (omega arith, (omega arith, (omega arith, tt))))

encoded_bytes : (x : ℕ) → x < 1114112 → AreBytes (encode x)
encoded_bytes x lt = subst AreBytes (sym (encode_is x (size_of x))) (spelled_bytes x (size_of x) lt)

text_bytes : (cs : List ℕ) → AreLow cs → AreBytes (encode_utf8_all cs)
text_bytes [] h = tt
text_bytes (c ∷ cs) h = joined (λ b. b < 256) (encode c) (encode_utf8_all cs) (encoded_bytes c h.0) (text_bytes cs h.1)

-- a character's folding is one of characters
low_folding : (c : ℕ) → list_all (λ x. nat_lt x 1114112) (full_folding c) ≡ true
unfolding tables values_ok full_folding_stepped
low_folding c = Stepped-at_values full_folding full_folding_stepped (list_all (λ x. nat_lt x 1114112)) refl c

low_by_test : (cs : List ℕ) → list_all (λ x. nat_lt x 1114112) cs ≡ true → AreLow cs
low_by_test [] h = tt
low_by_test (c ∷ cs) h =
    let parts = and_parts (nat_lt c 1114112) (list_all (λ x. nat_lt x 1114112) cs) h in
    let first : nat_lt c 1114112 ≡ true = parts.0 in
    (grind (arith, nat_tests), low_by_test cs parts.1)

or_itself_low : (c : ℕ) (xs : List ℕ) → c < 1114112 → AreLow xs → AreLow (or_itself c xs)
or_itself_low c [] h g = (h, tt)
or_itself_low c (x ∷ xs) h g = g

fold_low : (cs : List ℕ) → all_scalars cs ≡ true → AreLow (default_case_fold cs)
unfolding default_case_fold
fold_low [] h = tt
fold_low (c ∷ cs) h =
    let parts = and_parts (scalar c) (all_scalars cs) h in
    joined (λ c. c < 1114112) (or_itself c (full_folding c)) (default_case_fold cs)
    (or_itself_low c (full_folding c) (scalar_low c parts.0) (low_by_test (full_folding c) (low_folding c))) (fold_low cs parts.1)

-- ---- ids and numbers

id_bytes : (cs : List ℕ) → list_all is_digit62 cs ≡ true → AreBytes cs
id_bytes [] h = tt
id_bytes (c ∷ cs) h =
    let parts = and_parts (is_digit62 c) (list_all is_digit62 cs) h in
    let digit : is_digit62 c ≡ true = parts.0 in
    (low c digit, id_bytes cs parts.1)
  where
    low : (c : ℕ) → is_digit62 c ≡ true → c < 256
    low c digit = grind (arith, nat_tests)

number_bytes : (bytes n : ℕ) → AreBytes (digits 256 bytes n)
number_bytes bytes n = digits_low 256 bytes n (lit< tt)

-- ---- keys

-- what makes a value's key one of bytes: its text is of characters, its id is an id
abbrev pub HasBytes : Value → Type 0
HasBytes (value.Text cs) = all_scalars cs ≡ true
HasBytes (value.Ref id) = is_id id ≡ true
HasBytes _ = Unit {0}

ordered_are : (v : Value) → HasBytes v → AreBytes (ordered_bytes v)
unfolding raised
ordered_are value.Null h = tt
ordered_are (value.Text cs) h = text_bytes (default_case_fold cs) (fold_low cs h)
ordered_are (value.Num count) h = number_bytes 16 _
ordered_are (value.Day day) h = number_bytes 4 _
ordered_are (value.Moment second) h = number_bytes 8 _
ordered_are (value.Ref id) h = id_bytes id (and_parts _ (list_all is_digit62 id) h).1
ordered_are (value.Bool false) h = (omega arith, tt)
ordered_are (value.Bool true) h = (omega arith, tt)

kind_low : (v : Value) → kind_place v < 256
kind_low value.Null = omega arith
kind_low (value.Text cs) = omega arith
kind_low (value.Num count) = omega arith
kind_low (value.Day day) = omega arith
kind_low (value.Moment second) = omega arith
kind_low (value.Ref id) = omega arith
kind_low (value.Bool truth) = omega arith

pub key_bytes : (v : Value) → HasBytes v → IsBytes (order_key v)
unfolding order_key
key_bytes v h = at_each (kind_place v ∷ ordered_bytes v) (kind_low v, ordered_are v h)

has_bytes : (kind : FieldType) (v : Value) → is_type kind ≡ true → valid kind v ≡ true → HasBytes v
has_bytes kind value.Null t h = tt
has_bytes kind (value.Text cs) t h = text_scalars kind cs t h
has_bytes kind (value.Num count) t h = tt
has_bytes kind (value.Day day) t h = tt
has_bytes kind (value.Moment second) t h = tt
has_bytes kind (value.Ref id) t h = id_of_kind kind id h
has_bytes kind (value.Bool truth) t h = tt

pub valid_key_bytes : (kind : FieldType) (v : Value) → is_type kind ≡ true → valid kind v ≡ true → IsBytes (order_key v)
valid_key_bytes kind v t h = key_bytes v (has_bytes kind v t h)
