-- The names, types and ids of sound metadata have spellings.
use Rattle.std.proofs.Common.{◌≡◌, ℕ, zero, suc, ◌-◌, ◌/◌, ◌%◌, ◌<◌, ◌≤◌, true, false, ◌&&◌, ◌||◌, IsTrue, List, [], ◌∷◌, ◌++◌, length, take, drop, Option, Some, None, refl, sym, ap, subst, ◌∙◌, arith, length-append}
use Rattle.std.specs.Prelude.{◌^◌, nat_le, nat_lt, encode_utf8_all, codes, IfSome}
use Rattle.std.specs.List.{AllByRecursion, list_all, All}
use Rattle.std.specs.Str.{all_scalars, bytes_eq}
use Rattle.std.proofs.lemmas.Bool.Decides.{nat_tests}
use Rattle.std.proofs.lemmas.Slice.Eq.{bytes_eq-Decides}
use Rattle.std.proofs.lemmas.Str.{encode_ascii}
use Rattle.std.proofs.lemmas.Str.Ascii.{lowercase_ascii}
use Rattle.std.proofs.lemmas.List.{take-append-drop}
use Rattle.std.proofs.lemmas.Bool.{and_parts as both}
use Rattle.base_lemmas.proofs.Lists.{length-encodes as four_each}
use Rattle.base_value.specs.Bytes.{IsBytes}
use Rattle.base_value.specs.Digits.{digits}
use Rattle.base_value.specs.Id.{digit62, is_digit62, is_id}
use Rattle.base_value.specs.Numerals.{is_within}
use Rattle.base_value.specs.Texts.{lower}
use Rattle.base_value.specs.Types.{is_choice, is_reference, is_type}
use Rattle.base_value.specs.declared.value.FieldType.{FieldType}
use Rattle.base_value.specs.declared.value.FieldType.TheVariants as type
use Rattle.store_codec.specs.Composed.{FitsType}
use Rattle.store_codec.specs.Plain.{FitsText}
use Rattle.model.specs.Cases.{in_case}
use Rattle.model.specs.Names.{begins_with_letter, in_stem, is_child_name, is_custom_name, is_stem, is_underscore}
use Rattle.model.specs.Objects.{record_prefix}
use Rattle.model.specs.Relationships.{target_of}
use Rattle.model.specs.SoundSharing.{IsCursor}
use Rattle.store_abstraction.specs.Metadata.{lower_bytes}
use Rattle.store_abstraction.proofs.Names.{MakesIds, drawn_is_id}

within : (low high n : ℕ) → is_within low high n ≡ true → (low ≤ n) × (n ≤ high)
within low high n h =
    let p = both (nat_le low n) (nat_le n high) h in
    let a : nat_le low n ≡ true = p.0 in
    let b : nat_le n high ≡ true = p.1 in
    (grind (arith, nat_tests), grind (arith, nat_tests))

-- ---- texts

pub short_fits : (cs : List ℕ) → length cs ≤ 4000 → all_scalars cs ≡ true → FitsText cs
short_fits cs short scalars = (omega (arith, four_each cs, short), scalars)

abbrev AreAscii : List ℕ → Type 0
AreAscii cs = AllByRecursion (λ c. c < 128) cs

ascii_scalars : (cs : List ℕ) → AreAscii cs → all_scalars cs ≡ true
ascii_scalars [] h = refl
ascii_scalars (c ∷ cs) h =
    let low : c < 128 = h.0 in
    let rest = ascii_scalars cs h.1 in
    grind (arith, nat_tests)

ascii_append : (cs ds : List ℕ) → AreAscii cs → AreAscii ds → AreAscii (cs ++ ds)
ascii_append [] ds h g = g
ascii_append (c ∷ cs) ds h g = (h.0, ascii_append cs ds h.1 g)

digit_low : (c : ℕ) → is_digit62 c ≡ true → c < 128
digit_low c h = grind (arith, nat_tests)

stem_low : (c d : ℕ) → (is_digit62 c || (is_underscore c && is_digit62 d)) ≡ true → c < 128
stem_low c d h = grind (arith, nat_tests)

stem_ascii : (cs : List ℕ) → in_stem cs ≡ true → AreAscii cs
stem_ascii [] h = tt
stem_ascii (c ∷ []) h = (digit_low c h, tt)
stem_ascii (c ∷ d ∷ cs) h =
    let p = both (is_digit62 c || (is_underscore c && is_digit62 d)) (in_stem (d ∷ cs)) h in
    (stem_low c d p.0, stem_ascii (d ∷ cs) p.1)

pub stem_is : (cs : List ℕ) → is_stem cs ≡ true → (length cs ≤ 40) × AreAscii cs
unfolding is_stem
stem_is cs h =
    let p = both (is_within 1 40 (length cs)) (begins_with_letter cs && in_stem cs) h in
    let q = both (begins_with_letter cs) (in_stem cs) p.1 in
    ((within 1 40 (length cs) p.0).1, stem_ascii cs q.1)

-- a stem in lower case is its own bytes
ascii_lower : (cs : List ℕ) → AreAscii cs → AreAscii (lower cs)
ascii_lower [] h = tt
ascii_lower (c ∷ cs) h = (lowercase_ascii c h.0, ascii_lower cs h.1)

ascii_encoded : (cs : List ℕ) → AreAscii cs → encode_utf8_all cs ≡ cs
ascii_encoded [] h = refl
ascii_encoded (c ∷ cs) h = rw (encode_ascii c h.0, ascii_encoded cs h.1) refl

ascii_bytes : (cs : List ℕ) → AreAscii cs → IsBytes cs
ascii_bytes [] h i = omega arith
ascii_bytes (c ∷ cs) h zero = let low : c < 128 = h.0 in omega arith
ascii_bytes (c ∷ cs) h (suc i) = ascii_bytes cs h.1 i

pub stem_encoded : (cs : List ℕ) → is_stem cs ≡ true → lower_bytes cs ≡ lower cs
stem_encoded cs h = ascii_encoded (lower cs) (ascii_lower cs (stem_is cs h).1)

pub stem_bytes : (cs : List ℕ) → is_stem cs ≡ true → IsBytes (lower_bytes cs)
stem_bytes cs h = subst IsBytes (sym (stem_encoded cs h)) (ascii_bytes (lower cs) (ascii_lower cs (stem_is cs h).1))

pub stem_fits : (cs : List ℕ) → is_stem cs ≡ true → FitsText cs
stem_fits cs h = let s = stem_is cs h in short_fits cs (omega (arith, s.0)) (ascii_scalars cs s.1)

-- a stem and an ending of three characters
ended : (cs ending : List ℕ) → length ending ≡ 3 → AreAscii ending → is_stem (take (length cs - 3) cs) ≡ true → bytes_eq (drop (length cs - 3) cs) ending ≡ true → FitsText cs
ended cs ending three low stem end =
    let front = take (length cs - 3) cs in
    let back = drop (length cs - 3) cs in
    let is : back ≡ ending = (bytes_eq-Decides back ending).0 end in
    let whole : front ++ back ≡ cs = take-append-drop (length cs - 3) cs in
    let s = stem_is front stem in
    let low_back : AreAscii back = subst AreAscii (sym is) low in
    let size : length cs ≤ 4000 = omega (arith, s.0, sym (length-append front back) ∙ ap length whole, ap length is, three) in
    short_fits cs size (ascii_scalars cs (subst AreAscii whole (ascii_append front back s.1 low_back)))

pub custom_fits : (cs : List ℕ) → IsTrue (is_custom_name cs) → FitsText cs
unfolding is_custom_name
custom_fits cs h =
    let p = both (is_stem (take (length cs - 3) cs)) (bytes_eq (drop (length cs - 3) cs) (codes "__c")) h in
    ended cs (codes "__c") refl (omega arith, (omega arith, (omega arith, tt))) p.0 p.1

pub child_fits : (cs : List ℕ) → IsTrue (is_child_name cs) → FitsText cs
unfolding is_child_name
child_fits cs h =
    let p = both (is_stem (take (length cs - 3) cs)) (bytes_eq (drop (length cs - 3) cs) (codes "__r")) h in
    ended cs (codes "__r") refl (omega arith, (omega arith, (omega arith, tt))) p.0 p.1

pub child_option_fits : (child : Option (List ℕ)) → IsTrue (in_case child true is_child_name) → IfSome child FitsText
child_option_fits None h = tt
child_option_fits (Some cs) h = child_fits cs h

-- ---- types

choice_fits : (cs : List ℕ) → is_choice cs ≡ true → FitsText cs
choice_fits cs h =
    let p = both (all_scalars cs) (is_within 1 40 (length cs)) h in
    short_fits cs (omega (arith, (within 1 40 (length cs) p.1).1)) p.0

choices_fit : (values : List (List ℕ)) → list_all is_choice values ≡ true → All FitsText values
choices_fit [] h k d lt = absurd (omega (arith, lt))
choices_fit (v ∷ vs) h zero d lt = choice_fits v (both (is_choice v) (list_all is_choice vs) h).0
choices_fit (v ∷ vs) h (suc k) d lt = choices_fit vs (both (is_choice v) (list_all is_choice vs) h).1 k d (omega (arith, lt))

-- a type within its bounds, whose target, if it has one, is an object of few
pub type_fits : (kind : FieldType) (objects : ℕ) → objects ≤ 100 → is_type kind ≡ true → in_case (target_of kind) true (λ n. nat_lt n objects) ≡ true → FitsType kind
type_fits (type.Text most) objects few h g = omega (arith, (within 1 255 most h).1)
type_fits (type.Number digits decimals) objects few h g =
    let p = both (is_within 1 18 digits) (nat_le decimals 8 && nat_le decimals digits) h in
    let q = both (nat_le decimals 8) (nat_le decimals digits) p.1 in
    let low : nat_le decimals 8 ≡ true = q.0 in
    (omega (arith, (within 1 18 digits p.0).1), grind (arith, nat_tests))
type_fits type.Checkbox objects few h g = tt
type_fits type.Day objects few h g = tt
type_fits type.Moment objects few h g = tt
type_fits (type.Picklist values) objects few h g =
    let p = both (is_within 1 100 (length values)) _ h in
    let q = both (list_all is_choice values) _ p.1 in
    (omega (arith, (within 1 100 (length values) p.0).1), choices_fit values q.0)
type_fits (type.Lookup object on_delete) objects few h g =
    let lt : nat_lt object objects ≡ true = g in
    grind (arith, nat_tests)
type_fits (type.Master object) objects few h g =
    let lt : nat_lt object objects ≡ true = g in
    grind (arith, nat_tests)

-- a type that is no reference
pub plain_type_fits : (kind : FieldType) → is_type kind ≡ true → is_reference kind ≡ false → FitsType kind
plain_type_fits (type.Lookup object on_delete) h g = absurd cc
plain_type_fits (type.Master object) h g = absurd cc
plain_type_fits kind h g = type_fits kind 0 (omega arith) h refl

-- ---- ids

digit_is : (d : ℕ) → d < 62 → is_digit62 (digit62 d) ≡ true
digit_is d h = grind (arith, nat_tests)

prefix_size : (n : ℕ) → length (record_prefix n) ≡ 3
unfolding record_prefix digits
prefix_size n = refl

prefix_digits : (n : ℕ) → IsTrue (list_all is_digit62 (record_prefix n))
unfolding record_prefix digits
prefix_digits n = two (digit62 (n / 62 ^ 1 % 62)) (digit62 (n / 62 ^ 0 % 62)) (digit_is (n / 62 ^ 1 % 62) (omega arith)) (digit_is (n / 62 ^ 0 % 62) (omega arith))
  where
    two : (a b : ℕ) → is_digit62 a ≡ true → is_digit62 b ≡ true → list_all is_digit62 (97 ∷ a ∷ b ∷ []) ≡ true
    two a b h g = rw h (rw g refl)

pub cursor_is_id : MakesIds → (counter n : ℕ) (cursor : Option (List ℕ)) → IsCursor counter n cursor → IfSome cursor (λ i. IsTrue (is_id i))
cursor_is_id makes counter n None h = tt
cursor_is_id makes counter n (Some i) h = drawn_is_id makes (record_prefix n) counter i (prefix_size n) (prefix_digits n) h
