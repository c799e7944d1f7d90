-- A body whose bytes are UTF-8 has characters alone in the texts that are its members: what is read of a text of characters is of
-- characters, and leaves some.
use Rattle.std.proofs.Common.{◌≡◌, ℕ, zero, suc, ◌+◌, ◌*◌, ◌<◌, inl, inr, Bool, true, false, ◌&&◌, ◌==◌, nat_le, nat_lt, cond, List, [], ◌∷◌, map, Option, Some, None, refl, sym, ◌∙◌, ap, subst, arith}
use Rattle.std.specs.List.{AllByRecursion, list_all}
use Rattle.std.specs.Char.{digit_value}
use Rattle.std.specs.Str.{all_scalars, chars, is_utf8}
use Rattle.std.proofs.Math.Utf8.{scalar}
use Rattle.std.proofs.lemmas.Bool.Decides.{nat_tests}
use Rattle.std.proofs.lemmas.Str.{IsUtf8-from_is_utf8, scalars-chars}
use Rattle.std.proofs.lemmas.Bool.{and_parts as both_are}
use Rattle.std.proofs.lemmas.Option.{same_Some as some_is}
use Rattle.base_value.specs.Numerals.{is_digit}
use Rattle.base_json.specs.Characters.{Part, after_digits, after_spaces, code_unit, is_high, is_low, is_space, paired, short_escape}
use Rattle.base_json.specs.Grammar.{CharacterAs, Content, Element, Escape, IsText, Items, Listed, Pair, Quoted, Sort, Unit_escape, Value, ValueAs, array, depth, falsehood, never, null, number, object, pair, short, string, truth, unescaped, unit}
use Rattle.base_json.specs.Numerals.{Digits, Exponent, Fraction, Minus, Numeral, Power_sign}
use Rattle.base_json.specs.Reading.{◌>>=◌, text as json_in}
use Rattle.base_json.specs.declared.tree.Json.{Json, out-Json, out-roll-Json, roll-Json}
use Rattle.base_json.specs.declared.tree.Json.TheOpen.{Json-F}
use Rattle.base_json.specs.declared.tree.Json.TheVariants as j
use Rattle.base_json.specs.declared.tree.Member.{Member, out-Member}
use Rattle.base_json.specs.declared.tree.Num.{Num}
use Rattle.model.specs.Cases.{in_case}
use Rattle.model.specs.Given.{json_text}
use Rattle.model.specs.Members.{Body, body_in, members_in, object_in}
use Rattle.model_invariant.specs.Fit.{SpellsCharacters}

pub bound : {X Y : Type 0} (o : Option X) (f : X → Option Y) (y : Y) → (o >>= f) ≡ Some y → (x : X) × (o ≡ Some x) × (f x ≡ Some y)
bound None f y e = absurd cc
bound (Some x) f y e = (x, refl, e)

-- a text of characters
abbrev Told : List ℕ → Type 0
Told cs = all_scalars cs ≡ true

-- the first one, and those behind it
split : (c : ℕ) (cs rest : List ℕ) → cs ≡ c ∷ rest → Told cs → (scalar c ≡ true) × Told rest
split c cs rest e h = both_are (scalar c) (all_scalars rest) (subst Told e h)

behind : (c : ℕ) (rest : List ℕ) → Told (c ∷ rest) → Told rest
behind c rest h = (split c (c ∷ rest) rest refl h).1

behind_four : (a b c d : ℕ) (rest : List ℕ) → Told (a ∷ b ∷ c ∷ d ∷ rest) → Told rest
behind_four a b c d rest h = behind d rest (behind c (d ∷ rest) (behind b (c ∷ d ∷ rest) (behind a (b ∷ c ∷ d ∷ rest) h)))

in_front : (c : ℕ) (cs : List ℕ) → scalar c ≡ true → Told cs → Told (c ∷ cs)
in_front c cs p h = rw p h

-- a part of the grammar reads what is of this kind, and leaves characters
abbrev Keeps : {A : Type 0} → Part A → (A → Type 0) → Type 0
Keeps {A} part P = (cs : List ℕ) (x : A) (rest : List ℕ) → Told cs → part cs x rest → P x × Told rest

spaces_keep : (cs : List ℕ) → Told cs → Told (after_spaces cs)
spaces_keep [] h = refl
spaces_keep (c ∷ cs) h = by (is_space c) (spaces_keep cs (behind c cs h))
  where
    by : (b : Bool) → Told (after_spaces cs) → Told (cond b (after_spaces cs) (c ∷ cs))
    by true more = more
    by false more = h

-- ---- numbers
digits_left : (cs : List ℕ) → Told cs → Told (after_digits cs)
digits_left [] h = refl
digits_left (c ∷ cs) h = by (is_digit c) (digits_left cs (behind c cs h))
  where
    by : (b : Bool) → Told (after_digits cs) → Told (cond b (after_digits cs) (c ∷ cs))
    by true more = more
    by false more = h

digits_keep : (cs ds rest : List ℕ) → Told cs → Digits cs ds rest → Told rest
digits_keep cs ds rest h p = subst Told (sym p.2) (digits_left cs h)

minus_keeps : (cs : List ℕ) (minus : Bool) (rest : List ℕ) → Told cs → Minus cs minus rest → Told rest
minus_keeps cs true rest h p = (split 45 cs rest p h).1
minus_keeps cs false rest h p = subst Told (sym p.0) h

fraction_keeps : (cs ds rest : List ℕ) → Told cs → Fraction cs ds rest → Told rest
fraction_keeps cs ds rest h (inl p) = subst Told (sym p.1) h
fraction_keeps cs ds rest h (inr p) = digits_keep p.0 ds rest (split 46 cs p.0 p.1 h).1 p.2

sign_keeps : (cs : List ℕ) (down : Bool) (rest : List ℕ) → Told cs → Power_sign cs down rest → Told rest
sign_keeps cs true rest h p = (split 45 cs rest p h).1
sign_keeps cs false rest h (inl p) = (split 43 cs rest p h).1
sign_keeps cs false rest h (inr p) = subst Told p h

exponent_keeps : (cs : List ℕ) (down : Bool) (power rest : List ℕ) → Told cs → Exponent cs down power rest → Told rest
exponent_keeps cs down power rest h (inl p) = subst Told (sym p.2) h
exponent_keeps cs down power rest h (inr p) =
    digits_keep p.2 power rest (sign_keeps p.1 down p.2 (split p.0 cs p.1 p.3 h).1 p.5) p.6

numeral_keeps : (cs : List ℕ) (n : Num) (rest : List ℕ) → Told cs → Numeral cs n rest → Told rest
numeral_keeps cs n rest h p =
    let l = p.1 in
    let after_minus = minus_keeps cs p.0.minus l.0 h l.3 in
    let after_whole = digits_keep l.0 p.0.whole l.1 after_minus l.4.0 in
    let after_fraction = fraction_keeps l.1 p.0.fraction l.2 after_whole l.5 in
    exponent_keeps l.2 p.0.down p.0.power rest after_fraction l.6

-- ---- characters of strings
short_scalar : (e u : ℕ) → short_escape e ≡ Some u → scalar u ≡ true
short_scalar e u h =
    by (e == 34) 34 _ refl (by (e == 92) 92 _ refl (by (e == 47) 47 _ refl (by (e == 98) 8 _ refl
    (by (e == 102) 12 _ refl (by (e == 110) 10 _ refl (by (e == 114) 13 _ refl (by (e == 116) 9 None refl (λ h. absurd cc)))))))) h
  where
    by : (b : Bool) (v : ℕ) (o : Option ℕ) → scalar v ≡ true → (o ≡ Some u → scalar u ≡ true) → cond b (Some v) o ≡ Some u → scalar u ≡ true
    by true v o good more h = subst (λ (z : ℕ). scalar z ≡ true) (some_is v u h) good
    by false v o good more h = more h

-- four hexadecimal digits spell less than 65,536
unit_small : (a b c d u : ℕ) → code_unit a b c d ≡ Some u → u < 65536
unfolding code_unit
unit_small a b c d u h = of_digits (digit_value a) (digit_value b) (digit_value c) (digit_value d) h
  where
    below : (p q r s : ℕ) → (nat_lt p 16 && nat_lt q 16 && nat_lt r 16 && nat_lt s 16) ≡ true → p * 4096 + q * 256 + r * 16 + s < 65536
    below p q r s h =
        let x = both_are (nat_lt p 16 && nat_lt q 16 && nat_lt r 16) (nat_lt s 16) h in
        let y = both_are (nat_lt p 16 && nat_lt q 16) (nat_lt r 16) x.0 in
        let z = both_are (nat_lt p 16) (nat_lt q 16) y.0 in
        let i : p < 16 = grind (arith, nat_tests, z.0) in
        let j : q < 16 = grind (arith, nat_tests, z.1) in
        let k : r < 16 = grind (arith, nat_tests, y.1) in
        let l : s < 16 = grind (arith, nat_tests, x.1) in
        omega (arith, i, j, k, l)

    of_digits : (p q r s : ℕ) → cond (nat_lt p 16 && nat_lt q 16 && nat_lt r 16 && nat_lt s 16) (Some (p * 4096 + q * 256 + r * 16 + s)) None ≡ Some u → u < 65536
    of_digits p q r s h = by (nat_lt p 16 && nat_lt q 16 && nat_lt r 16 && nat_lt s 16) refl h
      where
        by : (t : Bool) → (nat_lt p 16 && nat_lt q 16 && nat_lt r 16 && nat_lt s 16) ≡ t → cond t (Some (p * 4096 + q * 256 + r * 16 + s)) None ≡ Some u → u < 65536
        by true w h = subst (λ (z : ℕ). z < 65536) (some_is (p * 4096 + q * 256 + r * 16 + s) u h) (below p q r s w)
        by false w h = absurd cc

no_surrogate : (u : ℕ) → u < 65536 → is_high u ≡ false → is_low u ≡ false → scalar u ≡ true
no_surrogate u h high low = grind (arith, nat_tests, h, high, low)

pair_scalar : (high low : ℕ) → is_high high ≡ true → is_low low ≡ true → scalar (paired high low) ≡ true
pair_scalar high low p q =
    let a = both_are (nat_le 55296 high) (nat_lt high 56320) p in
    let b = both_are (nat_le 56320 low) (nat_lt low 57344) q in
    grind (arith, nat_tests, a.0, a.1, b.0, b.1)

unit_keeps : (cs : List ℕ) (u : ℕ) (rest : List ℕ) → Told cs → Unit_escape cs u rest → Told rest
unit_keeps cs u rest h p =
    behind_four p.0 p.1 p.2 p.3 rest (behind 117 (p.0 ∷ p.1 ∷ p.2 ∷ p.3 ∷ rest) (split 92 cs (117 ∷ p.0 ∷ p.1 ∷ p.2 ∷ p.3 ∷ rest) p.4 h).1)

character_keeps : (kind : Escape) → Keeps (CharacterAs kind) (λ u. scalar u ≡ true)
character_keeps unescaped cs u rest h p = split u cs rest p.0 h
character_keeps short cs u rest h p = (short_scalar p.0 u p.2, behind p.0 rest (split 92 cs (p.0 ∷ rest) p.1 h).1)
character_keeps unit cs u rest h p =
    (no_surrogate u (unit_small p.0.0 p.0.1 p.0.2 p.0.3 u p.0.5) p.1 p.2, unit_keeps cs u rest h p.0)
character_keeps pair cs u rest h p =
    (subst (λ (z : ℕ). scalar z ≡ true) (sym p.7) (pair_scalar p.0 p.1 p.4 p.6), unit_keeps p.2 p.1 rest (unit_keeps cs p.0 p.2 h p.3) p.5)

content_keeps : Keeps Content Told
content_keeps cs [] rest h p = (refl, (split 34 cs rest p h).1)
content_keeps cs (u ∷ us) rest h p =
    let first = character_keeps p.1.0 cs u p.0 h p.1.1 in
    let more = content_keeps p.0 us rest first.1 p.2 in
    (in_front u us first.0 more.0, more.1)

quoted_keeps : Keeps Quoted Told
quoted_keeps cs text rest h p = content_keeps p.0 text rest (split 34 cs p.0 p.1 h).1 p.2

-- ---- lists and objects
module _ {A : Type 0} (item : Part A) (P : A → Type 0) (keeps : Keeps item P) (end : ℕ) where
  items_keep : Keeps (Items item end) (AllByRecursion P)
  items_keep cs [] rest h p = absurd p
  items_keep cs (x ∷ []) rest h p = let i = keeps cs x (end ∷ rest) h p in ((i.0, tt), behind end rest i.1)
  items_keep cs (x ∷ y ∷ ys) rest h p =
      let i = keeps cs x (44 ∷ p.0) h p.1 in
      let more = items_keep p.0 (y ∷ ys) rest (behind 44 p.0 i.1) p.2 in
      ((i.0, more.0), more.1)

  listed_keeps : Keeps (Listed item end) (AllByRecursion P)
  listed_keeps cs [] rest h p = (tt, (split end (after_spaces cs) rest p (spaces_keep cs h)).1)
  listed_keeps cs (x ∷ xs) rest h p = items_keep cs (x ∷ xs) rest h p

-- ---- values
-- whether each member that is a text is of characters
abbrev texts : Body → Bool
texts b = list_all (λ (m : List ℕ × Json). all_scalars (json_text m.1)) b

-- if the value is a text, it is of characters; if it is an object, so are its members that are texts
abbrev Good : Json → Type 0
Good v = Told (json_text v) × (in_case (object_in v) true texts ≡ true)

abbrev GoodMember : Member → Type 0
GoodMember m = Good (out-Member m).value

-- a value, by what it is made of
made_good : (layer : Json-F Json Member) (w v : Json) → roll-Json layer ≡ w → v ≡ w → Told (json_text w) → in_case (members_in layer) true texts ≡ true → Good v
made_good layer w v made is text members =
    let opens : out-Json w ≡ layer = ap out-Json (sym made) ∙ out-roll-Json layer in
    subst Good (sym is) (text, subst (λ (l : Json-F Json Member). in_case (members_in l) true texts ≡ true) (sym opens) members)

members_good : (ms : List Member) → AllByRecursion GoodMember ms → texts (map (λ m. ((out-Member m).name, (out-Member m).value)) ms) ≡ true
members_good [] all = refl
members_good (m ∷ ms) all = rw all.0.0 (members_good ms all.1)

element_keeps : (value : Part Json) → Keeps value Good → Keeps (Element value) Good
element_keeps value keeps cs v rest h p =
    let i = keeps (after_spaces cs) v p.0 (spaces_keep cs h) p.1 in
    (i.0, subst Told (sym p.2) (spaces_keep p.0 i.1))

pair_keeps : (value : Part Json) → Keeps value Good → Keeps (Pair value) GoodMember
pair_keeps value keeps cs m rest h p =
    let name = quoted_keeps (after_spaces cs) p.0 p.2 (spaces_keep cs h) p.4 in
    let next = (split 58 (after_spaces p.2) p.3 p.5 (spaces_keep p.2 name.1)).1 in
    let i = element_keeps value keeps p.3 p.1 rest next p.6 in
    (subst GoodMember (sym p.7) i.0, i.1)

module _ (lists : Part (List Json)) (objects : Part (List Member)) (lists_keep : Keeps lists (AllByRecursion Good)) (objects_keep : Keeps objects (AllByRecursion GoodMember)) where
  sort_keeps : (sort : Sort) → Keeps (ValueAs lists objects sort) Good
  sort_keeps null cs v rest h p =
      (made_good Json-F.Null j.Null v j.rolls-Null p.1 refl refl, behind_four 110 117 108 108 rest (subst Told p.0 h))
  sort_keeps truth cs v rest h p =
      (made_good (Json-F.Bool true) (j.Bool true) v (j.rolls-Bool true) p.1 refl refl, behind_four 116 114 117 101 rest (subst Told p.0 h))
  sort_keeps falsehood cs v rest h p =
      (made_good (Json-F.Bool false) (j.Bool false) v (j.rolls-Bool false) p.1 refl refl, behind_four 97 108 115 101 rest (split 102 cs (97 ∷ 108 ∷ 115 ∷ 101 ∷ rest) p.0 h).1)
  sort_keeps number cs v rest h p = (made_good (Json-F.Number p.0) (j.Number p.0) v (j.rolls-Number p.0) p.2 refl refl, numeral_keeps cs p.0 rest h p.1)
  sort_keeps string cs v rest h p =
      let text = quoted_keeps cs p.0 rest h p.1 in
      (made_good (Json-F.Text p.0) (j.Text p.0) v (j.rolls-Text p.0) p.2 text.0 refl, text.1)
  sort_keeps array cs v rest h p =
      let items = lists_keep p.1 p.0 rest (split 91 cs p.1 p.2 h).1 p.3 in
      (made_good (Json-F.List p.0) (j.List p.0) v (j.rolls-List p.0) p.4 refl refl, items.1)
  sort_keeps object cs v rest h p =
      let members = objects_keep p.1 p.0 rest (split 123 cs p.1 p.2 h).1 p.3 in
      (made_good (Json-F.Object p.0) (j.Object p.0) v (j.rolls-Object p.0) p.4 refl (members_good p.0 members.0), members.1)

never_keeps : {A : Type 0} (P : A → Type 0) → Keeps (never {A = A}) P
never_keeps P cs x rest h p = absurd p

value_keeps : (levels : ℕ) → Keeps (Value levels) Good
unfolding Value
value_keeps zero cs v rest h p =
    sort_keeps never never (never_keeps (AllByRecursion Good)) (never_keeps (AllByRecursion GoodMember)) p.0 cs v rest h p.1
value_keeps (suc levels) cs v rest h p =
    sort_keeps (Listed (Element (Value levels)) 93) (Listed (Pair (Value levels)) 125)
    (listed_keeps (Element (Value levels)) Good (element_keeps (Value levels) (value_keeps levels)) 93)
    (listed_keeps (Pair (Value levels)) GoodMember (pair_keeps (Value levels) (value_keeps levels)) 125)
    p.0 cs v rest h p.1

text_good : (cs : List ℕ) (v : Json) → Told cs → IsText cs v → Good v
text_good cs v h p = (element_keeps (Value depth) (value_keeps depth) cs v [] h p).0

-- ---- bodies

-- what `json_laws` says of a value that is read
abbrev pub ReadAsSpelled : Type 0
ReadAsSpelled = (cs : List ℕ) (v : Json) → json_in cs ≡ Some v → IsText cs v

pub body_spells : ReadAsSpelled → (body : List ℕ) → SpellsCharacters body
unfolding body_in
body_spells spelled body b e = by (is_utf8 body) refl e
  where
    by : (t : Bool) → is_utf8 body ≡ t → cond t (json_in (chars body) >>= object_in) None ≡ Some b → texts b ≡ true
    by true w e =
        let v = bound (json_in (chars body)) object_in b e in
        let good = text_good (chars body) v.0 (scalars-chars body (IsUtf8-from_is_utf8 body w)) (spelled (chars body) v.0 v.1) in
        subst (λ (o : Option Body). in_case o true texts ≡ true) v.2 good.1
    by false w e = absurd cc
