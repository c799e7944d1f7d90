-- What is read of numbers, words, lists and values takes characters.
use Rattle.std.proofs.Common.{◌≡◌, ℕ, zero, suc, ◌<◌, ◌≤◌, ◌||◌, Bool, true, false, cond, ◌==◌, List, [], ◌∷◌, length, Option, Some, None, refl, ap, inl, inr, arith}
use Rattle.base_value.specs.Numerals.{is_digit}
use Rattle.base_json.specs.Characters.{is_space, digits_at, after_digits, after_spaces}
use Rattle.base_json.specs.Numerals.{has_leading_zero, is_exponent_mark}
use Rattle.base_json.specs.Reading.{Found, Reader, Turn, ◌>>=◌, behind, some_digits, digits, signed_by, minus, whole, fraction_by, fraction, power_sign, exponent, literal, numeral, collect, repeated, character_turn, content, quoted, separator, item_turn, listed_by, listed, element, pair, after_word, named, read_never, value_of, value}
use Rattle.base_json.specs.declared.tree.Json.{Json}
use Rattle.base_json.specs.declared.tree.Json.TheVariants as j
use Rattle.base_json.specs.declared.tree.Member.{Member}
use Rattle.base_json.proofs.Repeats.{Takes}
use Rattle.base_json.proofs.Shrinks.{Shrinks, bind_some, chosen, behind_shrinks, rest_is, turn_rest, character_takes}

pub after_spaces_le : (cs : List ℕ) → length (after_spaces cs) ≤ length cs
after_spaces_le [] = omega arith
after_spaces_le (c ∷ cs) = space (is_space c) (after_spaces_le cs)
  where
    space : (b : Bool) → length (after_spaces cs) ≤ length cs → length (cond b (after_spaces cs) (c ∷ cs)) ≤ length (c ∷ cs)
    space true h = omega arith
    space false h = omega arith

after_digits_le : (cs : List ℕ) → length (after_digits cs) ≤ length cs
after_digits_le [] = omega arith
after_digits_le (c ∷ cs) = digit (is_digit c) (after_digits_le cs)
  where
    digit : (b : Bool) → length (after_digits cs) ≤ length cs → length (cond b (after_digits cs) (c ∷ cs)) ≤ length (c ∷ cs)
    digit true h = omega arith
    digit false h = omega arith

pub digits_shrinks : Shrinks digits
unfolding digits
digits_shrinks [] a rest h = absurd (cc)
digits_shrinks (c ∷ cs) a rest h = digit (is_digit c) h
  where
    digit : (b : Bool) → some_digits (cond b (c ∷ digits_at cs) []) (cond b (after_digits cs) (c ∷ cs)) ≡ Some (a, rest) → length rest < length (c ∷ cs)
    digit true e = omega (arith, after_digits_le cs, ap length (rest_is _ a _ rest e))
    digit false e = absurd (cc)

-- the rest after some digits
pub some_shorter : (cs front rest : List ℕ) → front ≡ digits_at cs → rest ≡ after_digits cs → (front ≡ [] → ⊥) → length rest < length cs
unfolding digits
some_shorter cs [] rest f e some = absurd (some refl)
some_shorter cs (d ∷ ds) rest f e some = digits_shrinks cs (d ∷ ds) rest (rw (← f, ← e) refl)

minus_le : (cs : List ℕ) → length (minus cs).1 ≤ length cs
unfolding minus
minus_le cs = sign (behind 45 cs) refl
  where
    sign : (o : Option (List ℕ)) → behind 45 cs ≡ o → length (signed_by cs o).1 ≤ length cs
    sign None e = omega arith
    sign (Some rest) e = omega (arith, behind_shrinks 45 cs rest e)

whole_shrinks : Shrinks whole
unfolding whole
whole_shrinks cs a rest h =
    let d = bind_some (digits cs) _ _ h in
    elim (chosen (has_leading_zero d.0.0) _ _ _ d.2) [
      | inl x ↦ absurd (cc)
      | inr x ↦ omega (arith, digits_shrinks cs d.0.0 d.0.1 d.1, ap length (rest_is d.0.0 a d.0.1 rest x.1))
    ]

fraction_le : (cs : List ℕ) (a : List ℕ) (rest : List ℕ) → fraction cs ≡ Some (a, rest) → length rest ≤ length cs
unfolding fraction
fraction_le cs a rest h = point (behind 46 cs) refl h
  where
    point : (o : Option (List ℕ)) → behind 46 cs ≡ o → fraction_by cs o ≡ Some (a, rest) → length rest ≤ length cs
    point None e h = omega (arith, ap length (rest_is [] a cs rest h))
    point (Some after) e h = omega (arith, behind_shrinks 46 cs after e, digits_shrinks after a rest h)

power_sign_le : (cs : List ℕ) → length (power_sign cs).1 ≤ length cs
unfolding power_sign
power_sign_le [] = omega arith
power_sign_le (c ∷ cs) = sign (c == 45) (c == 43)
  where
    sign : (a b : Bool) → length (cond {A = Bool × List ℕ} a (true, cs) (cond b (false, cs) (false, c ∷ cs))).1 ≤ length (c ∷ cs)
    sign true b = omega arith
    sign false true = omega arith
    sign false false = omega arith

exponent_le : (cs : List ℕ) (a : Bool × List ℕ) (rest : List ℕ) → exponent cs ≡ Some (a, rest) → length rest ≤ length cs
unfolding exponent
exponent_le [] a rest h = omega (arith, ap length (rest_is _ a _ rest h))
exponent_le (c ∷ cs) a rest h =
    elim (chosen (is_exponent_mark c) _ _ _ h) [
      | inl x ↦
          let d = bind_some (digits (power_sign cs).1) _ _ x.1 in
          omega (arith, power_sign_le cs, digits_shrinks _ d.0.0 d.0.1 d.1, ap length (rest_is _ a _ rest d.2))
      | inr x ↦ omega (arith, ap length (rest_is _ a _ rest x.1))
    ]

literal_shrinks : Shrinks literal
unfolding literal
literal_shrinks cs a rest h =
    let w = bind_some (whole (minus cs).1) _ _ h in
    let f = bind_some (fraction w.0.1) _ _ w.2 in
    let e = bind_some (exponent f.0.1) _ _ f.2 in
    omega (arith, minus_le cs, whole_shrinks _ w.0.0 w.0.1 w.1, fraction_le _ f.0.0 f.0.1 f.1, exponent_le _ e.0.0 e.0.1 e.1, ap length (rest_is _ a _ rest e.2))

numeral_shrinks : Shrinks numeral
unfolding numeral
numeral_shrinks cs a rest h =
    let l = bind_some (literal cs) _ _ h in
    omega (arith, literal_shrinks cs l.0.0 l.0.1 l.1, ap length (rest_is _ a _ rest l.2))

module _ {A : Type 0} (turn : List ℕ → Option (Turn A)) (takes : Takes turn) where
  collect_shrinks : (n : ℕ) (cs : List ℕ) (a : List A) (rest : List ℕ) → collect turn n cs ≡ Some (a, rest) → length rest < length cs
  unfolding collect
  collect_shrinks zero cs a rest h = absurd (cc)
  collect_shrinks (suc n) cs a rest h =
      let t = bind_some (turn cs) _ _ h in
      elim (chosen t.0.1 _ _ _ t.2) [
        | inl x ↦
            let more = bind_some (collect turn n t.0.2) _ _ x.1 in
            omega (arith, takes cs t.0 t.1, collect_shrinks n t.0.2 more.0.0 more.0.1 more.1, ap length (rest_is _ a _ rest more.2))
        | inr x ↦ omega (arith, takes cs t.0 t.1, ap length (rest_is _ a _ rest x.1))
      ]

  pub repeated_shrinks : Shrinks (repeated turn)
  unfolding repeated
  repeated_shrinks cs a rest h = collect_shrinks (suc (length cs)) cs a rest h

content_shrinks : Shrinks content
unfolding content
content_shrinks cs a rest h = repeated_shrinks character_turn character_takes cs a rest h

quoted_shrinks : Shrinks quoted
unfolding quoted
quoted_shrinks cs a rest h =
    let b = bind_some (behind 34 cs) content _ h in
    omega (arith, behind_shrinks 34 cs b.0 b.1, content_shrinks b.0 a rest b.2)

separator_shrinks : (end : ℕ) → Shrinks (separator end)
unfolding separator
separator_shrinks end [] a rest h = absurd (cc)
separator_shrinks end (c ∷ cs) a rest h =
    elim (chosen (c == 44) _ _ _ h) [
      | inl x ↦ omega (arith, ap length (rest_is _ a _ rest x.1))
      | inr x ↦ elim (chosen (c == end) _ _ _ x.1) [
        | inl y ↦ omega (arith, ap length (rest_is _ a _ rest y.1))
        | inr y ↦ absurd (cc)
      ]
    ]

pub item_takes : {A : Type 0} (item : Reader A) (end : ℕ) → Shrinks item → Takes (item_turn item end)
unfolding item_turn
item_takes item end shrinks cs t h =
    let x = bind_some (item cs) _ _ h in
    let s = bind_some (separator end x.0.1) _ _ x.2 in
    omega (arith, shrinks cs x.0.0 x.0.1 x.1, separator_shrinks end x.0.1 s.0.0 s.0.1 s.1, ap length (turn_rest _ t s.2))

listed_shrinks : {A : Type 0} (item : Reader A) (end : ℕ) → Shrinks item → Shrinks (listed item end)
unfolding listed
listed_shrinks {A} item end shrinks cs a rest h = by_end (behind end (after_spaces cs)) refl h
  where
    by_end : (o : Option (List ℕ)) → behind end (after_spaces cs) ≡ o → listed_by o (repeated (item_turn item end) cs) ≡ Some (a, rest) → length rest < length cs
    by_end None e h = repeated_shrinks (item_turn item end) (item_takes item end shrinks) cs a rest h
    by_end (Some after) e h = omega (arith, after_spaces_le cs, behind_shrinks end _ after e, ap length (rest_is _ a _ rest h))

pub element_shrinks : (value : Reader Json) → Shrinks value → Shrinks (element value)
unfolding element
element_shrinks value shrinks cs a rest h =
    let v = bind_some (value (after_spaces cs)) _ _ h in
    omega (arith, after_spaces_le cs, after_spaces_le v.0.1, shrinks _ v.0.0 v.0.1 v.1, ap length (rest_is _ a _ rest v.2))

pub pair_shrinks : (value : Reader Json) → Shrinks value → Shrinks (pair value)
unfolding pair
pair_shrinks value shrinks cs a rest h =
    let name = bind_some (quoted (after_spaces cs)) _ _ h in
    let next = bind_some (behind 58 (after_spaces name.0.1)) _ _ name.2 in
    let v = bind_some (element value next.0) _ _ next.2 in
    omega (arith, after_spaces_le cs, quoted_shrinks (after_spaces cs) name.0.0 name.0.1 name.1, after_spaces_le name.0.1, behind_shrinks 58 (after_spaces name.0.1) next.0 next.1, element_shrinks value shrinks next.0 v.0.0 v.0.1 v.1, ap length (rest_is _ a _ rest v.2))

after_word_le : (word cs rest : List ℕ) → after_word word cs ≡ Some rest → length rest ≤ length cs
unfolding after_word
after_word_le [] cs rest h = let e : cs ≡ rest = cc in omega (arith, ap length e)
after_word_le (w ∷ ws) cs rest h =
    let b = bind_some (behind w cs) _ _ h in
    omega (arith, behind_shrinks w cs b.0 b.1, after_word_le ws b.0 rest b.2)

abbrev with_value : Json → List ℕ → Found Json
with_value v after = Some (v, after)

named_as : (word : List ℕ) (v : Json) (cs : List ℕ) (a : Json) (rest : List ℕ) → (after_word word cs >>= with_value v) ≡ Some (a, rest) → length rest ≤ length cs
named_as word v cs a rest h =
    let w = bind_some (after_word word cs) _ _ h in
    omega (arith, after_word_le word cs w.0 w.1, ap length (rest_is _ a _ rest w.2))

named_shrinks : Shrinks named
unfolding named
named_shrinks [] a rest h = absurd (cc)
named_shrinks (c ∷ cs) a rest h =
    elim (chosen (c == 110) _ _ _ h) [
      | inl x ↦ omega (arith, named_as (117 ∷ 108 ∷ 108 ∷ []) j.Null cs a rest x.1)
      | inr x ↦ elim (chosen (c == 116) _ _ _ x.1) [
        | inl y ↦ omega (arith, named_as (114 ∷ 117 ∷ 101 ∷ []) (j.Bool true) cs a rest y.1)
        | inr y ↦ elim (chosen (c == 102) _ _ _ y.1) [
          | inl z ↦ omega (arith, named_as (97 ∷ 108 ∷ 115 ∷ 101 ∷ []) (j.Bool false) cs a rest z.1)
          | inr z ↦ absurd (cc)
        ]
      ]
    ]

value_of_shrinks : (lists : Reader (List Json)) (objects : Reader (List Member)) → Shrinks lists → Shrinks objects → Shrinks (value_of lists objects)
unfolding value_of
value_of_shrinks lists objects p q [] a rest h = absurd (cc)
value_of_shrinks lists objects p q (c ∷ cs) a rest h =
    elim (chosen (c == 34) _ _ _ h) [
      | inl x ↦
          let b = bind_some (content cs) _ _ x.1 in
          omega (arith, content_shrinks cs b.0.0 b.0.1 b.1, ap length (rest_is _ a _ rest b.2))
      | inr x ↦ elim (chosen (c == 91) _ _ _ x.1) [
        | inl y ↦
            let b = bind_some (lists cs) _ _ y.1 in
            omega (arith, p cs b.0.0 b.0.1 b.1, ap length (rest_is _ a _ rest b.2))
        | inr y ↦ elim (chosen (c == 123) _ _ _ y.1) [
          | inl z ↦
              let b = bind_some (objects cs) _ _ z.1 in
              omega (arith, q cs b.0.0 b.0.1 b.1, ap length (rest_is _ a _ rest b.2))
          | inr z ↦ elim (chosen ((c == 45) || is_digit c) _ _ _ z.1) [
            | inl u ↦
                let b = bind_some (numeral (c ∷ cs)) _ _ u.1 in
                omega (arith, numeral_shrinks (c ∷ cs) b.0.0 b.0.1 b.1, ap length (rest_is _ a _ rest b.2))
            | inr u ↦ named_shrinks (c ∷ cs) a rest u.1
          ]
        ]
      ]
    ]

pub value_shrinks : (levels : ℕ) → Shrinks (value levels)
unfolding value
value_shrinks zero = value_of_shrinks read_never read_never (λ cs a rest h. absurd (cc)) (λ cs a rest h. absurd (cc))
value_shrinks (suc levels) =
    value_of_shrinks (listed (element (value levels)) 93) (listed (pair (value levels)) 125)
    (listed_shrinks _ 93 (element_shrinks _ (value_shrinks levels))) (listed_shrinks _ 125 (pair_shrinks _ (value_shrinks levels)))
