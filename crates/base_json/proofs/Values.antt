-- Reading of lists, objects and values is exact.
use Rattle.std.proofs.Common.{◌≡◌, ℕ, zero, suc, ◌||◌, Bool, true, false, ◌==◌, if◌then◌else◌, List, [], ◌∷◌, ◌++◌, length, Option, Some, None, refl, sym, ◌∙◌, ap, subst, inl, inr, eqb-true, eq-eqb}
use Rattle.base_lemmas.proofs.Bools.{or-true as or_true}
use Rattle.base_value.specs.Numerals.{is_digit}
use Rattle.base_json.specs.Characters.{Part, after_spaces}
use Rattle.base_json.specs.Numerals.{Minus, Numeral}
use Rattle.base_json.specs.Grammar.{Items, Listed, Element, Pair, Sort, null, truth, falsehood, number, string, array, object, ValueAs, ValueOf, never, Value, depth, IsText}
use Rattle.base_json.specs.Reading.{Found, Reader, Turn, ◌>>=◌, go_on, behind, numeral, content, quoted, collect, repeated, separator, item_turn, listed_by, listed, element, pair, after_word, named, read_never, value_of, value, at_end, text}
use Rattle.base_json.specs.declared.tree.Num.{Num}
use Rattle.base_json.specs.declared.tree.Json.{Json}
use Rattle.base_json.specs.declared.tree.Json.TheVariants as j
use Rattle.base_json.specs.declared.tree.Member.{Member}
use Rattle.base_json.proofs.Shrinks.{Shrinks, bind_some, chosen, behind_is}
use Rattle.base_json.proofs.Shorter.{item_takes, element_shrinks, pair_shrinks, value_shrinks}
use Rattle.base_json.proofs.Repeats.{Takes, repeated-ends, repeated-goes}
use Rattle.base_json.proofs.Exact as e
use Rattle.base_json.proofs.Exact.{found_is, moved, behind_at, behind_whole}
use Rattle.base_json.proofs.Numbers.{digits_first, numeral_exact}
use Rattle.base_json.proofs.Quotes.{content_exact, quoted_exact}

-- ---- items

separator_told : (end : ℕ) (cs : List ℕ) (more : Bool) (rest : List ℕ) → separator end cs ≡ Some (more, rest) → cs ≡ (if more then 44 else end) ∷ rest
unfolding separator
separator_told end [] more rest h = absurd (cc)
separator_told end (c ∷ cs) more rest h =
    let IsMark : Part Bool = λ xs m r. xs ≡ (if m then 44 else end) ∷ r in
    elim (chosen (c == 44) _ _ _ h) [
      | inl x ↦ moved IsMark true more (c ∷ cs) cs rest x.1 (ap (λ d. d ∷ cs) (eqb-true c 44 x.0))
      | inr x ↦ elim (chosen (c == end) _ _ _ x.1) [
        | inl y ↦ moved IsMark false more (c ∷ cs) cs rest y.1 (ap (λ d. d ∷ cs) (eqb-true c end y.0))
        | inr y ↦ absurd (cc)
      ]
    ]

comma_whole : (end : ℕ) (rest : List ℕ) → separator end (44 ∷ rest) ≡ Some (true, rest)
unfolding separator
comma_whole end rest = refl

end_whole : (end : ℕ) (rest : List ℕ) → (end == 44) ≡ false → separator end (end ∷ rest) ≡ Some (false, rest)
unfolding separator
end_whole end rest h = rw (h, eq-eqb end end refl) refl

module _ {A : Type 0} (part : Part A) (item : Reader A) (exact : e.Exact part item) (end : ℕ) (other : (end == 44) ≡ false) (shrinks : Shrinks item) where
  -- a turn gives one item, and what stands behind it
  abbrev IsItem : List ℕ → Turn A → Type 0
  IsItem cs t = (x : A) × (t.0 ≡ x ∷ []) × part cs x ((if t.1 then 44 else end) ∷ t.2)

  item_told : (cs : List ℕ) (t : Turn A) → item_turn item end cs ≡ Some t → IsItem cs t
  unfolding item_turn
  item_told cs t h =
      let x = bind_some (item cs) _ _ h in
      let s = bind_some (separator end x.0.1) _ _ x.2 in
      let is : IsItem cs (x.0.0 ∷ [], s.0.0, s.0.1) =
      (x.0.0, refl, subst (λ (r : List ℕ). part cs x.0.0 r) (separator_told end x.0.1 s.0.0 s.0.1 s.1) (exact.told cs x.0.0 x.0.1 x.1)) in
      subst (IsItem cs) (ap (turn_of (x.0.0 ∷ [], s.0.0, s.0.1)) s.2) is
    where
      turn_of : Turn A → Option (Turn A) → Turn A
      turn_of d None = d
      turn_of d (Some x) = x

  more_items : (cs : List ℕ) (x : A) (after : List ℕ) (xs : List A) (rest : List ℕ) → part cs x (44 ∷ after) → Items part end after xs rest → Items part end cs (x ∷ xs) rest
  more_items cs x after [] rest p more = absurd more
  more_items cs x after (y ∷ ys) rest p more = (after, p, more)

  items_told_by : (n : ℕ) → ((cs : List ℕ) (xs : List A) (rest : List ℕ) → collect (item_turn item end) n cs ≡ Some (xs, rest) → Items part end cs xs rest)
      → (cs : List ℕ) (xs : List A) (rest : List ℕ) (t : Turn A) → IsItem cs t → go_on (collect (item_turn item end) n) t ≡ Some (xs, rest) → Items part end cs xs rest
  items_told_by n told cs xs rest (ys, false, after) is g =
      moved (Items part end) ys xs cs after rest g (subst (λ (zs : List A). Items part end cs zs after) (sym is.1) is.2)
  items_told_by n told cs xs rest (ys, true, after) is g =
      let b = bind_some (collect (item_turn item end) n after) _ _ g in
      moved (Items part end) (ys ++ b.0.0) xs cs b.0.1 rest b.2
      (subst (λ (zs : List A). Items part end cs (zs ++ b.0.0) b.0.1) (sym is.1) (more_items cs is.0 after b.0.0 b.0.1 is.2 (told after b.0.0 b.0.1 b.1)))

  collected_told : (n : ℕ) (cs : List ℕ) (xs : List A) (rest : List ℕ) → collect (item_turn item end) n cs ≡ Some (xs, rest) → Items part end cs xs rest
  unfolding collect
  collected_told zero cs xs rest h = absurd (cc)
  collected_told (suc n) cs xs rest h =
      let t = bind_some (item_turn item end cs) _ _ h in
      items_told_by n (collected_told n) cs xs rest t.0 (item_told cs t.0 t.1) t.2

  items_told : (cs : List ℕ) (xs : List A) (rest : List ℕ) → repeated (item_turn item end) cs ≡ Some (xs, rest) → Items part end cs xs rest
  unfolding repeated
  items_told cs xs rest h = collected_told (suc (length cs)) cs xs rest h

  takes : Takes (item_turn item end)
  takes = item_takes item end shrinks

  last_turn : (cs : List ℕ) (x : A) (rest : List ℕ) → part cs x (end ∷ rest) → item_turn item end cs ≡ Some (x ∷ [], false, rest)
  unfolding item_turn
  last_turn cs x rest h = rw (exact.whole cs x (end ∷ rest) h, end_whole end rest other) refl

  next_turn : (cs : List ℕ) (x : A) (after : List ℕ) → part cs x (44 ∷ after) → item_turn item end cs ≡ Some (x ∷ [], true, after)
  unfolding item_turn
  next_turn cs x after h = rw (exact.whole cs x (44 ∷ after) h, comma_whole end after) refl

  items_whole : (cs : List ℕ) (xs : List A) (rest : List ℕ) → Items part end cs xs rest → repeated (item_turn item end) cs ≡ Some (xs, rest)
  items_whole cs [] rest h = absurd h
  items_whole cs (x ∷ []) rest h = repeated-ends (item_turn item end) takes cs rest (x ∷ []) (last_turn cs x rest h)
  items_whole cs (x ∷ y ∷ ys) rest h =
      repeated-goes (item_turn item end) takes cs h.0 (x ∷ []) (next_turn cs x h.0 h.1) ∙ rw (items_whole h.0 (y ∷ ys) rest h.2) refl

  listed_told_by : (cs : List ℕ) (xs : List A) (rest : List ℕ) (o : Option (List ℕ)) → behind end (after_spaces cs) ≡ o
      → listed_by o (repeated (item_turn item end) cs) ≡ Some (xs, rest) → Listed part end cs xs rest
  listed_told_by cs xs rest (Some after) e h = moved (Listed part end) [] xs cs after rest h (behind_is end (after_spaces cs) after e)
  listed_told_by cs xs rest None e h = some_items xs (items_told cs xs rest h)
    where
      some_items : (ys : List A) → Items part end cs ys rest → Listed part end cs ys rest
      some_items [] is = absurd is
      some_items (y ∷ ys) is = is

  listed_told : (cs : List ℕ) (xs : List A) (rest : List ℕ) → listed item end cs ≡ Some (xs, rest) → Listed part end cs xs rest
  unfolding listed
  listed_told cs xs rest h = listed_told_by cs xs rest (behind end (after_spaces cs)) refl h

  -- an item doesn't begin with the end
  abbrev Begins : Type 0
  Begins = (cs : List ℕ) (x : A) (rest after : List ℕ) → part cs x rest → after_spaces cs ≡ end ∷ after → ⊥

  by_end : Begins → (cs : List ℕ) (x : A) (r : List ℕ) → part cs x r → (o : Option (List ℕ)) → behind end (after_spaces cs) ≡ o → behind end (after_spaces cs) ≡ None
  by_end begins cs x r p None e = e
  by_end begins cs x r p (Some after) e = absurd (begins cs x r after p (behind_is end (after_spaces cs) after e))

  no_end : Begins → (cs : List ℕ) (xs : List A) (rest : List ℕ) → Items part end cs xs rest → behind end (after_spaces cs) ≡ None
  no_end begins cs [] rest h = absurd h
  no_end begins cs (x ∷ []) rest h = by_end begins cs x (end ∷ rest) h (behind end (after_spaces cs)) refl
  no_end begins cs (x ∷ y ∷ ys) rest h = by_end begins cs x (44 ∷ h.0) h.1 (behind end (after_spaces cs)) refl

  listed_whole : Begins → (cs : List ℕ) (xs : List A) (rest : List ℕ) → Listed part end cs xs rest → listed item end cs ≡ Some (xs, rest)
  unfolding listed
  listed_whole begins cs [] rest h = rw (behind_whole end (after_spaces cs) rest h) refl
  listed_whole begins cs (x ∷ xs) rest h = rw (no_end begins cs (x ∷ xs) rest h) (items_whole cs (x ∷ xs) rest h)

  pub listed_exact : Begins → e.Exact (Listed part end) (listed item end)
  listed_exact begins = record { told = listed_told; whole = listed_whole begins }

-- ---- elements and members

element_exact : (part : Part Json) (read : Reader Json) → e.Exact part read → e.Exact (Element part) (element read)
unfolding element
element_exact part read exact = record {
  told = λ cs v rest h.
      let b = bind_some (read (after_spaces cs)) _ _ h in
      moved (Element part) b.0.0 v cs (after_spaces b.0.1) rest b.2 (b.0.1, exact.told (after_spaces cs) b.0.0 b.0.1 b.1, refl);
  whole = λ cs v rest h. rw (exact.whole (after_spaces cs) v h.0 h.1, h.2) refl;
}

pair_exact : (part : Part Json) (read : Reader Json) → e.Exact part read → e.Exact (Pair part) (pair read)
unfolding pair
pair_exact part read exact = record {
  told = λ cs m rest h.
      let name = bind_some (quoted (after_spaces cs)) _ _ h in
      let next = bind_some (behind 58 (after_spaces name.0.1)) _ _ name.2 in
      let v = bind_some (element read next.0) _ _ next.2 in
      moved (Pair part) (record { name = name.0.0; value = v.0.0 }) m cs v.0.1 rest v.2 (
        name.0.0,
        v.0.0,
        name.0.1,
        next.0,
        quoted_exact.told (after_spaces cs) name.0.0 name.0.1 name.1,
        behind_is 58 (after_spaces name.0.1) next.0 next.1,
        (element_exact part read exact).told next.0 v.0.0 v.0.1 v.1,
        refl,
      );
  whole = λ cs m rest h.
      rw (quoted_exact.whole (after_spaces cs) h.0 h.2 h.4, behind_whole 58 (after_spaces h.2) h.3 h.5, (element_exact part read exact).whole h.3 h.1 rest h.6, h.7) refl;
}

-- ---- words

word_told : (word cs rest : List ℕ) → after_word word cs ≡ Some rest → cs ≡ word ++ rest
unfolding after_word
word_told [] cs rest h = cc
word_told (w ∷ ws) cs rest h =
    let b = bind_some (behind w cs) _ _ h in
    behind_is w cs b.0 b.1 ∙ ap (λ xs. w ∷ xs) (word_told ws b.0 rest b.2)

word_whole : (word rest : List ℕ) → after_word word (word ++ rest) ≡ Some rest
unfolding after_word
word_whole [] rest = refl
word_whole (w ∷ ws) rest = rw (behind_at w (ws ++ rest)) (word_whole ws rest)

abbrev with_value : Json → List ℕ → Found Json
with_value v after = Some (v, after)

named_told : (c k : ℕ) (word : List ℕ) (v : Json) (cs : List ℕ) (a : Json) (rest : List ℕ) → (c == k) ≡ true → (after_word word cs >>= with_value v) ≡ Some (a, rest)
    → (c ∷ cs ≡ k ∷ (word ++ rest)) × (a ≡ v)
named_told c k word v cs a rest e h =
    let w = bind_some (after_word word cs) _ _ h in
    let f = found_is v a w.0 rest w.2 in
    let is : cs ≡ word ++ rest = word_told word cs w.0 w.1 ∙ ap (λ xs. word ++ xs) f.1 in
    (ap (λ d. d ∷ cs) (eqb-true c k e) ∙ ap (λ xs. k ∷ xs) is, sym f.0)

-- ---- values

-- the first character of a number
pub numeral_first : (cs : List ℕ) (n : Num) (rest : List ℕ) → Numeral cs n rest → (c : ℕ) × (more : List ℕ) × (cs ≡ c ∷ more) × (((c == 45) || is_digit c) ≡ true)
numeral_first cs n rest h = by_sign h.0.minus h.1.3
  where
    by_sign : (m : Bool) → Minus cs m h.1.0 → (c : ℕ) × (more : List ℕ) × (cs ≡ c ∷ more) × (((c == 45) || is_digit c) ≡ true)
    by_sign true is = (45, h.1.0, is, refl)
    by_sign false is =
        let f = digits_first h.1.0 h.0.whole h.1.1 h.1.4.0 in
        (f.0, f.1, sym is.0 ∙ f.2, rw f.3 (or_true (f.0 == 45)))

not_number : (c k : ℕ) → ((c == 45) || is_digit c) ≡ true → (k == 45) ≡ false → is_digit k ≡ false → (c == k) ≡ false
not_number c k h p q = by_test (c == k) refl
  where
    by_test : (b : Bool) → (c == k) ≡ b → (c == k) ≡ false
    by_test false e = e
    by_test true e =
        let same = eqb-true c k e in
        let no : ((k == 45) || is_digit k) ≡ true = ap (λ d. (d == 45) || is_digit d) (sym same) ∙ h in
        absurd (cc)

module _ (lists : Part (List Json)) (objects : Part (List Member)) (read_lists : Reader (List Json)) (read_objects : Reader (List Member))
    (exact_lists : e.Exact lists read_lists) (exact_objects : e.Exact objects read_objects) where
  value_of_told : (cs : List ℕ) (v : Json) (rest : List ℕ) → value_of read_lists read_objects cs ≡ Some (v, rest) → ValueOf lists objects cs v rest
  unfolding value_of named
  value_of_told [] v rest h = absurd (cc)
  value_of_told (c ∷ cs) v rest h =
      elim (chosen (c == 34) _ _ _ h) [
        | inl x ↦
            let b = bind_some (content cs) _ _ x.1 in
            moved (ValueOf lists objects) (j.Text b.0.0) v (c ∷ cs) b.0.1 rest b.2
            (string, (b.0.0, (cs, ap (λ d. d ∷ cs) (eqb-true c 34 x.0), content_exact.told cs b.0.0 b.0.1 b.1), refl))
        | inr x ↦ elim (chosen (c == 91) _ _ _ x.1) [
          | inl y ↦
              let b = bind_some (read_lists cs) _ _ y.1 in
              moved (ValueOf lists objects) (j.List b.0.0) v (c ∷ cs) b.0.1 rest b.2
              (array, (b.0.0, cs, ap (λ d. d ∷ cs) (eqb-true c 91 y.0), exact_lists.told cs b.0.0 b.0.1 b.1, refl))
          | inr y ↦ elim (chosen (c == 123) _ _ _ y.1) [
            | inl z ↦
                let b = bind_some (read_objects cs) _ _ z.1 in
                moved (ValueOf lists objects) (j.Object b.0.0) v (c ∷ cs) b.0.1 rest b.2
                (object, (b.0.0, cs, ap (λ d. d ∷ cs) (eqb-true c 123 z.0), exact_objects.told cs b.0.0 b.0.1 b.1, refl))
            | inr z ↦ elim (chosen ((c == 45) || is_digit c) _ _ _ z.1) [
              | inl u ↦
                  let b = bind_some (numeral (c ∷ cs)) _ _ u.1 in
                  moved (ValueOf lists objects) (j.Number b.0.0) v (c ∷ cs) b.0.1 rest b.2
                  (number, (b.0.0, numeral_exact.told (c ∷ cs) b.0.0 b.0.1 b.1, refl))
              | inr u ↦ elim (chosen (c == 110) _ _ _ u.1) [
                | inl w ↦ (null, named_told c 110 (117 ∷ 108 ∷ 108 ∷ []) j.Null cs v rest w.0 w.1)
                | inr w ↦ elim (chosen (c == 116) _ _ _ w.1) [
                  | inl a ↦ (truth, named_told c 116 (114 ∷ 117 ∷ 101 ∷ []) (j.Bool true) cs v rest a.0 a.1)
                  | inr a ↦ elim (chosen (c == 102) _ _ _ a.1) [
                    | inl b ↦ (falsehood, named_told c 102 (97 ∷ 108 ∷ 115 ∷ 101 ∷ []) (j.Bool false) cs v rest b.0 b.1)
                    | inr b ↦ absurd (cc)
                  ]
                ]
              ]
            ]
          ]
        ]
      ]

  number_whole : (c : ℕ) (cs : List ℕ) → ((c == 45) || is_digit c) ≡ true → value_of read_lists read_objects (c ∷ cs) ≡ (numeral (c ∷ cs) >>= λ n. Some (j.Number n.0, n.1))
  unfolding value_of is_digit
  number_whole c cs h = rw (not_number c 34 h refl refl, not_number c 91 h refl refl, not_number c 123 h refl refl, h) refl

  value_as_whole : (sort : Sort) (cs : List ℕ) (v : Json) (rest : List ℕ) → ValueAs lists objects sort cs v rest → value_of read_lists read_objects cs ≡ Some (v, rest)
  unfolding value_of named is_digit
  value_as_whole null cs v rest h = rw (h.0, word_whole (117 ∷ 108 ∷ 108 ∷ []) rest, h.1) refl
  value_as_whole truth cs v rest h = rw (h.0, word_whole (114 ∷ 117 ∷ 101 ∷ []) rest, h.1) refl
  value_as_whole falsehood cs v rest h = rw (h.0, word_whole (97 ∷ 108 ∷ 115 ∷ 101 ∷ []) rest, h.1) refl
  value_as_whole number cs v rest h =
      let f = numeral_first cs h.0 rest h.1 in
      ap (value_of read_lists read_objects) f.2 ∙ number_whole f.0 f.1 f.3 ∙ ap (λ xs. numeral xs >>= λ n. Some (j.Number n.0, n.1)) (sym f.2)
      ∙ rw (numeral_exact.whole cs h.0 rest h.1, h.2) refl
  value_as_whole string cs v rest h = rw (h.1.1, content_exact.whole h.1.0 h.0 rest h.1.2, h.2) refl
  value_as_whole array cs v rest h = rw (h.2, exact_lists.whole h.1 h.0 rest h.3, h.4) refl
  value_as_whole object cs v rest h = rw (h.2, exact_objects.whole h.1 h.0 rest h.3, h.4) refl

  value_of_exact : e.Exact (ValueOf lists objects) (value_of read_lists read_objects)
  value_of_exact = record { told = value_of_told; whole = λ cs v rest h. value_as_whole h.0 cs v rest h.1 }

never_exact : {A : Type 0} → e.Exact {A = A} never read_never
never_exact = record { told = λ cs a rest h. absurd (cc); whole = λ cs a rest h. absurd h }

value_closes : (levels : ℕ) (rest : List ℕ) → value levels (93 ∷ rest) ≡ None
unfolding value value_of named is_digit
value_closes zero rest = refl
value_closes (suc levels) rest = refl

no_element : (levels : ℕ) → e.Exact (Value levels) (value levels) → (cs : List ℕ) (x : Json) (rest after : List ℕ)
    → Element (Value levels) cs x rest → after_spaces cs ≡ 93 ∷ after → ⊥
no_element levels exact cs x rest after h is =
    let some = exact.whole (after_spaces cs) x h.0 h.1 in
    let none = ap (value levels) is ∙ value_closes levels after in
    absurd (cc)

no_pair : (part : Part Json) (cs : List ℕ) (x : Member) (rest after : List ℕ) → Pair part cs x rest → after_spaces cs ≡ 125 ∷ after → ⊥
no_pair part cs x rest after h is = let quote = h.4.1 in absurd (cc)

pub value_exact : (levels : ℕ) → e.Exact (Value levels) (value levels)
unfolding Value value
value_exact zero = value_of_exact never never read_never read_never never_exact never_exact
value_exact (suc levels) =
    let below = value_exact levels in
    value_of_exact (Listed (Element (Value levels)) 93) (Listed (Pair (Value levels)) 125) (listed (element (value levels)) 93) (listed (pair (value levels)) 125)
    (listed_exact (Element (Value levels)) (element (value levels)) (element_exact (Value levels) (value levels) below) 93 refl
    (element_shrinks (value levels) (value_shrinks levels)) (no_element levels below))
    (listed_exact (Pair (Value levels)) (pair (value levels)) (pair_exact (Value levels) (value levels) below) 125 refl
    (pair_shrinks (value levels) (value_shrinks levels)) (no_pair (Value levels)))

-- ---- whole texts

pub text_told : (cs : List ℕ) (v : Json) → text cs ≡ Some v → IsText cs v
unfolding text
text_told cs v h =
    let b = bind_some (element (value depth) cs) _ _ h in
    at_its_end b.0.0 b.0.1 ((element_exact (Value depth) (value depth) (value_exact depth)).told cs b.0.0 b.0.1 b.1) b.2
  where
    at_its_end : (x : Json) (rest : List ℕ) → Element (Value depth) cs x rest → at_end x rest ≡ Some v → IsText cs v
    at_its_end x [] is e = let same : x ≡ v = cc in subst (λ (y : Json). Element (Value depth) cs y []) same is
    at_its_end x (c ∷ more) is e = absurd (cc)

pub text_whole : (cs : List ℕ) (v : Json) → IsText cs v → text cs ≡ Some v
unfolding text
text_whole cs v h = rw ((element_exact (Value depth) (value depth) (value_exact depth)).whole cs v [] h) refl
