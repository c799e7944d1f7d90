-- A number in words, as the code reads it and as the commands have it.
use Rattle.std.proofs.Common.{◌≡◌, ◌≢◌, ◌⊎◌, inl, inr, ◌≤◌, ℕ, Bool, true, false, not, ◌&&◌, ◌==◌, nat_le, List, [], ◌∷◌, length, map, get_or, Option, Some, None, refl, sym, ap, subst, ◌∙◌, arith, rules, le-leb as is_at_most, leb-true as at_most}
use Rattle.std.specs.Prelude.{◌↔◌, IfSome, IsSome, if◌then◌else◌, codes}
use Rattle.std.specs.Option.{option_map}
use Rattle.std.specs.Char.{digit_value}
use Rattle.std.specs.Str.{byte}
use Rattle.std.specs.Str.Parse.{AllDigits, digits_value}
use Rattle.std.proofs.lemmas.Bool.{true≢false as true_not, and_parts as both}
use Rattle.commands.specs.Commands.{Command, Printing, all_digits, answers, command_of, is_counting, number_within, prints}
use Rattle.base_value.specs.Numerals.{is_within}
use Rattle.commands.specs.Words.{IsNumber}

differ : (x y : ℕ) → not (x == y) ≡ true → x ≢ y
differ x y h = search rules

are_other : (x y : ℕ) → (x ≢ y) → not (x == y) ≡ true
are_other x y h = search rules

digits_are : (cs : List ℕ) → AllDigits 10 cs → all_digits cs ≡ true
digits_are [] ds = refl
digits_are (c ∷ cs) ds = rw (is_at_most (digit_value c) 9 (omega (arith, ds.0)), digits_are cs ds.1) refl

are_digits : (cs : List ℕ) → all_digits cs ≡ true → AllDigits 10 cs
are_digits [] h = tt
are_digits (c ∷ cs) h = let p = both (nat_le (digit_value c) 9) (all_digits cs) h in let small = at_most (digit_value c) 9 p.0 in (omega (arith, small), are_digits cs p.1)

module _ (least most : ℕ) where
  -- the word is such a number, as the commands have it
  abbrev is_number : List ℕ → Bool
  is_number w = is_counting w && is_within least most (digits_value 10 w)

  zero_alone : (x y : ℕ) (xs : List ℕ) → (length (x ∷ y ∷ xs) ≡ 1) ⊎ (x ≢ byte "0") → x ≢ byte "0"
  zero_alone x y xs (inl one) = absurd (omega (arith, one))
  zero_alone x y xs (inr other) = other

  numbers : (w : List ℕ) → IsNumber least most w → is_number w ≡ true
  numbers [] c = let some = c.numeral.0 in absurd (omega (arith, some))
  numbers (x ∷ []) c = rw (digits_are (x ∷ []) c.numeral.1, is_at_most least (digits_value 10 (x ∷ [])) c.some, is_at_most (digits_value 10 (x ∷ [])) most c.few) refl
  numbers (x ∷ y ∷ xs) c =
      rw (are_other x (byte "0") (zero_alone x y xs c.first), digits_are (x ∷ y ∷ xs) c.numeral.1, is_at_most least (digits_value 10 (x ∷ y ∷ xs)) c.some, is_at_most (digits_value 10 (x ∷ y ∷ xs)) most c.few) refl

  numbered : (w : List ℕ) → is_number w ≡ true → IsNumber least most w
  numbered [] h = absurd cc
  numbered (x ∷ []) h =
      let n = digits_value 10 (x ∷ []) in
      let p = both (is_counting (x ∷ [])) (is_within least most n) h in
      let r = both (nat_le least n) (nat_le n most) p.1 in
      record { numeral = (omega arith, are_digits (x ∷ []) p.0); first = inl refl; some = at_most least n r.0; few = at_most n most r.1 }
  numbered (x ∷ y ∷ xs) h =
      let n = digits_value 10 (x ∷ y ∷ xs) in
      let p = both (is_counting (x ∷ y ∷ xs)) (is_within least most n) h in
      let q = both (not (x == byte "0")) (all_digits (x ∷ y ∷ xs)) p.0 in
      let r = both (nat_le least n) (nat_le n most) p.1 in
      record { numeral = (omega arith, are_digits (x ∷ y ∷ xs) q.1); first = inr (differ x (byte "0") q.0); some = at_most least n r.0; few = at_most n most r.1 }

  pub counted : (w : List ℕ) (r : Option ℕ) → (IsSome r ↔ IsNumber least most w) → IfSome r (λ n. n ≡ digits_value 10 w) → r ≡ number_within least most w
  counted w r is value = by (is_number w) refl r is value
    where
      by : (b : Bool) → is_number w ≡ b → (r : Option ℕ) → (IsSome r ↔ IsNumber least most w) → IfSome r (λ n. n ≡ digits_value 10 w) → r ≡ (if b then Some (digits_value 10 w) else None)
      by true e (Some n) is value = ap Some value
      by true e None is value = absurd (let wrong : IsSome {T = ℕ} None = is.1 (numbered w e) in cc)
      by false e (Some n) is value = let some : IsSome (Some n) = search rules in absurd (true_not (sym (numbers w (is.0 some)) ∙ e))
      by false e None is value = refl

  -- it is from the least to the most
  pub between : (w : List ℕ) (n : ℕ) → Some n ≡ number_within least most w → (least ≤ n) × (n ≤ most)
  between w n e = by (is_number w) refl e
    where
      by : (b : Bool) → is_number w ≡ b → Some n ≡ (if b then Some (digits_value 10 w) else None) → (least ≤ n) × (n ≤ most)
      by true h same = let is = numbered w h in let here : n ≡ digits_value 10 w = search rules in (subst (λ (m : ℕ). least ≤ m) (sym here) is.some, subst (λ (m : ℕ). m ≤ most) (sym here) is.few)
      by false h same = absurd cc

-- words that are the name of a command and a number, or another word
pub number_words : {X : Type 0} (name : List ℕ) (make : ℕ → Command) (read : List ℕ → Option ℕ) → ((w : List ℕ) → command_of (name ∷ w ∷ []) ≡ option_map make (read w))
    → (f : X → List ℕ) (ws : List X) (first second : X) (number : Option ℕ) → length ws ≡ 2 → first ≡ get_or ws 0 first → second ≡ get_or ws 1 second
    → f first ≡ name → number ≡ read (f second) → command_of (map f ws) ≡ option_map make number
number_words name make read is f [] first second number two a b named k = absurd (omega (arith, two))
number_words name make read is f (x ∷ []) first second number two a b named k = absurd (omega (arith, two))
number_words {X} name make read is f (x ∷ y ∷ []) first second number two a b named k =
    let word : f x ≡ name = ap f (sym a) ∙ named in
    let count : number ≡ read (f y) = k ∙ ap (λ (z : X). read (f z)) b in
    ap (λ (z : List ℕ). command_of (z ∷ f y ∷ [])) word ∙ is (f y) ∙ sym (ap (option_map make) count)
number_words name make read is f (x ∷ y ∷ z ∷ zs) first second number two a b named k = absurd (omega (arith, two))

-- the word `answer` alone
pub answer_words : {X : Type 0} (f : X → List ℕ) (ws : List X) (first : X) → length ws ≡ 1 → first ≡ get_or ws 0 first → f first ≡ codes "answer" → command_of (map f ws) ≡ Some answers
answer_words f [] first one a named = absurd (omega (arith, one))
answer_words f (x ∷ []) first one a named = subst (λ (z : List ℕ). command_of (z ∷ []) ≡ Some answers) (sym (ap f (sym a) ∙ named)) refl
answer_words f (x ∷ y ∷ zs) first one a named = absurd (omega (arith, one))

-- words that are the name of a command and four more
pub five_words : {X : Type 0} (name : List ℕ) (make : (a b c d : List ℕ) → Printing) → ((a b c d : List ℕ) → command_of (name ∷ a ∷ b ∷ c ∷ d ∷ []) ≡ Some (prints (make a b c d)))
    → (f : X → List ℕ) (ws : List X) (a b c d e : X) (org user secret query : List ℕ) → length ws ≡ 5 → a ≡ get_or ws 0 a → b ≡ get_or ws 1 b → c ≡ get_or ws 2 c → d ≡ get_or ws 3 d → e ≡ get_or ws 4 e
    → f a ≡ name → org ≡ f b → user ≡ f c → secret ≡ f d → query ≡ f e → command_of (map f ws) ≡ Some (prints (make org user secret query))
five_words name make is f [] a b c d e org user secret query five ha hb hc hd he named o u s q = absurd (omega (arith, five))
five_words name make is f (v ∷ []) a b c d e org user secret query five ha hb hc hd he named o u s q = absurd (omega (arith, five))
five_words name make is f (v ∷ w ∷ []) a b c d e org user secret query five ha hb hc hd he named o u s q = absurd (omega (arith, five))
five_words name make is f (v ∷ w ∷ x ∷ []) a b c d e org user secret query five ha hb hc hd he named o u s q = absurd (omega (arith, five))
five_words name make is f (v ∷ w ∷ x ∷ y ∷ []) a b c d e org user secret query five ha hb hc hd he named o u s q = absurd (omega (arith, five))
five_words name make is f (v ∷ w ∷ x ∷ y ∷ z ∷ []) a b c d e org user secret query five ha hb hc hd he named o u s q =
    let its_org : f w ≡ org = ap f (sym hb) ∙ sym o in
    let its_user : f x ≡ user = ap f (sym hc) ∙ sym u in
    let its_secret : f y ≡ secret = ap f (sym hd) ∙ sym s in
    let its_query : f z ≡ query = ap f (sym he) ∙ sym q in
    subst (λ (n : List ℕ). command_of (n ∷ f w ∷ f x ∷ f y ∷ f z ∷ []) ≡ Some (prints (make org user secret query))) (sym (ap f (sym ha) ∙ named))
    (is (f w) (f x) (f y) (f z) ∙ (ap (λ (n : List ℕ). Some (prints (make n (f x) (f y) (f z)))) its_org ∙ (ap (λ (n : List ℕ). Some (prints (make org n (f y) (f z)))) its_user
    ∙ (ap (λ (n : List ℕ). Some (prints (make org user n (f z)))) its_secret ∙ ap (λ (n : List ℕ). Some (prints (make org user secret n))) its_query))))
five_words name make is f (v ∷ w ∷ x ∷ y ∷ z ∷ more ∷ others) a b c d e org user secret query five ha hb hc hd he named o u s q = absurd (omega (arith, five))
