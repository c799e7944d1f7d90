-- The changes of one record's rows: each is to what the record has then, and at its other keys nothing differs.
use Rattle.std.proofs.Common.{◌≡◌, ◌↔◌, ◌⊎◌, inl, inr, ℕ, zero, suc, ◌+◌, ◌<◌, ◌≤◌, Bool, true, false, not, ◌&&◌, cond, IsTrue, List, [], ◌∷◌, ◌++◌, Option, Some, None, refl, sym, ap, subst, ◌∙◌, arith, bytes_eq, nat_lt}
use Rattle.std.specs.List.{AllByRecursion, flat_map, range_with_len}
use Rattle.std.proofs.lemmas.List.Folds.{list_any-append}
use Rattle.std.proofs.lemmas.Bool.Decides.{nat_tests}
use Rattle.std.proofs.lemmas.Bool.{true≢false as clash}
use Rattle.base_lemmas.proofs.Bools.{by_answer as pick, or_first_false as or_left_false, or_second_false as or_right_false}
use Rattle.base_lemmas.proofs.Texts.{bytes_eq-self as same_itself, same_from_bytes_eq as same_exact}
use Rattle.base_lemmas.proofs.Lists.{each-append as all_append}
use Rattle.store_rows.specs.Keys.{Key, key_eq}
use Rattle.model.specs.Cases.{in_case}
use Rattle.model.specs.Fields.{is_null, ref_of}
use Rattle.model.specs.Membership.{Has}
use Rattle.base_value.specs.OrderKeys.{order_key}
use Rattle.store_abstraction.specs.Changes.{Change, is_changed}
use Rattle.store_abstraction.specs.Entries.{Entry, is_indexed, is_reference_to, is_unique}
use Rattle.record_index.specs.Changed.{index_key, is_at, reference_key, row_turned, unique_key}

-- keys are told apart
abbrev pub EqualKeys : Type 0
EqualKeys = (a b : Key) → IsTrue (key_eq a b) ↔ (a ≡ b)

-- ---- lists of changes

pub left_unchanged : (xs ys : List Change) (k : Key) → is_changed (xs ++ ys) k ≡ false → is_changed xs k ≡ false
left_unchanged xs ys k e = or_left_false (is_changed xs k) (is_changed ys k) (sym (list_any-append (λ c. key_eq k c.0) xs ys) ∙ e)

pub right_unchanged : (xs ys : List Change) (k : Key) → is_changed (xs ++ ys) k ≡ false → is_changed ys k ≡ false
right_unchanged xs ys k e = or_right_false (is_changed xs k) (is_changed ys k) (sym (list_any-append (λ c. key_eq k c.0) xs ys) ∙ e)

pub flat_unchanged : (f : ℕ → List Change) (k : Key) (ss : List ℕ) → is_changed (flat_map f ss) k ≡ false → (s : ℕ) → Has ss s → is_changed (f s) k ≡ false
flat_unchanged f k [] e s m = absurd m
flat_unchanged f k (x ∷ ss) e s (inl i) = rw i (left_unchanged (f x) (flat_map f ss) k e)
flat_unchanged f k (x ∷ ss) e s (inr m) = flat_unchanged f k ss (right_unchanged (f x) (flat_map f ss) k e) s m

less : (a b : ℕ) → nat_lt a b ≡ true → a + 1 ≤ b
less a b e = grind (arith, nat_tests)

not_less : (a b : ℕ) → nat_lt a b ≡ false → a ≤ b → b ≡ a
not_less a b e h = grind (arith, nat_tests)

pub in_range : (n from s : ℕ) → from ≤ s → s < from + n → Has (range_with_len from n) s
in_range zero from s lo hi = absurd (omega (arith, lo, hi))
in_range (suc n) from s lo hi =
    pick (nat_lt from s) (λ b. Has (range_with_len from (suc n)) s)
    (λ e. inr (in_range n (from + 1) s (less from s e) (omega (arith, hi))))
    (λ e. inl (not_less from s e lo))

pub all_flat : {A : Type 0} (P : A → Type 0) (f : ℕ → List A) (ss : List ℕ) → ((s : ℕ) → AllByRecursion P (f s)) → AllByRecursion P (flat_map f ss)
all_flat P f [] h = tt
all_flat P f (s ∷ ss) h = all_append P (f s) (flat_map f ss) (h s) (all_flat P f ss h)

-- ---- one row turned

hit : EqualKeys → (make : List ℕ → Key) (a k : List ℕ) → bytes_eq a k ≡ true → key_eq (make k) (make a) ≡ true
hit equal make a k h = (equal (make k) (make a)).1 (ap make (sym (same_exact a k h)))

-- not found by what isn't changed
missed : EqualKeys → (make : List ℕ → Key) (a k : List ℕ) → key_eq (make k) (make a) ≡ false → bytes_eq a k ≡ false
missed equal make a k e = pick (bytes_eq a k) (λ b. b ≡ false) (λ h. absurd (clash (sym (hit equal make a k h) ∙ e))) (λ _. refl)

pub turned_rest : EqualKeys → (make : List ℕ → Key) (row : List ℕ) (old new : Option (List ℕ)) (k : List ℕ) → is_changed (row_turned make row old new) (make k) ≡ false → is_at old k ≡ is_at new k
turned_rest equal make row None None k e = refl
turned_rest equal make row (Some a) None k e = missed equal make a k (or_left_false (key_eq (make k) (make a)) false e)
turned_rest equal make row None (Some b) k e = sym (missed equal make b k (or_left_false (key_eq (make k) (make b)) false e))
turned_rest equal make row (Some a) (Some b) k e =
    pick (bytes_eq a b) (λ d. is_changed (cond d [] ((make a, None) ∷ (make b, Some row) ∷ [])) (make k) ≡ false → bytes_eq a k ≡ bytes_eq b k)
    (λ same _. ap (λ x. bytes_eq x k) (same_exact a b same))
    (λ _ f. missed equal make a k (or_left_false (key_eq (make k) (make a)) _ f)
    ∙ sym (missed equal make b k (or_left_false (key_eq (make k) (make b)) false (or_right_false (key_eq (make k) (make a)) _ f))))
    e

pub turned_are : (P : Change → Type 0) (make : List ℕ → Key) (row : List ℕ) (old new : Option (List ℕ))
    → ((k : List ℕ) → (is_at old k ≡ true) ⊎ (is_at new k ≡ true) → P (make k, cond (is_at new k) (Some row) None)) → AllByRecursion P (row_turned make row old new)
turned_are P make row None None h = tt
turned_are P make row (Some a) None h = (h a (inl (same_itself a)), tt)
turned_are P make row None (Some b) h = (subst (λ (d : Bool). P (make b, cond d (Some row) None)) (same_itself b) (h b (inr (same_itself b))), tt)
turned_are P make row (Some a) (Some b) h =
    pick (bytes_eq a b) (λ d. AllByRecursion P (cond d [] ((make a, None) ∷ (make b, Some row) ∷ [])))
    (λ _. tt)
    (λ apart. (
      subst (λ (d : Bool). P (make a, cond d (Some row) None)) (other apart) (h a (inl (same_itself a))),
      (subst (λ (d : Bool). P (make b, cond d (Some row) None)) (same_itself b) (h b (inr (same_itself b))), tt),
    ))
  where
    other : bytes_eq a b ≡ false → bytes_eq b a ≡ false
    other e = pick (bytes_eq b a) (λ d. d ≡ false) (λ h. absurd (clash (sym (ap (λ x. bytes_eq x b) (sym (same_exact b a h)) ∙ same_itself b) ∙ e))) (λ _. refl)

-- ---- the tests of rows, by what a value is found by

pub indexed_at : (key : List ℕ) (e : Option Entry) → is_indexed key e ≡ is_at (index_key e) key
indexed_at key None = refl
indexed_at key (Some x) = by x.indexed (is_null x.value)
  where
    by : (i n : Bool) → (i && (not n && bytes_eq (order_key x.value) key)) ≡ is_at (cond (i && not n) (Some (order_key x.value)) None) key
    by true true = refl
    by true false = refl
    by false n = refl

pub unique_is_at : (key : List ℕ) (e : Option Entry) → is_unique key e ≡ is_at (unique_key e) key
unique_is_at key None = refl
unique_is_at key (Some x) = by x.unique (is_null x.value)
  where
    by : (i n : Bool) → (i && (not n && bytes_eq (order_key x.value) key)) ≡ is_at (cond (i && not n) (Some (order_key x.value)) None) key
    by true true = refl
    by true false = refl
    by false n = refl

pub bytes_turned : (a b : List ℕ) → bytes_eq a b ≡ bytes_eq b a
bytes_turned a b = pick (bytes_eq a b) (λ d. d ≡ bytes_eq b a) (λ h. sym (ap (bytes_eq b) (same_exact a b h) ∙ same_itself b)) (λ h. sym (not_other h))
  where
    not_other : bytes_eq a b ≡ false → bytes_eq b a ≡ false
    not_other e = pick (bytes_eq b a) (λ d. d ≡ false) (λ g. absurd (clash (sym (ap (bytes_eq a) (same_exact b a g) ∙ same_itself a) ∙ e))) (λ _. refl)

pub reference_at : (target : List ℕ) (e : Option Entry) → is_reference_to target e ≡ is_at (reference_key e) target
reference_at target None = refl
reference_at target (Some x) = by (ref_of x.value)
  where
    by : (r : Option (List ℕ)) → in_case r false (bytes_eq target) ≡ is_at r target
    by None = refl
    by (Some i) = bytes_turned target i
