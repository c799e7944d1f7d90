-- Things with names, whatever the case of their letters: when one is found by its name in lower case, and what is left without
-- the one that has a name.
use Rattle.std.proofs.Common.{◌≡◌, ◌∙◌, ℕ, ◌+◌, ◌<◌, Bool, true, false, not, ◌||◌, cond, is_lt, List, [], ◌∷◌, length, map, filter, Some, None, refl, sym, ap, subst, arith, bytes_eq}
use Rattle.std.specs.Prelude.{T, is_some, encode_utf8_all}
use Rattle.std.specs.List.{find, list_any}
use Rattle.std.specs.declared.cmp.Ordering.{Ordering}
use Rattle.std.specs.FinMap.{is_sorted}
use Rattle.std.specs.FinMap.Entries.{below_all}
use Rattle.std.specs.Ordering.{nat_cmp}
use Rattle.std.specs.Cmp.Lexicographic.{slice_cmp}
use Rattle.std.specs.Str.{IsUtf8}
use Rattle.std.proofs.lemmas.Cmp.{nat_list_cmp_total, tied_itself}
use Rattle.std.proofs.lemmas.Slice.Eq.{bytes_eq-Decides}
use Rattle.std.proofs.lemmas.Str.{chars_from_encodes}
use Rattle.std.proofs.lemmas.Bool.{true≢false as clash}
use Rattle.base_lemmas.proofs.Bools.{by_answer as pick, same_both_ways as agree, T-and_first as t_first, T-and_second as t_second, true_from_T as t_true}
use Rattle.base_value.specs.Texts.{lower}
use Rattle.model.specs.Fields.{same_name}
use Rattle.model.specs.RuleFormulas.{name_cmp}
use Rattle.store_abstraction.specs.Metadata.{lower_bytes, named_so}

-- ---- names

-- texts with the same bytes in lower case have the same characters in lower case
lower_one : (a b : List ℕ) → IsUtf8 (lower_bytes b) → lower_bytes a ≡ lower_bytes b → lower a ≡ lower b
lower_one a b u e = chars_from_encodes (lower a) (lower_bytes b) u e ∙ sym (chars_from_encodes (lower b) (lower_bytes b) u refl)

same_lower : (a b : List ℕ) → same_name a b ≡ true → lower a ≡ lower b
same_lower a b e = (bytes_eq-Decides (lower a) (lower b)).0 e

turned : (a b : List ℕ) → same_name a b ≡ true → same_name b a ≡ true
turned a b e = (bytes_eq-Decides (lower b) (lower a)).1 (sym (same_lower a b e))

-- a name is found by its bytes exactly if it is the name
bytes_are : (a name : List ℕ) → IsUtf8 (lower_bytes name) → bytes_eq (lower_bytes a) (lower_bytes name) ≡ same_name a name
bytes_are a name u =
    agree (bytes_eq (lower_bytes a) (lower_bytes name)) (same_name a name)
    (λ e. (bytes_eq-Decides (lower a) (lower name)).1 (lower_one a name u ((bytes_eq-Decides (lower_bytes a) (lower_bytes name)).0 e)))
    (λ e. (bytes_eq-Decides (lower_bytes a) (lower_bytes name)).1 (ap encode_utf8_all (same_lower a name e)))

-- a name that is less than another differs from it
not_less : (a b : List ℕ) → lower a ≡ lower b → is_lt (name_cmp a b) ≡ true → ⊥
not_less a b same e =
    clash (sym e ∙ ap (λ (x : List ℕ). is_lt (slice_cmp nat_cmp x (lower b))) same ∙ ap (λ (o : Ordering). is_lt o) (tied_itself nat_list_cmp_total (lower b)))

-- ---- lists without some

-- what passes is found again, where all that passes is kept
find_kept : {X : Type 0} (test keep : X → Bool) (xs : List X) → ((x : X) → test x ≡ true → keep x ≡ true) → find test (filter keep xs) ≡ find test xs
find_kept test keep [] kept = refl
find_kept test keep (x ∷ xs) kept = by (find_kept test keep xs kept) (keep x) refl (test x) refl
  where
    by : find test (filter keep xs) ≡ find test xs → (b : Bool) → keep x ≡ b → (c : Bool) → test x ≡ c → find test (cond b (x ∷ filter keep xs) (filter keep xs)) ≡ find test (x ∷ xs)
    by rest true k c is = ap (cond (test x) (Some x)) rest
    by rest false k true is = absurd (clash (sym (kept x is) ∙ k))
    by rest false k false is = rest ∙ sym (ap (λ (b : Bool). cond b (Some x) (find test xs)) is)

-- nothing passes, where nothing that passes is kept
find_gone : {X : Type 0} (test keep : X → Bool) (xs : List X) → ((x : X) → test x ≡ true → keep x ≡ false) → find test (filter keep xs) ≡ None
find_gone test keep [] gone = refl
find_gone test keep (x ∷ xs) gone = by (find_gone test keep xs gone) (keep x) refl (test x) refl
  where
    by : find test (filter keep xs) ≡ None → (b : Bool) → keep x ≡ b → (c : Bool) → test x ≡ c → find test (cond b (x ∷ filter keep xs) (filter keep xs)) ≡ None
    by rest false k c is = rest
    by rest true k true is = absurd (clash (sym k ∙ gone x is))
    by rest true k false is = ap (λ (b : Bool). cond b (Some x) (find test (filter keep xs))) is ∙ rest

-- one that passes is one
pub some_passes : {X : Type 0} (test : X → Bool) (xs : List X) → list_any test xs ≡ true → 0 < length xs
some_passes test [] e = absurd cc
some_passes test (x ∷ xs) e = omega arith

module _ {X : Type 0} (name_of : X → List ℕ) where
  -- ---- found by name

  -- one is found by a name in lower case exactly if one has the name
  pub is_found : (name : List ℕ) → IsUtf8 (lower_bytes name) → (xs : List X) → is_some (named_so name_of xs (lower_bytes name)) ≡ list_any (same_name name) (map name_of xs)
  is_found name u [] = refl
  is_found name u (x ∷ xs) =
      subst (λ (b : Bool). is_some (cond b (Some x) (named_so name_of xs (lower_bytes name))) ≡ (same_name name (name_of x) || list_any (same_name name) (map name_of xs)))
      (agree (same_name name (name_of x)) (same_name (name_of x) name) (turned name (name_of x)) (turned (name_of x) name) ∙ sym (bytes_are (name_of x) name u))
      (pick (same_name name (name_of x)) (λ b. is_some (cond b (Some x) (named_so name_of xs (lower_bytes name))) ≡ (b || list_any (same_name name) (map name_of xs)))
      (λ _. refl)
      (λ _. is_found name u xs))

  -- it is the same whether the name is first or second
  pub any_turned : (name : List ℕ) (xs : List X) → list_any (λ x. same_name (name_of x) name) xs ≡ list_any (same_name name) (map name_of xs)
  any_turned name [] = refl
  any_turned name (x ∷ xs) = rw (agree (same_name (name_of x) name) (same_name name (name_of x)) (turned (name_of x) name) (turned name (name_of x)), any_turned name xs) refl

  -- ---- without the one with a name

  abbrev pub without : (name : List ℕ) → List X → List X
  without name xs = filter (λ x. not (same_name (name_of x) name)) xs

  -- it isn't found any more
  pub is_gone : (name : List ℕ) → IsUtf8 (lower_bytes name) → (xs : List X) → named_so name_of (without name xs) (lower_bytes name) ≡ None
  is_gone name u xs =
      find_gone (λ x. bytes_eq (lower_bytes (name_of x)) (lower_bytes name)) (λ x. not (same_name (name_of x) name)) xs
      (λ x is. ap not (sym (bytes_are (name_of x) name u) ∙ is))

  -- all others are
  pub stays : (name key : List ℕ) → bytes_eq key (lower_bytes name) ≡ false → (xs : List X) → named_so name_of (without name xs) key ≡ named_so name_of xs key
  stays name key apart xs =
      find_kept (λ x. bytes_eq (lower_bytes (name_of x)) key) (λ x. not (same_name (name_of x) name)) xs (λ x is. other (name_of x) is (same_name (name_of x) name) refl)
    where
      other : (a : List ℕ) → bytes_eq (lower_bytes a) key ≡ true → (b : Bool) → same_name a name ≡ b → not b ≡ true
      other a is false e = refl
      other a is true e =
          absurd (clash (sym ((bytes_eq-Decides key (lower_bytes name)).1 (sym ((bytes_eq-Decides (lower_bytes a) key).0 is) ∙ ap encode_utf8_all (same_lower a name e))) ∙ apart))

  -- ---- how many are left

  abbrev by_name : List X → List (List ℕ × X)
  by_name xs = map (λ (x : X). (name_of x, x)) xs

  -- those behind the one with the name have others
  all_stay : (first name : List ℕ) (xs : List X) → lower first ≡ lower name → T (below_all name_cmp first (by_name xs)) → length (without name xs) ≡ length xs
  all_stay first name [] same h = refl
  all_stay first name (x ∷ xs) same h =
      let less = t_true (is_lt (name_cmp first (name_of x))) (t_first (is_lt (name_cmp first (name_of x))) (below_all name_cmp first (by_name xs)) h) in
      let rest = all_stay first name xs same (t_second (is_lt (name_cmp first (name_of x))) (below_all name_cmp first (by_name xs)) h) in
      pick (same_name (name_of x) name) (λ b. same_name (name_of x) name ≡ b → length (cond (not b) (x ∷ without name xs) (without name xs)) ≡ length (x ∷ xs))
      (λ _ is. absurd (not_less first (name_of x) (same ∙ sym (same_lower (name_of x) name is)) less))
      (λ _ _. omega (arith, rest))
      refl

  -- one less, if one has the name
  pub one_less : (name : List ℕ) (xs : List X) → T (is_sorted name_cmp (by_name xs)) → list_any (λ x. same_name (name_of x) name) xs ≡ true → length (without name xs) + 1 ≡ length xs
  one_less name [] sorted e = absurd cc
  one_less name (x ∷ xs) sorted e =
      let below = t_first (below_all name_cmp (name_of x) (by_name xs)) (is_sorted name_cmp (by_name xs)) sorted in
      let rise = t_second (below_all name_cmp (name_of x) (by_name xs)) (is_sorted name_cmp (by_name xs)) sorted in
      pick (same_name (name_of x) name) (λ b. same_name (name_of x) name ≡ b → length (cond (not b) (x ∷ without name xs) (without name xs)) + 1 ≡ length (x ∷ xs))
      (λ _ is. let all = all_stay (name_of x) name xs (same_lower (name_of x) name is) below in omega (arith, all))
      (λ _ apart. let less = one_less name xs rise (sym (ap (λ (b : Bool). b || list_any (λ y. same_name (name_of y) name) xs) apart) ∙ e) in omega (arith, less))
      refl
