-- Lists of things that are each sound, that have ids, and that stand in order: what stays where one is added, changed or taken away.
use Rattle.std.proofs.Common.{◌≡◌, ℕ, ◌+◌, ◌≤◌, Bool, true, false, ◌||◌, cond, List, [], ◌∷◌, ◌++◌, map, length, filter, Some, None, is_some, refl, ap, sym, subst, ◌∙◌, arith, ◌⊎◌, inl, inr, bytes_eq, is_lt, Ordering}
use Rattle.std.specs.List.{AllByRecursion, list_all, list_any}
use Rattle.std.proofs.lemmas.Bool.{and_from as both, or_left, or_right, or_cases}
use Rattle.base_lemmas.proofs.Bools.{and_first as both_left, and_second as both_right, by_answer as pick}
use Rattle.base_lemmas.proofs.Texts.{bytes_eq-self as same_itself, same_from_bytes_eq as same_exact}
use Rattle.model.specs.Membership.{Has}
use Rattle.model.specs.Ordered.{put_in}
use Rattle.model.specs.Rules.{MemberRules, Rule, first_refusal, in_body_order, refuse_if, rule_of}
use Rattle.model.specs.World.{having_id}
use Rattle.model.specs.declared.refusal.Refusal.{Refusal}

-- ---- rules that don't refuse
pub none_refuses : (rules : List Rule) → first_refusal rules ≡ None → AllByRecursion (λ r. r ≡ None) rules
none_refuses [] e = tt
none_refuses (None ∷ rules) e = (refl, none_refuses rules e)
none_refuses (Some x ∷ rules) e = absurd cc

pub unrefused : (b : Bool) (r : Refusal) → refuse_if b r ≡ None → b ≡ false
unrefused true r e = absurd cc
unrefused false r e = refl

-- ---- all of a list
module _ {A B : Type 0} where
  pub all_map : (f : A → B) (P : A → Type 0) (Q : B → Type 0) → ((x : A) → P x → Q (f x)) → (xs : List A) → AllByRecursion P xs → AllByRecursion Q (map f xs)
  all_map f P Q h [] a = tt
  all_map f P Q h (x ∷ xs) a = (h x a.0, all_map f P Q h xs a.1)

module _ {A : Type 0} where
  pub all_put : (P : A → Type 0) (order : A → A → Ordering) (x : A) (xs : List A) → AllByRecursion P xs → P x → AllByRecursion P (put_in order x xs)
  all_put P order x [] a p = (p, tt)
  all_put P order x (y ∷ xs) a p =
      pick (is_lt (order x y)) (λ b. AllByRecursion P (cond b (x ∷ y ∷ xs) (y ∷ put_in order x xs))) (λ _. (p, a)) (λ _. (a.0, all_put P order x xs a.1 p))

  pub all_at : (P : A → Type 0) (x : A) (xs : List A) → AllByRecursion P xs → Has xs x → P x
  all_at P x [] a m = absurd m
  all_at P x (y ∷ xs) a (inl e) = subst P (sym e) a.0
  all_at P x (y ∷ xs) a (inr m) = all_at P x xs a.1 m

  pub all_from : (P : A → Type 0) (xs : List A) → ((x : A) → Has xs x → P x) → AllByRecursion P xs
  all_from P [] h = tt
  all_from P (x ∷ xs) h = (h x (inl refl), all_from P xs (λ y m. h y (inr m)))

  pub list_all_more : (f g : A → Bool) → ((x : A) → f x ≡ true → g x ≡ true) → (xs : List A) → list_all f xs ≡ true → list_all g xs ≡ true
  list_all_more f g h [] e = refl
  list_all_more f g h (x ∷ xs) e = both (g x) (list_all g xs) (h x (both_left (f x) (list_all f xs) e)) (list_all_more f g h xs (both_right (f x) (list_all f xs) e))

  -- ---- how many
  pub length_put : (order : A → A → Ordering) (x : A) (xs : List A) → length (put_in order x xs) ≡ length xs + 1
  length_put order x [] = refl
  length_put order x (y ∷ xs) =
      let h = length_put order x xs in
      pick (is_lt (order x y)) (λ b. length (cond b (x ∷ y ∷ xs) (y ∷ put_in order x xs)) ≡ length (y ∷ xs) + 1) (λ _. omega arith) (λ _. omega arith)

  -- ---- who is among them
  pub among_last : (xs : List A) (x y : A) → Has (xs ++ x ∷ []) y → Has xs y ⊎ (y ≡ x)
  among_last [] x y (inl e) = inr e
  among_last [] x y (inr m) = absurd m
  among_last (z ∷ xs) x y (inl e) = inl (inl e)
  among_last (z ∷ xs) x y (inr m) = elim (among_last xs x y m) [ inl a ↦ inl (inr a) | inr e ↦ inr e ]

  pub among_kept : (p : A → Bool) (xs : List A) (y : A) → Has (filter p xs) y → Has xs y × (p y ≡ true)
  among_kept p [] y m = absurd m
  among_kept p (x ∷ xs) y m = by (p x) refl m (among_kept p xs y)
    where
      by : (b : Bool) → p x ≡ b → Has (cond b (x ∷ filter p xs) (filter p xs)) y → (Has (filter p xs) y → Has xs y × (p y ≡ true)) → Has (x ∷ xs) y × (p y ≡ true)
      by true t (inl e) more = (inl e, ap p e ∙ t)
      by true t (inr a) more = (inr (more a).0, (more a).1)
      by false t a more = (inr (more a).0, (more a).1)

  pub kept_among : (p : A → Bool) (xs : List A) (y : A) → Has xs y → p y ≡ true → Has (filter p xs) y
  kept_among p [] y m t = absurd m
  kept_among p (x ∷ xs) y (inl e) t = let u : p x ≡ true = ap p (sym e) ∙ t in rw u (inl e)
  kept_among p (x ∷ xs) y (inr a) t = let h = kept_among p xs y a t in pick (p x) (λ b. Has (cond b (x ∷ filter p xs) (filter p xs)) y) (λ _. inr h) (λ _. h)

  pub among_put : (order : A → A → Ordering) (x : A) (xs : List A) (y : A) → Has (put_in order x xs) y → Has xs y ⊎ (y ≡ x)
  among_put order x [] y (inl e) = inr e
  among_put order x [] y (inr m) = absurd m
  among_put order x (z ∷ xs) y m = by (is_lt (order x z)) m (among_put order x xs y)
    where
      by : (b : Bool) → Has (cond b (x ∷ z ∷ xs) (z ∷ put_in order x xs)) y → (Has (put_in order x xs) y → Has xs y ⊎ (y ≡ x)) → Has (z ∷ xs) y ⊎ (y ≡ x)
      by true (inl e) more = inr e
      by true (inr a) more = inl a
      by false (inl e) more = inl (inl e)
      by false (inr a) more = elim (more a) [ inl b ↦ inl (inr b) | inr e ↦ inr e ]

  -- ---- what an id names
  module _ (id : A → List ℕ) where
    abbrev pub has : List A → List ℕ → Bool
    has xs i = is_some (having_id id xs i)

    has_step : (x : A) (xs : List A) (i : List ℕ) → has (x ∷ xs) i ≡ true → (i ≡ id x) ⊎ (has xs i ≡ true)
    has_step x xs i h = by (bytes_eq i (id x)) refl h
      where
        by : (b : Bool) → bytes_eq i (id x) ≡ b → is_some (cond b (Some x) (having_id id xs i)) ≡ true → (i ≡ id x) ⊎ (has xs i ≡ true)
        by true t g = inl (same_exact i (id x) t)
        by false t g = inr g

    has_first : (x : A) (xs : List A) (i : List ℕ) → i ≡ id x → has (x ∷ xs) i ≡ true
    has_first x xs i e = let t : bytes_eq i (id x) ≡ true = ap (bytes_eq i) (sym e) ∙ same_itself i in rw t refl

    has_rest : (x : A) (xs : List A) (i : List ℕ) → has xs i ≡ true → has (x ∷ xs) i ≡ true
    has_rest x xs i h = pick (bytes_eq i (id x)) (λ b. is_some (cond b (Some x) (having_id id xs i)) ≡ true) (λ _. refl) (λ _. h)

    pub has_among : (xs : List A) (i : List ℕ) → has xs i ≡ true → (x : A) × Has xs x × (i ≡ id x)
    has_among [] i h = absurd cc
    has_among (x ∷ xs) i h = elim (has_step x xs i h) [ inl e ↦ (x, inl refl, e) | inr g ↦ let r = has_among xs i g in (r.0, inr r.1, r.2) ]

    pub among_has : (xs : List A) (x : A) → Has xs x → has xs (id x) ≡ true
    among_has [] x m = absurd m
    among_has (y ∷ xs) x (inl e) = has_first y xs (id x) (ap id e)
    among_has (y ∷ xs) x (inr m) = has_rest y xs (id x) (among_has xs x m)

    pub has_all : (P : A → Type 0) (Q : List ℕ → Type 0) → ((x : A) → P x → Q (id x)) → (xs : List A) → AllByRecursion P xs → (i : List ℕ) → has xs i ≡ true → Q i
    has_all P Q f xs a i h = let r = has_among xs i h in subst Q (sym r.2) (f r.0 (all_at P r.0 xs a r.1))

    pub has_last : (xs : List A) (x : A) (i : List ℕ) → has (xs ++ x ∷ []) i ≡ true → (has xs i ≡ true) ⊎ (i ≡ id x)
    has_last xs x i h =
        let r = has_among (xs ++ x ∷ []) i h in
        elim (among_last xs x r.0 r.1) [ inl m ↦ inl (subst (λ (j : List ℕ). has xs j ≡ true) (sym r.2) (among_has xs r.0 m)) | inr e ↦ inr (r.2 ∙ ap id e) ]

    pub last_has : (xs : List A) (x : A) (i : List ℕ) → has xs i ≡ true → has (xs ++ x ∷ []) i ≡ true
    last_has [] x i h = absurd cc
    last_has (y ∷ xs) x i h = elim (has_step y xs i h) [ inl e ↦ has_first y (xs ++ x ∷ []) i e | inr g ↦ has_rest y (xs ++ x ∷ []) i (last_has xs x i g) ]

    pub has_kept : (p : A → Bool) (xs : List A) (i : List ℕ) → has (filter p xs) i ≡ true → has xs i ≡ true
    has_kept p xs i h =
        let r = has_among (filter p xs) i h in
        subst (λ (j : List ℕ). has xs j ≡ true) (sym r.2) (among_has xs r.0 (among_kept p xs r.0 r.1).0)

    pub has_put : (order : A → A → Ordering) (x : A) (xs : List A) (i : List ℕ) → has (put_in order x xs) i ≡ true → (has xs i ≡ true) ⊎ (i ≡ id x)
    has_put order x xs i h =
        let r = has_among (put_in order x xs) i h in
        elim (among_put order x xs r.0 r.1) [ inl m ↦ inl (subst (λ (j : List ℕ). has xs j ≡ true) (sym r.2) (among_has xs r.0 m)) | inr e ↦ inr (r.2 ∙ ap id e) ]

    pub has_same : (f : A → A) → ((x : A) → id (f x) ≡ id x) → (xs : List A) (i : List ℕ) → has (map f xs) i ≡ has xs i
    has_same f same [] i = refl
    has_same f same (x ∷ xs) i =
        let e : bytes_eq i (id (f x)) ≡ bytes_eq i (id x) = ap (bytes_eq i) (same x) in
        rw e (pick (bytes_eq i (id x)) (λ b. is_some (cond b (Some (f x)) (having_id id (map f xs) i)) ≡ is_some (cond b (Some x) (having_id id xs i))) (λ _. refl) (λ _. has_same f same xs i))

-- ---- one of a list
pub any_among : {A : Type 0} (f : A → Bool) (x : A) (xs : List A) → Has xs x → f x ≡ true → list_any f xs ≡ true
any_among f x [] a h = absurd a
any_among f x (y ∷ xs) (inl e) h = or_left (f y) (list_any f xs) (ap f (sym e) ∙ h)
any_among f x (y ∷ xs) (inr a) h = or_right (f y) (list_any f xs) (any_among f x xs a h)

pub among_any : {A : Type 0} (f : A → Bool) (xs : List A) → list_any f xs ≡ true → (x : A) × Has xs x × (f x ≡ true)
among_any f [] e = absurd cc
among_any f (x ∷ xs) e = elim (or_cases (f x) (list_any f xs) e) [ inl h ↦ (x, inl refl, h) | inr h ↦ let r = among_any f xs h in (r.0, inr r.1, r.2) ]

-- ---- tests of all
module _ {A : Type 0} where
  pub list_all_put : (f : A → Bool) (order : A → A → Ordering) (x : A) (xs : List A) → list_all f xs ≡ true → f x ≡ true → list_all f (put_in order x xs) ≡ true
  list_all_put f order x [] e h = both (f x) true h refl
  list_all_put f order x (y ∷ xs) e h =
      let more = list_all_put f order x xs (both_right (f y) (list_all f xs) e) h in
      pick (is_lt (order x y)) (λ b. list_all f (cond b (x ∷ y ∷ xs) (y ∷ put_in order x xs)) ≡ true)
      (λ _. both (f x) (list_all f (y ∷ xs)) h e)
      (λ _. both (f y) (list_all f (put_in order x xs)) (both_left (f y) (list_all f xs) e) more)

  pub list_all_kept : (f p : A → Bool) (xs : List A) → list_all f xs ≡ true → list_all f (filter p xs) ≡ true
  list_all_kept f p [] e = refl
  list_all_kept f p (x ∷ xs) e =
      let more = list_all_kept f p xs (both_right (f x) (list_all f xs) e) in
      pick (p x) (λ b. list_all f (cond b (x ∷ filter p xs) (filter p xs)) ≡ true) (λ _. both (f x) (list_all f (filter p xs)) (both_left (f x) (list_all f xs) e) more) (λ _. more)

  pub list_all_at : (f : A → Bool) (x : A) (xs : List A) → list_all f xs ≡ true → Has xs x → f x ≡ true
  list_all_at f x [] e m = absurd m
  list_all_at f x (y ∷ xs) e (inl i) = ap f i ∙ both_left (f y) (list_all f xs) e
  list_all_at f x (y ∷ xs) e (inr m) = list_all_at f x xs (both_right (f y) (list_all f xs) e) m

  pub list_all_from : (f : A → Bool) (xs : List A) → ((x : A) → Has xs x → f x ≡ true) → list_all f xs ≡ true
  list_all_from f [] h = refl
  list_all_from f (x ∷ xs) h = both (f x) (list_all f xs) (h x (inl refl)) (list_all_from f xs (λ y m. h y (inr m)))

  -- none is so
  pub none_so : (f : A → Bool) (xs : List A) → list_any f xs ≡ false → AllByRecursion (λ x. f x ≡ false) xs
  none_so f [] e = tt
  none_so f (x ∷ xs) e = by (f x) refl e (none_so f xs)
    where
      by : (b : Bool) → f x ≡ b → (b || list_any f xs) ≡ false → (list_any f xs ≡ false → AllByRecursion (λ x. f x ≡ false) xs) → (f x ≡ false) × AllByRecursion (λ x. f x ≡ false) xs
      by true t e more = absurd cc
      by false t e more = (t, more e)

  -- one that isn't counted changes no count
  pub count_put_out : (p : A → Bool) (order : A → A → Ordering) (x : A) (xs : List A) → p x ≡ false → filter p (put_in order x xs) ≡ filter p xs
  count_put_out p order x [] e = rw e refl
  count_put_out p order x (y ∷ xs) e =
      let more = count_put_out p order x xs e in
      pick (is_lt (order x y)) (λ b. filter p (cond b (x ∷ y ∷ xs) (y ∷ put_in order x xs)) ≡ filter p (y ∷ xs)) (λ _. rw e refl) (λ _. rw more refl)

  pub length_kept_twice : (p q : A → Bool) (xs : List A) → length (filter p (filter q xs)) ≤ length (filter p xs)
  length_kept_twice p q [] = omega arith
  length_kept_twice p q (x ∷ xs) =
      let h = length_kept_twice p q xs in
      pick (q x) (λ b. length (filter p (cond b (x ∷ filter q xs) (filter q xs))) ≤ length (filter p (x ∷ xs)))
      (λ _. pick (p x) (λ b. length (cond b (x ∷ filter p (filter q xs)) (filter p (filter q xs))) ≤ length (cond b (x ∷ filter p xs) (filter p xs))) (λ _. omega arith) (λ _. omega arith))
      (λ _. pick (p x) (λ b. length (filter p (filter q xs)) ≤ length (cond b (x ∷ filter p xs) (filter p xs))) (λ _. omega arith) (λ _. omega arith))

-- ---- the rule of a member that the body has
pub member_rule : (rules : MemberRules) (members : List (List ℕ)) (name : List ℕ) → in_body_order members rules ≡ None → list_any (bytes_eq name) members ≡ true → rule_of rules name ≡ None
member_rule rules [] name e h = absurd cc
member_rule rules (m ∷ members) name e h =
    by (rule_of rules m) refl (bytes_eq name m) refl e h (member_rule rules members name)
  where
    by : (r : Rule) → rule_of rules m ≡ r → (b : Bool) → bytes_eq name m ≡ b → first_refusal (r ∷ map (rule_of rules) members) ≡ None → (b || list_any (bytes_eq name) members) ≡ true
        → (in_body_order members rules ≡ None → list_any (bytes_eq name) members ≡ true → rule_of rules name ≡ None) → rule_of rules name ≡ None
    by (Some x) w b t e h more = absurd cc
    by None w true t e h more = ap (rule_of rules) (same_exact name m t) ∙ w
    by None w false t e h more = more e h

-- ---- one put in its place
module _ {A : Type 0} (order : A → A → Ordering) (x : A) where
  pub put_old : (xs : List A) (y : A) → Has xs y → Has (put_in order x xs) y
  put_old [] y m = absurd m
  put_old (z ∷ xs) y (inl e) = pick (is_lt (order x z)) (λ b. Has (cond b (x ∷ z ∷ xs) (z ∷ put_in order x xs)) y) (λ _. inr (inl e)) (λ _. inl e)
  put_old (z ∷ xs) y (inr m) = let h = put_old xs y m in pick (is_lt (order x z)) (λ b. Has (cond b (x ∷ z ∷ xs) (z ∷ put_in order x xs)) y) (λ _. inr (inr m)) (λ _. inr h)

  pub put_new : (xs : List A) → Has (put_in order x xs) x
  put_new [] = inl refl
  put_new (z ∷ xs) = let h = put_new xs in pick (is_lt (order x z)) (λ b. Has (cond b (x ∷ z ∷ xs) (z ∷ put_in order x xs)) x) (λ _. inl refl) (λ _. inr h)

  pub put_has : (id : A → List ℕ) (xs : List A) (i : List ℕ) → is_some (having_id id xs i) ≡ true → is_some (having_id id (put_in order x xs) i) ≡ true
  put_has id xs i h = let r = has_among id xs i h in subst (λ (j : List ℕ). is_some (having_id id (put_in order x xs) j) ≡ true) (sym r.2) (among_has id (put_in order x xs) r.0 (put_old xs r.0 r.1))

  pub put_has_new : (id : A → List ℕ) (xs : List A) → is_some (having_id id (put_in order x xs) (id x)) ≡ true
  put_has_new id xs = among_has id (put_in order x xs) x (put_new xs)

  pub count_put : (p : A → Bool) (xs : List A) → length (filter p (put_in order x xs)) ≤ length (filter p xs) + 1
  count_put p [] = pick (p x) (λ b. length (cond b (x ∷ []) []) ≤ 0 + 1) (λ _. omega arith) (λ _. omega arith)
  count_put p (y ∷ xs) =
      let h = count_put p xs in
      pick (is_lt (order x y)) (λ b. length (filter p (cond b (x ∷ y ∷ xs) (y ∷ put_in order x xs))) ≤ length (filter p (y ∷ xs)) + 1)
      (λ _. pick (p x) (λ b. length (cond b (x ∷ filter p (y ∷ xs)) (filter p (y ∷ xs))) ≤ length (filter p (y ∷ xs)) + 1) (λ _. omega arith) (λ _. omega arith))
      (λ _. pick (p y) (λ b. length (cond b (y ∷ filter p (put_in order x xs)) (filter p (put_in order x xs))) ≤ length (cond b (y ∷ filter p xs) (filter p xs)) + 1) (λ _. omega arith) (λ _. omega arith))

-- ---- each changed, with its id
pub among_map : {A B : Type 0} (f : A → B) (xs : List A) (y : B) → Has (map f xs) y → (x : A) × Has xs x × (y ≡ f x)
among_map f [] y m = absurd m
among_map f (x ∷ xs) y (inl e) = (x, inl refl, e)
among_map f (x ∷ xs) y (inr m) = let r = among_map f xs y m in (r.0, inr r.1, r.2)

pub count_same : {A : Type 0} (p : A → Bool) (f : A → A) → ((x : A) → p (f x) ≡ p x) → (xs : List A) → length (filter p (map f xs)) ≡ length (filter p xs)
count_same p f same [] = refl
count_same p f same (x ∷ xs) =
    let h = count_same p f same xs in
    rw same (pick (p x) (λ b. length (cond b (f x ∷ filter p (map f xs)) (filter p (map f xs))) ≡ length (cond b (x ∷ filter p xs) (filter p xs))) (λ _. omega (arith, h)) (λ _. h))
