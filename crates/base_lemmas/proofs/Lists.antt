-- Lists: parts, places, each element, a change to each.
use Rattle.std.proofs.Common.{◌≡◌, suc, List, [], ◌∷◌, length, map, refl, ap, ◌∙◌, ℕ, ◌+◌, ◌<◌, drop, get_or, sym, true, Bool, cond, ◌++◌, find, Some, None, zero, arith, take, append-nil, add-one, take-suc, ◌||◌, filter, ◌*◌, ◌≤◌, length-append, subst, ◌^◌}
use Rattle.std.proofs.lemmas.List.{at_drop_more}
use Rattle.std.specs.Cmp.Lexicographic.{slice_cmp, texts_ties, bytes_decides}
use Rattle.std.specs.Ordering.{is_eq, nat_cmp}
use Rattle.std.proofs.lemmas.Cmp.{nat_list_cmp_total, tied_itself}
use Rattle.base_lemmas.proofs.Bools.{by_answer}
use Rattle.std.specs.Prelude.{slice_get, encode_utf8_all}
use Rattle.std.specs.List.{position_or_len, list_any, AllByRecursion, enumerate_from, range_with_len}
use Rattle.std.specs.Str.{NonePass}
use Rattle.std.specs.Char.{encode_utf8}
use Rattle.std.proofs.lemmas.Str.{encodes-append, length-encode, len_utf8_bounds}
use Rattle.std.proofs.lemmas.Slice.Eq.{bytes_eq-Decides}
use Rattle.std.specs.declared.cmp.Ordering.TheVariants.{Equal}
use Rattle.std.proofs.lemmas.Option.{same_Some, slice_get_read}
use Rattle.std.specs.Int.{w64, to_be_bytes}

pub length-map_by : {X Y : Type 0} (f : X → Y) (xs : List X) → length (map f xs) ≡ length xs
length-map_by f [] = refl
length-map_by f (x ∷ xs) = ap suc (length-map_by f xs)

pub drop-cons_read : {X : Type 0} (xs : List X) (n : ℕ) (x : X) → n < length xs → x ≡ get_or xs n x → drop n xs ≡ x ∷ drop (n + 1) xs
drop-cons_read {X = X} xs n x lt is = at_drop_more (λ (ys : List X). ys) xs n x lt ∙ ap (λ (y : X). y ∷ drop (n + 1) xs) (sym is)

pub is_eq-slice_cmp_self : (a : List ℕ) → is_eq (slice_cmp nat_cmp a a) ≡ true
is_eq-slice_cmp_self a = ap is_eq (tied_itself nat_list_cmp_total a)

pub find-append_later : {A : Type 0} (p : A → Bool) (xs ys : List A) → find p xs ≡ None → find p (xs ++ ys) ≡ find p ys
find-append_later p [] ys e = refl
find-append_later p (z ∷ xs) ys e =
    by_answer (p z) (λ b. cond b (Some z) (find p xs) ≡ None → cond b (Some z) (find p (xs ++ ys)) ≡ find p ys) (λ _ e. absurd cc) (λ _ e. find-append_later p xs ys e) e

pub find-append_sooner : {X : Type 0} (p : X → Bool) (xs ys : List X) → find p ys ≡ None → find p (xs ++ ys) ≡ find p xs
find-append_sooner p [] ys e = e
find-append_sooner p (x ∷ xs) ys e = ap (λ o. cond (p x) (Some x) o) (find-append_sooner p xs ys e)

pub slice_get_not_none : {X : Type 0} (xs : List X) (i : ℕ) → i < length xs → slice_get xs i ≡ None → ⊥
slice_get_not_none [] i h e = omega (arith, h)
slice_get_not_none (x ∷ xs) zero h e = absurd cc
slice_get_not_none (x ∷ xs) (suc i) h e = slice_get_not_none xs i (omega (arith, h)) e

pub position_or_len-append : (p : ℕ → Bool) (xs : List ℕ) (y : ℕ) (ys : List ℕ) → NonePass p xs → p y ≡ true → position_or_len p (xs ++ y ∷ ys) ≡ length xs
position_or_len-append p [] y ys none t = rw t refl
position_or_len-append p (x ∷ xs) y ys none t = let e = position_or_len-append p xs y ys none.1 t in rw none.0 (omega arith)

pub encodes-push : (bytes cs : List ℕ) (n c : ℕ) → bytes ≡ encode_utf8_all (take n cs) → n < length cs → get_or cs n c ≡ c
    → bytes ++ encode_utf8 c ≡ encode_utf8_all (take (n + 1) cs)
encodes-push bytes cs n c same lt e =
    let last : encode_utf8_all (c ∷ []) ≡ encode_utf8 c = append-nil (encode_utf8 c) in
    rw (same, add-one, take-suc cs n c lt, e, encodes-append (take n cs) (c ∷ []), last) refl

pub same_from_slice_cmp : (a b : List ℕ) → is_eq (slice_cmp nat_cmp a b) ≡ true → a ≡ b
same_from_slice_cmp a b e = (bytes_eq-Decides a b).0 (texts_ties a b ∙ e)

pub same_from_slice_cmp_equal : (xs ys : List ℕ) → slice_cmp nat_cmp xs ys ≡ Equal → xs ≡ ys
same_from_slice_cmp_equal xs ys e = (bytes_decides xs ys).0 (texts_ties xs ys ∙ ap is_eq e)

pub list_any-same : {A : Type 0} (f g : A → Bool) → ((x : A) → f x ≡ g x) → (xs : List A) → list_any f xs ≡ list_any g xs
list_any-same f g same [] = refl
list_any-same f g same (x ∷ xs) = ap (λ b. b || list_any f xs) (same x) ∙ ap (λ b. g x || b) (list_any-same f g same xs)

pub each_weaker : {A : Type 0} → (P Q : A → Type 0) → ((x : A) → P x → Q x) → (xs : List A) → AllByRecursion P xs → AllByRecursion Q xs
each_weaker P Q h [] a = tt
each_weaker P Q h (x ∷ xs) a = (h x a.0, each_weaker P Q h xs a.1)

pub each-filter : {A : Type 0} → (P : A → Type 0) (p : A → Bool) (xs : List A) → AllByRecursion P xs → AllByRecursion P (filter p xs)
each-filter P p [] a = tt
each-filter P p (x ∷ xs) a = by_answer (p x) (λ b. AllByRecursion P (cond b (x ∷ filter p xs) (filter p xs))) (λ _. (a.0, each-filter P p xs a.1)) (λ _. each-filter P p xs a.1)

pub length-encodes : (cs : List ℕ) → length (encode_utf8_all cs) ≤ 4 * length cs
length-encodes [] = omega arith
length-encodes (c ∷ cs) = omega (arith, length-encodes cs, length-append (encode_utf8 c) (encode_utf8_all cs), length-encode c, (len_utf8_bounds c).1)

pub slice_get_below : {X : Type 0} (xs : List X) (i : ℕ) → i < length xs → (x : X) × (slice_get xs i ≡ Some x)
slice_get_below [] i h = absurd (omega (arith, h))
slice_get_below (x ∷ xs) zero h = (x, refl)
slice_get_below (x ∷ xs) (suc i) h = slice_get_below xs i (omega (arith, h))

pub each-push : {X : Type 0} (P : X → Type 0) (xs : List X) (x : X) → AllByRecursion P xs → P x → AllByRecursion P (xs ++ x ∷ [])
each-push P [] x h p = (p, tt)
each-push P (y ∷ xs) x h p = (h.0, each-push P xs x h.1 p)

pub length-filter_most : {A : Type 0} → (p : A → Bool) (xs : List A) → length (filter p xs) ≤ length xs
length-filter_most p [] = omega arith
length-filter_most p (x ∷ xs) =
    let h = length-filter_most p xs in
    by_answer (p x) (λ b. length (cond b (x ∷ filter p xs) (filter p xs)) ≤ length (x ∷ xs)) (λ _. omega arith) (λ _. omega arith)

pub same_head : {X : Type 0} (x y : X) (xs ys : List X) → x ∷ xs ≡ y ∷ ys → x ≡ y
same_head x y xs ys e = cc

pub same_tail : {X : Type 0} (x y : X) (xs ys : List X) → x ∷ xs ≡ y ∷ ys → xs ≡ ys
same_tail x y xs ys e = cc

pub nil_not_cons : {X : Type 0} (x : X) (xs : List X) → ◌≡◌ {A = List X} [] (x ∷ xs) → ⊥
nil_not_cons x xs e = cc

pub nil_from_no_length : {X : Type 0} (xs : List X) → length xs ≤ 0 → xs ≡ []
nil_from_no_length [] h = refl
nil_from_no_length (x ∷ xs) h = absurd (omega (arith, h))

pub length-take_most : {X : Type 0} (n : ℕ) (xs : List X) → length (take n xs) ≤ n
length-take_most zero xs = omega arith
length-take_most (suc n) [] = omega arith
length-take_most (suc n) (x ∷ xs) = omega (arith, length-take_most n xs)

pub each_at_number : {X Y : Type 0} (P : Y → Type 0) (h : ℕ × X → Y) (xs : List X) (k i n : ℕ) (x : X) → k + i ≡ n → slice_get xs i ≡ Some x → AllByRecursion P (map h (enumerate_from k xs)) → P (h (n, x))
each_at_number P h [] k i n x e at all = absurd cc
each_at_number {X = X} P h (y ∷ xs) k zero n x e at all =
    let same : k ≡ n = omega (arith, e) in
    let is : y ≡ x = same_Some y x at in
    subst (λ (z : ℕ × X). P (h z)) (ap (λ (m : ℕ). (m, y)) same ∙ ap (λ (z : X). (n, z)) is) all.0
each_at_number P h (y ∷ xs) k (suc i) n x e at all = each_at_number P h xs (k + 1) i n x (omega (arith, e)) at all.1

pub slice_get_as_read : {X : Type 0} (xs ys : List X) (i : ℕ) (x : X) → ys ≡ xs → i < length xs → x ≡ get_or ys i x → slice_get xs i ≡ Some x
slice_get_as_read {X = X} xs ys i x same within is = slice_get_read xs (length xs) i x refl within (subst (λ (zs : List X). x ≡ get_or zs i x) same is)

pub each-append : {X : Type 0} (P : X → Type 0) (xs ys : List X) → AllByRecursion P xs → AllByRecursion P ys → AllByRecursion P (xs ++ ys)
each-append P [] ys h k = k
each-append P (x ∷ xs) ys h k = (h.0, each-append P xs ys h.1 k)

pub find-enumerate_from : {X : Type 0} (test : ℕ × X → Bool) (k : ℕ) (xs : List X) (f : ℕ × X) → find test (enumerate_from k xs) ≡ Some f → (i : ℕ) × (k + i ≡ f.0) × (slice_get xs i ≡ Some f.1)
find-enumerate_from test k [] f e = absurd cc
find-enumerate_from {X = X} test k (x ∷ xs) f e =
    by_answer (test (k, x)) (λ b. cond b (Some (k, x)) (find test (enumerate_from (k + 1) xs)) ≡ Some f → (i : ℕ) × (k + i ≡ f.0) × (slice_get (x ∷ xs) i ≡ Some f.1))
    (λ _ here. let same : ◌≡◌ {A = ℕ × X} (k, x) f = same_Some (k, x) f here in (0, omega (arith, ap (λ (g : ℕ × X). g.0) same), ap (λ (g : ℕ × X). Some g.1) same))
    (λ _ there. let (i, number, at) = find-enumerate_from test (k + 1) xs f there in (suc i, omega (arith, number), at))
    e

pub map-same : {A B : Type 0} (f g : A → B) → ((x : A) → f x ≡ g x) → (xs : List A) → map f xs ≡ map g xs
map-same f g h [] = refl
map-same f g h (x ∷ xs) = rw (h x, map-same f g h xs) refl

pub map-range_with_len_same : {X : Type 0} (f g : ℕ → X) (a n : ℕ) → ((i : ℕ) → i < a + n → f i ≡ g i) → map f (range_with_len a n) ≡ map g (range_with_len a n)
map-range_with_len_same f g a zero e = refl
map-range_with_len_same f g a (suc n) e = rw (e a (omega arith), map-range_with_len_same f g (a + 1) n (λ i lt. e i (omega (arith, lt)))) refl

pub list_any-map : {X Y : Type 0} (q : Y → Bool) (f : X → Y) (xs : List X) → list_any q (map f xs) ≡ list_any (λ x. q (f x)) xs
list_any-map q f [] = refl
list_any-map q f (x ∷ xs) = ap (λ (b : Bool). q (f x) || b) (list_any-map q f xs)

pub slice_get-length : {X : Type 0} (xs : List X) → slice_get xs (length xs) ≡ None
slice_get-length [] = refl
slice_get-length (x ∷ xs) = slice_get-length xs

pub to_be_bytes-bytes : (n : ℕ) → n < 2 ^ 64 → AllByRecursion (λ d. d < 256) (to_be_bytes w64 n)
to_be_bytes-bytes n h = (omega arith, (omega arith, (omega arith, (omega arith, (omega arith, (omega arith, (omega arith, (omega arith, tt))))))))
