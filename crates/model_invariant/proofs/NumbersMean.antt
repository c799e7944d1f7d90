-- That ids with one number are one id says, of a sound tenant, that all numbers differ; and the other way round.
use Rattle.std.proofs.Common.{◌≡◌, ℕ, true, not, ◌||◌, T, List, [], ◌∷◌, ◌++◌, map, get_or, refl, ap, sym, subst, ◌∙◌, arith, ◌⊎◌, inl, inr, bytes_eq, nat_cmp, Less, Equal}
use Rattle.std.specs.List.{list_any}
use Rattle.std.specs.Cmp.Lexicographic.{slice_cmp}
use Rattle.std.proofs.lemmas.Bool.{or_cases, and_from as both, true≢false as clash, or_left, or_right}
use Rattle.std.proofs.lemmas.Cmp.{nat_list_cmp_total, tied_itself}
use Rattle.base_lemmas.proofs.Bools.{and_first as both_left, and_second as both_right, by_answer as pick}
use Rattle.base_lemmas.proofs.Texts.{same_from_bytes_eq as same_exact, bytes_eq-self as same_itself}
use Rattle.base_value.specs.Digits.{digits}
use Rattle.base_value.specs.Id.{made}
use Rattle.base_value.specs.Texts.{texts_differ}
use Rattle.model.specs.Known.{NumbersDiffer, group_id, known, names_any, number_part, role_id}
use Rattle.model.specs.Membership.{Has}
use Rattle.model.specs.Objects.{object_number, record_prefix}
use Rattle.model.specs.Same.{drawn_ids}
use Rattle.model_invariant.proofs.SoundParts.{HasSoundParts}
use Rattle.model.specs.SoundPeople.{IsSoundGroup, IsSoundRole, IsSoundUser, ids_rise}
use Rattle.model.specs.SoundRecords.{IsSoundRecord, record_id}
use Rattle.model.specs.Tenant.{Tenant}
use Rattle.model.specs.World.{group_prefix, role_prefix, user_id, user_prefix}
use Rattle.model_invariant.proofs.Orders.{rise_first, rise_rest}
use Rattle.model_invariant.proofs.Parts.{all_at, among_has, among_map, has_among}
use Rattle.model_invariant.proofs.DeletesSound.{among_either, among_left, among_right}

-- ---- lists without twins
absent : (x : List ℕ) (xs : List (List ℕ)) → ((y : List ℕ) → Has xs y → x ≡ y → ⊥) → not (list_any (bytes_eq x) xs) ≡ true
absent x [] h = refl
absent x (y ∷ xs) h =
    pick (bytes_eq x y) (λ b. not (b || list_any (bytes_eq x) xs) ≡ true)
    (λ e. absurd (h y (inl refl) (same_exact x y e)))
    (λ _. absent x xs (λ z m. h z (inr m)))

is_listed : (x : List ℕ) (xs : List (List ℕ)) → Has xs x → list_any (bytes_eq x) xs ≡ true
is_listed x [] m = absurd m
is_listed x (y ∷ xs) (inl e) = or_left (bytes_eq x y) (list_any (bytes_eq x) xs) (ap (bytes_eq x) (sym e) ∙ same_itself x)
is_listed x (y ∷ xs) (inr m) = or_right (bytes_eq x y) (list_any (bytes_eq x) xs) (is_listed x xs m)

map_among : {A : Type 0} (f : A → List ℕ) (x : A) (xs : List A) → Has xs x → Has (map f xs) (f x)
map_among f x [] m = absurd m
map_among f x (y ∷ xs) (inl e) = inl (ap f e)
map_among f x (y ∷ xs) (inr m) = inr (map_among f x xs m)

-- in a list whose images differ, one image is of one thing
one_image : (f : List ℕ → List ℕ) (xs : List (List ℕ)) → texts_differ (map f xs) ≡ true → (x y : List ℕ) → Has xs x → Has xs y → f x ≡ f y → x ≡ y
one_image f [] h x y a b e = elim a [ ]
one_image f (z ∷ zs) h x y (inl i) (inl j) e = i ∙ sym j
one_image f (z ∷ zs) h x y (inl i) (inr b) e = absurd (twice (f z) (f y) (sym (ap f i) ∙ e) (map_among f y zs b) (both_left (not (list_any (bytes_eq (f z)) (map f zs))) (texts_differ (map f zs)) h))
  where
    twice : (u v : List ℕ) → u ≡ v → Has (map f zs) v → not (list_any (bytes_eq u) (map f zs)) ≡ true → ⊥
    twice u v e m n = clash (sym n ∙ ap not (is_listed u (map f zs) (subst (λ (w : List ℕ). Has (map f zs) w) (sym e) m)))
one_image f (z ∷ zs) h x y (inr a) (inl j) e = absurd (twice (f z) (f x) (sym (ap f j) ∙ sym e) (map_among f x zs a) (both_left (not (list_any (bytes_eq (f z)) (map f zs))) (texts_differ (map f zs)) h))
  where
    twice : (u v : List ℕ) → u ≡ v → Has (map f zs) v → not (list_any (bytes_eq u) (map f zs)) ≡ true → ⊥
    twice u v e m n = clash (sym n ∙ ap not (is_listed u (map f zs) (subst (λ (w : List ℕ). Has (map f zs) w) (sym e) m)))
one_image f (z ∷ zs) h x y (inr a) (inr b) e = one_image f zs (both_right (not (list_any (bytes_eq (f z)) (map f zs))) (texts_differ (map f zs)) h) x y a b e

-- and the other way round
images_differ : (f : List ℕ → List ℕ) (xs : List (List ℕ)) → texts_differ xs ≡ true → ((x y : List ℕ) → Has xs x → Has xs y → f x ≡ f y → x ≡ y) → texts_differ (map f xs) ≡ true
images_differ f [] h one = refl
images_differ f (x ∷ xs) h one =
    both (not (list_any (bytes_eq (f x)) (map f xs))) (texts_differ (map f xs))
    (absent (f x) (map f xs) (λ z m e.
    let r = among_map f xs z m in
    let same : x ≡ r.0 = one x r.0 (inl refl) (inr r.1) (e ∙ r.2) in
    clash (sym (both_left (not (list_any (bytes_eq x) xs)) (texts_differ xs) h) ∙ ap not (is_listed x xs (subst (λ (w : List ℕ). Has xs w) (sym same) r.1)))))
    (images_differ f xs (both_right (not (list_any (bytes_eq x) xs)) (texts_differ xs) h) (λ y z a b e. one y z (inr a) (inr b) e))

differ_append : (xs ys : List (List ℕ)) → texts_differ xs ≡ true → texts_differ ys ≡ true → ((x y : List ℕ) → Has xs x → Has ys y → x ≡ y → ⊥) → texts_differ (xs ++ ys) ≡ true
differ_append [] ys h g apart = g
differ_append (x ∷ xs) ys h g apart =
    both (not (list_any (bytes_eq x) (xs ++ ys))) (texts_differ (xs ++ ys))
    (absent x (xs ++ ys) (λ z m e. by z e (among_either xs ys z m)))
    (differ_append xs ys (both_right (not (list_any (bytes_eq x) xs)) (texts_differ xs) h) g (λ a b m n e. apart a b (inr m) n e))
  where
    by : (z : List ℕ) → x ≡ z → Has xs z ⊎ Has ys z → ⊥
    by z e (inl a) = clash (sym (both_left (not (list_any (bytes_eq x) xs)) (texts_differ xs) h) ∙ ap not (is_listed x xs (subst (λ (w : List ℕ). Has xs w) (sym e) a)))
    by z e (inr b) = apart x z (inl refl) b e

rising_differ : {A : Type 0} (id : A → List ℕ) (xs : List A) → T (ids_rise id xs) → texts_differ (map id xs) ≡ true
rising_differ id [] h = refl
rising_differ id (x ∷ xs) h =
    both (not (list_any (bytes_eq (id x)) (map id xs))) (texts_differ (map id xs))
    (absent (id x) (map id xs) (λ z m e.
    let r = among_map id xs z m in
    not_both (slice_cmp nat_cmp (id x) (id r.0)) (rise_first (slice_cmp nat_cmp) id x xs h r.0 r.1)
    (ap (slice_cmp nat_cmp (id x)) (sym (e ∙ r.2)) ∙ tied_itself nat_list_cmp_total (id x))))
    (rising_differ id xs (rise_rest (slice_cmp nat_cmp) id x xs h))
  where
    not_both : (o : _) → o ≡ Less → o ≡ Equal → ⊥
    not_both o p q = cc

-- ---- the marks of the kinds: the first and the third character of an id
third : (p : List ℕ) (n : ℕ) (a b c : ℕ) → p ≡ a ∷ b ∷ c ∷ [] → (get_or (made p n) 0 0 ≡ a) × (get_or (made p n) 2 0 ≡ c)
unfolding made
third p n a b c e = rw e (refl, refl)

record_mark : (n m : ℕ) → get_or (made (record_prefix n) m) 0 0 ≡ 97
unfolding made record_prefix digits
record_mark n m = refl

module _ (t : Tenant) (s : HasSoundParts t) where
  user_mark : (i : List ℕ) → Has (map user_id t.users) i → (get_or i 0 0 ≡ 48) × (get_or i 2 0 ≡ 53)
  user_mark i m =
      let r = among_map user_id t.users i m in
      let x = all_at (IsSoundUser (known t)) r.0 t.users s.users.each r.1 in
      subst (λ (z : List ℕ). (get_or z 0 0 ≡ 48) × (get_or z 2 0 ≡ 53)) (sym (r.2 ∙ x.id.2)) (third user_prefix x.id.0 48 48 53 refl)

  role_mark : (i : List ℕ) → Has (map role_id t.roles) i → (get_or i 0 0 ≡ 48) × (get_or i 2 0 ≡ 69)
  role_mark i m =
      let r = among_map role_id t.roles i m in
      let x = all_at (IsSoundRole (known t)) r.0 t.roles s.roles.each r.1 in
      subst (λ (z : List ℕ). (get_or z 0 0 ≡ 48) × (get_or z 2 0 ≡ 69)) (sym (r.2 ∙ x.id.2)) (third role_prefix x.id.0 48 48 69 refl)

  group_mark : (i : List ℕ) → Has (map group_id t.groups) i → (get_or i 0 0 ≡ 48) × (get_or i 2 0 ≡ 71)
  group_mark i m =
      let r = among_map group_id t.groups i m in
      let x = all_at (IsSoundGroup (known t)) r.0 t.groups s.groups.each r.1 in
      subst (λ (z : List ℕ). (get_or z 0 0 ≡ 48) × (get_or z 2 0 ≡ 71)) (sym (r.2 ∙ x.id.2)) (third group_prefix x.id.0 48 48 71 refl)

  item_mark : (i : List ℕ) → Has (map record_id t.records) i → get_or i 0 0 ≡ 97
  item_mark i m =
      let r = among_map record_id t.records i m in
      let x = all_at (IsSoundRecord (known t) t.objects) r.0 t.records s.records.each r.1 in
      ap (λ (z : List ℕ). get_or z 0 0) (r.2 ∙ x.id) ∙ record_mark (object_number r.0.id) x.number

  unlike : (a b x y : ℕ) → a ≡ x → b ≡ y → a ≡ b → (x ≡ y → ⊥) → ⊥
  unlike a b x y p q e f = f (sym p ∙ e ∙ q)

  ids_differ : texts_differ (drawn_ids t) ≡ true
  ids_differ =
      let us = map user_id t.users in
      let rs = map role_id t.roles in
      let gs = map group_id t.groups in
      let is = map record_id t.records in
      differ_append us (rs ++ (gs ++ is)) (rising_differ user_id t.users s.users.rise)
      (differ_append rs (gs ++ is) (rising_differ role_id t.roles s.roles.rise)
      (differ_append gs is (rising_differ group_id t.groups s.groups.rise) (rising_differ record_id t.records s.records.rise)
      (λ x y a b e. unlike (get_or x 0 0) (get_or y 0 0) 48 97 (group_mark x a).0 (item_mark y b) (ap (λ (z : List ℕ). get_or z 0 0) e) (λ q. omega arith)))
      (λ x y a b e. elim (among_either gs is y b) [
        | inl c ↦ unlike (get_or x 2 0) (get_or y 2 0) 69 71 (role_mark x a).1 (group_mark y c).1 (ap (λ (z : List ℕ). get_or z 2 0) e) (λ q. omega arith)
        | inr c ↦ unlike (get_or x 0 0) (get_or y 0 0) 48 97 (role_mark x a).0 (item_mark y c) (ap (λ (z : List ℕ). get_or z 0 0) e) (λ q. omega arith)
      ]))
      (λ x y a b e. elim (among_either rs (gs ++ is) y b) [
        | inl c ↦ unlike (get_or x 2 0) (get_or y 2 0) 53 69 (user_mark x a).1 (role_mark y c).1 (ap (λ (z : List ℕ). get_or z 2 0) e) (λ q. omega arith)
        | inr c ↦ elim (among_either gs is y c) [
          | inl d ↦ unlike (get_or x 2 0) (get_or y 2 0) 53 71 (user_mark x a).1 (group_mark y d).1 (ap (λ (z : List ℕ). get_or z 2 0) e) (λ q. omega arith)
          | inr d ↦ unlike (get_or x 0 0) (get_or y 0 0) 48 97 (user_mark x a).0 (item_mark y d) (ap (λ (z : List ℕ). get_or z 0 0) e) (λ q. omega arith)
        ]
      ])

  -- an id that was drawn names something
  drawn_named : (i : List ℕ) → Has (drawn_ids t) i → names_any (known t) i ≡ true
  drawn_named i m =
      let k = known t in
      let us = map user_id t.users in
      let rs = map role_id t.roles in
      let gs = map group_id t.groups in
      let is = map record_id t.records in
      elim (among_either us (rs ++ (gs ++ is)) i m) [
        | inl a ↦ or_left (k.user i) (k.role i || (k.group i || k.item i)) (let r = among_map user_id t.users i a in subst (λ (z : List ℕ). k.user z ≡ true) (sym r.2) (among_has user_id t.users r.0 r.1))
        | inr a ↦ or_right (k.user i) (k.role i || (k.group i || k.item i)) (elim (among_either rs (gs ++ is) i a) [
          | inl b ↦ or_left (k.role i) (k.group i || k.item i) (let r = among_map role_id t.roles i b in subst (λ (z : List ℕ). k.role z ≡ true) (sym r.2) (among_has role_id t.roles r.0 r.1))
          | inr b ↦ or_right (k.role i) (k.group i || k.item i) (elim (among_either gs is i b) [
            | inl c ↦ or_left (k.group i) (k.item i) (let r = among_map group_id t.groups i c in subst (λ (z : List ℕ). k.group z ≡ true) (sym r.2) (among_has group_id t.groups r.0 r.1))
            | inr c ↦ or_right (k.group i) (k.item i) (let r = among_map record_id t.records i c in subst (λ (z : List ℕ). k.item z ≡ true) (sym r.2) (among_has record_id t.records r.0 r.1))
          ])
        ])
      ]

  pub all_numbers_differ : texts_differ (map number_part (drawn_ids t)) ≡ true
  all_numbers_differ = images_differ number_part (drawn_ids t) ids_differ (λ x y a b e. s.numbers x y (drawn_named x a) (drawn_named y b) e)

-- the other way round, of any tenant
named_drawn : (t : Tenant) (i : List ℕ) → names_any (known t) i ≡ true → Has (drawn_ids t) i
named_drawn t i h =
    let k = known t in
    let us = map user_id t.users in
    let rs = map role_id t.roles in
    let gs = map group_id t.groups in
    let is = map record_id t.records in
    elim (or_cases (k.user i) (k.role i || (k.group i || k.item i)) h) [
      | inl a ↦ let r = has_among user_id t.users i a in among_left us (rs ++ (gs ++ is)) i (subst (λ (z : List ℕ). Has us z) (sym r.2) (map_among user_id r.0 t.users r.1))
      | inr a ↦ among_right us (rs ++ (gs ++ is)) i (elim (or_cases (k.role i) (k.group i || k.item i) a) [
        | inl b ↦ let r = has_among role_id t.roles i b in among_left rs (gs ++ is) i (subst (λ (z : List ℕ). Has rs z) (sym r.2) (map_among role_id r.0 t.roles r.1))
        | inr b ↦ among_right rs (gs ++ is) i (elim (or_cases (k.group i) (k.item i) b) [
          | inl c ↦ let r = has_among group_id t.groups i c in among_left gs is i (subst (λ (z : List ℕ). Has gs z) (sym r.2) (map_among group_id r.0 t.groups r.1))
          | inr c ↦ let r = has_among record_id t.records i c in among_right gs is i (subst (λ (z : List ℕ). Has is z) (sym r.2) (map_among record_id r.0 t.records r.1))
        ])
      ])
    ]

pub differing_numbers : (t : Tenant) → texts_differ (map number_part (drawn_ids t)) ≡ true → NumbersDiffer (known t)
differing_numbers t h i j a b e = one_image number_part (drawn_ids t) h i j (named_drawn t i a) (named_drawn t j b) e
