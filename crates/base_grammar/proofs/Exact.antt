-- Each form of part has a reader that is exact for it.
use Rattle.std.proofs.Common.{◌≡◌, ℕ, zero, suc, ◌≤◌, ◌⊎◌, Bool, true, false, ◌&&◌, if◌then◌else◌, List, [], ◌∷◌, ◌++◌, length, Option, Some, None, Ok, Err, fold, refl, sym, ◌∙◌, ap, subst, inl, inr, append_assoc, append-nil, length-append, arith}
use Rattle.std.proofs.lemmas.Bool.{or_parts as or_false, or_left, or_right}
use Rattle.base_grammar.specs.Part.{Part, one, empty, never, both, either, as_value, many, SpellsOne, OpensOne, SpellsBoth, OpensBoth, SpellsMany, OpensMany}
use Rattle.base_grammar.specs.Reader.{Outcome, Reader, ◌>>=◌, at_token, read_one, read_empty, read_never, read_both, read_as, elem, begins_with, read_either, read_many, repeat}
use Rattle.base_grammar.proofs.Sets.{elem-append, disjoint, disjoint-elem}
use Rattle.base_grammar.specs.Exact.{Exact, Told, Stops, left}

-- ---- what follows for every part

pub told_shorter : {K A : Type 0} (part : Part K A) (ts : List K) (o : Outcome K A) → Told part ts o → left o ≤ length ts
told_shorter part ts (Ok got) h = omega (arith, ap length h.1, length-append h.0 got.1)
told_shorter part ts (Err n) h = omega (arith, ap length h.2, length-append h.0 h.1, h.3)

module _ {K : Type 0} (kind : K → ℕ) where
  pub stops-append : (xs ys : List ℕ) (r : List K) → Stops kind (xs ++ ys) r → Stops kind xs r × Stops kind ys r
  stops-append xs ys [] h = (tt, tt)
  stops-append xs ys (t ∷ ts) h = or_false _ _ (sym (elem-append (kind t) xs ys) ∙ h)

  -- ---- a token
  pub one_told : {A : Type 0} (value : K → Option A) (t : K) (ts : List K) (o : Option A) → value t ≡ o → Told (one value) (t ∷ ts) (at_token t ts o)
  one_told value t ts None e = ([], t ∷ ts, refl, refl, tt)
  one_told value t ts (Some a) e = (t ∷ [], refl, e)

  pub one_whole : {A : Type 0} (value : K → Option A) (x r : List K) (a : A) → SpellsOne value x a → read_one value (x ++ r) ≡ Ok (a, r)
  one_whole value [] r a h = absurd h
  one_whole value (t ∷ []) r a h = rw h refl
  one_whole value (t ∷ u ∷ ts) r a h = absurd h

  one_far : {A : Type 0} (value : K → Option A) (x r : List K) → OpensOne value x → left (read_one value (x ++ r)) ≤ length r
  one_far value [] [] h = omega arith
  one_far value [] (t ∷ r) h = told_shorter (one value) (t ∷ r) (at_token t r (value t)) (one_told value t r (value t) refl)
  one_far value (t ∷ []) r h = rw h.1 (omega arith)
  one_far value (t ∷ u ∷ ts) r h = absurd h

  one_begins : {A : Type 0} (value : K → Option A) (first : List ℕ) → ((t : K) (a : A) → value t ≡ Some a → elem (kind t) first ≡ true)
      → (t : K) (x : List K) → OpensOne value (t ∷ x) → elem (kind t) first ≡ true
  one_begins value first all t [] h = all t h.0 h.1
  one_begins value first all t (u ∷ us) h = absurd h

  one_spelled : {A : Type 0} (value : K → Option A) (x : List K) (a : A) → SpellsOne value x a → OpensOne value x
  one_spelled value [] a h = tt
  one_spelled value (t ∷ []) a h = (a, h)
  one_spelled value (t ∷ u ∷ us) a h = absurd h

  pub one_exact : {A : Type 0} (value : K → Option A) (first : List ℕ) → ((t : K) (a : A) → value t ≡ Some a → elem (kind t) first ≡ true)
      → Exact kind (one value) (read_one value) first [] false
  one_exact value first all = record {
    told = one_all;
    whole = λ x r a h s. one_whole value x r a h;
    far = one_far value;
    begins = one_begins value first all;
    takes = λ a h. absurd h;
    spelled = one_spelled value;
    start = tt;
  }
    where
      one_all : (ts : List K) → Told (one value) ts (read_one value ts)
      one_all [] = ([], [], refl, refl, tt)
      one_all (t ∷ ts) = one_told value t ts (value t) refl

  -- ---- no token, and what can't stand
  pub empty_exact : {A : Type 0} (v : A) → Exact kind (empty v) (read_empty v) [] [] true
  empty_exact v = record {
    told = λ ts. ([], refl, (refl, refl));
    whole = empty_whole;
    far = λ x r h. rw h (omega arith);
    begins = λ t x h. absurd (cc);
    takes = λ a h. refl;
    spelled = λ x a h. h.0;
    start = refl;
  }
    where
      empty_whole : (x r : List K) (a : _) → (x ≡ []) × (a ≡ v) → Stops kind [] r → read_empty v (x ++ r) ≡ Ok (a, r)
      empty_whole x r a h s = rw (h.0, h.1) refl

  pub never_exact : {A : Type 0} → Exact {A = A} kind never read_never [] [] false
  never_exact = record {
    told = λ ts. ([], ts, refl, refl, refl);
    whole = λ x r a h s. absurd h;
    far = λ x r h. rw h (omega arith);
    begins = λ t x h. absurd (cc);
    takes = λ a h. absurd h;
    spelled = λ x a h. absurd h;
    start = refl;
  }

  -- ---- another value
  as_told : {A B : Type 0} (f : A → B) (p : Part K A) (ts : List K) (o : Outcome K A) → Told p ts o → Told (as_value f p) ts (o >>= λ got. Ok (f got.0, got.1))
  as_told f p ts (Ok got) h = (h.0, h.1, (got.0, h.2, refl))
  as_told f p ts (Err n) h = h

  as_left : {A B : Type 0} (f : A → B) (o : Outcome K A) → left (o >>= λ got. Ok (f got.0, got.1)) ≡ left o
  as_left f (Ok got) = refl
  as_left f (Err n) = refl

  pub as_exact : {A B : Type 0} (f : A → B) (p : Part K A) (read : Reader K A) (first goes_on : List ℕ) (skips : Bool)
      → Exact kind p read first goes_on skips → Exact kind (as_value f p) (read_as f read) first goes_on skips
  as_exact f p read first goes_on skips e = record {
    told = λ ts. as_told f p ts (read ts) (e.told ts);
    whole = λ x r b h s. let found = e.whole x r h.0 h.1 s in rw (found, h.2) refl;
    far = λ x r h. let found = as_left f (read (x ++ r)) in rw found (e.far x r h);
    begins = e.begins;
    takes = λ b h. e.takes h.0 h.1;
    spelled = λ x b h. e.spelled x h.0 h.1;
    start = e.start;
  }

  -- ---- a sequence
  -- what comes after a spelling of the first part doesn't go on within it
  stops_before : {B : Type 0} (q : Part K B) (read : Reader K B) (first goes_on after : List ℕ) (skips : Bool)
      → Exact kind q read first goes_on skips → disjoint after first ≡ true
      → (y r : List K) → q.opens y → (y ≡ [] → Stops kind after r) → Stops kind after (y ++ r)
  stops_before q read first goes_on after skips e apart [] r h s = s refl
  stops_before q read first goes_on after skips e apart (t ∷ y) r h s = disjoint-elem (kind t) after first apart (e.begins t y h)

  both_told_2 : {A B : Type 0} (p : Part K A) (q : A → Part K B) (ts x rest : List K) (a : A) → ts ≡ x ++ rest → p.spells x a
      → (o : Outcome K B) → Told (q a) rest o → Told (both p q) ts (o >>= λ second. Ok ((a, second.0), second.1))
  both_told_2 p q ts x rest a e sp (Ok got) h =
      (x ++ h.0, e ∙ ap (λ z. x ++ z) h.1 ∙ sym (append_assoc x h.0 got.1), (x, h.0, refl, sp, h.2))
  both_told_2 p q ts x rest a e sp (Err n) h =
      (x ++ h.0, h.1, e ∙ ap (λ z. x ++ z) h.2 ∙ sym (append_assoc x h.0 h.1), h.3, inr (x, h.0, a, refl, sp, h.4))

  both_told : {A B : Type 0} (p : Part K A) (q : A → Part K B) (reads : A → Reader K B) (ts : List K)
      → ((a : A) (rest : List K) → Told (q a) rest (reads a rest))
      → (o : Outcome K A) → Told p ts o → Told (both p q) ts (o >>= λ first. reads first.0 first.1 >>= λ second. Ok ((first.0, second.0), second.1))
  both_told p q reads ts all (Ok got) h = both_told_2 p q ts h.0 got.1 got.0 h.1 h.2 (reads got.0 got.1) (all got.0 got.1)
  both_told p q reads ts all (Err n) h = (h.0, h.1, h.2, h.3, inl h.4)

  second_left : {A B : Type 0} (a : A) (o : Outcome K B) → left {A = A × B} (o >>= λ second. Ok ((a, second.0), second.1)) ≡ left o
  second_left a (Ok got) = refl
  second_left a (Err n) = refl

  both_shorter : {A B : Type 0} (q : A → Part K B) (reads : A → Reader K B)
      → ((a : A) (rest : List K) → Told (q a) rest (reads a rest))
      → (o : Outcome K A) → left {A = A × B} (o >>= λ first. reads first.0 first.1 >>= λ second. Ok ((first.0, second.0), second.1)) ≤ left o
  both_shorter q reads all (Ok got) =
      let e = second_left got.0 (reads got.0 got.1) in
      rw e (told_shorter (q got.0) got.1 (reads got.0 got.1) (all got.0 got.1))
  both_shorter q reads all (Err n) = omega arith

  module _ {A B : Type 0} (p : Part K A) (read : Reader K A) (first_p goes_p : List ℕ) (skips_p : Bool)
      (q : A → Part K B) (reads : A → Reader K B) (first_q goes_q : List ℕ) (skips_q : Bool)
      (ep : Exact kind p read first_p goes_p skips_p)
      (eq : (a : A) → Exact kind (q a) (reads a) first_q goes_q skips_q)
      (apart : disjoint goes_p first_q ≡ true)
    where
      abbrev pub both_first : List ℕ
      both_first = first_p ++ (if skips_p then first_q else [])

      abbrev pub both_goes : List ℕ
      both_goes = goes_q ++ (if skips_q then goes_p else [])

      both_after : (y r : List K) (a : A) (b : B) → (q a).spells y b → Stops kind both_goes r → Stops kind goes_p (y ++ r)
      both_after y r a b h s =
          stops_before (q a) (reads a) first_q goes_q goes_p skips_q (eq a) apart y r ((eq a).spelled y b h) (λ none. ended skips_q (from_empty y h none) (stops-append goes_q (if skips_q then goes_p else []) r s).1)
        where
          from_empty : (z : List K) → (q a).spells z b → z ≡ [] → skips_q ≡ true
          from_empty z g none = let P : List K → Type 0 = λ w. (q a).spells w b in (eq a).takes b (subst P none g)

          ended : (k : Bool) → k ≡ true → Stops kind (if k then goes_p else []) r → Stops kind goes_p r
          ended true e g = g
          ended false e g = absurd (cc)

      both_whole : (x r : List K) (v : A × B) → SpellsBoth p q x v.0 v.1 → Stops kind both_goes r → read_both read reads (x ++ r) ≡ Ok (v, r)
      both_whole x r v h s =
          let begin : x ++ r ≡ h.0 ++ (h.1 ++ r) = ap (λ z. z ++ r) h.2 ∙ append_assoc h.0 h.1 r in
          let one = ep.whole h.0 (h.1 ++ r) v.0 h.3 (both_after h.1 r v.0 v.1 h.4 s) in
          let two = (eq v.0).whole h.1 r v.1 h.4 (stops-append goes_q (if skips_q then goes_p else []) r s).0 in
          rw (begin, one, two) refl

      both_far_1 : (x r : List K) → p.opens x → left (read_both read reads (x ++ r)) ≤ length r
      both_far_1 x r h =
          let more = both_shorter q reads (λ a. (eq a).told) (read (x ++ r)) in
          let most = ep.far x r h in omega arith

      both_far_2 : (x y r : List K) (a : A) → p.spells x a → (q a).opens y → left (read_both read reads (x ++ (y ++ r))) ≤ length r
      both_far_2 x [] r a sp op = both_far_1 x r (ep.spelled x a sp)
      both_far_2 x (t ∷ y) r a sp op =
          let one = ep.whole x ((t ∷ y) ++ r) a sp (disjoint-elem (kind t) goes_p first_q apart ((eq a).begins t y op)) in
          let e = second_left a (reads a ((t ∷ y) ++ r)) in
          rw (one, e) ((eq a).far (t ∷ y) r op)

      both_far : (x r : List K) → OpensBoth p q x → left (read_both read reads (x ++ r)) ≤ length r
      both_far x r (inl h) = both_far_1 x r h
      both_far x r (inr h) =
          let begin : x ++ r ≡ h.0 ++ (h.1 ++ r) = ap (λ z. z ++ r) h.3 ∙ append_assoc h.0 h.1 r in
          rw begin (both_far_2 h.0 h.1 r h.2 h.4 h.5)

      in_first : (k : ℕ) → (elem k first_p ≡ true) ⊎ ((skips_p ≡ true) × (elem k first_q ≡ true)) → elem k both_first ≡ true
      in_first k (inl h) = elem-append k first_p _ ∙ or_left (elem k first_p) _ h
      in_first k (inr h) = elem-append k first_p _ ∙ or_right (elem k first_p) _ (go skips_p h.0)
        where
          go : (b : Bool) → b ≡ true → elem k (if b then first_q else []) ≡ true
          go true e = h.1
          go false e = absurd (cc)

      begins_2 : (t : K) (z x y : List K) (a : A) → t ∷ z ≡ x ++ y → p.spells x a → (q a).opens y → elem (kind t) both_first ≡ true
      begins_2 t z [] [] a e sp op = absurd (cc)
      begins_2 t z [] (u ∷ y) a e sp op =
          let same : t ≡ u = cc in
          let P : K → Type 0 = λ w. elem (kind w) first_q ≡ true in
          in_first (kind t) (inr (ep.takes a sp, subst P (sym same) ((eq a).begins u y op)))
      begins_2 t z (u ∷ x) y a e sp op =
          let same : t ≡ u = cc in
          let P : K → Type 0 = λ w. elem (kind w) first_p ≡ true in
          in_first (kind t) (inl (subst P (sym same) (ep.begins u x (ep.spelled (u ∷ x) a sp))))

      both_begins : (t : K) (x : List K) → OpensBoth p q (t ∷ x) → elem (kind t) both_first ≡ true
      both_begins t x (inl h) = in_first (kind t) (inl (ep.begins t x h))
      both_begins t x (inr h) = begins_2 t x h.0 h.1 h.2 h.3 h.4 h.5

      takes_2 : (x y : List K) (v : A × B) → [] ≡ x ++ y → p.spells x v.0 → (q v.0).spells y v.1 → (skips_p && skips_q) ≡ true
      takes_2 [] [] v e sp sq = rw (ep.takes v.0 sp) ((eq v.0).takes v.1 sq)
      takes_2 [] (t ∷ y) v e sp sq = absurd (cc)
      takes_2 (t ∷ x) y v e sp sq = absurd (cc)

      pub both_exact : Exact kind (both p q) (read_both read reads) both_first both_goes (skips_p && skips_q)
      both_exact = record {
        told = λ ts. both_told p q reads ts (λ a. (eq a).told) (read ts) (ep.told ts);
        whole = both_whole;
        far = both_far;
        begins = both_begins;
        takes = λ v h. takes_2 h.0 h.1 v h.2 h.3 h.4;
        spelled = λ x v h. inr (h.0, h.1, v.0, h.2, h.3, (eq v.0).spelled h.1 v.1 h.4);
        start = inl ep.start;
      }

  -- ---- a choice, by the next token
  module _ {A : Type 0} (p q : Part K A) (read reads : Reader K A) (first_p goes_p first_q goes_q : List ℕ) (skips : Bool)
      (ep : Exact kind p read first_p goes_p false)
      (eq : Exact kind q reads first_q goes_q skips)
      (apart : disjoint first_p first_q ≡ true)
    where
      abbrev pub either_goes : List ℕ
      either_goes = goes_p ++ (goes_q ++ (if skips then first_p else []))

      chosen_told : (ts : List K) (b : Bool) → Told (either p q) ts (if b then read ts else reads ts)
      chosen_told ts true = to_left (read ts) (ep.told ts)
        where
          to_left : (o : Outcome K A) → Told p ts o → Told (either p q) ts o
          to_left (Ok got) h = (h.0, h.1, inl h.2)
          to_left (Err n) h = (h.0, h.1, h.2, h.3, inl h.4)
      chosen_told ts false = to_right (reads ts) (eq.told ts)
        where
          to_right : (o : Outcome K A) → Told q ts o → Told (either p q) ts o
          to_right (Ok got) h = (h.0, h.1, inr h.2)
          to_right (Err n) h = (h.0, h.1, h.2, h.3, inr h.4)

      either_told : (ts : List K) → Told (either p q) ts (read_either kind first_p read reads ts)
      either_told ts = chosen_told ts (begins_with kind first_p ts)

      either_whole_p : (x r : List K) (a : A) → p.spells x a → Stops kind either_goes r → read_either kind first_p read reads (x ++ r) ≡ Ok (a, r)
      either_whole_p [] r a h s = let e = ep.takes a h in absurd (cc)
      either_whole_p (t ∷ x) r a h s =
          let e = ep.begins t x (ep.spelled (t ∷ x) a h) in
          rw e (ep.whole (t ∷ x) r a h (stops-append goes_p _ r s).0)

      stopped : (r : List K) → Stops kind first_p r → begins_with kind first_p r ≡ false
      stopped [] s = refl
      stopped (t ∷ r) s = s

      either_whole_q : (x r : List K) (a : A) → q.spells x a → Stops kind either_goes r → read_either kind first_p read reads (x ++ r) ≡ Ok (a, r)
      either_whole_q [] r a h s =
          let after = (stops-append goes_p _ r s).1 in
          let e = stopped r (go skips (eq.takes a h) (stops-append goes_q _ r after).1) in
          rw e (eq.whole [] r a h (stops-append goes_q _ r after).0)
        where
          go : (b : Bool) → b ≡ true → Stops kind (if b then first_p else []) r → Stops kind first_p r
          go true e g = g
          go false e g = absurd (cc)
      either_whole_q (t ∷ x) r a h s =
          let after = (stops-append goes_p _ r s).1 in
          let e = disjoint-elem (kind t) first_p first_q apart (eq.begins t x (eq.spelled (t ∷ x) a h)) in
          rw e (eq.whole (t ∷ x) r a h (stops-append goes_q _ r after).0)

      either_whole : (x r : List K) (a : A) → p.spells x a ⊎ q.spells x a → Stops kind either_goes r → read_either kind first_p read reads (x ++ r) ≡ Ok (a, r)
      either_whole x r a (inl h) s = either_whole_p x r a h s
      either_whole x r a (inr h) s = either_whole_q x r a h s

      either_far : (x r : List K) → p.opens x ⊎ q.opens x → left (read_either kind first_p read reads (x ++ r)) ≤ length r
      either_far [] r h = told_shorter (either p q) r (read_either kind first_p read reads r) (either_told r)
      either_far (t ∷ x) r (inl h) = let e = ep.begins t x h in rw e (ep.far (t ∷ x) r h)
      either_far (t ∷ x) r (inr h) =
          let e = disjoint-elem (kind t) first_p first_q apart (eq.begins t x h) in rw e (eq.far (t ∷ x) r h)

      either_begins : (t : K) (x : List K) → p.opens (t ∷ x) ⊎ q.opens (t ∷ x) → elem (kind t) (first_p ++ first_q) ≡ true
      either_begins t x (inl h) = elem-append (kind t) first_p first_q ∙ or_left (elem (kind t) first_p) (elem (kind t) first_q) (ep.begins t x h)
      either_begins t x (inr h) = elem-append (kind t) first_p first_q ∙ or_right (elem (kind t) first_p) (elem (kind t) first_q) (eq.begins t x h)

      either_takes : (a : A) → p.spells [] a ⊎ q.spells [] a → skips ≡ true
      either_takes a (inl h) = let e = ep.takes a h in absurd (cc)
      either_takes a (inr h) = eq.takes a h

      either_spelled : (x : List K) (a : A) → p.spells x a ⊎ q.spells x a → p.opens x ⊎ q.opens x
      either_spelled x a (inl h) = inl (ep.spelled x a h)
      either_spelled x a (inr h) = inr (eq.spelled x a h)

      pub either_exact : Exact kind (either p q) (read_either kind first_p read reads) (first_p ++ first_q) either_goes skips
      either_exact = record {
        told = either_told;
        whole = either_whole;
        far = either_far;
        begins = either_begins;
        takes = either_takes;
        spelled = either_spelled;
        start = inl ep.start;
      }

  -- ---- a repetition
  module _ {A S : Type 0} (body : S → Part K A) (reads : S → Reader K A) (step : S → A → S) (first goes : List ℕ)
      (eb : (s : S) → Exact kind (body s) (reads s) first goes false)
      (apart : disjoint goes first ≡ true)
    where
      more_told : (s : S) (ts x rest : List K) (a : A) → ts ≡ x ++ rest → (body s).spells x a
          → (o : Outcome K (List A)) → Told (many body step (step s a)) rest o → Told (many body step s) ts (o >>= λ more. Ok (a ∷ more.0, more.1))
      more_told s ts x rest a e sp (Ok got) h =
          (x ++ h.0, e ∙ ap (λ z. x ++ z) h.1 ∙ sym (append_assoc x h.0 got.1), (x, h.0, refl, sp, h.2))
      more_told s ts x rest a e sp (Err n) h =
          (x ++ h.0, h.1, e ∙ ap (λ z. x ++ z) h.2 ∙ sym (append_assoc x h.0 h.1), h.3, longer h.4)
        where
          longer : OpensMany body step (step s a) h.0 → OpensMany body step s (x ++ h.0)
          longer o = (a ∷ o.0, x ++ o.1, o.2, ap (λ z. x ++ z) o.3 ∙ sym (append_assoc x o.1 o.2), (x, o.1, refl, sp, o.4), o.5)

      -- the turns after the first
      after : ℕ → S → Outcome K A → Outcome K (List A)
      after n s o = o >>= λ got. read_many kind first reads step n (step s got.0) got.1 >>= λ rest. Ok (got.0 ∷ rest.0, rest.1)

      turn_told : (n : ℕ) (s : S) (ts : List K)
          → ((a : A) (rest : List K) → Told (many body step (step s a)) rest (read_many kind first reads step n (step s a) rest))
          → (o : Outcome K A) → Told (body s) ts o → Told (many body step s) ts (after n s o)
      unfolding after
      turn_told n s ts rec (Ok got) h = more_told s ts h.0 got.1 got.0 h.1 h.2 (read_many kind first reads step n (step s got.0) got.1) (rec got.0 got.1)
      turn_told n s ts rec (Err m) h = (h.0, h.1, h.2, h.3, ([], [], h.0, refl, refl, h.4))

      chosen_turn : (n : ℕ) (s : S) (ts : List K) (b : Bool) (o : Outcome K A)
          → Told (many body step s) ts (after n s o)
          → Told (many body step s) ts (if b then after n s o else Ok ([], ts))
      chosen_turn n s ts true o h = h
      chosen_turn n s ts false o h = ([], refl, refl)

      many_told : (n : ℕ) (s : S) (ts : List K) → Told (many body step s) ts (read_many kind first reads step n s ts)
      unfolding read_many after
      many_told zero s ts = ([], refl, refl)
      many_told (suc n) s ts =
          chosen_turn n s ts (begins_with kind first ts) (reads s ts)
          (turn_told n s ts (λ a rest. many_told n (step s a) rest) (reads s ts) ((eb s).told ts))

      -- one turn, where a token of the kinds comes next
      turns_on : (n : ℕ) (s : S) (t : K) (ts : List K) → elem (kind t) first ≡ true → read_many kind first reads step (suc n) s (t ∷ ts) ≡ after n s (reads s (t ∷ ts))
      unfolding read_many after
      turns_on n s t ts e = rw e refl

      ends : (n : ℕ) (s : S) (r : List K) → Stops kind first r → read_many kind first reads step n s r ≡ Ok ([], r)
      unfolding read_many
      ends zero s r h = refl
      ends (suc n) s [] h = refl
      ends (suc n) s (t ∷ r) h = rw h refl

      many_spelled : (s : S) (x : List K) (all : List A) → SpellsMany body step s x all → OpensMany body step s x
      many_spelled s x all h = (all, x, [], sym (append-nil x), h, (eb (fold step s all)).start)

      begins_many : (s : S) (t : K) (z x y : List K) (all : List A) → t ∷ z ≡ x ++ y → SpellsMany body step s x all
          → (body (fold step s all)).opens y → elem (kind t) first ≡ true
      begins_many s t z x y [] e sp op =
          let same : y ≡ t ∷ z = sym (e ∙ ap (λ w. w ++ y) sp) in
          let P : List K → Type 0 = λ w. (body s).opens w in
          (eb s).begins t z (subst P same op)
      begins_many s t z x y (a ∷ all) e sp op = go sp.0 sp.3 (e ∙ ap (λ w. w ++ y) sp.2)
        where
          go : (w : List K) → (body s).spells w a → t ∷ z ≡ (w ++ sp.1) ++ y → elem (kind t) first ≡ true
          go [] g f = let k = (eb s).takes a g in absurd (cc)
          go (u ∷ w) g f =
              let same : t ≡ u = cc in
              let P : K → Type 0 = λ v. elem (kind v) first ≡ true in
              subst P (sym same) ((eb s).begins u w ((eb s).spelled (u ∷ w) a g))

      many_begins : (s : S) (t : K) (z : List K) → OpensMany body step s (t ∷ z) → elem (kind t) first ≡ true
      many_begins s t z h = begins_many s t z h.1 h.2 h.0 h.3 h.4 h.5

      -- what follows a repeat doesn't go on within it
      stops_repeat : (s : S) (z r : List K) → OpensMany body step s z → Stops kind goes r → Stops kind goes (z ++ r)
      stops_repeat s [] r h g = g
      stops_repeat s (t ∷ z) r h g = disjoint-elem (kind t) goes first apart (many_begins s t z h)

      whole_turn : (n : ℕ) (s : S) (x z r : List K) (a : A) (more : List A) → (body s).spells x a → Stops kind goes (z ++ r)
          → read_many kind first reads step n (step s a) (z ++ r) ≡ Ok (more, r)
          → read_many kind first reads step (suc n) s (x ++ (z ++ r)) ≡ Ok (a ∷ more, r)
      unfolding after
      whole_turn n s [] z r a more sp g rec = let k = (eb s).takes a sp in absurd (cc)
      whole_turn n s (t ∷ x) z r a more sp g rec =
          let on = turns_on n s t (x ++ (z ++ r)) ((eb s).begins t x ((eb s).spelled (t ∷ x) a sp)) in
          let one = (eb s).whole (t ∷ x) (z ++ r) a sp g in
          rw (on, one, rec) refl

      longer_than : (n : ℕ) (s : S) (x z r : List K) (a : A) → (body s).spells x a → length (x ++ (z ++ r)) ≤ suc n → length (z ++ r) ≤ n
      longer_than n s [] z r a sp h = let k = (eb s).takes a sp in absurd (cc)
      longer_than n s (t ∷ x) z r a sp h = omega (arith, length-append x (z ++ r))

      no_room : (s : S) (x z : List K) (a : A) → (body s).spells x a → length (x ++ z) ≤ 0 → ⊥
      no_room s [] z a sp h = let k = (eb s).takes a sp in absurd (cc)
      no_room s (t ∷ x) z a sp h = omega arith

      abbrev pub many_goes : List ℕ
      many_goes = first ++ goes

      many_whole : (all : List A) (n : ℕ) (s : S) (x r : List K) → SpellsMany body step s x all → Stops kind many_goes r → length (x ++ r) ≤ n
          → read_many kind first reads step n s (x ++ r) ≡ Ok (all, r)
      many_whole [] n s x r sp g h = rw sp (ends n s r (stops-append first goes r g).0)
      many_whole (a ∷ more) zero s x r sp g h =
          let begin : x ++ r ≡ sp.0 ++ (sp.1 ++ r) = ap (λ z. z ++ r) sp.2 ∙ append_assoc sp.0 sp.1 r in
          absurd (no_room s sp.0 (sp.1 ++ r) a sp.3 (rw begin at h))
      many_whole (a ∷ more) (suc n) s x r sp g h =
          let begin : x ++ r ≡ sp.0 ++ (sp.1 ++ r) = ap (λ z. z ++ r) sp.2 ∙ append_assoc sp.0 sp.1 r in
          let fewer = longer_than n s sp.0 sp.1 r a sp.3 (rw begin at h) in
          let rec = many_whole more n (step s a) sp.1 r sp.4 g fewer in
          rw begin (whole_turn n s sp.0 sp.1 r a more sp.3 (stops_repeat (step s a) sp.1 r (many_spelled (step s a) sp.1 more sp.4) (stops-append first goes r g).1) rec)

      many_shorter : (n : ℕ) (s : S) (ts : List K) → left (read_many kind first reads step n s ts) ≤ length ts
      many_shorter n s ts = told_shorter (many body step s) ts (read_many kind first reads step n s ts) (many_told n s ts)

      consed : (a : A) (o : Outcome K (List A)) → left {A = List A} (o >>= λ rest. Ok (a ∷ rest.0, rest.1)) ≡ left o
      consed a (Ok got) = refl
      consed a (Err n) = refl

      after_shorter : (n : ℕ) (s : S) (o : Outcome K A) → left (after n s o) ≤ left o
      unfolding after
      after_shorter n s (Ok got) =
          let e = consed got.0 (read_many kind first reads step n (step s got.0) got.1) in
          rw e (many_shorter n (step s got.0) got.1)
      after_shorter n s (Err m) = omega arith

      far_turn : (n : ℕ) (s : S) (x z r : List K) (a : A) → (body s).spells x a → OpensMany body step (step s a) z
          → left (read_many kind first reads step n (step s a) (z ++ r)) ≤ length r
          → left (read_many kind first reads step (suc n) s (x ++ (z ++ r))) ≤ length r
      unfolding after
      far_turn n s [] z r a sp op rec = let k = (eb s).takes a sp in absurd (cc)
      far_turn n s (t ∷ x) [] r a sp op rec =
          let opened = (eb s).spelled (t ∷ x) a sp in
          let on = turns_on n s t (x ++ r) ((eb s).begins t x opened) in
          let one = after_shorter n s (reads s (t ∷ x ++ r)) in
          let two = (eb s).far (t ∷ x) r opened in
          rw on (omega arith)
      far_turn n s (t ∷ x) (u ∷ z) r a sp op rec =
          let on = turns_on n s t (x ++ (u ∷ z ++ r)) ((eb s).begins t x ((eb s).spelled (t ∷ x) a sp)) in
          let one = (eb s).whole (t ∷ x) (u ∷ z ++ r) a sp (disjoint-elem (kind u) goes first apart (many_begins (step s a) u z op)) in
          let e = consed a (read_many kind first reads step n (step s a) (u ∷ z ++ r)) in
          rw (on, one, e) rec

      last_far : (n : ℕ) (s : S) (y r : List K) → (body s).opens y → length (y ++ r) ≤ n → left (read_many kind first reads step n s (y ++ r)) ≤ length r
      last_far n s [] r op h = many_shorter n s r
      last_far zero s (t ∷ y) r op h = absurd (omega arith)
      last_far (suc n) s (t ∷ y) r op h =
          let on = turns_on n s t (y ++ r) ((eb s).begins t y op) in
          let one = after_shorter n s (reads s (t ∷ y ++ r)) in
          let two = (eb s).far (t ∷ y) r op in
          rw on (omega arith)

      many_far : (all : List A) (n : ℕ) (s : S) (x y r : List K) → SpellsMany body step s x all → (body (fold step s all)).opens y
          → length ((x ++ y) ++ r) ≤ n → left (read_many kind first reads step n s ((x ++ y) ++ r)) ≤ length r
      many_far [] n s x y r sp op h =
          let begin : (x ++ y) ++ r ≡ y ++ r = ap (λ z. (z ++ y) ++ r) sp in
          rw begin (last_far n s y r op (rw begin at h))
      many_far (a ∷ more) zero s x y r sp op h =
          let begin : (x ++ y) ++ r ≡ sp.0 ++ ((sp.1 ++ y) ++ r) = ap (λ z. (z ++ y) ++ r) sp.2 ∙ ap (λ z. z ++ r) (append_assoc sp.0 sp.1 y) ∙ append_assoc sp.0 (sp.1 ++ y) r in
          absurd (no_room s sp.0 ((sp.1 ++ y) ++ r) a sp.3 (rw begin at h))
      many_far (a ∷ more) (suc n) s x y r sp op h =
          let begin : (x ++ y) ++ r ≡ sp.0 ++ ((sp.1 ++ y) ++ r) = ap (λ z. (z ++ y) ++ r) sp.2 ∙ ap (λ z. z ++ r) (append_assoc sp.0 sp.1 y) ∙ append_assoc sp.0 (sp.1 ++ y) r in
          let fewer = longer_than n s sp.0 (sp.1 ++ y) r a sp.3 (rw begin at h) in
          rw begin (far_turn n s sp.0 (sp.1 ++ y) r a sp.3 (more, sp.1, y, refl, sp.4, op) (many_far more n (step s a) sp.1 y r sp.4 op fewer))

      many_takes : (s : S) (all : List A) → SpellsMany body step s [] all → true ≡ true
      many_takes s all h = refl

      -- the reader has as many turns as there are tokens
      pub many_exact : (s : S) → Exact kind (many body step s) (repeat kind first reads step s) first many_goes true
      unfolding repeat
      many_exact s = record {
        told = λ ts. many_told (length ts) s ts;
        whole = λ x r all h g. many_whole all (length (x ++ r)) s x r h g (omega arith);
        far = λ x r h. far_of x r h;
        begins = λ t x h. many_begins s t x h;
        takes = λ all h. refl;
        spelled = λ x all h. many_spelled s x all h;
        start = ([], [], [], refl, refl, (eb s).start);
      }
        where
          far_of : (x r : List K) → OpensMany body step s x → left (read_many kind first reads step (length (x ++ r)) s (x ++ r)) ≤ length r
          far_of x r h =
              let e = h.3 in
              rw e (many_far h.0 (length ((h.1 ++ h.2) ++ r)) s h.1 h.2 r h.4 h.5 (omega arith))
