-- Exact readers of the parts that are made of others.
use Rattle.std.proofs.Common.{◌≡◌, ℕ, zero, suc, Bool, true, false, if◌then◌else◌, ◌==◌, ◌||◌, List, [], ◌∷◌, ◌++◌, Some, None, Result, Ok, Err, refl, subst, append-nil}
use mathlib.Core.Path.{fun_ext}
use Rattle.base_grammar.specs.Part as g
use Rattle.base_grammar.specs.Part.{Part, both, as_value, never, of_kind, one_fewer}
use Rattle.base_grammar.specs.Reader as spec
use Rattle.base_grammar.specs.Reader.{Outcome, Reader, ◌>>=◌, read_never, read_both, elem}
use Rattle.base_grammar.specs.Exact.{Exact}
use Rattle.base_grammar.proofs.Sets.{disjoint}
use Rattle.base_grammar.proofs.Exact.{one_exact, never_exact, as_exact, both_exact, many_exact}

pub bind-assoc : {X Y Z : Type 0} (o : Result X ℕ) (f : X → Result Y ℕ) (h : Y → Result Z ℕ) → ((o >>= f) >>= h) ≡ (o >>= λ x. f x >>= h)
bind-assoc (Ok x) f h = refl
bind-assoc (Err n) f h = refl

module _ {K : Type 0} (kind : K → ℕ) where
  -- a function with the same answers
  pub exact_by : {A : Type 0} {part : Part K A} {read : Reader K A} {first goes : List ℕ} {skips : Bool} (other : Reader K A)
      → Exact kind part read first goes skips → ((ts : List K) → read ts ≡ other ts) → Exact kind part other first goes skips
  exact_by {part = part} {first = first} {goes = goes} {skips = skips} other e same =
      let P : Reader K _ → Type 0 = λ r. Exact kind part r first goes skips in subst P (fun_ext same) e

  -- the same kinds, written otherwise
  pub goes_by : {A : Type 0} {part : Part K A} {read : Reader K A} {first goes : List ℕ} {skips : Bool} (others : List ℕ)
      → Exact kind part read first goes skips → goes ≡ others → Exact kind part read first others skips
  goes_by {part = part} {read = read} {first = first} {skips = skips} others e same =
      let P : List ℕ → Type 0 = λ s. Exact kind part read first s skips in subst P same e

  pub first_by : {A : Type 0} {part : Part K A} {read : Reader K A} {first goes : List ℕ} {skips : Bool} (others : List ℕ)
      → Exact kind part read first goes skips → first ≡ others → Exact kind part read others goes skips
  first_by {part = part} {read = read} {goes = goes} {skips = skips} others e same =
      let P : List ℕ → Type 0 = λ s. Exact kind part read s goes skips in subst P same e

  -- more kinds than those with which the part begins
  pub wider_first : {A : Type 0} {part : Part K A} {read : Reader K A} {first goes : List ℕ} {skips : Bool} (others : List ℕ)
      → ((k : ℕ) → elem k first ≡ true → elem k others ≡ true) → Exact kind part read first goes skips → Exact kind part read others goes skips
  wider_first others more e = record {
    told = e.told;
    whole = e.whole;
    far = e.far;
    begins = λ t x h. more (kind t) (e.begins t x h);
    takes = e.takes;
    spelled = e.spelled;
    start = e.start;
  }

  -- ---- a token of a kind
  pub sign_exact : (n : ℕ) → Exact kind (g.sign kind n) (spec.sign kind n) (n ∷ []) [] false
  unfolding spec.sign
  sign_exact n = one_exact kind (of_kind kind n) (n ∷ []) (λ t a h. only (kind t == n) a h)
    where
      only : (b : Bool) (a : Unit {0}) → (if b then Some tt else None) ≡ Some a → (b || false) ≡ true
      only true a h = refl
      only false a h = absurd (cc)

  -- what nothing spells is exact for any kinds
  wider : {A : Type 0} (first goes : List ℕ) → Exact {A = A} kind never read_never [] [] false → Exact {A = A} kind never read_never first goes false
  wider first goes e = record {
    told = e.told;
    whole = λ x r a h s. absurd h;
    far = e.far;
    begins = λ t x h. absurd (cc);
    takes = e.takes;
    spelled = e.spelled;
    start = e.start;
  }

  -- ---- sequences with a value of their own
  abbrev pub read_as_of : {A B : Type 0} → (A → B) → Outcome K A → Outcome K B
  read_as_of f o = o >>= λ got. Ok (f got.0, got.1)

  abbrev pub paired : {A B C : Type 0} → (A → B → C) → A → Outcome K B → Outcome K C
  paired f a o = o >>= λ y. Ok (f a y.0, y.1)

  abbrev pub read_pair : {A B C : Type 0} → (A → B → C) → Reader K A → (A → Reader K B) → Reader K C
  read_pair f p q ts = p ts >>= λ x. paired f x.0 (q x.0 x.1)

  paired-as : {A B C : Type 0} (f : A → B → C) (a : A) (o : Outcome K B) → read_as_of (λ v. f v.0 v.1) (paired {C = A × B} (λ x y. (x, y)) a o) ≡ paired f a o
  paired-as f a (Ok got) = refl
  paired-as f a (Err n) = refl

  pair-as : {A B C : Type 0} (f : A → B → C) (p : Outcome K A) (q : A → Reader K B)
      → read_as_of (λ v. f v.0 v.1) (p >>= λ x. paired {C = A × B} (λ x y. (x, y)) x.0 (q x.0 x.1)) ≡ (p >>= λ x. paired f x.0 (q x.0 x.1))
  pair-as f (Ok got) q = paired-as f got.0 (q got.0 got.1)
  pair-as f (Err n) q = refl

  -- the second part takes a token
  pub pair_exact : {A B C : Type 0} (f : A → B → C) (p : Part K A) (read : Reader K A) (first_p goes_p : List ℕ)
      (q : A → Part K B) (reads : A → Reader K B) (first_q goes_q : List ℕ)
      → Exact kind p read first_p goes_p false → ((a : A) → Exact kind (q a) (reads a) first_q goes_q false) → disjoint goes_p first_q ≡ true
      → Exact kind (as_value (λ v. f v.0 v.1) (both p q)) (read_pair f read reads) first_p goes_q false
  pair_exact f p read first_p goes_p q reads first_q goes_q ep eq apart =
      let two = both_exact kind p read first_p goes_p false q reads first_q goes_q false ep eq apart in
      let one = as_exact kind (λ v. f v.0 v.1) (both p q) (read_both read reads) (first_p ++ []) (goes_q ++ []) false two in
      exact_by (read_pair f read reads) (first_by first_p (goes_by goes_q one (append-nil goes_q)) (append-nil first_p))
      (λ ts. pair-as f (read ts) reads)

  -- no token may spell the second part
  pub pair_exact_0 : {A B C : Type 0} (f : A → B → C) (p : Part K A) (read : Reader K A) (first_p goes_p : List ℕ)
      (q : A → Part K B) (reads : A → Reader K B) (first_q goes_q : List ℕ)
      → Exact kind p read first_p goes_p false → ((a : A) → Exact kind (q a) (reads a) first_q goes_q true) → disjoint goes_p first_q ≡ true
      → Exact kind (as_value (λ v. f v.0 v.1) (both p q)) (read_pair f read reads) first_p (goes_q ++ goes_p) false
  pair_exact_0 f p read first_p goes_p q reads first_q goes_q ep eq apart =
      let two = both_exact kind p read first_p goes_p false q reads first_q goes_q true ep eq apart in
      let one = as_exact kind (λ v. f v.0 v.1) (both p q) (read_both read reads) (first_p ++ []) (goes_q ++ goes_p) false two in
      exact_by (read_pair f read reads) (first_by first_p one (append-nil first_p))
      (λ ts. pair-as f (read ts) reads)

  id_last : {A B : Type 0} (a : A) (o : Outcome K B) → paired (λ _ y. y) a o ≡ o
  id_last a (Ok got) = refl
  id_last a (Err n) = refl

  pub bind_last : {A B : Type 0} (o : Outcome K A) (q : A → Reader K B) → (o >>= λ x. paired (λ _ y. y) x.0 (q x.0 x.1)) ≡ (o >>= λ x. q x.0 x.1)
  bind_last (Ok got) q = id_last got.0 (q got.0 got.1)
  bind_last (Err n) q = refl

  -- a sequence with the value of its second part
  pub then_exact : {A B : Type 0} (p : Part K A) (read : Reader K A) (first_p goes_p : List ℕ)
      (q : A → Part K B) (reads : A → Reader K B) (first_q goes_q : List ℕ)
      → Exact kind p read first_p goes_p false → ((a : A) → Exact kind (q a) (reads a) first_q goes_q false) → disjoint goes_p first_q ≡ true
      → Exact kind (as_value (λ v. v.1) (both p q)) (λ ts. read ts >>= λ x. reads x.0 x.1) first_p goes_q false
  then_exact p read first_p goes_p q reads first_q goes_q ep eq apart =
      exact_by (λ ts. read ts >>= λ x. reads x.0 x.1) (pair_exact (λ _ y. y) p read first_p goes_p q reads first_q goes_q ep eq apart) (λ ts. bind_last (read ts) reads)

  -- ---- before and behind a token
  pub after_exact : {A : Type 0} (n : ℕ) (p : Part K A) (read : Reader K A) (first goes : List ℕ)
      → Exact kind p read first goes false → Exact kind (g.after kind n p) (spec.after kind n read) (n ∷ []) goes false
  after_exact n p read first goes e = then_exact (g.sign kind n) (spec.sign kind n) (n ∷ []) [] (λ _. p) (λ _. read) first goes (sign_exact n) (λ _. e) refl

  pub before_exact : {A : Type 0} (n : ℕ) (p : Part K A) (read : Reader K A) (first goes : List ℕ)
      → Exact kind p read first goes false → disjoint goes (n ∷ []) ≡ true → Exact kind (g.before kind p n) (spec.before kind read n) first [] false
  before_exact n p read first goes e apart =
      pair_exact (λ x _. x) p read first goes (λ _. g.sign kind n) (λ _. spec.sign kind n) (n ∷ []) [] e (λ _. sign_exact n) apart

  -- ---- repetitions
  left_exact : {A : Type 0} (p : Part K A) (read : Reader K A) (first goes : List ℕ) → Exact kind p read first goes false
      → (n : ℕ) → Exact kind (g.while_left p n) (spec.while_left read n) first goes false
  left_exact p read first goes e zero = wider first goes (never_exact kind)
  left_exact p read first goes e (suc n) = e

  pub repeated_exact : {A : Type 0} (limit : ℕ) (p : Part K A) (read : Reader K A) (first goes : List ℕ) → Exact kind p read first goes false
      → disjoint goes first ≡ true → Exact kind (g.repeated limit p) (spec.repeated kind first limit read) first (first ++ goes) true
  repeated_exact limit p read first goes e apart =
      many_exact kind (g.while_left p) (spec.while_left read) one_fewer first goes (left_exact p read first goes e) apart limit

  pub any_exact : {A : Type 0} (p : Part K A) (read : Reader K A) (first goes : List ℕ) → Exact kind p read first goes false
      → disjoint goes first ≡ true → Exact kind (g.any_number p) (spec.any_number kind first read) first (first ++ goes) true
  any_exact p read first goes e apart = many_exact kind (λ _. p) (λ _. read) (λ n _. n) first goes (λ _. e) apart 0
