-- Each function that reads paths, literals and conditions is exact for its part of the grammar.
use Rattle.std.proofs.Common.{◌≡◌, ℕ, zero, suc, Bool, true, false, if◌then◌else◌, ◌==◌, List, [], ◌∷◌, ◌++◌, Some, Ok, Err, refl}
use Rattle.std.proofs.lemmas.Bool.{or_right}
use Rattle.base_grammar.specs.Part.{Part, one, empty, both, either, as_value}
use Rattle.base_grammar.specs.Part as part
use Rattle.base_grammar.specs.Reader.{Outcome, Reader, ◌>>=◌, read_one, read_as, read_empty, read_either, elem, begins_with, with_front}
use Rattle.base_grammar.specs.Reader as reader
use Rattle.base_grammar.specs.Exact.{Exact}
use Rattle.base_grammar.proofs.Sets.{disjoint}
use Rattle.base_grammar.proofs.Exact.{one_exact, empty_exact, as_exact, either_exact}
use Rattle.base_grammar.proofs.Pairs.{after_exact, before_exact, pair_exact, pair_exact_0, then_exact, repeated_exact, any_exact, exact_by, read_pair, read_as_of, paired, wider_first}
use Rattle.soql.specs.grammar.Grammar as g
use Rattle.soql.specs.grammar.Grammar.{name_in, operator_in, literal_in, pattern_in}
use Rattle.soql.specs.grammar.Readers as spec
use Rattle.soql.specs.grammar.Signs.{kind}
use Rattle.soql.specs.declared.query.Cond.{Cond}
use Rattle.soql.specs.declared.query.Cond.TheVariants as c
use Rattle.soql.specs.declared.query.LikePattern.{LikePattern}
use Rattle.soql.specs.declared.query.Literal.{Literal}
use Rattle.soql.specs.declared.query.Op.{Op}
use Rattle.soql.specs.declared.query.Path.{Path}
use Rattle.soql.specs.declared.grammar.sign.Sign.{Sign}
use Rattle.soql.specs.declared.grammar.sign.Sign.TheVariants as sign

-- ---- single tokens
pub name_exact : Exact kind g.name spec.name (0 ∷ 1 ∷ 2 ∷ 3 ∷ []) [] false
unfolding spec.name
name_exact = one_exact kind name_in (0 ∷ 1 ∷ 2 ∷ 3 ∷ []) all
  where
    all : (x : Sign) (a : List ℕ) → name_in x ≡ Some a → elem (kind x) (0 ∷ 1 ∷ 2 ∷ 3 ∷ []) ≡ true
    all (sign.Name cs) a h = refl
    all (sign.Today cs) a h = refl
    all (sign.Yesterday cs) a h = refl
    all (sign.Tomorrow cs) a h = refl
    all _ a h = absurd (cc)

operator_exact : Exact kind (one operator_in) spec.operator (25 ∷ []) [] false
unfolding spec.operator
operator_exact = one_exact kind operator_in (25 ∷ []) all
  where
    all : (x : Sign) (a : Op) → operator_in x ≡ Some a → elem (kind x) (25 ∷ []) ≡ true
    all (sign.Op op) a h = refl
    all _ a h = absurd (cc)

pattern_exact : Exact kind (one pattern_in) spec.pattern (24 ∷ []) [] false
unfolding spec.pattern
pattern_exact = one_exact kind pattern_in (24 ∷ []) all
  where
    all : (x : Sign) (a : LikePattern) → pattern_in x ≡ Some a → elem (kind x) (24 ∷ []) ≡ true
    all (sign.Text pieces) a h = refl
    all _ a h = absurd (cc)

-- the kinds with which a literal begins
abbrev pub literal_firsts : List ℕ
literal_firsts = 9 ∷ 10 ∷ 1 ∷ 2 ∷ 3 ∷ 21 ∷ 22 ∷ 23 ∷ 24 ∷ []

pub literal_exact : Exact kind g.literal spec.literal literal_firsts [] false
unfolding spec.literal
literal_exact = one_exact kind literal_in literal_firsts all
  where
    all : (x : Sign) (a : Literal) → literal_in x ≡ Some a → elem (kind x) literal_firsts ≡ true
    all sign.Null a h = refl
    all (sign.Truth truth) a h = refl
    all (sign.Today cs) a h = refl
    all (sign.Yesterday cs) a h = refl
    all (sign.Tomorrow cs) a h = refl
    all (sign.Number count whole) a h = refl
    all (sign.Day day) a h = refl
    all (sign.Moment second) a h = refl
    all (sign.Text pieces) a h = refl
    all _ a h = absurd (cc)

-- ---- parts made of others
pub separated_exact : {A : Type 0} (n limit : ℕ) (p : Part Sign A) (read : Reader Sign A) (first goes : List ℕ) → Exact kind p read first goes false
    → disjoint goes (n ∷ []) ≡ true
    → Exact kind (part.listed limit p (part.after kind n p)) (spec.separated n limit read) first (n ∷ (goes ++ goes)) false
separated_exact n limit p read first goes e apart =
    pair_exact_0 kind (λ x xs. x ∷ xs) p read first goes (λ _. part.repeated limit (part.after kind n p)) (λ _. spec.more_of n limit read) (n ∷ []) (n ∷ goes) e
    (λ _. repeated_exact kind limit (part.after kind n p) (reader.after kind n read) (n ∷ []) goes (after_exact kind n p read first goes e) apart) apart

pub in_parentheses_exact : {A : Type 0} (p : Part Sign A) (read : Reader Sign A) (first goes : List ℕ) → Exact kind p read first goes false
    → disjoint goes (27 ∷ []) ≡ true → Exact kind (g.in_parentheses p) (spec.in_parentheses read) (26 ∷ []) [] false
in_parentheses_exact p read first goes e apart =
    after_exact kind 26 (part.before kind p 27) (reader.before kind read 27) first [] (before_exact kind 27 p read first goes e apart)

-- ---- paths and literals
names_exact : Exact kind (g.separated sign.Dot 5 g.name) spec.names (0 ∷ 1 ∷ 2 ∷ 3 ∷ []) (29 ∷ []) false
unfolding spec.names spec.more_names
names_exact = separated_exact 29 5 g.name spec.name (0 ∷ 1 ∷ 2 ∷ 3 ∷ []) [] name_exact refl

pub path_exact : Exact kind g.path spec.path (0 ∷ 1 ∷ 2 ∷ 3 ∷ []) (29 ∷ []) false
unfolding spec.path
path_exact = as_exact kind (λ names. record { names = names }) (g.separated sign.Dot 5 g.name) spec.names (0 ∷ 1 ∷ 2 ∷ 3 ∷ []) (29 ∷ []) false names_exact

literal_list_exact : Exact kind (g.separated sign.Comma 999 g.literal) spec.literal_list literal_firsts (28 ∷ []) false
unfolding spec.literal_list spec.more_literals
literal_list_exact = separated_exact 28 999 g.literal spec.literal literal_firsts [] literal_exact refl

literals_exact : Exact kind g.literals spec.literals (26 ∷ []) [] false
unfolding spec.literals
literals_exact = in_parentheses_exact (g.separated sign.Comma 999 g.literal) spec.literal_list literal_firsts (28 ∷ []) literal_list_exact refl

-- ---- tests
comparison_exact : (p : Path) → Exact kind (as_value (λ v. c.Test p v.0 v.1) (both (one operator_in) (λ _. g.literal))) (spec.comparison p) (25 ∷ []) [] false
unfolding spec.comparison
comparison_exact p =
    pair_exact kind (λ o l. c.Test p o l) (one operator_in) spec.operator (25 ∷ []) [] (λ _. g.literal) (λ _. spec.literal) literal_firsts [] operator_exact (λ _. literal_exact) refl

likeness_exact : (p : Path) → Exact kind (as_value (c.Like p) (part.after kind 8 (one pattern_in))) (spec.likeness p) (8 ∷ []) [] false
unfolding spec.likeness
likeness_exact p =
    as_exact kind (c.Like p) (part.after kind 8 (one pattern_in)) (reader.after kind 8 spec.pattern) (8 ∷ []) [] false (after_exact kind 8 (one pattern_in) spec.pattern (24 ∷ []) [] pattern_exact)

behind_in : Exact kind (part.after kind 7 g.literals) (reader.after kind 7 spec.literals) (7 ∷ []) [] false
behind_in = after_exact kind 7 g.literals spec.literals (26 ∷ []) [] literals_exact

membership_exact : (p : Path) → Exact kind (as_value (c.In p false) (part.after kind 7 g.literals)) (spec.membership p) (7 ∷ []) [] false
unfolding spec.membership
membership_exact p = as_exact kind (c.In p false) (part.after kind 7 g.literals) (reader.after kind 7 spec.literals) (7 ∷ []) [] false behind_in

exclusion_exact : (p : Path) → Exact kind (as_value (c.In p true) (part.after kind 6 (part.after kind 7 g.literals))) (spec.exclusion p) (6 ∷ []) [] false
unfolding spec.exclusion
exclusion_exact p =
    as_exact kind (c.In p true) (part.after kind 6 (part.after kind 7 g.literals)) (reader.after kind 6 (reader.after kind 7 spec.literals)) (6 ∷ []) [] false
    (after_exact kind 6 (part.after kind 7 g.literals) (reader.after kind 7 spec.literals) (7 ∷ []) [] behind_in)

ending_exact : (p : Path) → Exact kind (g.ending p) (spec.ending p) (25 ∷ 8 ∷ 7 ∷ 6 ∷ []) [] false
unfolding spec.ending
ending_exact p =
    either_exact kind _ _ (spec.comparison p) (read_either kind (8 ∷ []) (spec.likeness p) (read_either kind (7 ∷ []) (spec.membership p) (spec.exclusion p)))
    (25 ∷ []) [] (8 ∷ 7 ∷ 6 ∷ []) [] false (comparison_exact p)
    (either_exact kind _ _ (spec.likeness p) (read_either kind (7 ∷ []) (spec.membership p) (spec.exclusion p)) (8 ∷ []) [] (7 ∷ 6 ∷ []) [] false (likeness_exact p)
    (either_exact kind _ _ (spec.membership p) (spec.exclusion p) (7 ∷ []) [] (6 ∷ []) [] false (membership_exact p) (exclusion_exact p) refl) refl) refl

test_exact : Exact kind g.test spec.of_path (0 ∷ 1 ∷ 2 ∷ 3 ∷ []) [] false
unfolding spec.of_path
test_exact = then_exact kind g.path spec.path (0 ∷ 1 ∷ 2 ∷ 3 ∷ []) (29 ∷ []) g.ending spec.ending (25 ∷ 8 ∷ 7 ∷ 6 ∷ []) [] path_exact ending_exact refl

-- ---- conditions, over what reads a unit
module _ (p : Part Sign Cond) (unit : Reader Sign Cond) (first : List ℕ) (eu : Exact kind p unit first [] false) where
  more_units_exact : (n : ℕ) → Exact kind (part.any_number (part.after kind n p)) (spec.more_units unit n) (n ∷ []) (n ∷ []) true
  unfolding spec.more_units
  more_units_exact n = any_exact kind (part.after kind n p) (reader.after kind n unit) (n ∷ []) [] (after_exact kind n p unit first [] eu) refl

  -- what makes a list of the first unit and those behind it
  joined-as : (f : List Cond → Cond) (u : Cond) (o : Outcome Sign Cond) (more : List Sign → Outcome Sign (List Cond))
      → read_as_of kind (λ (h : Cond → Cond). h u) (read_as_of kind (λ xs x. f (x ∷ xs)) (o >>= λ x. paired kind (λ y ys. y ∷ ys) x.0 (more x.1)))
      ≡ read_as_of kind f (o >>= λ got. with_front (u ∷ got.0 ∷ []) (more got.1))
  joined-as f u (Ok got) more = go (more got.1)
    where
      go : (o : Outcome Sign (List Cond)) → read_as_of kind (λ (h : Cond → Cond). h u) (read_as_of kind (λ xs x. f (x ∷ xs)) (paired kind (λ y ys. y ∷ ys) got.0 o)) ≡ read_as_of kind f (with_front (u ∷ got.0 ∷ []) o)
      go (Ok more) = refl
      go (Err n) = refl
  joined-as f u (Err n) more = refl

  rest_of_list : ℕ → (List Cond → Cond) → Reader Sign (Cond → Cond)
  rest_of_list n f = read_as (λ xs x. f (x ∷ xs)) (read_pair kind (λ y ys. y ∷ ys) (reader.after kind n unit) (λ _. spec.more_units unit n))

  rest_of_chain : Reader Sign (Cond → Cond)
  rest_of_chain = read_either kind (4 ∷ []) (rest_of_list 4 c.And) (read_either kind (5 ∷ []) (rest_of_list 5 c.Or) (read_empty (λ x. x)))

  rest_of_list_exact : (n : ℕ) (f : List Cond → Cond) → disjoint [] (n ∷ []) ≡ true
      → Exact kind (as_value (λ more x. f (x ∷ more)) (g.one_or_more (part.after kind n p))) (rest_of_list n f) (n ∷ []) (n ∷ []) false
  unfolding rest_of_list
  rest_of_list_exact n f apart =
      as_exact kind (λ xs x. f (x ∷ xs)) (g.one_or_more (part.after kind n p)) (read_pair kind (λ y ys. y ∷ ys) (reader.after kind n unit) (λ _. spec.more_units unit n)) (n ∷ []) (n ∷ []) false
      (pair_exact_0 kind (λ y ys. y ∷ ys) (part.after kind n p) (reader.after kind n unit) (n ∷ []) [] (λ _. part.any_number (part.after kind n p)) (λ _. spec.more_units unit n) (n ∷ []) (n ∷ [])
      (after_exact kind n p unit first [] eu) (λ _. more_units_exact n) apart)

  rest_of_chain_exact : Exact kind (g.chain p) rest_of_chain (4 ∷ 5 ∷ []) (4 ∷ 5 ∷ 5 ∷ 4 ∷ []) true
  unfolding rest_of_chain
  rest_of_chain_exact =
      either_exact kind _ _ (rest_of_list 4 c.And) (read_either kind (5 ∷ []) (rest_of_list 5 c.Or) (read_empty (λ x. x))) (4 ∷ []) (4 ∷ []) (5 ∷ []) (5 ∷ 5 ∷ []) true (rest_of_list_exact 4 c.And refl)
      (either_exact kind _ _ (rest_of_list 5 c.Or) (read_empty (λ x. x)) (5 ∷ []) (5 ∷ []) [] [] true (rest_of_list_exact 5 c.Or refl) (empty_exact kind (λ x. x)) refl) refl

  applied-chain : (u : Cond) (ts : List Sign) → read_as_of kind (λ (h : Cond → Cond). h u) (rest_of_chain ts) ≡ spec.chain unit u ts
  unfolding rest_of_chain rest_of_list spec.chain spec.conjunction spec.disjunction spec.joined
  applied-chain u ts = by_next (begins_with kind (4 ∷ []) ts) (begins_with kind (5 ∷ []) ts)
    where
      by_next : (a b : Bool)
          → read_as_of kind (λ (h : Cond → Cond). h u) (if a then rest_of_list 4 c.And ts else (if b then rest_of_list 5 c.Or ts else read_empty (λ x. x) ts))
          ≡ (if a then spec.conjunction unit u ts else (if b then spec.disjunction unit u ts else read_empty u ts))
      by_next true b = joined-as c.And u (reader.after kind 4 unit ts) (spec.more_units unit 4)
      by_next false true = joined-as c.Or u (reader.after kind 5 unit ts) (spec.more_units unit 5)
      by_next false false = refl

  chain_by : (o : Outcome Sign Cond) → (o >>= λ x. paired kind (λ (u : Cond) (h : Cond → Cond). h u) x.0 (rest_of_chain x.1)) ≡ (o >>= λ got. spec.chain unit got.0 got.1)
  chain_by (Ok got) = applied-chain got.0 got.1
  chain_by (Err n) = refl

  pub cond_of_exact : disjoint [] (4 ∷ 5 ∷ []) ≡ true → Exact kind (g.cond_of p) (spec.cond_of unit) first (4 ∷ 5 ∷ 5 ∷ 4 ∷ []) false
  unfolding spec.cond_of
  cond_of_exact apart =
      exact_by kind (spec.cond_of unit) (pair_exact_0 kind (λ u h. h u) p unit first [] (λ _. g.chain p) (λ _. rest_of_chain) (4 ∷ 5 ∷ []) (4 ∷ 5 ∷ 5 ∷ 4 ∷ []) eu (λ _. rest_of_chain_exact) apart)
      (λ ts. chain_by (unit ts))

-- ---- units, by the levels that are left
-- the kinds with which a unit begins
abbrev pub unit_firsts : List ℕ
unit_firsts = 6 ∷ 26 ∷ 0 ∷ 1 ∷ 2 ∷ 3 ∷ []

pub unit_exact : (levels : ℕ) → Exact kind (g.unit levels) (spec.unit levels) unit_firsts [] false
unfolding g.unit spec.unit spec.inner spec.negation spec.group
unit_exact zero = wider_first kind unit_firsts (λ k h. or_right (k == 6) _ (or_right (k == 26) _ h)) test_exact
unit_exact (suc n) =
    either_exact kind _ _ (spec.negation (spec.unit n)) (read_either kind (26 ∷ []) (spec.group (spec.unit n)) spec.of_path) (6 ∷ []) [] (26 ∷ 0 ∷ 1 ∷ 2 ∷ 3 ∷ []) [] false
    (as_exact kind c.Not (part.after kind 6 (g.unit n)) (reader.after kind 6 (spec.unit n)) (6 ∷ []) [] false (after_exact kind 6 (g.unit n) (spec.unit n) unit_firsts [] (unit_exact n)))
    (either_exact kind _ _ (spec.group (spec.unit n)) spec.of_path (26 ∷ []) [] (0 ∷ 1 ∷ 2 ∷ 3 ∷ []) [] false
    (in_parentheses_exact (g.cond_of (g.unit n)) (spec.cond_of (spec.unit n)) unit_firsts (4 ∷ 5 ∷ 5 ∷ 4 ∷ []) (cond_of_exact (g.unit n) (spec.unit n) unit_firsts (unit_exact n) refl) refl)
    test_exact refl) refl

pub condition_exact : Exact kind g.condition spec.condition unit_firsts (4 ∷ 5 ∷ 5 ∷ 4 ∷ []) false
unfolding g.condition spec.condition
condition_exact = cond_of_exact (g.unit 32) (spec.unit 32) unit_firsts (unit_exact 32) refl
