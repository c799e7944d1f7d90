-- Each function that reads is exact for its part of the grammar.
use Rattle.std.proofs.Common.{◌≡◌, ℕ, zero, suc, Bool, true, false, ◌==◌, List, [], ◌∷◌, Option, Some, None, refl}
use Rattle.std.proofs.lemmas.Bool.{or_right}
use Rattle.base_grammar.specs.Part.{Part, one, both, either, as_value}
use Rattle.base_grammar.specs.Part as part
use Rattle.base_grammar.specs.Reader.{Reader, read_one, read_either, elem}
use Rattle.base_grammar.specs.Reader as reader
use Rattle.base_grammar.specs.Exact.{Exact}
use Rattle.base_grammar.proofs.Sets.{disjoint}
use Rattle.base_grammar.proofs.Exact.{one_exact, as_exact, both_exact, either_exact}
use Rattle.base_grammar.proofs.Pairs.{after_exact, before_exact, sign_exact, pair_exact, pair_exact_0, any_exact, wider_first}
use Rattle.formula.specs.declared.formula.Formula.{Formula}
use Rattle.formula.specs.declared.formula.Formula.TheVariants as formula
use Rattle.formula.specs.declared.formula.Relation.{Relation}
use Rattle.formula.specs.declared.formula.Term.{Term}
use Rattle.formula.specs.declared.formula.Term.TheVariants as term
use Rattle.formula.specs.grammar.Grammar as g
use Rattle.formula.specs.grammar.Terms.{truth_in, field_token, picklist_in, text_in, relation_in, measured_in, simple_in, len_in, prior_in}
use Rattle.formula.specs.grammar.Reading as spec
use Rattle.formula.specs.grammar.Signs.{kind}
use Rattle.formula.specs.declared.grammar.sign.Sign.{Sign}
use Rattle.formula.specs.declared.grammar.sign.Sign.TheVariants as sign
use Rattle.formula.specs.declared.grammar.sign.Kind.{Kind}
use Rattle.formula.specs.declared.grammar.sign.Kind.TheVariants as of

-- ---- single tokens
field_exact : Exact kind (one field_token) spec.field (10 ∷ []) [] false
unfolding spec.field
field_exact = one_exact kind field_token (10 ∷ []) all
  where
    all : (x : Sign) (a : ℕ) → field_token x ≡ Some a → elem (kind x) (10 ∷ []) ≡ true
    all (sign.Field position sort) a h = refl
    all _ a h = absurd (cc)

picklist_exact : Exact kind (one picklist_in) spec.picklist (10 ∷ []) [] false
unfolding spec.picklist
picklist_exact = one_exact kind picklist_in (10 ∷ []) all
  where
    all : (x : Sign) (a : ℕ) → picklist_in x ≡ Some a → elem (kind x) (10 ∷ []) ≡ true
    all (sign.Field position sort) a h = refl
    all _ a h = absurd (cc)

measured_exact : Exact kind (one measured_in) spec.measured (10 ∷ []) [] false
unfolding spec.measured
measured_exact = one_exact kind measured_in (10 ∷ []) all
  where
    all : (x : Sign) (a : ℕ) → measured_in x ≡ Some a → elem (kind x) (10 ∷ []) ≡ true
    all (sign.Field position sort) a h = refl
    all _ a h = absurd (cc)

text_exact : Exact kind (one text_in) spec.text (12 ∷ []) [] false
unfolding spec.text
text_exact = one_exact kind text_in (12 ∷ []) all
  where
    all : (x : Sign) (a : List ℕ) → text_in x ≡ Some a → elem (kind x) (12 ∷ []) ≡ true
    all (sign.Text cs) a h = refl
    all _ a h = absurd (cc)

relation_exact : Exact kind (one relation_in) spec.relation (13 ∷ []) [] false
unfolding spec.relation
relation_exact = one_exact kind relation_in (13 ∷ []) all
  where
    all : (x : Sign) (a : Relation) → relation_in x ≡ Some a → elem (kind x) (13 ∷ []) ≡ true
    all (sign.Relation relation) a h = refl
    all _ a h = absurd (cc)

simple_exact : (wanted : Option Kind) → Exact kind (one (simple_in wanted)) (spec.simple wanted) (10 ∷ 11 ∷ 12 ∷ []) [] false
unfolding spec.simple
simple_exact wanted = one_exact kind (simple_in wanted) (10 ∷ 11 ∷ 12 ∷ []) all
  where
    all : (x : Sign) (a : Term × Kind) → simple_in wanted x ≡ Some a → elem (kind x) (10 ∷ 11 ∷ 12 ∷ []) ≡ true
    all (sign.Field position sort) a h = refl
    all (sign.Number count) a h = refl
    all (sign.Text cs) a h = refl
    all _ a h = absurd (cc)

len_word_exact : (wanted : Option Kind) → Exact kind (one (len_in wanted)) (spec.len_word wanted) (8 ∷ []) [] false
unfolding spec.len_word
len_word_exact wanted = one_exact kind (len_in wanted) (8 ∷ []) all
  where
    all : (x : Sign) (a : Unit {0}) → len_in wanted x ≡ Some a → elem (kind x) (8 ∷ []) ≡ true
    all sign.Len a h = refl
    all _ a h = absurd (cc)

prior_field_exact : (wanted : Option Kind) → Exact kind (one (prior_in wanted)) (spec.prior_field wanted) (10 ∷ []) [] false
unfolding spec.prior_field
prior_field_exact wanted = one_exact kind (prior_in wanted) (10 ∷ []) all
  where
    all : (x : Sign) (a : Term × Kind) → prior_in wanted x ≡ Some a → elem (kind x) (10 ∷ []) ≡ true
    all (sign.Field position sort) a h = refl
    all _ a h = absurd (cc)

truth_exact : Exact kind (as_value formula.Const (one truth_in)) spec.truth (0 ∷ []) [] false
unfolding spec.truth
truth_exact = as_exact kind formula.Const (one truth_in) (read_one truth_in) (0 ∷ []) [] false (one_exact kind truth_in (0 ∷ []) all)
  where
    all : (x : Sign) (a : Bool) → truth_in x ≡ Some a → elem (kind x) (0 ∷ []) ≡ true
    all (sign.Truth truth) a h = refl
    all _ a h = absurd (cc)

-- ---- parentheses
in_parentheses_exact : {A : Type 0} (p : Part Sign A) (read : Reader Sign A) (first goes : List ℕ) → Exact kind p read first goes false
    → disjoint goes (15 ∷ []) ≡ true → Exact kind (g.in_parentheses p) (spec.in_parentheses read) (14 ∷ []) [] false
in_parentheses_exact p read first goes e apart =
    after_exact kind 14 (part.before kind p 15) (reader.before kind read 15) first [] (before_exact kind 15 p read first goes e apart)

call_exact : {A : Type 0} (word : Sign) (p : Part Sign A) (read : Reader Sign A) (first goes : List ℕ) → Exact kind p read first goes false
    → disjoint goes (15 ∷ []) ≡ true → Exact kind (g.call word p) (spec.call (kind word) read) (kind word ∷ []) [] false
call_exact word p read first goes e apart =
    after_exact kind (kind word) (g.in_parentheses p) (spec.in_parentheses read) (14 ∷ []) [] (in_parentheses_exact p read first goes e apart)

-- ---- terms and comparisons
length_term_exact : (wanted : Option Kind) → Exact kind (g.length_term wanted) (spec.length_term wanted) (8 ∷ []) [] false
unfolding spec.length_term
length_term_exact wanted =
    pair_exact kind (λ _ position. (term.Len position, of.Number)) (one (len_in wanted)) (spec.len_word wanted) (8 ∷ []) []
    (λ _. g.in_parentheses (one measured_in)) (λ _. spec.in_parentheses spec.measured) (14 ∷ []) [] (len_word_exact wanted)
    (λ _. in_parentheses_exact (one measured_in) spec.measured (10 ∷ []) [] measured_exact refl) refl

prior_term_exact : (wanted : Option Kind) → Exact kind (g.call sign.Prior (one (prior_in wanted))) (spec.prior_term wanted) (9 ∷ []) [] false
unfolding spec.prior_term
prior_term_exact wanted = call_exact sign.Prior (one (prior_in wanted)) (spec.prior_field wanted) (10 ∷ []) [] (prior_field_exact wanted) refl

term_exact : (wanted : Option Kind) → Exact kind (g.term_of wanted) (spec.term_of wanted) (10 ∷ 11 ∷ 12 ∷ 8 ∷ 9 ∷ []) [] false
unfolding spec.term_of
term_exact wanted =
    either_exact kind _ _ (spec.simple wanted) (read_either kind (8 ∷ []) (spec.length_term wanted) (spec.prior_term wanted)) (10 ∷ 11 ∷ 12 ∷ []) [] (8 ∷ 9 ∷ []) [] false (simple_exact wanted)
    (either_exact kind _ _ (spec.length_term wanted) (spec.prior_term wanted) (8 ∷ []) [] (9 ∷ []) [] false (length_term_exact wanted) (prior_term_exact wanted) refl) refl

ending_exact : (left : Term × Kind) → Exact kind (g.ending left) (spec.ending left) (13 ∷ []) [] false
unfolding spec.ending
ending_exact left =
    pair_exact kind (λ relation right. (relation, right.0)) (one relation_in) spec.relation (13 ∷ []) [] (λ _. g.term_of (Some left.1)) (λ _. spec.term_of (Some left.1))
    (10 ∷ 11 ∷ 12 ∷ 8 ∷ 9 ∷ []) [] relation_exact (λ _. term_exact (Some left.1)) refl

comparison_exact : Exact kind g.comparison spec.comparison (10 ∷ 11 ∷ 12 ∷ 8 ∷ 9 ∷ []) [] false
unfolding spec.comparison
comparison_exact =
    pair_exact kind (λ left end. formula.Compare left.0 end.0 end.1) (g.term_of None) (spec.term_of None) (10 ∷ 11 ∷ 12 ∷ 8 ∷ 9 ∷ []) [] g.ending spec.ending
    (13 ∷ []) [] (term_exact None) ending_exact refl

-- ---- formulas
is_new_exact : Exact kind (as_value (λ _. formula.IsNew) (part.after kind 1 (part.after kind 14 (part.sign kind 15)))) spec.is_new (1 ∷ []) [] false
unfolding spec.is_new
is_new_exact =
    as_exact kind (λ _. formula.IsNew) (part.after kind 1 (part.after kind 14 (part.sign kind 15))) (reader.after kind 1 (reader.after kind 14 (reader.sign kind 15))) (1 ∷ []) [] false
    (after_exact kind 1 (part.after kind 14 (part.sign kind 15)) (reader.after kind 14 (reader.sign kind 15)) (14 ∷ []) []
    (after_exact kind 14 (part.sign kind 15) (reader.sign kind 15) (15 ∷ []) [] (sign_exact kind 15)))

is_blank_exact : Exact kind (as_value formula.IsBlank (g.call sign.IsBlank (one field_token))) spec.is_blank (5 ∷ []) [] false
unfolding spec.is_blank
is_blank_exact =
    as_exact kind formula.IsBlank (g.call sign.IsBlank (one field_token)) (spec.call 5 spec.field) (5 ∷ []) [] false (call_exact sign.IsBlank (one field_token) spec.field (10 ∷ []) [] field_exact refl)

is_changed_exact : Exact kind (as_value formula.IsChanged (g.call sign.IsChanged (one field_token))) spec.is_changed (6 ∷ []) [] false
unfolding spec.is_changed
is_changed_exact =
    as_exact kind formula.IsChanged (g.call sign.IsChanged (one field_token)) (spec.call 6 spec.field) (6 ∷ []) [] false (call_exact sign.IsChanged (one field_token) spec.field (10 ∷ []) [] field_exact refl)

choice_exact : Exact kind (both (one picklist_in) (λ _. part.after kind 16 (one text_in))) spec.choice (10 ∷ []) [] false
unfolding spec.choice
choice_exact =
    both_exact kind (one picklist_in) spec.picklist (10 ∷ []) [] false (λ _. part.after kind 16 (one text_in)) (λ _. reader.after kind 16 spec.text) (16 ∷ []) [] false
    picklist_exact (λ _. after_exact kind 16 (one text_in) spec.text (12 ∷ []) [] text_exact) refl

is_pickval_exact : Exact kind (as_value (λ v. formula.IsPickval v.0 v.1) (g.call sign.IsPickval (both (one picklist_in) (λ _. part.after kind 16 (one text_in))))) spec.is_pickval (7 ∷ []) [] false
unfolding spec.is_pickval
is_pickval_exact =
    as_exact kind (λ v. formula.IsPickval v.0 v.1) (g.call sign.IsPickval (both (one picklist_in) (λ _. part.after kind 16 (one text_in)))) (spec.call 7 spec.choice) (7 ∷ []) [] false
    (call_exact sign.IsPickval (both (one picklist_in) (λ _. part.after kind 16 (one text_in))) spec.choice (10 ∷ []) [] choice_exact refl)

plain_exact : Exact kind g.plain spec.plain (0 ∷ 1 ∷ 5 ∷ 6 ∷ 7 ∷ 10 ∷ 11 ∷ 12 ∷ 8 ∷ 9 ∷ []) [] false
unfolding spec.plain spec.of_fields
plain_exact =
    either_exact kind _ _ spec.truth (read_either kind (1 ∷ []) spec.is_new spec.of_fields) (0 ∷ []) [] (1 ∷ 5 ∷ 6 ∷ 7 ∷ 10 ∷ 11 ∷ 12 ∷ 8 ∷ 9 ∷ []) [] false truth_exact
    (either_exact kind _ _ spec.is_new spec.of_fields (1 ∷ []) [] (5 ∷ 6 ∷ 7 ∷ 10 ∷ 11 ∷ 12 ∷ 8 ∷ 9 ∷ []) [] false is_new_exact
    (either_exact kind _ _ spec.is_blank (read_either kind (6 ∷ []) spec.is_changed (read_either kind (7 ∷ []) spec.is_pickval spec.comparison))
    (5 ∷ []) [] (6 ∷ 7 ∷ 10 ∷ 11 ∷ 12 ∷ 8 ∷ 9 ∷ []) [] false is_blank_exact
    (either_exact kind _ _ spec.is_changed (read_either kind (7 ∷ []) spec.is_pickval spec.comparison) (6 ∷ []) [] (7 ∷ 10 ∷ 11 ∷ 12 ∷ 8 ∷ 9 ∷ []) [] false is_changed_exact
    (either_exact kind _ _ spec.is_pickval spec.comparison (7 ∷ []) [] (10 ∷ 11 ∷ 12 ∷ 8 ∷ 9 ∷ []) [] false is_pickval_exact comparison_exact refl) refl) refl) refl) refl

-- over what reads the formulas within
module _ (p : Part Sign Formula) (within : Reader Sign Formula) (first : List ℕ) (e : Exact kind p within first [] false) where
  more_formulas_exact : Exact kind (part.any_number (part.after kind 16 p)) (spec.more_formulas within) (16 ∷ []) (16 ∷ []) true
  unfolding spec.more_formulas
  more_formulas_exact = any_exact kind (part.after kind 16 p) (reader.after kind 16 within) (16 ∷ []) [] (after_exact kind 16 p within first [] e) refl

  formulas_exact : Exact kind (g.formulas p) (spec.formulas within) first (16 ∷ []) false
  unfolding spec.formulas
  formulas_exact =
      pair_exact_0 kind (λ x xs. x ∷ xs) p within first [] (λ _. part.any_number (part.after kind 16 p)) (λ _. spec.more_formulas within) (16 ∷ []) (16 ∷ []) e
      (λ _. more_formulas_exact) refl

  negation_exact : Exact kind (as_value formula.Not (g.call sign.Not p)) (spec.negation within) (2 ∷ []) [] false
  unfolding spec.negation
  negation_exact = as_exact kind formula.Not (g.call sign.Not p) (spec.call 2 within) (2 ∷ []) [] false (call_exact sign.Not p within first [] e refl)

  conjunction_exact : Exact kind (as_value formula.And (g.call sign.And (g.formulas p))) (spec.conjunction within) (3 ∷ []) [] false
  unfolding spec.conjunction
  conjunction_exact =
      as_exact kind formula.And (g.call sign.And (g.formulas p)) (spec.call 3 (spec.formulas within)) (3 ∷ []) [] false
      (call_exact sign.And (g.formulas p) (spec.formulas within) first (16 ∷ []) formulas_exact refl)

  disjunction_exact : Exact kind (as_value formula.Or (g.call sign.Or (g.formulas p))) (spec.disjunction within) (4 ∷ []) [] false
  unfolding spec.disjunction
  disjunction_exact =
      as_exact kind formula.Or (g.call sign.Or (g.formulas p)) (spec.call 4 (spec.formulas within)) (4 ∷ []) [] false
      (call_exact sign.Or (g.formulas p) (spec.formulas within) first (16 ∷ []) formulas_exact refl)

  formula_over_exact : Exact kind (g.formula_over p) (spec.formula_over within) (2 ∷ 3 ∷ 4 ∷ 0 ∷ 1 ∷ 5 ∷ 6 ∷ 7 ∷ 10 ∷ 11 ∷ 12 ∷ 8 ∷ 9 ∷ []) [] false
  unfolding spec.formula_over
  formula_over_exact =
      either_exact kind _ _ (spec.negation within) (read_either kind (3 ∷ []) (spec.conjunction within) (read_either kind (4 ∷ []) (spec.disjunction within) spec.plain))
      (2 ∷ []) [] (3 ∷ 4 ∷ 0 ∷ 1 ∷ 5 ∷ 6 ∷ 7 ∷ 10 ∷ 11 ∷ 12 ∷ 8 ∷ 9 ∷ []) [] false negation_exact
      (either_exact kind _ _ (spec.conjunction within) (read_either kind (4 ∷ []) (spec.disjunction within) spec.plain)
      (3 ∷ []) [] (4 ∷ 0 ∷ 1 ∷ 5 ∷ 6 ∷ 7 ∷ 10 ∷ 11 ∷ 12 ∷ 8 ∷ 9 ∷ []) [] false conjunction_exact
      (either_exact kind _ _ (spec.disjunction within) spec.plain (4 ∷ []) [] (0 ∷ 1 ∷ 5 ∷ 6 ∷ 7 ∷ 10 ∷ 11 ∷ 12 ∷ 8 ∷ 9 ∷ []) [] false disjunction_exact plain_exact refl) refl) refl

-- the kinds with which a formula begins
abbrev pub firsts : List ℕ
firsts = 2 ∷ 3 ∷ 4 ∷ 0 ∷ 1 ∷ 5 ∷ 6 ∷ 7 ∷ 10 ∷ 11 ∷ 12 ∷ 8 ∷ 9 ∷ []

pub nested_exact : (levels : ℕ) → Exact kind (g.nested levels) (spec.nested levels) firsts [] false
unfolding g.nested spec.nested
nested_exact zero = wider_first kind firsts (λ k h. or_right (k == 2) _ (or_right (k == 3) _ (or_right (k == 4) _ h))) plain_exact
nested_exact (suc levels) = formula_over_exact (g.nested levels) (spec.nested levels) firsts (nested_exact levels)

pub whole_exact : Exact kind g.whole spec.whole firsts [] false
unfolding g.whole spec.whole
whole_exact = nested_exact 32
