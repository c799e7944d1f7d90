-- Of what spells a formula each token can stand in one, and each field is one that the formula names.
use Rattle.std.proofs.Common.{◌≡◌, ℕ, zero, suc, Bool, true, false, ◌==◌, cond, List, [], ◌∷◌, ◌++◌, flat_map, Option, Some, None, unwrap_or, refl, ap, sym, subst, ◌∙◌, inl, inr}
use Rattle.std.specs.List.{AllByRecursion, list_all}
use Rattle.std.proofs.lemmas.List.Folds.{list_all-append}
use Rattle.base_grammar.specs.Part.{Part, one, both, either, as_value, of_kind}
use Rattle.base_grammar.specs.Part as part
use Rattle.formula.specs.Naming.{names, term_names}
use Rattle.formula.specs.declared.formula.Formula.{Formula}
use Rattle.formula.specs.declared.formula.Formula.TheVariants as formula
use Rattle.formula.specs.declared.formula.Relation.{Relation}
use Rattle.formula.specs.declared.formula.Term.{Term}
use Rattle.formula.specs.declared.formula.Term.TheVariants as term
use Rattle.formula.specs.grammar.Grammar.{Signs}
use Rattle.formula.specs.grammar.Grammar as g
use Rattle.formula.specs.grammar.Signs.{kind}
use Rattle.formula.specs.grammar.Terms.{field_token, if_suits, kind_of, len_in, measured_in, of_field, picklist_in, prior_in, relation_in, simple_in, suits, text_in, truth_in}
use Rattle.formula.specs.declared.grammar.sign.Sign.{Sign}
use Rattle.formula.specs.declared.grammar.sign.Sign.TheVariants as sign
use Rattle.formula.specs.declared.grammar.sign.Sort.TheVariants as sort
use Rattle.formula.specs.declared.grammar.sign.Kind.{Kind}
use Rattle.formula.specs.declared.grammar.sign.Kind.TheVariants as of
use Rattle.model_invariant.proofs.Truths as parts

-- a token that can stand in a formula, and is no field but one for which the test holds
abbrev pub known : (ℕ → Bool) → Sign → Bool
known q (sign.Field position sort) = q position
known q sign.Bad = false
known q _ = true

module _ {A : Type 0} (p : A → Bool) (xs ys : List A) where
  all_joined : list_all p xs ≡ true → list_all p ys ≡ true → list_all p (xs ++ ys) ≡ true
  all_joined a b = list_all-append p xs ys ∙ parts.both (list_all p xs) (list_all p ys) a b

  all_front : list_all p (xs ++ ys) ≡ true → list_all p xs ≡ true
  all_front h = parts.both_left (list_all p xs) (list_all p ys) (sym (list_all-append p xs ys) ∙ h)

  all_behind : list_all p (xs ++ ys) ≡ true → list_all p ys ≡ true
  all_behind h = parts.both_right (list_all p xs) (list_all p ys) (sym (list_all-append p xs ys) ∙ h)

-- ---- parts of any grammar
module _ (q : ℕ → Bool) where
  -- what spells a value of which this holds has known tokens
  abbrev pub Knows : {A : Type 0} → Signs A → (A → Type 0) → Type 0
  Knows {A = A} p N = (ts : List Sign) (a : A) → p.spells ts a → N a → list_all (known q) ts ≡ true

  abbrev Any : {A : Type 0} → A → Type 0
  Any a = Unit {0}

  one_knows : {A : Type 0} (value : Sign → Option A) (N : A → Type 0) → ((x : Sign) (a : A) → value x ≡ Some a → N a → known q x ≡ true) → Knows (one value) N
  one_knows value N h [] a s n = absurd s
  one_knows value N h (x ∷ []) a s n = parts.both (known q x) true (h x a s n) refl
  one_knows value N h (x ∷ y ∷ ts) a s n = absurd s

  either_knows : {A : Type 0} (p r : Signs A) (N : A → Type 0) → Knows p N → Knows r N → Knows (either p r) N
  either_knows p r N first second ts a (inl s) n = first ts a s n
  either_knows p r N first second ts a (inr s) n = second ts a s n

  both_knows : {A B : Type 0} (p : Signs A) (r : A → Signs B) (M : A → Type 0) (N : B → Type 0) → Knows p M → ((a : A) → Knows (r a) N)
      → Knows (both p r) (λ v. M v.0 × N v.1)
  both_knows p r M N first second ts v s n =
      subst (λ (z : List Sign). list_all (known q) z ≡ true) (sym s.2) (all_joined (known q) s.0 s.1 (first s.0 v.0 s.3 n.0) (second v.0 s.1 v.1 s.4 n.1))

  as_knows : {A B : Type 0} (f : A → B) (p : Signs A) (M : A → Type 0) (N : B → Type 0) → ((a : A) → N (f a) → M a) → Knows p M → Knows (as_value f p) N
  as_knows f p M N h within ts b s n = within ts s.0 s.1 (h s.0 (subst N s.2 n))

  any_knows : {A : Type 0} (p : Signs A) (N : A → Type 0) → Knows p N → Knows (part.any_number p) (λ xs. AllByRecursion N xs)
  any_knows p N each ts [] s n = subst (λ (z : List Sign). list_all (known q) z ≡ true) (sym s) refl
  any_knows p N each ts (a ∷ more) s n =
      subst (λ (z : List Sign). list_all (known q) z ≡ true) (sym s.2) (all_joined (known q) s.0 s.1 (each s.0 a s.3 n.0) (any_knows p N each s.1 more s.4 n.1))

  -- a token of a kind that is neither a field nor bad
  module _ (n : ℕ) (no_field : (10 == n) ≡ false) (good : (17 == n) ≡ false) where
    sign_knows : Knows (part.sign kind n) Any
    sign_knows = one_knows (of_kind kind n) Any all
      where
        other : (b : Bool) (a : Unit {0}) → b ≡ false → cond b (Some tt) None ≡ Some a → ⊥
        other true a e h = absurd cc
        other false a e h = absurd cc

        all : (x : Sign) (a : Unit {0}) → of_kind kind n x ≡ Some a → Any a → known q x ≡ true
        all (sign.Field position sort) a h u = absurd (other (10 == n) a no_field h)
        all sign.Bad a h u = absurd (other (17 == n) a good h)
        all _ a h u = refl

    after_knows : {A : Type 0} (p : Signs A) (N : A → Type 0) → Knows p N → Knows (part.after kind n p) N
    after_knows p N within =
        as_knows (λ v. v.1) (both (part.sign kind n) (λ _. p)) (λ v. Any v.0 × N v.1) N (λ v m. (tt, m)) (both_knows (part.sign kind n) (λ _. p) Any N sign_knows (λ _. within))

    before_knows : {A : Type 0} (p : Signs A) (N : A → Type 0) → Knows p N → Knows (part.before kind p n) N
    before_knows p N within =
        as_knows (λ v. v.0) (both p (λ _. part.sign kind n)) (λ v. N v.0 × Any v.1) N (λ v m. (m, tt)) (both_knows p (λ _. part.sign kind n) N Any within (λ _. sign_knows))

  in_parentheses_knows : {A : Type 0} (p : Signs A) (N : A → Type 0) → Knows p N → Knows (g.in_parentheses p) N
  in_parentheses_knows p N within = after_knows 14 refl refl (part.before kind p 15) N (before_knows 15 refl refl p N within)

  call_knows : {A : Type 0} (n : ℕ) → (10 == n) ≡ false → (17 == n) ≡ false → (p : Signs A) (N : A → Type 0) → Knows p N → Knows (part.after kind n (g.in_parentheses p)) N
  call_knows n no_field good p N within = after_knows n no_field good (g.in_parentheses p) N (in_parentheses_knows p N within)

  -- ---- terms and comparisons
  abbrev OfTerm : Term → Type 0
  OfTerm t = list_all q (term_names t) ≡ true

  abbrev OfField : ℕ → Type 0
  OfField position = q position ≡ true

  its_field : (position : ℕ) → list_all q (position ∷ []) ≡ true → OfField position
  its_field position h = parts.both_left (q position) true h

  suited : (wanted : Option Kind) (found : Kind) (x : Term) (v : Term × Kind) → if_suits wanted found x ≡ Some v → x ≡ v.0
  suited wanted found x v h = by (suits wanted found) h
    where
      by : (b : Bool) → cond b (Some (x, found)) None ≡ Some v → x ≡ v.0
      by true e = ap (λ (w : Option (Term × Kind)). (unwrap_or w v).0) e
      by false e = absurd cc

  of_field_is : (make : ℕ → Term) (position : ℕ) (wanted found : Option Kind) (v : Term × Kind) → of_field make position wanted found ≡ Some v → make position ≡ v.0
  of_field_is make position wanted None v h = absurd cc
  of_field_is make position wanted (Some found) v h = suited wanted found (make position) v h

  simple_knows : (wanted : Option Kind) → Knows (one (simple_in wanted)) (λ v. OfTerm v.0)
  simple_knows wanted = one_knows (simple_in wanted) (λ v. OfTerm v.0) all
    where
      all : (x : Sign) (a : Term × Kind) → simple_in wanted x ≡ Some a → OfTerm a.0 → known q x ≡ true
      all (sign.Field position sort) a h n = its_field position (ap (λ t. list_all q (term_names t)) (of_field_is term.Field position wanted (kind_of sort) a h) ∙ n)
      all (sign.Number count) a h n = refl
      all (sign.Text cs) a h n = refl
      all _ a h n = absurd (cc)

  prior_knows : (wanted : Option Kind) → Knows (one (prior_in wanted)) (λ v. OfTerm v.0)
  prior_knows wanted = one_knows (prior_in wanted) (λ v. OfTerm v.0) all
    where
      all : (x : Sign) (a : Term × Kind) → prior_in wanted x ≡ Some a → OfTerm a.0 → known q x ≡ true
      all (sign.Field position sort) a h n = its_field position (ap (λ t. list_all q (term_names t)) (of_field_is term.Prior position wanted (kind_of sort) a h) ∙ n)
      all _ a h n = absurd (cc)

  len_knows : (wanted : Option Kind) → Knows (one (len_in wanted)) Any
  len_knows wanted = one_knows (len_in wanted) Any all
    where
      all : (x : Sign) (a : Unit {0}) → len_in wanted x ≡ Some a → Any a → known q x ≡ true
      all sign.Len a h n = refl
      all _ a h n = absurd (cc)

  measured_knows : Knows (one measured_in) OfField
  measured_knows = one_knows measured_in OfField all
    where
      all : (x : Sign) (a : ℕ) → measured_in x ≡ Some a → OfField a → known q x ≡ true
      all (sign.Field position sort.Text) a h n = ap (λ (w : Option ℕ). q (unwrap_or w a)) h ∙ n
      all (sign.Field position sort.Picklist) a h n = ap (λ (w : Option ℕ). q (unwrap_or w a)) h ∙ n
      all _ a h n = absurd (cc)

  field_knows : Knows (one field_token) OfField
  field_knows = one_knows field_token OfField all
    where
      all : (x : Sign) (a : ℕ) → field_token x ≡ Some a → OfField a → known q x ≡ true
      all (sign.Field position sort) a h n = ap (λ (w : Option ℕ). q (unwrap_or w a)) h ∙ n
      all _ a h n = absurd (cc)

  picklist_knows : Knows (one picklist_in) OfField
  picklist_knows = one_knows picklist_in OfField all
    where
      all : (x : Sign) (a : ℕ) → picklist_in x ≡ Some a → OfField a → known q x ≡ true
      all (sign.Field position sort.Picklist) a h n = ap (λ (w : Option ℕ). q (unwrap_or w a)) h ∙ n
      all _ a h n = absurd (cc)

  truth_knows : Knows (one truth_in) Any
  truth_knows = one_knows truth_in Any all
    where
      all : (x : Sign) (a : Bool) → truth_in x ≡ Some a → Any a → known q x ≡ true
      all (sign.Truth truth) a h n = refl
      all _ a h n = absurd (cc)

  text_knows : Knows (one text_in) Any
  text_knows = one_knows text_in Any all
    where
      all : (x : Sign) (a : List ℕ) → text_in x ≡ Some a → Any a → known q x ≡ true
      all (sign.Text cs) a h n = refl
      all _ a h n = absurd (cc)

  relation_knows : Knows (one relation_in) Any
  relation_knows = one_knows relation_in Any all
    where
      all : (x : Sign) (a : Relation) → relation_in x ≡ Some a → Any a → known q x ≡ true
      all (sign.Relation relation) a h n = refl
      all _ a h n = absurd (cc)

  length_knows : (wanted : Option Kind) → Knows (g.length_term wanted) (λ v. OfTerm v.0)
  length_knows wanted =
      as_knows (λ v. (term.Len v.1, of.Number)) (both (one (len_in wanted)) (λ _. g.in_parentheses (one measured_in))) (λ v. Any v.0 × OfField v.1) (λ v. OfTerm v.0)
      (λ v n. (tt, its_field v.1 n))
      (both_knows (one (len_in wanted)) (λ _. g.in_parentheses (one measured_in)) Any OfField (len_knows wanted) (λ _. in_parentheses_knows (one measured_in) OfField measured_knows))

  term_knows : (wanted : Option Kind) → Knows (g.term_of wanted) (λ v. OfTerm v.0)
  term_knows wanted =
      let prior = part.after kind 9 (g.in_parentheses (one (prior_in wanted))) in
      either_knows (one (simple_in wanted)) (either (g.length_term wanted) prior) (λ v. OfTerm v.0) (simple_knows wanted)
      (either_knows (g.length_term wanted) prior (λ v. OfTerm v.0) (length_knows wanted)
      (call_knows 9 refl refl (one (prior_in wanted)) (λ v. OfTerm v.0) (prior_knows wanted)))

  ending_knows : (left : Term × Kind) → Knows (g.ending left) (λ v. OfTerm v.1)
  ending_knows left =
      as_knows (λ v. (v.0, v.1.0)) (both (one relation_in) (λ _. g.term_of (Some left.1))) (λ v. Any v.0 × OfTerm v.1.0) (λ v. OfTerm v.1) (λ v n. (tt, n))
      (both_knows (one relation_in) (λ _. g.term_of (Some left.1)) Any (λ v. OfTerm v.0) relation_knows (λ _. term_knows (Some left.1)))

  -- ---- formulas
  abbrev pub OfFormula : Formula → Type 0
  OfFormula f = list_all q (names f) ≡ true

  comparison_knows : Knows g.comparison OfFormula
  comparison_knows =
      as_knows (λ v. formula.Compare v.0.0 v.1.0 v.1.1) (both (g.term_of None) g.ending) (λ v. OfTerm v.0.0 × OfTerm v.1.1) OfFormula
      (λ v n. (all_front q (term_names v.0.0) (term_names v.1.1) n, all_behind q (term_names v.0.0) (term_names v.1.1) n))
      (both_knows (g.term_of None) g.ending (λ v. OfTerm v.0) (λ v. OfTerm v.1) (term_knows None) ending_knows)

  abbrev truth : Signs Formula
  truth = as_value formula.Const (one truth_in)

  abbrev is_new : Signs Formula
  is_new = as_value (λ _. formula.IsNew) (part.after kind 1 (part.after kind 14 (part.sign kind 15)))

  abbrev is_blank : Signs Formula
  is_blank = as_value formula.IsBlank (part.after kind 5 (g.in_parentheses (one field_token)))

  abbrev is_changed : Signs Formula
  is_changed = as_value formula.IsChanged (part.after kind 6 (g.in_parentheses (one field_token)))

  abbrev choice : Signs (ℕ × List ℕ)
  choice = both (one picklist_in) (λ _. part.after kind 16 (one text_in))

  abbrev is_pickval : Signs Formula
  is_pickval = as_value (λ v. formula.IsPickval v.0 v.1) (part.after kind 7 (g.in_parentheses choice))

  choice_knows : Knows choice (λ v. OfField v.0 × Any v.1)
  choice_knows = both_knows (one picklist_in) (λ _. part.after kind 16 (one text_in)) OfField Any picklist_knows (λ _. after_knows 16 refl refl (one text_in) Any text_knows)

  plain_knows : Knows g.plain OfFormula
  plain_knows =
      either_knows truth (either is_new (either is_blank (either is_changed (either is_pickval g.comparison)))) OfFormula
      (as_knows formula.Const (one truth_in) Any OfFormula (λ v n. tt) truth_knows)
      (either_knows is_new (either is_blank (either is_changed (either is_pickval g.comparison))) OfFormula
      (as_knows (λ _. formula.IsNew) (part.after kind 1 (part.after kind 14 (part.sign kind 15))) Any OfFormula (λ v n. tt)
      (after_knows 1 refl refl (part.after kind 14 (part.sign kind 15)) Any (after_knows 14 refl refl (part.sign kind 15) Any (sign_knows 15 refl refl))))
      (either_knows is_blank (either is_changed (either is_pickval g.comparison)) OfFormula
      (as_knows formula.IsBlank (part.after kind 5 (g.in_parentheses (one field_token))) OfField OfFormula its_field (call_knows 5 refl refl (one field_token) OfField field_knows))
      (either_knows is_changed (either is_pickval g.comparison) OfFormula
      (as_knows formula.IsChanged (part.after kind 6 (g.in_parentheses (one field_token))) OfField OfFormula its_field (call_knows 6 refl refl (one field_token) OfField field_knows))
      (either_knows is_pickval g.comparison OfFormula
      (as_knows (λ v. formula.IsPickval v.0 v.1) (part.after kind 7 (g.in_parentheses choice)) (λ v. OfField v.0 × Any v.1) OfFormula (λ v n. (its_field v.0 n, tt))
      (call_knows 7 refl refl choice (λ v. OfField v.0 × Any v.1) choice_knows))
      comparison_knows))))

  -- what the formulas of a list name, and what each names
  each_known : (fs : List Formula) → list_all q (flat_map names fs) ≡ true → AllByRecursion OfFormula fs
  each_known [] h = tt
  each_known (f ∷ fs) h = (all_front q (names f) (flat_map names fs) h, each_known fs (all_behind q (names f) (flat_map names fs) h))

  module _ (within_not : (f : Formula) → names (formula.Not f) ≡ names f) (within_and : (fs : List Formula) → names (formula.And fs) ≡ flat_map names fs)
      (within_or : (fs : List Formula) → names (formula.Or fs) ≡ flat_map names fs) where
    module _ (within : Signs Formula) (know : Knows within OfFormula) where
      abbrev negation : Signs Formula
      negation = as_value formula.Not (part.after kind 2 (g.in_parentheses within))

      abbrev conjunction : Signs Formula
      conjunction = as_value formula.And (part.after kind 3 (g.in_parentheses (g.formulas within)))

      abbrev disjunction : Signs Formula
      disjunction = as_value formula.Or (part.after kind 4 (g.in_parentheses (g.formulas within)))

      formulas_know : Knows (g.formulas within) (λ fs. AllByRecursion OfFormula fs)
      formulas_know =
          let more = part.any_number (part.after kind 16 within) in
          as_knows (λ v. v.0 ∷ v.1) (both within (λ _. more)) (λ v. OfFormula v.0 × AllByRecursion OfFormula v.1) (λ fs. AllByRecursion OfFormula fs) (λ v n. (n.0, n.1))
          (both_knows within (λ _. more) OfFormula (λ fs. AllByRecursion OfFormula fs) know (λ _. any_knows (part.after kind 16 within) OfFormula (after_knows 16 refl refl within OfFormula know)))

      over_knows : Knows (g.formula_over within) OfFormula
      over_knows =
          either_knows negation (either conjunction (either disjunction g.plain)) OfFormula
          (as_knows formula.Not (part.after kind 2 (g.in_parentheses within)) OfFormula OfFormula (λ f n. ap (λ ps. list_all q ps) (sym (within_not f)) ∙ n) (call_knows 2 refl refl within OfFormula know))
          (either_knows conjunction (either disjunction g.plain) OfFormula
          (as_knows formula.And (part.after kind 3 (g.in_parentheses (g.formulas within))) (λ fs. AllByRecursion OfFormula fs) OfFormula
          (λ fs n. each_known fs (ap (λ ps. list_all q ps) (sym (within_and fs)) ∙ n)) (call_knows 3 refl refl (g.formulas within) (λ fs. AllByRecursion OfFormula fs) formulas_know))
          (either_knows disjunction g.plain OfFormula
          (as_knows formula.Or (part.after kind 4 (g.in_parentheses (g.formulas within))) (λ fs. AllByRecursion OfFormula fs) OfFormula
          (λ fs n. each_known fs (ap (λ ps. list_all q ps) (sym (within_or fs)) ∙ n)) (call_knows 4 refl refl (g.formulas within) (λ fs. AllByRecursion OfFormula fs) formulas_know))
          plain_knows))

    nested_knows : (levels : ℕ) → Knows (g.nested levels) OfFormula
    unfolding g.nested
    nested_knows zero = plain_knows
    nested_knows (suc levels) = over_knows (g.nested levels) (nested_knows levels)

    pub whole_knows : Knows g.whole OfFormula
    unfolding g.whole
    whole_knows = nested_knows 32
