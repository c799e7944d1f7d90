-- Reading of formulas, by a function on what the grammar sees of tokens, one for each part of the grammar.
use Rattle.std.specs.Prelude.{ℕ, zero, suc, List, [], ◌∷◌, Option, Some, None, Ok}
use Rattle.base_grammar.specs.Reader.{Reader, ◌>>=◌, read_one, read_either, with_front}
use Rattle.base_grammar.specs.Reader as reader
use Rattle.formula.specs.declared.formula.Formula.{Formula}
use Rattle.formula.specs.declared.formula.Formula.TheVariants as formula
use Rattle.formula.specs.declared.formula.Relation.{Relation}
use Rattle.formula.specs.declared.formula.Term.{Term}
use Rattle.formula.specs.declared.formula.Term.TheVariants as term
use Rattle.formula.specs.grammar.Terms.{truth_in, field_token, picklist_in, text_in, relation_in, measured_in, simple_in, len_in, prior_in}
use Rattle.formula.specs.grammar.Signs.{kind}
use Rattle.formula.specs.declared.grammar.sign.Sign.{Sign}
use Rattle.formula.specs.declared.grammar.sign.Kind.{Kind}
use Rattle.formula.specs.declared.grammar.sign.Kind.TheVariants as of

abbrev pub Reads : Type 0 → Type 0
Reads A = Reader Sign A

-- ---- single tokens
unfoldable pub field : Reads ℕ
field = read_one field_token

unfoldable pub picklist : Reads ℕ
picklist = read_one picklist_in

unfoldable pub text : Reads (List ℕ)
text = read_one text_in

unfoldable pub relation : Reads Relation
relation = read_one relation_in

unfoldable pub measured : Reads ℕ
measured = read_one measured_in

unfoldable pub simple : Option Kind → Reads (Term × Kind)
simple wanted = read_one (simple_in wanted)

unfoldable pub len_word : Option Kind → Reads (Unit {0})
len_word wanted = read_one (len_in wanted)

unfoldable pub prior_field : Option Kind → Reads (Term × Kind)
prior_field wanted = read_one (prior_in wanted)

-- ---- terms and comparisons
abbrev pub in_parentheses : {A : Type 0} → Reads A → Reads A
in_parentheses p = reader.after kind 14 (reader.before kind p 15)

abbrev pub call : {A : Type 0} → ℕ → Reads A → Reads A
call word p = reader.after kind word (in_parentheses p)

unfoldable pub length_term : Option Kind → Reads (Term × Kind)
length_term wanted ts = len_word wanted ts >>= λ a. in_parentheses measured a.1 >>= λ p. Ok ((term.Len p.0, of.Number), p.1)

unfoldable pub prior_term : Option Kind → Reads (Term × Kind)
prior_term wanted = call 9 (prior_field wanted)

unfoldable pub term_of : Option Kind → Reads (Term × Kind)
term_of wanted = read_either kind (10 ∷ 11 ∷ 12 ∷ []) (simple wanted) (read_either kind (8 ∷ []) (length_term wanted) (prior_term wanted))

unfoldable pub ending : Term × Kind → Reads (Relation × Term)
ending left ts = relation ts >>= λ r. term_of (Some left.1) r.1 >>= λ right. Ok ((r.0, right.0.0), right.1)

unfoldable pub comparison : Reads Formula
comparison ts = term_of None ts >>= λ left. ending left.0 left.1 >>= λ end. Ok (formula.Compare left.0.0 end.0.0 end.0.1, end.1)

-- ---- formulas
unfoldable pub truth : Reads Formula
truth ts = read_one truth_in ts >>= λ got. Ok (formula.Const got.0, got.1)

unfoldable pub is_new : Reads Formula
is_new ts = reader.after kind 1 (reader.after kind 14 (reader.sign kind 15)) ts >>= λ got. Ok (formula.IsNew, got.1)

unfoldable pub is_blank : Reads Formula
is_blank ts = call 5 field ts >>= λ got. Ok (formula.IsBlank got.0, got.1)

unfoldable pub is_changed : Reads Formula
is_changed ts = call 6 field ts >>= λ got. Ok (formula.IsChanged got.0, got.1)

unfoldable pub choice : Reads (ℕ × List ℕ)
choice ts = picklist ts >>= λ p. reader.after kind 16 text p.1 >>= λ cs. Ok ((p.0, cs.0), cs.1)

unfoldable pub is_pickval : Reads Formula
is_pickval ts = call 7 choice ts >>= λ got. Ok (formula.IsPickval got.0.0 got.0.1, got.1)

unfoldable pub of_fields : Reads Formula
of_fields = read_either kind (5 ∷ []) is_blank (read_either kind (6 ∷ []) is_changed (read_either kind (7 ∷ []) is_pickval comparison))

unfoldable pub plain : Reads Formula
plain = read_either kind (0 ∷ []) truth (read_either kind (1 ∷ []) is_new of_fields)

module _ (within : Reads Formula) where
  -- the formulas behind the first
  unfoldable pub more_formulas : Reads (List Formula)
  more_formulas = reader.any_number kind (16 ∷ []) (reader.after kind 16 within)

  unfoldable pub formulas : Reads (List Formula)
  formulas ts = within ts >>= λ got. with_front (got.0 ∷ []) (more_formulas got.1)

  unfoldable pub negation : Reads Formula
  negation ts = call 2 within ts >>= λ got. Ok (formula.Not got.0, got.1)

  unfoldable pub conjunction : Reads Formula
  conjunction ts = call 3 formulas ts >>= λ got. Ok (formula.And got.0, got.1)

  unfoldable pub disjunction : Reads Formula
  disjunction ts = call 4 formulas ts >>= λ got. Ok (formula.Or got.0, got.1)

  unfoldable pub formula_over : Reads Formula
  formula_over =
      read_either kind (2 ∷ []) negation (read_either kind (3 ∷ []) conjunction (read_either kind (4 ∷ []) disjunction plain))

unfoldable pub nested : ℕ → Reads Formula
nested zero = plain
nested (suc levels) = formula_over (nested levels)

unfoldable pub whole : Reads Formula
whole = nested 32
