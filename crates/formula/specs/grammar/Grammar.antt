-- The grammar of formulas, over what it sees of tokens. The kinds of tokens are numbered by `kind`.
-- Source: Salesforce, "Formula Operators and Functions". How deep formulas nest is this product's own.
use Rattle.std.specs.Prelude.{ℕ, zero, suc, List, ◌∷◌, Option, Some, None}
use Rattle.base_grammar.specs.Part.{Part, one, both, either, as_value}
use Rattle.base_grammar.specs.Part as part
use Rattle.formula.specs.declared.formula.Formula.{Formula}
use Rattle.formula.specs.declared.formula.Formula.TheVariants as formula
use Rattle.formula.specs.declared.formula.Relation.{Relation}
use Rattle.formula.specs.declared.formula.Term.{Term}
use Rattle.formula.specs.declared.formula.Term.TheVariants as term
use Rattle.formula.specs.grammar.Signs.{kind}
use Rattle.formula.specs.grammar.Terms.{truth_in, field_token, picklist_in, text_in, relation_in, measured_in, simple_in, len_in, prior_in}
use Rattle.formula.specs.declared.grammar.sign.Sign.{Sign}
use Rattle.formula.specs.declared.grammar.sign.Sign.TheVariants as sign
use Rattle.formula.specs.declared.grammar.sign.Kind.{Kind}
use Rattle.formula.specs.declared.grammar.sign.Kind.TheVariants as of

abbrev pub Signs : Type 0 → Type 1
Signs A = Part Sign A

-- ---- terms and comparisons
-- a token without a value
abbrev pub just : Sign → Signs (Unit {0})
just token = part.sign kind (kind token)

-- a part behind such a token, and one before it
abbrev pub after : {A : Type 0} → Sign → Signs A → Signs A
after token p = part.after kind (kind token) p

abbrev pub before : {A : Type 0} → Signs A → Sign → Signs A
before p token = part.before kind p (kind token)

-- in parentheses
abbrev pub in_parentheses : {A : Type 0} → Signs A → Signs A
in_parentheses p = after sign.Open (before p sign.Close)

-- in parentheses behind a word
abbrev pub call : {A : Type 0} → Sign → Signs A → Signs A
call word p = after word (in_parentheses p)

-- LEN "(" name ")"
abbrev pub length_term : Option Kind → Signs (Term × Kind)
length_term wanted = as_value (λ v. (term.Len v.1, of.Number)) (both (one (len_in wanted)) (λ _. in_parentheses (one measured_in)))

-- term = name | number | text | LEN "(" name ")" | PRIORVALUE "(" name ")", of a kind that is wanted, or of any
abbrev pub term_of : Option Kind → Signs (Term × Kind)
term_of wanted = either (one (simple_in wanted)) (either (length_term wanted) (call sign.Prior (one (prior_in wanted))))

-- the relation behind a term, and another term of its kind
abbrev pub ending : Term × Kind → Signs (Relation × Term)
ending left = as_value (λ v. (v.0, v.1.0)) (both (one relation_in) (λ _. term_of (Some left.1)))

-- term op term
abbrev pub comparison : Signs Formula
comparison = as_value (λ v. formula.Compare v.0.0 v.1.0 v.1.1) (both (term_of None) ending)

-- ---- formulas
-- TRUE | FALSE | ISNEW "(" ")" | ISBLANK "(" name ")" | ISCHANGED "(" name ")" | ISPICKVAL "(" name "," text ")" | term op term
abbrev pub plain : Signs Formula
plain =
    either (as_value formula.Const (one truth_in))
    (either (as_value (λ _. formula.IsNew) (after sign.IsNew (after sign.Open (just sign.Close))))
    (either (as_value formula.IsBlank (call sign.IsBlank (one field_token)))
    (either (as_value formula.IsChanged (call sign.IsChanged (one field_token)))
    (either (as_value (λ v. formula.IsPickval v.0 v.1) (call sign.IsPickval (both (one picklist_in) (λ _. after sign.Comma (one text_in)))))
    comparison))))

-- formula {"," formula}
abbrev pub formulas : Signs Formula → Signs (List Formula)
formulas within = as_value (λ v. v.0 ∷ v.1) (both within (λ _. part.any_number (after sign.Comma within)))

-- NOT "(" formula ")" | AND "(" formula {"," formula} ")" | OR "(" formula {"," formula} ")" | plain, with these formulas within
abbrev pub formula_over : Signs Formula → Signs Formula
formula_over within =
    either (as_value formula.Not (call sign.Not within))
    (either (as_value formula.And (call sign.And (formulas within)))
    (either (as_value formula.Or (call sign.Or (formulas within)))
    plain))

-- a formula in which NOT, AND and OR nest at most so many levels
unfoldable pub nested : ℕ → Signs Formula
nested zero = plain
nested (suc levels) = formula_over (nested levels)

-- a whole formula
unfoldable pub whole : Signs Formula
whole = nested 32
