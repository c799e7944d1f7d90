-- What single tokens stand for in a formula, and the kinds of terms.
-- Source: none. That only terms of one kind are compared is this product's own.
use Rattle.std.specs.Prelude.{ℕ, Bool, true, false, if◌then◌else◌, List, Option, Some, None}
use Rattle.formula.specs.declared.formula.Relation.{Relation}
use Rattle.formula.specs.declared.formula.Term.{Term}
use Rattle.formula.specs.declared.formula.Term.TheVariants as term
use Rattle.formula.specs.declared.grammar.sign.Sign.{Sign}
use Rattle.formula.specs.declared.grammar.sign.Sign.TheVariants as sign
use Rattle.formula.specs.declared.grammar.sign.Sort.{Sort}
use Rattle.formula.specs.declared.grammar.sign.Sort.TheVariants as sort
use Rattle.formula.specs.declared.grammar.sign.Kind.{Kind}
use Rattle.formula.specs.declared.grammar.sign.Kind.TheVariants as of

-- ---- kinds of terms
-- a field's kind; references aren't compared
abbrev pub kind_of : Sort → Option Kind
kind_of sort.Text = Some of.Text
kind_of sort.Picklist = Some of.Text
kind_of sort.Number = Some of.Number
kind_of sort.Checkbox = Some of.Checkbox
kind_of sort.Day = Some of.Day
kind_of sort.Moment = Some of.Moment
kind_of sort.Reference = None

abbrev pub is_same : Kind → Kind → Bool
is_same of.Text of.Text = true
is_same of.Number of.Number = true
is_same of.Checkbox of.Checkbox = true
is_same of.Day of.Day = true
is_same of.Moment of.Moment = true
is_same _ _ = false

-- the first term of a comparison is of any kind, the second of the first's
abbrev pub suits : (wanted : Option Kind) → Kind → Bool
suits None found = true
suits (Some wanted) found = is_same wanted found

-- a term of this kind, if it suits
abbrev pub if_suits : {A : Type 0} → Option Kind → Kind → A → Option (A × Kind)
if_suits wanted found x = if suits wanted found then Some (x, found) else None

-- what is made of a field's position, if the field is of a kind that suits
abbrev pub of_field : (ℕ → Term) → ℕ → Option Kind → Option Kind → Option (Term × Kind)
of_field make position wanted (Some found) = if_suits wanted found (make position)
of_field make position wanted None = None

-- ---- single tokens
abbrev pub truth_in : Sign → Option Bool
truth_in (sign.Truth truth) = Some truth
truth_in _ = None

abbrev pub field_token : Sign → Option ℕ
field_token (sign.Field position sort) = Some position
field_token _ = None

abbrev pub picklist_in : Sign → Option ℕ
picklist_in (sign.Field position sort.Picklist) = Some position
picklist_in _ = None

abbrev pub text_in : Sign → Option (List ℕ)
text_in (sign.Text cs) = Some cs
text_in _ = None

abbrev pub relation_in : Sign → Option Relation
relation_in (sign.Relation relation) = Some relation
relation_in _ = None

-- a field that has a length
abbrev pub measured_in : Sign → Option ℕ
measured_in (sign.Field position sort.Text) = Some position
measured_in (sign.Field position sort.Picklist) = Some position
measured_in _ = None

-- a field, a number or a text as a term
abbrev pub simple_in : Option Kind → Sign → Option (Term × Kind)
simple_in wanted (sign.Field position sort) = of_field term.Field position wanted (kind_of sort)
simple_in wanted (sign.Number count) = if_suits wanted of.Number (term.Num count)
simple_in wanted (sign.Text cs) = if_suits wanted of.Text (term.Text cs)
simple_in wanted _ = None

-- LEN, where a number suits
abbrev pub len_in : Option Kind → Sign → Option (Unit {0})
len_in wanted sign.Len = if suits wanted of.Number then Some tt else None
len_in wanted _ = None

-- a field within PRIORVALUE
abbrev pub prior_in : Option Kind → Sign → Option (Term × Kind)
prior_in wanted (sign.Field position sort) = of_field term.Prior position wanted (kind_of sort)
prior_in wanted _ = None
