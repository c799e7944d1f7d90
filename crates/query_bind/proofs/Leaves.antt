-- A test by places holds where the test by names does.
use Rattle.std.proofs.Common.{◌≡◌, ℕ, Bool, true, false, not, ◌&&◌, ◌||◌, cond, List, [], ◌∷◌, map, Option, Some, None, is_none, refl, sym, ap, ◌∙◌, ℤ, pos, negsuc, ◌+ℤ◌}
use Rattle.std.specs.Bool.{beq}
use Rattle.std.specs.List.{list_any}
use Rattle.base_value.specs.Id.{id_in}
use Rattle.base_value.specs.Printing.{day_of_moment}
use Rattle.base_value.specs.Values.{cmp}
use Rattle.base_value.specs.declared.value.Value.{Value}
use Rattle.base_value.specs.declared.value.Value.TheVariants as value
use Rattle.formula.specs.Meaning.{text_value}
use Rattle.soql.specs.declared.query.Literal.{Literal}
use Rattle.soql.specs.declared.query.Literal.TheVariants as literal
use Rattle.soql.specs.declared.query.Op.{Op}
use Rattle.soql.specs.declared.query.Op.TheVariants as op
use Rattle.model.specs.Asking.{text_no_id}
use Rattle.model.specs.Conditions.{compares, passes, text_beside}
use Rattle.model.specs.Fields.{as_ref, is_null}
use Rattle.model.specs.Rules.{first_of, refuse_if}
use Rattle.model.specs.declared.refusal.Refusal.TheVariants.{MalformedId}
use Rattle.query_bind.specs.inner.Binding.{Fits, operand_of, text_operand}
use Rattle.query_check.specs.Rules.{is_ids}
use Rattle.query_plan.specs.Checks.{beside, is_so, meant_of, passes_with}
use Rattle.query_plan.specs.declared.check.Operand.{Operand}
use Rattle.query_plan.specs.declared.check.Operand.TheVariants.{Plain, Clock}
use Rattle.query_check.specs.declared.columns.Family.{Family}
use Rattle.query_check.specs.declared.columns.Family.TheVariants as family
use Rattle.query_check.proofs.Clean.{first_none, rest_none}

-- ---- comparisons

null_same : (x : Operand) (v : Value) → is_null (beside x v) ≡ is_null v
null_same (Plain w) v = refl
null_same (Clock day) (value.Moment s) = refl
null_same (Clock day) v = refl

either_way : (b c : Bool) → cond b false c ≡ (not b && c)
either_way true c = refl
either_way false c = refl

-- an operator that orders
ordering_is : (v : Value) (x : Operand) (c : Bool)
    → cond (is_null v || is_null (meant_of x)) false c ≡ (not (is_null (beside x v) || is_null (meant_of x)) && c)
ordering_is v x c =
    ap (λ b. cond (b || is_null (meant_of x)) false c) (sym (null_same x v)) ∙ either_way (is_null (beside x v) || is_null (meant_of x)) c

-- the code's test is the definition's
compares_is : (o : Op) (v : Value) (x : Operand) → passes_with o v x ≡ compares o (beside x v) (meant_of x)
compares_is op.Equal v x = refl
compares_is op.NotEqual v x = refl
compares_is op.Less v x = ordering_is v x (is_so op.Less (cmp (beside x v) (meant_of x)))
compares_is op.LessEqual v x = ordering_is v x (is_so op.LessEqual (cmp (beside x v) (meant_of x)))
compares_is op.Greater v x = ordering_is v x (is_so op.Greater (cmp (beside x v) (meant_of x)))
compares_is op.GreaterEqual v x = ordering_is v x (is_so op.GreaterEqual (cmp (beside x v) (meant_of x)))

-- ---- texts

-- beside what holds no ids a text is itself
plain_text : (f : Family) (v : Value) (text : List ℕ) → Fits f v → is_ids f ≡ false → text_beside v text ≡ text_operand f text
plain_text family.Ids v text s e = absurd cc
plain_text family.Text (value.Ref id) text s e = absurd s
plain_text family.Text v text s e = refl
plain_text family.Picklist (value.Ref id) text s e = absurd s
plain_text family.Picklist v text s e = refl
plain_text family.Number (value.Ref id) text s e = absurd s
plain_text family.Number v text s e = refl
plain_text family.Day (value.Ref id) text s e = absurd s
plain_text family.Day v text s e = refl
plain_text family.Moment (value.Ref id) text s e = absurd s
plain_text family.Moment v text s e = refl
plain_text family.Truth (value.Ref id) text s e = absurd s
plain_text family.Truth v text s e = refl

no_empty_id : id_in [] ≡ None
unfolding id_in
no_empty_id = refl

-- null equals no id and no text that spells one
beside_null : (o : Op) (text : List ℕ) → text_no_id (literal.Text text) ≡ None → compares o value.Null (as_ref (id_in text)) ≡ compares o value.Null (text_value text)
beside_null o text e = by text (id_in text) refl e
  where
    both : (o : Op) (id : List ℕ) (c : ℕ) (cs : List ℕ) → compares o value.Null (value.Ref id) ≡ compares o value.Null (value.Text (c ∷ cs))
    both op.Equal id c cs = refl
    both op.NotEqual id c cs = refl
    both op.Less id c cs = refl
    both op.LessEqual id c cs = refl
    both op.Greater id c cs = refl
    both op.GreaterEqual id c cs = refl

    clash : (t : List ℕ) → Some (MalformedId t) ≡ None → ⊥
    clash t e = cc

    none_refused : (t : List ℕ) → id_in t ≡ None → text_no_id (literal.Text t) ≡ Some (MalformedId t)
    none_refused t is = ap (λ (x : Option (List ℕ)). refuse_if (is_none x) (MalformedId t)) is

    by : (text : List ℕ) (i : Option (List ℕ)) → id_in text ≡ i → text_no_id (literal.Text text) ≡ None → compares o value.Null (as_ref (id_in text)) ≡ compares o value.Null (text_value text)
    by [] i is e = absurd (clash [] (sym (none_refused [] no_empty_id) ∙ e))
    by (c ∷ cs) None is e = absurd (clash (c ∷ cs) (sym (none_refused (c ∷ cs) is) ∙ e))
    by (c ∷ cs) (Some id) is e = ap (λ x. compares o value.Null (as_ref x)) is ∙ both o id c cs

-- what a text means beside an id
text_beside_id : (o : Op) (v : Value) (text : List ℕ) → Fits family.Ids v → text_no_id (literal.Text text) ≡ None
    → compares o v (text_operand family.Ids text) ≡ compares o v (text_beside v text)
text_beside_id o value.Null text s e = beside_null o text e
text_beside_id o (value.Ref id) text s e = refl
text_beside_id o v text s e = absurd s

-- ---- a literal

by_family : (o : Op) (f : Family) (v : Value) (text : List ℕ) → Fits f v → (is_ids f ≡ true → text_no_id (literal.Text text) ≡ None)
    → compares o v (text_operand f text) ≡ compares o v (text_beside v text)
by_family o family.Ids v text s e = text_beside_id o v text s (e refl)
by_family o family.Text v text s e = ap (compares o v) (sym (plain_text family.Text v text s refl))
by_family o family.Picklist v text s e = ap (compares o v) (sym (plain_text family.Picklist v text s refl))
by_family o family.Number v text s e = ap (compares o v) (sym (plain_text family.Number v text s refl))
by_family o family.Day v text s e = ap (compares o v) (sym (plain_text family.Day v text s refl))
by_family o family.Moment v text s e = ap (compares o v) (sym (plain_text family.Moment v text s refl))
by_family o family.Truth v text s e = ap (compares o v) (sym (plain_text family.Truth v text s refl))

pub passes_is : (now : ℤ) (o : Op) (f : Family) (v : Value) (l : Literal) → Fits f v → (is_ids f ≡ true → text_no_id l ≡ None)
    → passes_with o v (operand_of (day_of_moment now) f l) ≡ passes now o v l
passes_is now o f v literal.Null s e = compares_is o v (Plain value.Null)
passes_is now o f v (literal.Text text) s e = compares_is o v (Plain (text_operand f text)) ∙ by_family o f v text s e
passes_is now o f v (literal.Num n) s e = compares_is o v (Plain (value.Num n))
passes_is now o f v (literal.Bool b) s e = compares_is o v (Plain (value.Bool b))
passes_is now o f v (literal.Day d) s e = compares_is o v (Plain (value.Day d))
passes_is now o f v (literal.Moment m) s e = compares_is o v (Plain (value.Moment m))
passes_is now o f v literal.Today s e = compares_is o v (Clock (day_of_moment now +ℤ pos 0))
passes_is now o f v literal.Yesterday s e = compares_is o v (Clock (day_of_moment now +ℤ negsuc 0))
passes_is now o f v literal.Tomorrow s e = compares_is o v (Clock (day_of_moment now +ℤ pos 1))

-- ---- lists of literals

pub among_is : (now : ℤ) (f : Family) (v : Value) (ls : List Literal) → Fits f v → (is_ids f ≡ true → first_of text_no_id ls ≡ None)
    → list_any (passes_with op.Equal v) (map (operand_of (day_of_moment now) f) ls) ≡ list_any (passes now op.Equal v) ls
among_is now f v [] s e = refl
among_is now f v (l ∷ ls) s e =
    ap (λ b. b || list_any (passes_with op.Equal v) (map (operand_of (day_of_moment now) f) ls)) (passes_is now op.Equal f v l s (λ i. first_none (text_no_id l) (map text_no_id ls) (e i)))
    ∙ ap (λ b. passes now op.Equal v l || b) (among_is now f v ls s (λ i. rest_none (text_no_id l) (map text_no_id ls) (e i)))

-- IN, or NOT IN
pub negated_is : (found negated : Bool) → not (beq found negated) ≡ cond negated (not found) found
negated_is true true = refl
negated_is true false = refl
negated_is false true = refl
negated_is false false = refl
