-- The texts of rules, read over the fields of their objects.
use Rattle.std.proofs.Common.{◌≡◌, ℕ, Bool, true, false, cond, List, length, refl, sym, ap, subst}
use Rattle.std.specs.Prelude.{Err, Result, nat_lt}
use Rattle.std.specs.Option.{ok_or}
use Rattle.std.specs.Str.{IsUtf8, chars}
use Rattle.std.proofs.lemmas.Str.{encodes-chars}
use Rattle.formula.specs.declared.formula.Formula.{Formula}
use Rattle.formula.specs.declared.formula.NamedField.{NamedField}
use Rattle.formula.specs.grammar.Spelling.{formula_in, place_in}
use Rattle.base_grammar.specs.declared.fail.ParseFail.{ParseFail}
use Rattle.base_grammar.specs.Place.{UnlessMemory}
use Rattle.model.specs.FormulaTexts.{formula_fields, reads_text}
use Rattle.model.specs.Limits.{formula_limit}
use Rattle.model.specs.RuleFormulas.{formula_of}
use Rattle.model.specs.Tenant.{Object}

pub reads_so : (criteria : Bool) (o : Object) (fields : List NamedField) (text : List ℕ) (r : Result Formula ParseFail) → IsUtf8 text → fields ≡ formula_fields o.fields
    → UnlessMemory r (λ read. ok_or (formula_in criteria fields (chars text)) (place_in criteria fields (chars text) (length text)) ≡ read)
    → UnlessMemory r (λ read. reads_text o criteria (chars text) ≡ read)
unfolding reads_text
reads_so criteria o fields text r utf is h =
    subst (λ (n : ℕ). UnlessMemory r (λ read. ok_or (formula_in criteria (formula_fields o.fields) (chars text)) (place_in criteria (formula_fields o.fields) (chars text) n) ≡ read)) (ap length (sym (encodes-chars text utf)))
    (subst (λ (fs : List NamedField). UnlessMemory r (λ read. ok_or (formula_in criteria fs (chars text)) (place_in criteria fs (chars text) (length text)) ≡ read)) is h)

pub too_long : (criteria : Bool) (o : Object) (text : List ℕ) → nat_lt formula_limit (length text) ≡ true → formula_of o criteria text ≡ Err 0
unfolding formula_of
too_long criteria o text e = rw e refl

pub short_enough : (criteria : Bool) (o : Object) (text : List ℕ) (r : Result Formula ParseFail) → nat_lt formula_limit (length text) ≡ false
    → UnlessMemory r (λ read. reads_text o criteria text ≡ read) → UnlessMemory r (λ read. formula_of o criteria text ≡ read)
unfolding formula_of
short_enough criteria o text r e h = subst (λ (b : Bool). UnlessMemory r (λ read. cond b (Err 0) (reads_text o criteria text) ≡ read)) (sym e) h
