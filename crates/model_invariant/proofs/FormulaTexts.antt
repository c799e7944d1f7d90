-- Reading over an object's fields reads what texts spell, and looks at no field but those that a formula names.
use Rattle.std.proofs.Common.{◌≡◌, ℕ, zero, suc, ◌+◌, ◌-◌, Bool, true, false, not, ◌&&◌, ◌||◌, ◌==◌, cond, List, [], ◌∷◌, ◌++◌, map, length, flat_map, slice_index_or, Option, Some, None, Ok, Err, refl, ap, sym, subst, ◌∙◌, arith, eq-eqb}
use Rattle.std.specs.Prelude.{Result, is_ok, codes, encode_utf8_all}
use Rattle.std.specs.List.{list_all, list_any}
use Rattle.std.specs.Option.{ok_or}
use Rattle.std.proofs.lemmas.List.{map-append}
use Rattle.std.proofs.lemmas.Bool.{true≢false as clash}
use Rattle.base_grammar.specs.Exact.{left}
use Rattle.base_grammar.specs.Lexing.{tokens_of}
use Rattle.base_grammar.specs.Place.{starts, whole_of}
use Rattle.base_grammar.specs.Tokens.{AreTokens, byte_len, is_written}
use Rattle.base_grammar.specs.declared.token.Placed.{Placed}
use Rattle.base_grammar.specs.declared.token.Token.{Token}
use Rattle.base_grammar.specs.declared.token.Token.TheVariants as token
use Rattle.base_value.specs.declared.value.FieldType.{FieldType}
use Rattle.formula.specs.Naming.{names}
use Rattle.formula.specs.declared.formula.Formula.{Formula}
use Rattle.formula.specs.declared.formula.Formula.TheVariants as formula
use Rattle.formula.specs.declared.formula.NamedField.{NamedField}
use Rattle.formula.specs.grammar.Grammar as g
use Rattle.formula.specs.grammar.Reading as spec
use Rattle.formula.specs.grammar.Signs.{field_sign, function_word, lexis, sign_of, signs, sort_of, word_or_field}
use Rattle.formula.specs.grammar.Spelling.{IsRefusedAt, Spells, formula_in, place_in}
use Rattle.formula.specs.declared.grammar.sign.Sign.{Sign}
use Rattle.formula.specs.declared.grammar.sign.Sign.TheVariants as sign
use Rattle.model.specs.Objects.{change_at}
use Rattle.model.specs.RuleFormulas.{names_field}
use Rattle.model.specs.Tenant.{Field, Object}
use Rattle.model_invariant.specs.rule_text.Reading.{ReadsFormulas}
use Rattle.model.specs.FormulaTexts.{as_named, formula_fields, name_field, reads_text}
use Rattle.model_invariant.proofs.KnownSigns.{OfFormula, known, whole_knows}
use Rattle.model_invariant.proofs.Truths.{both_left, both_right}

-- ---- what is read is what is spelled
is_read : (r : Option Formula) (at : ℕ) (f : Formula) → ok_or r at ≡ Ok f → r ≡ Some f
is_read (Some h) at f e = let same : h ≡ f = cc in ap (λ x. Some x) same
is_read None at f e = absurd cc

is_refused : (r : Option Formula) (at place : ℕ) → ok_or r at ≡ Err place → (r ≡ None) × (at ≡ place)
is_refused (Some h) at place e = absurd cc
is_refused None at place e = (refl, cc)

module _ (o : Object) (criteria : Bool) (text : List ℕ) where
  abbrev its : List NamedField
  its = formula_fields o.fields

  abbrev all : List Placed
  all = tokens_of lexis 0 text

  abbrev its_signs : List Sign
  its_signs = signs criteria its all

  pub spelled_by : ((criteria : Bool) (fields : List NamedField) (text : List ℕ) (f : Formula) → formula_in criteria fields text ≡ Some f → Spells criteria fields text f)
      → (f : Formula) → reads_text o criteria text ≡ Ok f → Spells criteria its text f
  unfolding reads_text
  spelled_by law f e = law criteria its text f (is_read (formula_in criteria its text) (place_in criteria its text (byte_len text)) f e)

  pub read_by : ((criteria : Bool) (fields : List NamedField) (text : List ℕ) (f : Formula) → Spells criteria fields text f → formula_in criteria fields text ≡ Some f)
      → (f : Formula) → Spells criteria its text f → reads_text o criteria text ≡ Ok f
  unfolding reads_text
  read_by law f s = ap (λ (r : Option Formula). ok_or r (place_in criteria its text (byte_len text))) (law criteria its text f s)

  -- the place is the defined one
  pub refused_by : ((criteria : Bool) (fields : List NamedField) (text : List ℕ) (end : ℕ) → formula_in criteria fields text ≡ None → IsRefusedAt criteria fields text end (place_in criteria fields text end))
      → (place : ℕ) → reads_text o criteria text ≡ Err place → IsRefusedAt criteria its text (byte_len text) place
  unfolding reads_text
  refused_by law place e =
      let h = is_refused (formula_in criteria its text) (place_in criteria its text (byte_len text)) place e in
      subst (λ (at : ℕ). IsRefusedAt criteria its text (byte_len text) at) h.1 (law criteria its text (byte_len text) h.0)

  -- what was read is spelled by the tokens of the text
  signs_spell : ((criteria : Bool) (fields : List NamedField) (text : List ℕ) (f : Formula) → formula_in criteria fields text ≡ Some f → Spells criteria fields text f)
      → ((ts : List Placed) → AreTokens lexis 0 text ts → ts ≡ all) → (f : Formula) → reads_text o criteria text ≡ Ok f → g.whole.spells its_signs f
  signs_spell law one f e = let s = spelled_by law f e in subst (λ (ts : List Placed). g.whole.spells (signs criteria its ts) f) (one s.0 s.1) s.2

-- ---- tokens that are the same over other fields
module _ (q : ℕ → Bool) (criteria : Bool) (fs gs : List NamedField) (same : (cs : List ℕ) → known q (field_sign 0 fs cs) ≡ true → field_sign 0 gs cs ≡ field_sign 0 fs cs) where
  word_same : (cs : List ℕ) (word : Option Sign) → known q (word_or_field criteria fs cs word) ≡ true → word_or_field criteria gs cs word ≡ word_or_field criteria fs cs word
  word_same cs (Some word) h = refl
  word_same cs None h = same cs h

  sign_same : (t : Token) → known q (sign_of criteria fs t) ≡ true → sign_of criteria gs t ≡ sign_of criteria fs t
  sign_same (token.Word cs) h = word_same cs (function_word cs) h
  sign_same _ h = refl

  signs_same : (all : List Placed) → list_all (known q) (signs criteria fs all) ≡ true → signs criteria gs all ≡ signs criteria fs all
  signs_same [] h = refl
  signs_same (x ∷ all) h =
      let first = known q (sign_of criteria fs x.token) in
      let more = list_all (known q) (signs criteria fs all) in
      let a = sign_same x.token (both_left first more h) in
      let b = signs_same all (both_right first more h) in
      ap (λ (z : Sign). z ∷ signs criteria gs all) a ∙ ap (λ (zs : List Sign). sign_of criteria fs x.token ∷ zs) b

-- one field more
field_over : (f : NamedField) (cs : List ℕ) (at : ℕ) (fs : List NamedField) → known (λ _. true) (field_sign at fs cs) ≡ true → field_sign at (fs ++ f ∷ []) cs ≡ field_sign at fs cs
field_over f cs at [] h = absurd cc
field_over f cs at (x ∷ fs) h = by (is_written (encode_utf8_all x.name) cs) h (field_over f cs (at + 1) fs)
  where
    by : (b : Bool) → known (λ _. true) (cond b (sign.Field at (sort_of x.kind)) (field_sign (at + 1) fs cs)) ≡ true
        → (known (λ _. true) (field_sign (at + 1) fs cs) ≡ true → field_sign (at + 1) (fs ++ f ∷ []) cs ≡ field_sign (at + 1) fs cs)
        → cond b (sign.Field at (sort_of x.kind)) (field_sign (at + 1) (fs ++ f ∷ []) cs) ≡ cond b (sign.Field at (sort_of x.kind)) (field_sign (at + 1) fs cs)
    by true h more = refl
    by false h more = more h

-- another type at a place that isn't known
module _ (to : FieldType) (q : ℕ → Bool) (cs : List ℕ) where
  abbrev change : Field → Field
  change f = record f { kind = to }

  field_other : (at n : ℕ) → q (at + n) ≡ false → (fs : List Field) → known q (field_sign at (map as_named fs) cs) ≡ true
      → field_sign at (map as_named (change_at n change fs)) cs ≡ field_sign at (map as_named fs) cs
  field_other at n unknown [] h = refl
  field_other at zero unknown (x ∷ fs) h = by (is_written (encode_utf8_all x.name) cs) h
    where
      by : (b : Bool) → known q (cond b (sign.Field at (sort_of x.kind)) (field_sign (at + 1) (map as_named fs) cs)) ≡ true
          → cond b (sign.Field at (sort_of to)) (field_sign (at + 1) (map as_named fs) cs) ≡ cond b (sign.Field at (sort_of x.kind)) (field_sign (at + 1) (map as_named fs) cs)
      by true h = let here : at + 0 ≡ at = omega arith in absurd (clash (sym h ∙ ap q (sym here) ∙ unknown))
      by false h = refl
  field_other at (suc n) unknown (x ∷ fs) h =
      let there : (at + 1) + n ≡ at + suc n = omega arith in
      by (is_written (encode_utf8_all x.name) cs) h (field_other (at + 1) n (ap q there ∙ unknown) fs)
    where
      by : (b : Bool) → known q (cond b (sign.Field at (sort_of x.kind)) (field_sign (at + 1) (map as_named fs) cs)) ≡ true
          → (known q (field_sign (at + 1) (map as_named fs) cs) ≡ true → field_sign (at + 1) (map as_named (change_at n change fs)) cs ≡ field_sign (at + 1) (map as_named fs) cs)
          → cond b (sign.Field at (sort_of x.kind)) (field_sign (at + 1) (map as_named (change_at n change fs)) cs)
          ≡ cond b (sign.Field at (sort_of x.kind)) (field_sign (at + 1) (map as_named fs) cs)
      by true h more = refl
      by false h more = more h

  abbrev named : Sign
  named = sign.Field 0 (sort_of name_field.kind)

  its_other : (place : ℕ) → q (suc place) ≡ false → (fs : List Field) → known q (field_sign 0 (formula_fields fs) cs) ≡ true
      → field_sign 0 (formula_fields (change_at place change fs)) cs ≡ field_sign 0 (formula_fields fs) cs
  its_other place unknown fs h = by (is_written (encode_utf8_all (codes "Name")) cs) h
    where
      by : (b : Bool) → known q (cond b named (field_sign 1 (map as_named fs) cs)) ≡ true
          → cond b named (field_sign 1 (map as_named (change_at place change fs)) cs) ≡ cond b named (field_sign 1 (map as_named fs) cs)
      by true h = refl
      by false h = let there : 1 + place ≡ suc place = omega arith in field_other 1 place (ap q there ∙ unknown) fs h

-- ---- the laws
all_true : (ps : List ℕ) → list_all (λ _. true) ps ≡ true
all_true [] = refl
all_true (p ∷ ps) = all_true ps

none_all : (n : ℕ) (ps : List ℕ) → not (list_any (λ p. p == n) ps) ≡ true → list_all (λ p. not (p == n)) ps ≡ true
none_all n [] h = refl
none_all n (p ∷ ps) h = by (p == n) h (none_all n ps)
  where
    by : (b : Bool) → not (b || list_any (λ p. p == n) ps) ≡ true → (not (list_any (λ p. p == n) ps) ≡ true → list_all (λ p. not (p == n)) ps ≡ true)
        → (not b && list_all (λ p. not (p == n)) ps) ≡ true
    by true h more = absurd cc
    by false h more = more h

module _ (law : (criteria : Bool) (fields : List NamedField) (text : List ℕ) (f : Formula) → formula_in criteria fields text ≡ Some f → Spells criteria fields text f)
    (one : (text : List ℕ) (ts : List Placed) → AreTokens lexis 0 text ts → ts ≡ tokens_of lexis 0 text)
    (within_not : (f : Formula) → names (formula.Not f) ≡ names f) (within_and : (fs : List Formula) → names (formula.And fs) ≡ flat_map names fs)
    (within_or : (fs : List Formula) → names (formula.Or fs) ≡ flat_map names fs) where
  -- over fields that are the same as far as the formula names them
  reads_same : (o p : Object) (criteria : Bool) (text : List ℕ) (f : Formula) → reads_text o criteria text ≡ Ok f → (q : ℕ → Bool) → OfFormula q f
      → ((cs : List ℕ) → known q (field_sign 0 (formula_fields o.fields) cs) ≡ true → field_sign 0 (formula_fields p.fields) cs ≡ field_sign 0 (formula_fields o.fields) cs)
      → reads_text p criteria text ≡ reads_text o criteria text
  unfolding reads_text formula_in place_in
  reads_same o p criteria text f e q named same =
      let all = tokens_of lexis 0 text in
      let fs = formula_fields o.fields in
      let knows = whole_knows q within_not within_and within_or (signs criteria fs all) f (signs_spell o criteria text law (one text) f e) named in
      ap (λ (ts : List Sign). ok_or (whole_of (spec.whole ts)) (slice_index_or (starts all) (length ts - left (spec.whole ts)) (byte_len text))) (signs_same q criteria fs (formula_fields p.fields) same all knows)

  pub reads_formulas : ReadsFormulas
  unfolding reads_text
  reads_formulas =
      record {
        by_fields = λ o p e criteria text. ap (λ (fs : List Field). reads_text (record o { fields = fs }) criteria text) e;
        over_more = λ o f criteria text ok. over o f criteria text (reads_text o criteria text) refl ok;
        other_types = λ o place to criteria text ok unnamed. other o place to criteria text (reads_text o criteria text) refl ok unnamed;
      }
    where
      over : (o : Object) (f : Field) (criteria : Bool) (text : List ℕ) (r : Result Formula ℕ) → reads_text o criteria text ≡ r → is_ok r ≡ true
          → reads_text (record o { fields = o.fields ++ f ∷ [] }) criteria text ≡ reads_text o criteria text
      over o f criteria text (Err place) e ok = absurd cc
      over o f criteria text (Ok x) e ok =
          let grown : formula_fields (o.fields ++ f ∷ []) ≡ formula_fields o.fields ++ as_named f ∷ [] = ap (λ (fs : List NamedField). name_field ∷ fs) (map-append as_named o.fields (f ∷ [])) in
          reads_same o (record o { fields = o.fields ++ f ∷ [] }) criteria text x e (λ _. true) (all_true (names x)) (λ cs h.
          ap (λ (fs : List NamedField). field_sign 0 fs cs) grown ∙ field_over (as_named f) cs 0 (formula_fields o.fields) h)

      other : (o : Object) (place : ℕ) (to : FieldType) (criteria : Bool) (text : List ℕ) (r : Result Formula ℕ) → reads_text o criteria text ≡ r → is_ok r ≡ true → not (names_field (suc place) r) ≡ true
          → reads_text (record o { fields = change_at place (λ f. record f { kind = to }) o.fields }) criteria text ≡ reads_text o criteria text
      other o place to criteria text (Err at) e ok unnamed = absurd cc
      other o place to criteria text (Ok x) e ok unnamed =
          let q : ℕ → Bool = λ p. not (p == suc place) in
          let unknown : q (suc place) ≡ false = ap not (eq-eqb (suc place) (suc place) refl) in
          reads_same o (record o { fields = change_at place (λ f. record f { kind = to }) o.fields }) criteria text x e q (none_all (suc place) (names x) unnamed) (λ cs h.
          its_other to q cs place unknown o.fields h)
