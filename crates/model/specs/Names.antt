-- The forms of new names, and the rules about them.
-- Source: Salesforce, "Custom Object" and "Custom Field", of the endings `__c` and `__r` and of the characters of a name. The
-- lengths are this product's own.
use Rattle.std.specs.Prelude.{ℕ, ◌-◌, Bool, true, false, not, ◌&&◌, ◌||◌, ◌==◌, List, [], ◌∷◌, length, take, drop, codes, bytes_eq}
use Rattle.std.specs.List.{list_any}
use Rattle.base_value.specs.Id.{is_digit62}
use Rattle.base_value.specs.Numerals.{is_within}
use Rattle.base_grammar.specs.Tokens.{is_letter}
use Rattle.model.specs.declared.refusal.Refusal.TheVariants.{InvalidName, NameTaken}
use Rattle.model.specs.Fields.{same_name}
use Rattle.model.specs.Limits.{stem_limit}
use Rattle.model.specs.Rules.{Rule, refuse_if}

-- ---- forms

-- `_`
abbrev pub is_underscore : ℕ → Bool
is_underscore c = c == 95

-- a letter or a digit, or `_` with one behind it
abbrev pub goes_on : ℕ → (next : ℕ) → Bool
goes_on c next = is_digit62 c || (is_underscore c && is_digit62 next)

-- letters and digits, and `_` with a letter or a digit behind it
abbrev pub in_stem : List ℕ → Bool
in_stem [] = true
in_stem (c ∷ []) = is_digit62 c
in_stem (c ∷ d ∷ cs) = goes_on c d && in_stem (d ∷ cs)

-- a letter is first
abbrev pub begins_with_letter : List ℕ → Bool
begins_with_letter [] = false
begins_with_letter (c ∷ cs) = is_letter c

-- a stem, as the name of a rule is: not empty and not too long, a letter first; no two `_` in a row, and none at the end
unfoldable pub is_stem : List ℕ → Bool
is_stem cs = is_within 1 stem_limit (length cs) && (begins_with_letter cs && in_stem cs)

-- a stem with this ending of three characters
abbrev pub is_stem_with : List ℕ → List ℕ → Bool
is_stem_with ending cs = is_stem (take (length cs - 3) cs) && bytes_eq (drop (length cs - 3) cs) ending

-- the name of an object or of a field
unfoldable pub is_custom_name : List ℕ → Bool
is_custom_name cs = is_stem_with (codes "__c") cs

-- the name of a child relationship
unfoldable pub is_child_name : List ℕ → Bool
is_child_name cs = is_stem_with (codes "__r") cs

-- ---- rules

-- INVALID_NAME: the name isn't of this form
abbrev pub bad_name : (List ℕ → Bool) → List ℕ → Rule
bad_name is_good name = refuse_if (not (is_good name)) (InvalidName name)

-- DUPLICATE_DEVELOPER_NAME: the name is one of these
abbrev pub taken : (names : List (List ℕ)) → List ℕ → Rule
taken names name = refuse_if (list_any (same_name name) names) (NameTaken name)
