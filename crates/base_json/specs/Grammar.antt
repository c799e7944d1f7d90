-- The JSON texts and their values, by cases. RFC 8259; the sections stand beside the cases.
use Rattle.std.specs.Prelude.{◌≡◌, ◌≢◌, ℕ, zero, suc, ◌≤◌, true, false, List, [], ◌∷◌, Some, encode_utf8_all}
use Rattle.std.specs.Str.{all_scalars}
use Rattle.base_json.specs.Characters.{Part, after_spaces, short_escape, code_unit, is_high, is_low, paired}
use Rattle.base_json.specs.Numerals.{Numeral}
use Rattle.base_json.specs.declared.tree.Json.{Json}
use Rattle.base_json.specs.declared.tree.Json.TheVariants as j
use Rattle.base_json.specs.declared.tree.Member.{Member}

-- section 7: a `\u` escape and its unit
abbrev pub Unit_escape : Part ℕ
Unit_escape cs u rest =
    (a : ℕ) × (b : ℕ) × (c : ℕ) × (d : ℕ) × (cs ≡ 92 ∷ 117 ∷ a ∷ b ∷ c ∷ d ∷ rest) × (code_unit a b c d ≡ Some u)

pub data Escape : Type 0 where
  unescaped : Escape
  short : Escape
  unit : Escape
  pair : Escape

-- section 7: one character of a string, written in one of four ways
abbrev pub CharacterAs : Escape → Part ℕ
CharacterAs unescaped cs u rest = (cs ≡ u ∷ rest) × (32 ≤ u) × (u ≢ 34) × (u ≢ 92)
CharacterAs short cs u rest = (e : ℕ) × (cs ≡ 92 ∷ e ∷ rest) × (short_escape e ≡ Some u)
CharacterAs unit cs u rest = Unit_escape cs u rest × (is_high u ≡ false) × (is_low u ≡ false)
CharacterAs pair cs u rest =
    (high : ℕ) × (low : ℕ) × (after : List ℕ)
    × Unit_escape cs high after × (is_high high ≡ true) × Unit_escape after low rest × (is_low low ≡ true) × (u ≡ paired high low)

abbrev pub Character : Part ℕ
Character cs u rest = (escape : Escape) × CharacterAs escape cs u rest

-- section 7: characters, and the quotation mark that ends them
abbrev pub Content : Part (List ℕ)
Content cs [] rest = cs ≡ 34 ∷ rest
Content cs (u ∷ us) rest = (after : List ℕ) × Character cs u after × Content after us rest

-- section 7: a string
abbrev pub Quoted : Part (List ℕ)
Quoted cs text rest = (after : List ℕ) × (cs ≡ 34 ∷ after) × Content after text rest

-- sections 4 and 5: items with commas between them, and the mark that ends them
abbrev pub Items : {A : Type 0} → Part A → ℕ → Part (List A)
Items item end cs [] rest = ⊥
Items item end cs (x ∷ []) rest = item cs x (end ∷ rest)
Items item end cs (x ∷ y ∷ ys) rest = (after : List ℕ) × item cs x (44 ∷ after) × Items item end after (y ∷ ys) rest

-- sections 4 and 5: what stands behind an opening bracket
abbrev pub Listed : {A : Type 0} → Part A → ℕ → Part (List A)
Listed item end cs [] rest = after_spaces cs ≡ end ∷ rest
Listed item end cs (x ∷ xs) rest = Items item end cs (x ∷ xs) rest

-- section 2: a value between white space
abbrev pub Element : Part Json → Part Json
Element value cs v rest = (after : List ℕ) × value (after_spaces cs) v after × (rest ≡ after_spaces after)

-- section 4: a name, a colon and a value
abbrev pub Pair : Part Json → Part Member
Pair value cs m rest =
    (name : List ℕ) × (v : Json) × (after : List ℕ) × (next : List ℕ)
    × Quoted (after_spaces cs) name after × (after_spaces after ≡ 58 ∷ next) × Element value next v rest × (m ≡ record { name = name; value = v })

pub data Sort : Type 0 where
  null : Sort
  truth : Sort
  falsehood : Sort
  number : Sort
  string : Sort
  array : Sort
  object : Sort

-- section 3: the seven sorts of values; those inside of it are of a part of their own
abbrev pub ValueAs : Part (List Json) → Part (List Member) → Sort → Part Json
ValueAs lists objects null cs v rest = (cs ≡ 110 ∷ 117 ∷ 108 ∷ 108 ∷ rest) × (v ≡ j.Null)
ValueAs lists objects truth cs v rest = (cs ≡ 116 ∷ 114 ∷ 117 ∷ 101 ∷ rest) × (v ≡ j.Bool true)
ValueAs lists objects falsehood cs v rest = (cs ≡ 102 ∷ 97 ∷ 108 ∷ 115 ∷ 101 ∷ rest) × (v ≡ j.Bool false)
ValueAs lists objects number cs v rest = (n : _) × Numeral cs n rest × (v ≡ j.Number n)
ValueAs lists objects string cs v rest = (text : List ℕ) × Quoted cs text rest × (v ≡ j.Text text)
ValueAs lists objects array cs v rest = (xs : List Json) × (after : List ℕ) × (cs ≡ 91 ∷ after) × lists after xs rest × (v ≡ j.List xs)
ValueAs lists objects object cs v rest = (ms : List Member) × (after : List ℕ) × (cs ≡ 123 ∷ after) × objects after ms rest × (v ≡ j.Object ms)

abbrev pub ValueOf : Part (List Json) → Part (List Member) → Part Json
ValueOf lists objects cs v rest = (sort : Sort) × ValueAs lists objects sort cs v rest

abbrev pub never : {A : Type 0} → Part A
never cs x rest = ⊥

-- a value with at most so many brackets open at once
unfoldable pub Value : ℕ → Part Json
Value zero = ValueOf never never
Value (suc levels) = ValueOf (Listed (Element (Value levels)) 93) (Listed (Pair (Value levels)) 125)

-- so many brackets may be open at once
abbrev pub depth : ℕ
depth = 32

-- section 2: a value between white space, and nothing else
abbrev pub IsText : List ℕ → Json → Type 0
IsText cs v = Element (Value depth) cs v []

-- section 8.1: the UTF-8 of such a text
abbrev pub Spells : List ℕ → Json → Type 0
Spells bytes v = (cs : List ℕ) × (bytes ≡ encode_utf8_all cs) × (all_scalars cs ≡ true) × IsText cs v
