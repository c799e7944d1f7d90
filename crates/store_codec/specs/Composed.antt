-- Parts of keys and rows that are composed: signed numbers, principals, ordered bytes, lists, sources of rules and types.
use Rattle.std.specs.Prelude.{◌≡◌, ℕ, zero, suc, ◌<◌, ◌^◌, ℤ, IsTrue, List, [], ◌∷◌, ◌++◌, length, Option, Some, None, ◌==◌, if◌then◌else◌}
use Rattle.std.specs.Int.{w16, w32, w64, cast_signed, cast_unsigned}
use Rattle.std.specs.List.{All}
use Rattle.base_value.specs.Id.{is_id}
use Rattle.base_value.specs.Principals.{kind_number, principal_id}
use Rattle.base_value.specs.declared.sharing.Principal.{Principal}
use Rattle.base_value.specs.declared.sharing.Principal.TheVariants.{User, Role, Subordinates, Group}
use Rattle.base_value.specs.declared.sharing.RuleSource.{RuleSource}
use Rattle.base_value.specs.declared.sharing.RuleSource.TheVariants.{Owner, Criteria}
use Rattle.base_value.specs.declared.value.FieldType.{FieldType}
use Rattle.base_value.specs.declared.value.FieldType.TheVariants as type
use Rattle.store_codec.specs.Choices.{Deletes, choice, choice_at}
use Rattle.store_codec.specs.Plain.{◌>>=◌, number8, number16, number32, number64, number_at, text, text_at, FitsText, id_at, pair_at}

-- ---- numbers

-- a number of one byte, and what follows it
unfoldable pub number8_at : List ℕ → Option (ℕ × List ℕ)
number8_at [] = None
number8_at (n ∷ rest) = Some (n, rest)

-- a signed number of eight bytes: its bits in two's complement, the highest byte first
unfoldable pub signed64 : ℤ → List ℕ
signed64 z = number64 (cast_unsigned w64 z)

-- the signed number that has the bits of an unsigned one
abbrev pub as_signed : ℕ × List ℕ → Option (ℤ × List ℕ)
as_signed x = Some (cast_signed w64 x.0, x.1)

-- eight bytes as a signed number, and what follows them
unfoldable pub signed64_at : List ℕ → Option (ℤ × List ℕ)
signed64_at bytes = number_at w64 bytes >>= as_signed

-- ---- principals

-- a principal is its kind and its id
abbrev pub principal : Principal → List ℕ
principal p = kind_number p ∷ principal_id p

-- the principal of this kind and id, if there is such a kind
abbrev pub of_kind : ℕ → List ℕ × List ℕ → Option (Principal × List ℕ)
of_kind zero x = Some (User x.0, x.1)
of_kind (suc zero) x = Some (Role x.0, x.1)
of_kind (suc (suc zero)) x = Some (Subordinates x.0, x.1)
of_kind (suc (suc (suc zero))) x = Some (Group x.0, x.1)
of_kind (suc (suc (suc (suc n)))) x = None

-- no other kind is one
unfoldable pub principal_at : List ℕ → Option (Principal × List ℕ)
principal_at [] = None
principal_at (kind ∷ rest) = id_at rest >>= of_kind kind

-- its id is an id
abbrev pub FitsPrincipal : Principal → Type 0
FitsPrincipal p = IsTrue (is_id (principal_id p))

-- ---- ordered bytes

-- bytes whose spellings are ordered as they are, whatever follows: 0 is written 0 255, and 0 0 closes them
abbrev pub ordered : List ℕ → List ℕ
ordered [] = 0 ∷ 0 ∷ []
ordered (zero ∷ bytes) = 0 ∷ 255 ∷ ordered bytes
ordered (suc b ∷ bytes) = suc b ∷ ordered bytes

-- one byte before those that were read
abbrev pub with_byte : ℕ → List ℕ × List ℕ → Option (List ℕ × List ℕ)
with_byte b x = Some (b ∷ x.0, x.1)

-- after 0 stands 0 or 255, and nothing else
unfoldable pub ordered_at : List ℕ → Option (List ℕ × List ℕ)
ordered_at [] = None
ordered_at (zero ∷ []) = None
ordered_at (zero ∷ zero ∷ rest) = Some ([], rest)
ordered_at (zero ∷ suc c ∷ rest) = if c == 254 then ordered_at rest >>= with_byte 0 else None
ordered_at (suc b ∷ rest) = ordered_at rest >>= with_byte (suc b)

-- what is read where this byte, or the end, was read and this is left
abbrev pub ordered_from : Option ℕ → List ℕ → Option (List ℕ × List ℕ)
ordered_from None rest = Some ([], rest)
ordered_from (Some b) rest = ordered_at rest >>= with_byte b

-- ---- lists

-- the items in turn
abbrev pub in_turn : {A : Type 0} → (A → List ℕ) → List A → List ℕ
in_turn spell [] = []
in_turn spell (a ∷ list) = spell a ++ in_turn spell list

-- a list: how many items it has, and the items
abbrev pub items : {A : Type 0} → (A → List ℕ) → List A → List ℕ
items spell list = number32 (length list) ++ in_turn spell list

-- so many items
unfoldable pub in_turn_at : {A : Type 0} → (List ℕ → Option (A × List ℕ)) → ℕ → List ℕ → Option (List A × List ℕ)
in_turn_at read zero bytes = Some ([], bytes)
in_turn_at read (suc n) bytes = read bytes >>= λ x. in_turn_at read n x.1 >>= λ y. Some (x.0 ∷ y.0, y.1)

-- as many items as the count says
unfoldable pub items_at : {A : Type 0} → (List ℕ → Option (A × List ℕ)) → List ℕ → Option (List A × List ℕ)
items_at read bytes = number_at w32 bytes >>= λ n. in_turn_at read n.0 n.1

-- the items can be counted, and each of them fits
abbrev pub FitsItems : {A : Type 0} → (A → Type 0) → List A → Type 0
FitsItems Fits list = (length list < 2 ^ 32) × All Fits list

-- so many items, each of which fits
abbrev pub FitsTimes : {A : Type 0} → ℕ → (A → Type 0) → List A → Type 0
FitsTimes n Fits list = (length list ≡ n) × All Fits list

-- how many slots a data row has
abbrev pub slot_count : ℕ
slot_count = 48

-- ---- sources of sharing rules

-- 0 and the owners' principal, or 1 and the condition
abbrev pub source : RuleSource → List ℕ
source (Owner p) = 0 ∷ principal p
source (Criteria t) = 1 ∷ text t

unfoldable pub source_at : List ℕ → Option (RuleSource × List ℕ)
source_at [] = None
source_at (zero ∷ rest) = principal_at rest >>= λ x. Some (Owner x.0, x.1)
source_at (suc zero ∷ rest) = text_at rest >>= λ x. Some (Criteria x.0, x.1)
source_at (suc (suc b) ∷ rest) = None

abbrev pub FitsSource : RuleSource → Type 0
FitsSource (Owner p) = FitsPrincipal p
FitsSource (Criteria t) = FitsText t

-- ---- types of fields

-- the number of its kind, and its parts
abbrev pub field_type : FieldType → List ℕ
field_type (type.Text most) = 0 ∷ number8 most
field_type (type.Number digits decimals) = 1 ∷ (number8 digits ++ number8 decimals)
field_type type.Checkbox = 2 ∷ []
field_type type.Day = 3 ∷ []
field_type type.Moment = 4 ∷ []
field_type (type.Picklist values) = 5 ∷ items text values
field_type (type.Lookup object on_delete) = 6 ∷ (number16 object ++ choice Deletes on_delete)
field_type (type.Master object) = 7 ∷ number16 object

-- no number from 8 on is a kind's
unfoldable pub field_type_at : List ℕ → Option (FieldType × List ℕ)
field_type_at [] = None
field_type_at (zero ∷ rest) = number8_at rest >>= λ x. Some (type.Text x.0, x.1)
field_type_at (suc zero ∷ rest) = pair_at number8_at number8_at rest >>= λ x. Some (type.Number x.0.0 x.0.1, x.1)
field_type_at (suc (suc zero) ∷ rest) = Some (type.Checkbox, rest)
field_type_at (suc (suc (suc zero)) ∷ rest) = Some (type.Day, rest)
field_type_at (suc (suc (suc (suc zero))) ∷ rest) = Some (type.Moment, rest)
field_type_at (suc (suc (suc (suc (suc zero)))) ∷ rest) = items_at text_at rest >>= λ x. Some (type.Picklist x.0, x.1)
field_type_at (suc (suc (suc (suc (suc (suc zero))))) ∷ rest) = pair_at (number_at w16) (choice_at Deletes) rest >>= λ x. Some (type.Lookup x.0.0 x.0.1, x.1)
field_type_at (suc (suc (suc (suc (suc (suc (suc zero)))))) ∷ rest) = number_at w16 rest >>= λ x. Some (type.Master x.0, x.1)
field_type_at (suc (suc (suc (suc (suc (suc (suc (suc b))))))) ∷ rest) = None

-- its numbers and texts can be spelled
abbrev pub FitsType : FieldType → Type 0
FitsType (type.Text most) = most < 256
FitsType (type.Number digits decimals) = (digits < 256) × (decimals < 256)
FitsType (type.Picklist values) = FitsItems FitsText values
FitsType (type.Lookup object on_delete) = object < 2 ^ 16
FitsType (type.Master object) = object < 2 ^ 16
FitsType _ = Unit {0}
