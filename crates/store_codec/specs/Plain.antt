-- The parts of keys and rows: how each is spelled, and how each is read from the front of some bytes.
use Rattle.std.specs.Prelude.{◌≡◌, ℕ, zero, suc, ◌<◌, ◌^◌, Bool, true, false, List, [], ◌∷◌, ◌++◌, length, take, drop, Option, Some, None, nat_lt, ◌==◌, if◌then◌else◌, encode_utf8_all}
use Rattle.std.specs.Int.{Width, w16, w32, w64, byte_len, from_be_bytes, to_be_bytes}
use Rattle.std.specs.Str.{is_utf8, chars, all_scalars}
use Rattle.base_value.specs.Id.{is_id}

-- one step after another, while none gives nothing
infixl 10 ◌>>=◌
abbrev pub ◌>>=◌ : {A B : Type 0} → Option A → (A → Option B) → Option B
(Some x) >>= f = f x
None >>= f = None

-- a number of one byte
abbrev pub number8 : ℕ → List ℕ
number8 n = n ∷ []

-- larger numbers, the highest byte first
unfoldable pub number16 : ℕ → List ℕ
number16 n = to_be_bytes w16 n

unfoldable pub number32 : ℕ → List ℕ
number32 n = to_be_bytes w32 n

unfoldable pub number64 : ℕ → List ℕ
number64 n = to_be_bytes w64 n

-- a number of so many bytes, and what follows it
abbrev pub number_at : Width → List ℕ → Option (ℕ × List ℕ)
number_at w bytes = if nat_lt (length bytes) (byte_len w) then None else Some (from_be_bytes w (take (byte_len w) bytes), drop (byte_len w) bytes)

-- so many bytes
abbrev pub bytes_at : ℕ → List ℕ → Option (List ℕ × List ℕ)
bytes_at n bytes = if nat_lt (length bytes) n then None else Some (take n bytes, drop n bytes)

-- bytes that pass a test
abbrev pub passing : (List ℕ → Bool) → List ℕ × List ℕ → Option (List ℕ × List ℕ)
passing test x = if test x.0 then Some x else None

-- a text: the length of its UTF-8, and its UTF-8
abbrev pub text : List ℕ → List ℕ
text characters = number32 (length (encode_utf8_all characters)) ++ encode_utf8_all characters

-- UTF-8 as the characters that it spells
abbrev pub as_characters : List ℕ × List ℕ → Option (List ℕ × List ℕ)
as_characters x = Some (chars x.0, x.1)

-- so many bytes as the length says, which are UTF-8
unfoldable pub text_at : List ℕ → Option (List ℕ × List ℕ)
text_at bytes = number_at w32 bytes >>= λ n. bytes_at n.0 n.1 >>= passing is_utf8 >>= as_characters

-- characters whose UTF-8 is short enough
abbrev pub FitsText : List ℕ → Type 0
FitsText characters = (length (encode_utf8_all characters) < 2 ^ 32) × (all_scalars characters ≡ true)

-- an id is its fifteen characters, and fixed bytes are themselves
abbrev pub same_bytes : List ℕ → List ℕ
same_bytes bytes = bytes

-- fifteen characters that are an id
unfoldable pub id_at : List ℕ → Option (List ℕ × List ℕ)
id_at bytes = bytes_at 15 bytes >>= passing is_id

-- so many bytes, whatever they are
abbrev pub any : List ℕ → Bool
any bytes = true

unfoldable pub fixed_at : ℕ → List ℕ → Option (List ℕ × List ℕ)
fixed_at n bytes = bytes_at n bytes >>= passing any

-- a truth value is one byte
abbrev pub truth : Bool → List ℕ
truth false = 0 ∷ []
truth true = 1 ∷ []

-- no other byte is one
unfoldable pub truth_at : List ℕ → Option (Bool × List ℕ)
truth_at [] = None
truth_at (zero ∷ rest) = Some (false, rest)
truth_at (suc zero ∷ rest) = Some (true, rest)
truth_at (suc (suc b) ∷ rest) = None

-- a value that may be there: 0 where it isn't, else 1 and the value
abbrev pub optional : {A : Type 0} → (A → List ℕ) → Option A → List ℕ
optional spell None = 0 ∷ []
optional spell (Some a) = 1 ∷ spell a

-- no other mark is one
unfoldable pub optional_at : {A : Type 0} → (List ℕ → Option (A × List ℕ)) → List ℕ → Option (Option A × List ℕ)
optional_at read [] = None
optional_at read (zero ∷ rest) = Some (None, rest)
optional_at read (suc zero ∷ rest) = read rest >>= λ x. Some (Some x.0, x.1)
optional_at read (suc (suc b) ∷ rest) = None

-- one fixed byte
unfoldable pub mark_at : ℕ → List ℕ → Option (Unit {0} × List ℕ)
mark_at m [] = None
mark_at m (b ∷ rest) = if b == m then Some (tt, rest) else None

-- no part
abbrev pub nothing : Unit {0} → List ℕ
nothing u = []

-- takes no byte
abbrev pub nothing_at : List ℕ → Option (Unit {0} × List ℕ)
nothing_at bytes = Some (tt, bytes)

-- two parts in turn
abbrev pub pair_at : {A B : Type 0} → (List ℕ → Option (A × List ℕ)) → (List ℕ → Option (B × List ℕ)) → List ℕ → Option ((A × B) × List ℕ)
pair_at f g bytes = f bytes >>= λ x. g x.1 >>= λ y. Some ((x.0, y.0), y.1)

-- all of the bytes
abbrev pub whole : {A : Type 0} → (List ℕ → Option (A × List ℕ)) → List ℕ → Option A
whole f bytes = f bytes >>= λ x. if length x.1 == 0 then Some x.0 else None

-- a key and a row, each read to its end
abbrev pub both_at : {K R : Type 0} → (List ℕ → Option (K × List ℕ)) → (List ℕ → Option (R × List ℕ)) → List ℕ → List ℕ → Option (K × R)
both_at key_at row_at key row = whole key_at key >>= λ k. whole row_at row >>= λ r. Some (k, r)
