-- The keys of the tables, by their parts, and where each key's row stands.
use Rattle.std.specs.Prelude.{ℕ, Bool, true, false, nat_eq, ◌&&◌, ◌==◌, List}
use Rattle.std.specs.Cmp.Lexicographic.{pointwise}
use Rattle.base_value.specs.declared.sharing.Principal.{Principal}
use Rattle.store_kv.specs.Tables.{Place}
use Rattle.store_codec.specs.Composed.{principal}
use Rattle.store_codec.specs.Shapes.{Shape, Nothing, Number8, Number16, Number32, Identity, Mark, Named, Ordered, Both, Val, spelled, FitsIn}

-- a key for each form of row
pub data Key : Type 0 where
  Version : Key
  Org : (org : ℕ) → Key
  Object : (org object : ℕ) → Key
  Field : (org object field : ℕ) → Key
  Job : (org : ℕ) → Key
  User : (org : ℕ) (id : List ℕ) → Key
  Role : (org : ℕ) (id : List ℕ) → Key
  Group : (org : ℕ) (id : List ℕ) → Key
  -- a rule's key has its name in lower case
  Validation : (org object : ℕ) (name : List ℕ) → Key
  Sharing : (org : ℕ) (name : List ℕ) → Key
  Data : (org object : ℕ) (id : List ℕ) → Key
  -- a value's key has its order key
  Index : (org object slot : ℕ) (value id : List ℕ) → Key
  Unique : (org object slot : ℕ) (value : List ℕ) → Key
  Relation : (org object slot : ℕ) (target id : List ℕ) → Key
  Owner : (org object : ℕ) (owner id : List ℕ) → Key
  Share : (org : ℕ) (id : List ℕ) (to : Principal) → Key
  Grant : (org : ℕ) (to : Principal) (object : ℕ) (id : List ℕ) (cause : ℕ) → Key

-- ---- shapes

-- the forms of one table are told apart by a byte after the organisation
abbrev pub marked : ℕ → Shape → Shape
marked m s = Both Number32 (Both (Mark m) s)

-- a record of an object
abbrev pub record_key : Shape
record_key = Both Number32 (Both Number16 Identity)

-- a slot of an object, and what stands in it
abbrev pub slot_key : Shape → Shape
slot_key s = Both Number32 (Both Number16 (Both Number8 s))

-- ---- places

-- where a key's row stands: its table, the shape of the key, and its parts
pub record Spelling : Type 0 where
  pub table : ℕ
  pub shape : Shape
  pub parts : Val shape

abbrev pub spelling : Key → Spelling
spelling Version = record { table = 0; shape = Nothing; parts = tt }
spelling (Org org) = record { table = 1; shape = Number32; parts = org }
spelling (Object org object) = record { table = 2; shape = Both Number32 Number16; parts = (org, object) }
spelling (Field org object field) = record { table = 3; shape = Both Number32 (Both Number16 Number8); parts = (org, (object, field)) }
spelling (Job org) = record { table = 4; shape = Number32; parts = org }
spelling (User org id) = record { table = 5; shape = marked 0 Identity; parts = (org, (tt, id)) }
spelling (Role org id) = record { table = 5; shape = marked 1 Identity; parts = (org, (tt, id)) }
spelling (Group org id) = record { table = 5; shape = marked 2 Identity; parts = (org, (tt, id)) }
spelling (Validation org object name) = record { table = 6; shape = marked 0 (Both Number16 Ordered); parts = (org, (tt, (object, name))) }
spelling (Sharing org name) = record { table = 6; shape = marked 1 Ordered; parts = (org, (tt, name)) }
spelling (Data org object id) = record { table = 7; shape = record_key; parts = (org, (object, id)) }
spelling (Index org object slot value id) = record { table = 8; shape = slot_key (Both Ordered Identity); parts = (org, (object, (slot, (value, id)))) }
spelling (Unique org object slot value) = record { table = 9; shape = slot_key Ordered; parts = (org, (object, (slot, value))) }
spelling (Relation org object slot target id) = record { table = 10; shape = slot_key (Both Identity Identity); parts = (org, (object, (slot, (target, id)))) }
spelling (Owner org object owner id) = record { table = 11; shape = Both Number32 (Both Number16 (Both Identity Identity)); parts = (org, (object, (owner, id))) }
spelling (Share org id to) = record { table = 12; shape = marked 0 (Both Identity Named); parts = (org, (tt, (id, to))) }
spelling (Grant org to object id cause) = record { table = 12; shape = marked 1 (Both Named (Both Number16 (Both Identity Number32))); parts = (org, (tt, (to, (object, (id, cause))))) }

-- the bytes of a key in its table
abbrev pub spell : Key → Place
spell k = ((spelling k).table, spelled (spelling k).shape (spelling k).parts)

-- its parts have spellings
abbrev pub FitsKey : Key → Type 0
FitsKey k = FitsIn (spelling k).shape (spelling k).parts

-- ---- whether two keys are one

abbrev same : List ℕ → List ℕ → Bool
same = pointwise nat_eq

abbrev pub key_eq : Key → Key → Bool
key_eq Version Version = true
key_eq (Org a) (Org b) = a == b
key_eq (Object a n) (Object b m) = (a == b) && (n == m)
key_eq (Field a n f) (Field b m g) = (a == b) && ((n == m) && (f == g))
key_eq (Job a) (Job b) = a == b
key_eq (User a i) (User b j) = (a == b) && same i j
key_eq (Role a i) (Role b j) = (a == b) && same i j
key_eq (Group a i) (Group b j) = (a == b) && same i j
key_eq (Validation a n r) (Validation b m q) = (a == b) && ((n == m) && same r q)
key_eq (Sharing a r) (Sharing b q) = (a == b) && same r q
key_eq (Data a n i) (Data b m j) = (a == b) && ((n == m) && same i j)
key_eq (Index a n s v i) (Index b m t u j) = (a == b) && ((n == m) && ((s == t) && (same v u && same i j)))
key_eq (Unique a n s v) (Unique b m t u) = (a == b) && ((n == m) && ((s == t) && same v u))
key_eq (Relation a n s v i) (Relation b m t u j) = (a == b) && ((n == m) && ((s == t) && (same v u && same i j)))
key_eq (Owner a n w i) (Owner b m u j) = (a == b) && ((n == m) && (same w u && same i j))
key_eq (Share a i p) (Share b j q) = (a == b) && (same i j && same (principal p) (principal q))
key_eq (Grant a p n i c) (Grant b q m j d) = (a == b) && (same (principal p) (principal q) && ((n == m) && (same i j && (c == d))))
key_eq _ _ = false
