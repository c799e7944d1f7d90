-- The items of a connection, as they stand at the front of its bytes: whole messages, refusals, the end and a cut.
use Rattle.std.specs.Prelude.{◌≡◌, ◌⊎◌, ℕ, ◌<◌, ◌≤◌, List, [], ◌∷◌, length, take, drop, map, Result, Ok, Err, codes}
use Rattle.std.specs.Str.{chars}
use Rattle.httparse.specs.Grammar.{RequestHead, ReadsRequest, print_request, HasNoRequest, NeverHasRequest, MayBecomeRequest, EndsInTarget}
use Rattle.httparse.specs.Spans.{name_and_value}
use Rattle.server_http.specs.declared.fail.HttpFail.{HttpFail}
use Rattle.server_http.specs.declared.fail.HttpFail.TheVariants.{BadHead, HeadTooLarge}
use Rattle.server_http.specs.declared.message.HttpMessage.{HttpMessage}
use Rattle.server_http.specs.Framing.{values_named, body_size, bearer, closes}

pub data Item : Type 0 where
  whole : HttpMessage → Item
  refused : HttpFail → Item
  ended : Item
  broken : Item

-- the most bytes of a head
abbrev pub head_limit : ℕ
head_limit = 16384

-- the bytes at hand, in which a head is to be
abbrev pub window : List ℕ → List ℕ
window bytes = take head_limit bytes

-- a whole head of the grammar (RFC 9112, 2 to 5) stands at the front of the bytes at hand
abbrev pub HasHead : List ℕ → RequestHead → Type 0
HasHead bytes head = (rest : List ℕ) × ReadsRequest (window bytes) head rest

-- what stands behind a head
abbrev pub behind : RequestHead → List ℕ → List ℕ
behind head bytes = drop (length (print_request head)) bytes

-- the names and values of a head's field lines
abbrev pub lines_of : RequestHead → List (List ℕ × List ℕ)
lines_of head = map name_and_value head.fields

-- the body's length, or the first refusal
abbrev pub size_of : RequestHead → Result ℕ HttpFail
size_of head = body_size head.method (lines_of head)

-- the message of a head and its body
abbrev pub message_of : RequestHead → List ℕ → HttpMessage
message_of head body = record {
  method = head.method;
  target = chars head.target;
  bearer = bearer (values_named (codes "authorization") (lines_of head));
  body = body;
  close = closes head.minor (lines_of head);
}

-- no head stands at the front: none can come of the bytes at hand, or they are all that a head may have
abbrev pub IsUnread : List ℕ → HttpFail → Type 0
IsUnread bytes e =
    ((e ≡ BadHead) × NeverHasRequest (window bytes))
    ⊎ ((e ≡ HeadTooLarge) × (head_limit ≤ length bytes) × HasNoRequest (window bytes) × MayBecomeRequest (window bytes))

-- the item at the front of the bytes, and what stands behind it
abbrev pub IsItem : List ℕ → Item → List ℕ → Type 0
IsItem bytes (whole message) rest =
    (head : RequestHead) × HasHead bytes head × (size : ℕ) × (size_of head ≡ Ok size)
    × (size ≤ length (behind head bytes)) × (message ≡ message_of head (take size (behind head bytes)))
    × (rest ≡ drop size (behind head bytes))
IsItem bytes (refused e) rest =
    (rest ≡ bytes) × (IsUnread bytes e ⊎ ((head : RequestHead) × HasHead bytes head × (size_of head ≡ Err e)))
IsItem bytes ended rest = (rest ≡ bytes) × (bytes ≡ [])
IsItem bytes broken rest =
    (rest ≡ bytes)
    × (((0 < length bytes) × (length bytes < head_limit) × HasNoRequest bytes × MayBecomeRequest bytes)
    ⊎ ((head : RequestHead) × HasHead bytes head × (size : ℕ) × (size_of head ≡ Ok size) × (length (behind head bytes) < size)))

-- The one exception: the bytes at hand end inside a request target, and no continuation of them is a head. The parser
-- tests a target for UTF-8 at its end, so the grammar leaves open there whether a head may still come.
abbrev pub IsOpenTarget : List ℕ → Type 0
IsOpenTarget bytes = EndsInTarget (window bytes) × NeverHasRequest (window bytes)

-- the items of a connection: messages, and one that ends it
abbrev pub AreItems : List ℕ → List Item → Type 0
AreItems bytes [] = ⊥
AreItems bytes (whole message ∷ items) = (rest : List ℕ) × IsItem bytes (whole message) rest × AreItems rest items
AreItems bytes (refused e ∷ items) = IsItem bytes (refused e) bytes × (items ≡ [])
AreItems bytes (ended ∷ items) = IsItem bytes ended bytes × (items ≡ [])
AreItems bytes (broken ∷ items) = IsItem bytes broken bytes × (items ≡ [])

-- these whole messages stand at the front of the bytes, and behind them the exception
abbrev pub IsOpenBehind : List ℕ → List HttpMessage → Type 0
IsOpenBehind bytes [] = IsOpenTarget bytes
IsOpenBehind bytes (message ∷ messages) = (rest : List ℕ) × IsItem bytes (whole message) rest × IsOpenBehind rest messages

-- the items begin with these messages
abbrev pub BeginWith : List HttpMessage → List Item → Type 0
BeginWith [] items = Unit {0}
BeginWith (message ∷ messages) [] = ⊥
BeginWith (message ∷ messages) (item ∷ items) = (item ≡ whole message) × BeginWith messages items
