-- What the field lines of a head say of the body, the caller and the end of the connection.
use Rattle.std.specs.Prelude.{ℕ, Bool, ◌&&◌, ◌||◌, List, [], ◌∷◌, length, take, drop, map, Option, Some, None, Result, Ok, Err, codes, nat_lt, ◌==◌, if◌then◌else◌}
use Rattle.std.specs.List.{filter, list_any, list_all, slice_split}
use Rattle.std.specs.Char.{is_ascii_digit}
use Rattle.std.specs.Str.{bytes_eq, chars, str_eq_ignore_ascii_case, is_utf8}
use Rattle.std.specs.Str.Parse.{digits_value}
use Rattle.httparse.specs.Grammar.{trim_ows}
use Rattle.server_http.specs.declared.fail.HttpFail.{HttpFail}
use Rattle.server_http.specs.declared.fail.HttpFail.TheVariants.{BadHead, HeadTooLarge, TransferEncoding, LengthRequired, BodyTooLarge}

-- A field line is its name and its value without the blanks round it.

-- the line has that name, case ignored (RFC 9110, 5.1)
abbrev pub is_named : List ℕ → List ℕ × List ℕ → Bool
is_named name line = str_eq_ignore_ascii_case line.0 name

-- the values of the lines with that name
abbrev pub values_named : List ℕ → List (List ℕ × List ℕ) → List (List ℕ)
values_named name lines = map (λ line. line.1) (filter (is_named name) lines)

infixl 10 ◌>>=◌
abbrev pub ◌>>=◌ : {A B : Type 0} → Result A HttpFail → (A → Result B HttpFail) → Result B HttpFail
(Ok x) >>= f = f x
(Err e) >>= f = Err e

-- ---- the body

-- one digit or more (RFC 9110, 8.6)
abbrev pub is_number : List ℕ → Bool
is_number value = nat_lt 0 (length value) && list_all is_ascii_digit value

-- at most one length, and that a number (RFC 9112, 6.3: any other is an error)
abbrev pub content_length : List (List ℕ) → Result (Option ℕ) HttpFail
content_length [] = Ok None
content_length (value ∷ []) = if is_number value then Ok (Some (digits_value 10 value)) else Err BadHead
content_length (value ∷ other ∷ more) = Err BadHead

-- POST and PATCH
abbrev pub needs_length : List ℕ → Bool
needs_length method = bytes_eq method (codes "POST") || bytes_eq method (codes "PATCH")

-- the most bytes of a body
abbrev pub body_limit : ℕ
body_limit = 4194304

-- a request without a length has no body (RFC 9112, 6.3)
abbrev pub checked_size : List ℕ → Option ℕ → Result ℕ HttpFail
checked_size method None = if needs_length method then Err LengthRequired else Ok 0
checked_size method (Some size) = if nat_lt body_limit size then Err BodyTooLarge else Ok size

-- the refusals behind that of the length, in their order; count is the number of lines
abbrev pub framed : List ℕ → ℕ → List (List ℕ) → Option ℕ → Result ℕ HttpFail
framed method count codings size =
    if nat_lt 64 count then Err HeadTooLarge
    else (if nat_lt 0 (length codings) then Err TransferEncoding else checked_size method size)

-- the length of the body, or the first refusal of a whole head
abbrev pub body_size : List ℕ → List (List ℕ × List ℕ) → Result ℕ HttpFail
body_size method lines =
    content_length (values_named (codes "content-length") lines)
    >>= framed method (length lines) (values_named (codes "transfer-encoding") lines)

-- ---- the caller

-- the characters behind the word `Bearer` and a blank, where they are text (RFC 6750, 2.1)
abbrev pub credentials : List ℕ → Option (List ℕ)
credentials value =
    if nat_lt 6 (length value) && str_eq_ignore_ascii_case (take 7 value) (codes "bearer ") && is_utf8 (drop 7 value) then Some (chars (drop 7 value)) else None

-- those of the only Authorization line
abbrev pub bearer : List (List ℕ) → Option (List ℕ)
bearer [] = None
bearer (value ∷ []) = credentials value
bearer (value ∷ other ∷ more) = None

-- ---- the end of the connection

-- the parts between commas, of which there is one at least (RFC 9110, 5.6.1)
abbrev pub comma_parts : List ℕ → List (List ℕ)
comma_parts value = slice_split (λ b. b == 44) value

-- the word `close`, case ignored, with blanks round it
abbrev pub is_close : List ℕ → Bool
is_close part = str_eq_ignore_ascii_case (trim_ows part) (codes "close")

-- one of the parts is that word
abbrev pub has_close : List ℕ → Bool
has_close value = list_any is_close (comma_parts value)

-- HTTP/1.0, or a Connection line with the word `close` (RFC 9112, 9.3 and 9.6)
abbrev pub closes : ℕ → List (List ℕ × List ℕ) → Bool
closes minor lines = minor == 0 || list_any has_close (values_named (codes "connection") lines)
