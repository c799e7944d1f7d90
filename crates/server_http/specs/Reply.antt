-- The bytes of a reply (RFC 9112, 4 and 6).
use Rattle.std.specs.Prelude.{ℕ, Bool, List, [], ◌++◌, length, codes, if◌then◌else◌, ◌==◌}
use Rattle.std.specs.Fmt.{decimal}
use Rattle.std.specs.Option.{unwrap_or}
use Rattle.std.specs.Str.{bytes_eq}
use Rattle.http.specs.StatusCode.{reason_phrase}

-- the lines that describe a body of so many bytes; a 204 has neither
abbrev pub body_lines : ℕ → ℕ → List ℕ
body_lines status size =
    if status == 204 then []
    else codes "Content-Type: application/json;charset=UTF-8\r\nContent-Length: " ++ decimal size ++ codes "\r\n"

abbrev pub close_line : Bool → List ℕ
close_line close = if close then codes "Connection: close\r\n" else []

-- the head of a reply whose body has so many bytes
abbrev pub reply_head : ℕ → (size : ℕ) → (close : Bool) → List ℕ
reply_head status size close =
    codes "HTTP/1.1 " ++ decimal status ++ codes " " ++ unwrap_or (reason_phrase status) [] ++ codes "\r\n"
    ++ body_lines status size ++ close_line close ++ codes "\r\n"

abbrev pub reply : ℕ → List ℕ → (close : Bool) → List ℕ
reply status body close = reply_head status (length body) close ++ body

-- methods are compared exactly (RFC 9110, 9.1)
abbrev pub is_head : List ℕ → Bool
is_head method = bytes_eq method (codes "HEAD")

-- the reply to a message with this method: no byte of the body goes to HEAD (RFC 9110, 9.3.2), and its length is stated
-- all the same (8.6)
abbrev pub reply_to : (method : List ℕ) → ℕ → List ℕ → (close : Bool) → List ℕ
reply_to method status body close = reply_head status (length body) close ++ (if is_head method then [] else body)

-- the body of 503
abbrev pub store_failed : List ℕ
store_failed = codes "[{\"message\":\"the store failed\",\"errorCode\":\"SERVER_UNAVAILABLE\"}]"

-- the body of 507
abbrev pub no_memory : List ℕ
no_memory = codes "[{\"message\":\"out of memory\",\"errorCode\":\"OUT_OF_MEMORY\"}]"
