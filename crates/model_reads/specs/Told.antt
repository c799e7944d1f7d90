-- What a read comes to: a value of JSON, or why it is refused. That a body of more bytes than a reply with rows may have is refused is
-- this product's own.
use Rattle.std.specs.Prelude.{ℕ, nat_lt, if◌then◌else◌, List, length, encode_utf8_all, Option, Result, Ok, Err}
use Rattle.std.specs.Option.{option_and_then}
use Rattle.base_json.specs.declared.tree.Json.{Json}
use Rattle.base_json_tree.specs.Words.{body}
use Rattle.model.specs.declared.record.Record.{Record}
use Rattle.model.specs.declared.refusal.Refusal.{Refusal}
use Rattle.model.specs.declared.refusal.Refusal.TheVariants.{InvalidType, NotFound, ReplyTooLarge}
use Rattle.model.specs.Cases.{in_case}
use Rattle.model.specs.Limits.{reply_limit}
use Rattle.model.specs.Objects.{Numbered, object_named}
use Rattle.model.specs.Paths.{Asked, if_readable}
use Rattle.model.specs.Rules.{Rule, first_refusal}
use Rattle.model.specs.Tenant.{Tenant}
use Rattle.model.specs.Verdict.{Verdict, accept, refuse, told}

-- what is told, or why it isn't
abbrev pub Telling : Type 0
Telling = Result Json Refusal

-- ---- as a verdict, which changes nothing

-- REPLY_TOO_LARGE of a body with too many bytes
abbrev pub told_body : Tenant → (characters : List ℕ) → Verdict
told_body t characters =
    if nat_lt reply_limit (length (encode_utf8_all characters)) then refuse t ReplyTooLarge else accept (told characters) t

abbrev pub telling_verdict : Tenant → Telling → Verdict
telling_verdict t (Ok v) = told_body t (body v)
telling_verdict t (Err refusal) = refuse t refusal

-- ---- what is told of a thing that is named

-- of the object with this name; INVALID_TYPE where there is none
abbrev pub of_object : Tenant → List ℕ → (Numbered → Telling) → Telling
of_object t name tell = in_case (object_named t name) (Err (InvalidType name)) tell

-- of a record, if there is one that the user may read; NOT_FOUND otherwise
abbrev pub of_readable : Asked → Option Record → (Record → Telling) → Telling
of_readable a found tell = in_case (option_and_then (if_readable a) found) (Err NotFound) tell

-- the same, unless a rule refuses
abbrev pub unless_refused : List Rule → Telling → Telling
unless_refused rules telling = in_case (first_refusal rules) telling Err
