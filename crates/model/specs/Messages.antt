-- The messages of refusals, which are this product's own.
use Rattle.std.specs.Prelude.{ℕ, List, ◌++◌, codes, encode_utf8_all}
use Rattle.std.specs.Fmt.{decimal}
use Rattle.base_value.specs.Id.{print18}
use Rattle.model.specs.declared.refusal.Refusal.{Refusal}
use Rattle.model.specs.declared.refusal.Refusal.TheVariants as refusal
use Rattle.model.specs.Limits.{body_limit, deletion_limit, input_limit, limit_name, limit_number, name_limit, reply_limit, secret_least, secret_most}

-- the message, in UTF-8
abbrev pub message_of : Refusal → List ℕ
message_of refusal.BadHead = codes "the request head can't be read"
message_of refusal.HeadTooLarge = codes "the request head is too large"
message_of refusal.TransferEncoding = codes "transfer encodings aren't supported"
message_of refusal.LengthRequired = codes "a Content-Length is required"
message_of refusal.BodyTooLarge = codes "the body is over " ++ (decimal body_limit ++ codes " bytes")
message_of refusal.InvalidSession = codes "Session expired or invalid"
message_of refusal.NotFound = codes "The requested resource does not exist"
message_of refusal.MethodNotAllowed = codes "the method isn't allowed here"
message_of refusal.AdminRequired = codes "only an administrator may do this"
message_of refusal.BodyForm = codes "the body isn't of the stated form"
message_of (refusal.MalformedQuery place) = codes "unexpected token at " ++ decimal place
message_of (refusal.InvalidType name) = codes "no object " ++ encode_utf8_all name ++ codes " here"
message_of (refusal.InvalidField name) = codes "no field " ++ encode_utf8_all name ++ codes " here"
message_of (refusal.InvalidFilter path) = encode_utf8_all path ++ codes " can't be filtered so"
message_of (refusal.MalformedId text) = encode_utf8_all text ++ codes " isn't an id"
message_of refusal.InsufficientAccess = codes "insufficient access rights"
message_of (refusal.WrongType field) = encode_utf8_all field ++ codes ": wrong type"
message_of (refusal.TooLong field most) = encode_utf8_all field ++ (codes ": over " ++ decimal most ++ codes " characters")
message_of (refusal.OutOfRange field) = encode_utf8_all field ++ codes ": outside the valid range"
message_of (refusal.NotListed field) = encode_utf8_all field ++ codes ": value isn't listed"
message_of (refusal.RequiredMissing field) = codes "Required fields are missing: [" ++ encode_utf8_all field ++ codes "]"
message_of (refusal.InvalidReference name) = encode_utf8_all name ++ codes ": no such target"
message_of (refusal.RetypeConflict field) = encode_utf8_all field ++ codes ": the value doesn't suit the new type"
message_of (refusal.ValidationFailed rule message) = encode_utf8_all rule ++ (codes ": " ++ encode_utf8_all message)
message_of (refusal.DuplicateValue field) = encode_utf8_all field ++ codes ": duplicate value"
message_of (refusal.DuplicateOf field other) = encode_utf8_all field ++ (codes ": duplicate of " ++ encode_utf8_all (print18 other))
message_of (refusal.DeleteFailed object field) = encode_utf8_all object ++ (codes "." ++ encode_utf8_all field ++ codes ": the record is referred to")
message_of refusal.CascadeTooLarge = codes "over " ++ (decimal deletion_limit ++ codes " records")
message_of (refusal.LimitExceeded limit) = limit_name limit ++ codes ": " ++ decimal (limit_number limit)
message_of refusal.ReplyTooLarge = codes "the reply is over " ++ (decimal reply_limit ++ codes " bytes")
message_of (refusal.InvalidName name) = encode_utf8_all name ++ codes " isn't a name here"
message_of (refusal.NameTaken name) = encode_utf8_all name ++ codes " is taken"
message_of refusal.JobBusy = codes "a retype is under way"
message_of (refusal.RetypeUnsupported field) = encode_utf8_all field ++ codes " can't be retyped so"
message_of (refusal.FieldInUse field rule) = encode_utf8_all field ++ (codes " is used by rule " ++ encode_utf8_all rule)
message_of (refusal.MalformedFormula place) = codes "unexpected token at " ++ decimal place
message_of refusal.InputTooLarge = codes "over " ++ (decimal input_limit ++ codes " bytes")
message_of (refusal.CsvRefused row) = codes "row " ++ decimal row
message_of (refusal.HeadingRefused cell) = encode_utf8_all cell
message_of refusal.SubqueryNotExported = codes "subqueries aren't exported"
message_of refusal.NameRefused = codes "1 to " ++ (decimal name_limit ++ codes " characters")
message_of refusal.SecretRefused = decimal secret_least ++ (codes " to " ++ (decimal secret_most ++ codes " letters or digits"))
message_of refusal.LastAdministrator = codes "an administrator must be left"
