-- Refusals: the code and the status of each. Codes are those of Salesforce's REST API, "Status Codes and Error Responses",
-- where it has one.
use Rattle.std.specs.Prelude.{ℕ, Bool, ◌==◌, List, [], ◌∷◌, codes}
use Rattle.std.specs.List.{list_any}
use Rattle.model.specs.declared.refusal.Refusal.{Refusal}
use Rattle.model.specs.declared.refusal.Refusal.TheVariants as refusal

-- the code that is printed
abbrev pub code_of : Refusal → List ℕ
code_of refusal.BadHead = codes "BAD_HEAD"
code_of refusal.HeadTooLarge = codes "HEAD_TOO_LARGE"
code_of refusal.TransferEncoding = codes "TRANSFER_ENCODING"
code_of refusal.LengthRequired = codes "LENGTH_REQUIRED"
code_of refusal.BodyTooLarge = codes "BODY_TOO_LARGE"
code_of refusal.InvalidSession = codes "INVALID_SESSION_ID"
code_of refusal.NotFound = codes "NOT_FOUND"
code_of refusal.MethodNotAllowed = codes "METHOD_NOT_ALLOWED"
code_of refusal.AdminRequired = codes "ADMIN_REQUIRED"
code_of refusal.BodyForm = codes "JSON_PARSER_ERROR"
code_of (refusal.MalformedQuery place) = codes "MALFORMED_QUERY"
code_of (refusal.InvalidType name) = codes "INVALID_TYPE"
code_of (refusal.InvalidField name) = codes "INVALID_FIELD"
code_of (refusal.InvalidFilter path) = codes "INVALID_QUERY_FILTER_OPERATOR"
code_of (refusal.MalformedId text) = codes "MALFORMED_ID"
code_of refusal.InsufficientAccess = codes "INSUFFICIENT_ACCESS_OR_READONLY"
code_of (refusal.WrongType field) = codes "INVALID_TYPE_ON_FIELD_IN_RECORD"
code_of (refusal.TooLong field most) = codes "STRING_TOO_LONG"
code_of (refusal.OutOfRange field) = codes "NUMBER_OUTSIDE_VALID_RANGE"
code_of (refusal.NotListed field) = codes "INVALID_OR_NULL_FOR_RESTRICTED_PICKLIST"
code_of (refusal.RequiredMissing field) = codes "REQUIRED_FIELD_MISSING"
code_of (refusal.InvalidReference name) = codes "INVALID_CROSS_REFERENCE_KEY"
code_of (refusal.RetypeConflict field) = codes "RETYPE_CONFLICT"
code_of (refusal.ValidationFailed rule message) = codes "FIELD_CUSTOM_VALIDATION_EXCEPTION"
code_of (refusal.DuplicateValue field) = codes "DUPLICATE_VALUE"
code_of (refusal.DuplicateOf field other) = codes "DUPLICATE_VALUE"
code_of (refusal.DeleteFailed object field) = codes "DELETE_FAILED"
code_of refusal.CascadeTooLarge = codes "CASCADE_TOO_LARGE"
code_of (refusal.LimitExceeded limit) = codes "LIMIT_EXCEEDED"
code_of refusal.ReplyTooLarge = codes "REPLY_TOO_LARGE"
code_of (refusal.InvalidName name) = codes "INVALID_NAME"
code_of (refusal.NameTaken name) = codes "DUPLICATE_DEVELOPER_NAME"
code_of refusal.JobBusy = codes "JOB_BUSY"
code_of (refusal.RetypeUnsupported field) = codes "RETYPE_UNSUPPORTED"
code_of (refusal.FieldInUse field rule) = codes "FIELD_IN_USE"
code_of (refusal.MalformedFormula place) = codes "MALFORMED_FORMULA"
code_of refusal.InputTooLarge = codes "INPUT_TOO_LARGE"
code_of (refusal.CsvRefused row) = codes "CSV_REFUSED"
code_of (refusal.HeadingRefused cell) = codes "HEADING_REFUSED"
code_of refusal.SubqueryNotExported = codes "SUBQUERY_NOT_EXPORTED"
code_of refusal.NameRefused = codes "NAME_REFUSED"
code_of refusal.SecretRefused = codes "SECRET_REFUSED"
code_of refusal.LastAdministrator = codes "LAST_ADMINISTRATOR"

-- the status of a reply
abbrev pub status_of : Refusal → ℕ
status_of refusal.HeadTooLarge = 431
status_of refusal.TransferEncoding = 501
status_of refusal.LengthRequired = 411
status_of refusal.BodyTooLarge = 413
status_of refusal.InvalidSession = 401
status_of refusal.NotFound = 404
status_of refusal.MethodNotAllowed = 405
status_of refusal.AdminRequired = 403
status_of refusal.InsufficientAccess = 403
status_of _ = 400

-- the statuses that refusals have
abbrev pub is_refusal_status : ℕ → Bool
is_refusal_status status = list_any (λ s. s == status) (400 ∷ 401 ∷ 403 ∷ 404 ∷ 405 ∷ 411 ∷ 413 ∷ 431 ∷ 501 ∷ [])
