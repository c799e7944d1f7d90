-- The bodies of replies that refuse: a list of one object, which has the message and the code. Source of this form:
-- Salesforce, REST API, "Status Codes and Error Responses".
use Rattle.std.specs.Prelude.{ℕ, List, ◌++◌, codes, encode_utf8_all}
use Rattle.std.specs.Str.{chars}
use Rattle.base_json.specs.Printing.{printed_text}
use Rattle.model.specs.declared.refusal.Refusal.{Refusal}
use Rattle.model.specs.Messages.{message_of}
use Rattle.model.specs.Refusals.{code_of}

-- a text as JSON writes it, both in UTF-8
abbrev pub quoted : List ℕ → List ℕ
quoted text = encode_utf8_all (printed_text (chars text))

-- the body with this message and this code, all in UTF-8
unfoldable pub body_of : (message code : List ℕ) → List ℕ
body_of message code = codes "[{\"message\":" ++ quoted message ++ codes ",\"errorCode\":" ++ quoted code ++ codes "}]"

-- the body of a reply that refuses so
abbrev pub refusal_body : Refusal → List ℕ
refusal_body r = body_of (message_of r) (code_of r)

-- the body of a reply 500
abbrev pub damaged_body : List ℕ
damaged_body = body_of (codes "the store is damaged") (codes "STORE_DAMAGED")
