-- The values of the lines with one name, as the code keeps them.
use Rattle.std.specs.Prelude.{◌≡◌, ℕ, List, [], ◌∷◌, length, if◌then◌else◌, min, ⊤, Result, Ok, Err, Option}
use Rattle.std.specs.Prelude.{Some as some, None as none}
use Rattle.server_http.specs.declared.fail.HttpFail.{HttpFail}
use Rattle.httparse.specs.declared.spans.HeaderSpan.{HeaderSpan}
use Rattle.httparse.specs.declared.spans.Span.{Span}
use Rattle.httparse.specs.Spans.{IsWithin, span_bytes, header_bytes}
use Rattle.server_http.specs.declared.lines.Found.{Found}
use Rattle.server_http.specs.declared.lines.Found.TheVariants.{None, One, Several}
use Rattle.server_http.specs.Framing.{is_named}

abbrev pub FoundIs : List ℕ → List (List ℕ) → Found → Type 0
FoundIs bytes values None = values ≡ []
FoundIs bytes values (One span) = IsWithin (length bytes) span × (values ≡ span_bytes bytes span ∷ [])
FoundIs bytes values Several = (a : List ℕ) × (b : List ℕ) × (more : List (List ℕ)) × (values ≡ a ∷ b ∷ more)

-- one more value
abbrev pub more_found : Found → Span → Found
more_found None span = One span
more_found (One other) span = Several
more_found Several span = Several

-- one more line
abbrev pub found_after : List ℕ → List ℕ → Found → HeaderSpan → Found
found_after bytes name found line = if is_named name (header_bytes bytes line) then more_found found line.value else found

abbrev pub IsFoundWithin : ℕ → Found → Type 0
IsFoundWithin n None = ⊤
IsFoundWithin n (One span) = IsWithin n span
IsFoundWithin n Several = ⊤

-- the same length, where one past the limit stands for any greater
abbrev pub CappedIs : Result (Option ℕ) HttpFail → Result (Option ℕ) HttpFail → Type 0
CappedIs (Ok (some n)) (Ok (some k)) = k ≡ min n 4194305
CappedIs (Ok (some n)) (Ok none) = ⊥
CappedIs (Ok (some n)) (Err e) = ⊥
CappedIs (Ok none) r = r ≡ Ok none
CappedIs (Err e) r = r ≡ Err e
