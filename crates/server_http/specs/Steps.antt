-- What the inner functions of a call answer of the bytes in the buffer and those left in the source.
use Rattle.std.specs.Prelude.{◌≡◌, ◌⊎◌, ℕ, ◌<◌, ◌≤◌, ◌++◌, Bool, true, false, List, Option, Some, None, length, Result, Ok, Err, ⊤}
use Rattle.std.specs.Io.KnownBytes.{Consumes, IsAtEnd}
use Rattle.httparse.specs.Grammar.{RequestHead, HasNoRequest, NeverHasRequest, MayBecomeRequest}
use Rattle.httparse.specs.Spans.{IsRequestWithin, IsRequestOf}
use Rattle.httparse.specs.declared.spans.RequestSpans.{RequestSpans}
use Rattle.httparse.specs.declared.spans.HeaderSpan.{HeaderSpan}
use Rattle.server_http.specs.declared.fail.HttpFail.{HttpFail}
use Rattle.server_http.specs.declared.fail.HttpFail.TheVariants.{BadHead, HeadTooLarge, TransferEncoding, LengthRequired, BodyTooLarge, Failed, Memory}
use Rattle.server_http.specs.declared.parts.Head.{Head}
use Rattle.server_http.specs.Item.{head_limit, window, HasHead, IsUnread, size_of}
use Rattle.server_http.specs.Parts.{IsHeadOf}
use Rattle.server_http.specs.Reads.{read_limit}

-- one read put a piece behind the bytes
pub record HasPiece (old new : List ℕ) (before now : Option (List ℕ)) : Type 0 where
  pub piece : List ℕ
  pub size : length piece ≤ read_limit
  pub taken : Consumes before now piece
  pub more : new ≡ old ++ piece

-- whether so many bytes have come, or the source is at its end before
abbrev pub IsFilled : Bool → ℕ → List ℕ → Option (List ℕ) → Type 0
IsFilled true end bytes left = end ≤ length bytes
IsFilled false end bytes left = (length bytes < end) × IsAtEnd left

-- what a search for a head at the front of the bytes in the buffer answered
abbrev pub HeadAnswer : List ℕ → Option (List ℕ) → List HeaderSpan → Result (Option RequestSpans) HttpFail → Type 0
HeadAnswer bytes left lines (Ok (Some spans)) = IsRequestWithin (window bytes) lines spans × IsRequestOf (window bytes) lines spans
HeadAnswer bytes left lines (Ok None) = IsAtEnd left × (length bytes < head_limit) × HasNoRequest (window bytes) × MayBecomeRequest (window bytes)
HeadAnswer bytes left lines (Err BadHead) = NeverHasRequest (window bytes)
HeadAnswer bytes left lines (Err HeadTooLarge) = (head_limit ≤ length bytes) × HasNoRequest (window bytes) × MayBecomeRequest (window bytes)
HeadAnswer bytes left lines (Err TransferEncoding) = ⊥
HeadAnswer bytes left lines (Err LengthRequired) = ⊥
HeadAnswer bytes left lines (Err BodyTooLarge) = ⊥
HeadAnswer bytes left lines (Err Failed) = ⊤
HeadAnswer bytes left lines (Err Memory) = ⊤

-- a refusal of the bytes
abbrev pub IsRefusal : List ℕ → HttpFail → Type 0
IsRefusal bytes e = IsUnread bytes e ⊎ ((head : RequestHead) × HasHead bytes head × (size_of head ≡ Err e))

-- the parts of the head at the front, that the bytes end within one, or why there are none
abbrev pub NextHead : List ℕ → Option (List ℕ) → Result (Option Head) HttpFail → Type 0
NextHead bytes left (Ok (Some parts)) = (head : RequestHead) × HasHead bytes head × IsHeadOf head parts × (parts.len ≤ length bytes) × (parts.len ≤ head_limit)
NextHead bytes left (Ok None) = IsAtEnd left × (length bytes < head_limit) × HasNoRequest (window bytes) × MayBecomeRequest (window bytes)
NextHead bytes left (Err e) = (e ≡ Memory) ⊎ (e ≡ Failed) ⊎ IsRefusal bytes e
