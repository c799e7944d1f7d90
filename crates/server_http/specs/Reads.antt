-- When a call for the next message reads, and by which bytes it answers.
use Rattle.std.specs.Prelude.{◌≡◌, ◌⊎◌, ℕ, ◌≤◌, List, [], ◌∷◌, ◌++◌, length, Option, Result}
use Rattle.std.specs.Io.KnownBytes.{Consumes}
use Rattle.server_http.specs.declared.fail.HttpFail.{HttpFail}
use Rattle.server_http.specs.declared.message.Next.{Next}
use Rattle.server_http.specs.Item.{ended, broken, IsItem}
use Rattle.server_http.specs.Answer.{Answered}

-- a read asks for at most so many bytes
abbrev pub read_limit : ℕ
read_limit = 4096

-- Reads that gave these pieces. Before them these bytes had come, and this was the source; after them, all that has come
-- and the source now. Each was made where P held of the bytes that had come.
abbrev pub ReadsEach : {S : Type 0} → (S → Option (List ℕ)) → (List ℕ → Type 0) → List (List ℕ) → List ℕ → S → List ℕ → S → Type 0
ReadsEach left P [] bytes source come now = (come ≡ bytes) × (now ≡ source)
ReadsEach {S = T} left P (piece ∷ pieces) bytes source come now =
    P bytes × (length piece ≤ read_limit)
    × (next : T) × Consumes (left source) (left next) piece × ReadsEach left P pieces (bytes ++ piece) next come now

-- reads from the bytes of a buffer to all that has come
pub record Reads {S : Type 0} (left : S → Option (List ℕ)) (P : List ℕ → Type 0) (bytes : List ℕ) (source : S) (come : List ℕ) (now : S) : Type 0 where
  pub pieces : List (List ℕ)
  pub each : ReadsEach left P pieces bytes source come now

-- what has come ends between messages, or within one
abbrev pub IsUnfinished : List ℕ → Type 0
IsUnfinished bytes = IsItem bytes ended bytes ⊎ IsItem bytes broken bytes

-- a call reads only where what has come is unfinished, and answers by all that has come then
pub record ReadsToAnswer {S : Type 0} (left : S → Option (List ℕ)) (buffer : List ℕ) (source now : S) (result : Result Next HttpFail) (rest : List ℕ) : Type 0 where
  pub come : List ℕ
  pub reads : Reads left IsUnfinished buffer source come now
  pub answer : Answered come result rest

-- a call doesn't read: the source is as it was, and the answer is by the bytes in the buffer
abbrev pub AnswersAtHand : {S : Type 0} → List ℕ → S → S → Result Next HttpFail → List ℕ → Type 0
AnswersAtHand buffer source now result rest = (now ≡ source) × Answered buffer result rest
