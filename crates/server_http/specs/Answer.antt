-- What a call for the next message answers.
use Rattle.std.specs.Prelude.{◌≡◌, ℕ, List, Option, Some, None, Result, Ok, Err, ⊤}
use Rattle.server_http.specs.declared.fail.HttpFail.{HttpFail}
use Rattle.server_http.specs.declared.fail.HttpFail.TheVariants.{BadHead, HeadTooLarge, TransferEncoding, LengthRequired, BodyTooLarge, Failed, Memory}
use Rattle.server_http.specs.declared.message.Next.{Next}
use Rattle.server_http.specs.declared.message.Next.TheVariants.{Message, End, Cut}
use Rattle.server_http.specs.Item.{whole, refused, ended, broken, IsItem}

-- P of the input before and after, where the source tells its bytes
abbrev pub Between : Option (List ℕ) → Option (List ℕ) → (List ℕ → List ℕ → Type 0) → Type 0
Between None new P = ⊤
Between (Some xs) None P = ⊥
Between (Some xs) (Some ys) P = P xs ys

-- what the call answers on this input, and what is left of it
abbrev pub Answered : List ℕ → Result Next HttpFail → List ℕ → Type 0
Answered input (Ok (Message m)) rest = IsItem input (whole m) rest
Answered input (Ok End) rest = IsItem input ended rest
Answered input (Ok Cut) rest = IsItem input broken rest
Answered input (Err BadHead) rest = IsItem input (refused BadHead) rest
Answered input (Err HeadTooLarge) rest = IsItem input (refused HeadTooLarge) rest
Answered input (Err TransferEncoding) rest = IsItem input (refused TransferEncoding) rest
Answered input (Err LengthRequired) rest = IsItem input (refused LengthRequired) rest
Answered input (Err BodyTooLarge) rest = IsItem input (refused BodyTooLarge) rest
Answered input (Err Failed) rest = rest ≡ input
Answered input (Err Memory) rest = rest ≡ input
