-- The parts of a head, as the code keeps them.
use Rattle.std.specs.Prelude.{◌≡◌, ℕ, List, Ok, codes, length}
use Rattle.std.specs.Str.{chars}
use Rattle.httparse.specs.Grammar.{RequestHead, print_request}
use Rattle.server_http.specs.declared.parts.Head.{Head}
use Rattle.server_http.specs.Framing.{values_named, body_size, bearer, closes}
use Rattle.server_http.specs.Item.{lines_of}

-- the parts of a head with that method, target, lines, version and length
pub record HeadIs (verb path : List ℕ) (lines : List (List ℕ × List ℕ)) (minor end : ℕ) (head : Head) : Type 0 where
  pub method : head.method ≡ verb
  pub target : head.target ≡ chars path
  pub bearer : head.bearer ≡ bearer (values_named (codes "authorization") lines)
  pub close : head.close ≡ closes minor lines
  pub len : head.len ≡ end
  pub size : body_size verb lines ≡ Ok head.size

abbrev pub IsHeadOf : RequestHead → Head → Type 0
IsHeadOf h head = HeadIs h.method h.target (lines_of h) h.minor (length (print_request h)) head
