-- What contracts say of a door over TCP, which tells nothing of its connections.
use Rattle.std.specs.Prelude.{ℕ, Bool}

-- whether it listens, whether there is a present connection, and how many calls have failed, of two kinds
pub record TcpState : Type 0 where
  pub listens : Bool
  pub connected : Bool
  -- of `open` and `next`
  pub faults : ℕ
  -- of `read` and `write`
  pub line_faults : ℕ
