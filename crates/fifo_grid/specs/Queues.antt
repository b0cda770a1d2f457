-- The messages from one process to another.
use Rattle.std.specs.Prelude.{ℕ, ℤ, List}

-- the messages, the head first, and how many more fit without allocation
pub record QueueState : Type 0 where
  pub messages : List ℤ
  pub room : ℕ
