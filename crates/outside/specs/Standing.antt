-- A place in a text.
use Rattle.std.specs.Prelude.{ℕ, List}

-- A place in a text, and the bytes from there on.
pub record Standing : Type 0 where
  pub place : ℕ
  pub rest : List ℕ
