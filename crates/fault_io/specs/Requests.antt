-- What a folder was asked for.
use Rattle.std.specs.Prelude.{ℕ, List}

-- a file that was asked for: its name, and the most bytes that it may have
pub record Request : Type 0 where
  pub name : List ℕ
  pub limit : ℕ
