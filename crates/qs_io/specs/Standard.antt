-- A reader or a writer of std as a source or a sink, as contracts see it. All is this project's own.
use Rattle.std.specs.Prelude.{ℕ, Bool, List}

-- a writer, and how many calls have failed
pub record OverWriter (W : Type 0) : Type 0 where
  pub device : W
  pub faults : ℕ

-- a reader, how many calls have failed, the bytes that the others gave, and whether the last of those met the end of
-- input
pub record OverReader (R : Type 0) : Type 0 where
  pub device : R
  pub faults : ℕ
  pub given : List ℕ
  pub ended : Bool
