-- Sources and sinks that hold their bytes in memory, as contracts see them. All is this project's own.
use Rattle.std.specs.Prelude.{◌<◌, ℕ, ◌+◌, ◌-◌, ◌^◌, min, List, Contains}

-- a source that fails at some of its calls: the bytes that are left, those that were given, the most bytes that one
-- call gives, the numbers of the calls that fail, how many calls were made and how many of them failed
pub record SourceState : Type 0 where
  pub left : List ℕ
  pub given : List ℕ
  pub piece : ℕ
  pub failing : List ℕ
  pub calls : ℕ
  pub faults : ℕ

-- a source that never fails: the bytes that are left, those that were given, and the most bytes that one call gives
pub record SureSourceState : Type 0 where
  pub left : List ℕ
  pub given : List ℕ
  pub piece : ℕ

-- a sink: the bytes that were written, how many more it has room for, the most bytes that one call takes, the numbers
-- of the calls that fail, how many calls were made and how many of them failed
pub record SinkState : Type 0 where
  pub written : List ℕ
  pub room : ℕ
  pub piece : ℕ
  pub failing : List ℕ
  pub calls : ℕ
  pub faults : ℕ

-- the count of calls behind one call more, which stands still at the greatest u64
abbrev pub calls_after : ℕ → ℕ
calls_after calls = min (calls + 1) (2 ^ 64 - 1)

-- the next call is one of those that fail; calls are numbered from 1,
-- and none has a number where their count stands still
abbrev pub FailsNext : ℕ → List ℕ → Type 0
FailsNext calls failing = (calls < 2 ^ 64 - 1) × Contains failing (calls + 1)
