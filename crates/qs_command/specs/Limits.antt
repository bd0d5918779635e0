-- The limits of jobs. The numbers are this project's own.
use Rattle.std.specs.Prelude.{ℕ, ◌≤◌}

-- the most firings that a grammar may be allowed
abbrev pub most_limit : ℕ
most_limit = 1000000

-- the most workers
abbrev pub most_workers : ℕ
most_workers = 32

-- the most readings of a line of words
abbrev pub most_readings : ℕ
most_readings = 1000

-- A limit is a number from 1 to 1,000,000.
pub record IsLimit (n : ℕ) : Type 0 where
  pub low : 1 ≤ n
  pub high : n ≤ most_limit
