-- What happens to a source or a sink between two moments. Whether it tells its bytes never changes, so an equation
-- between optional lists says both: the bytes, where they are told, and that they are told now exactly where they
-- were told before. All is this project's own.
use Rattle.std.specs.Prelude.{◌≡◌, ◌↔◌, ℕ, ◌+◌, ◌-◌, ◌^◌, ◌<◌, ◌≤◌, min, List, ◌++◌, length, take, Option}
use Rattle.std.specs.Io.KnownBytes.{append_known, prepend_known}

-- a count rose: it is greater than before, or it stands at the greatest u64
abbrev pub HasRisen : ℕ → ℕ → Type 0
HasRisen before now = min (before + 1) (2 ^ 64 - 1) ≤ now

-- n bytes were taken from the front of what was left in a source
abbrev pub TakesBytes : Option (List ℕ) → Option (List ℕ) → ℕ → Type 0
TakesBytes old new n = (bytes : List ℕ) × (old ≡ prepend_known bytes new) × (length bytes ≡ n)

-- a proper prefix of them was: at least the last byte is missing
abbrev pub AppendsProperPrefix : Option (List ℕ) → Option (List ℕ) → List ℕ → Type 0
AppendsProperPrefix old new bytes = (n : ℕ) × (n < length bytes) × (new ≡ append_known old (take n bytes))

-- at most so many bytes were given, and the call was cut short exactly where it was so many
pub record Gives (old new : List ℕ) (most : ℕ) (IsCutShort : Type 0) : Type 0 where
  pub bytes : List ℕ
  pub given : new ≡ old ++ bytes
  pub bound : length bytes ≤ most
  pub cut_short : IsCutShort ↔ (length bytes ≡ most)
