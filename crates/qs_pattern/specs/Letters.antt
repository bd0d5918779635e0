-- The letters and numbers that variables have.
use Rattle.std.specs.Prelude.{ℕ, ◌≤◌, Bool, ◌&&◌, ◌||◌, nat_le, IsTrue}

-- The letters are A to F, I to N and U to Z.
abbrev pub is_variable_letter : ℕ → Bool
is_variable_letter l = ((nat_le 65 l && nat_le l 70) || (nat_le 73 l && nat_le l 78)) || (nat_le 85 l && nat_le l 90)

-- The bare form of a variable has the number 0, the others are written.
abbrev pub IsVariable : ℕ → ℕ → Type 0
IsVariable letter number = IsTrue (is_variable_letter letter) × (number ≤ 99)
