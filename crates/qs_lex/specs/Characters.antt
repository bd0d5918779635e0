-- The characters that the table of tokens speaks of, and the classes of them.
use Rattle.std.specs.Prelude.{◌≡◌, ℕ, Bool, ◌||◌, ◌==◌, List, [], ◌∷◌, true, IsFalse, codes}
use Rattle.std.specs.List.{list_any}
use Rattle.std.specs.Int.{is_in_range}

-- the end of a line
abbrev pub line_feed : ℕ
line_feed = 10

-- it may stand before a line feed, and is a character as any other
abbrev pub carriage_return : ℕ
carriage_return = 13

-- '#', before a comment
abbrev pub number_sign : ℕ
number_sign = 35

-- '*', behind the letter of a variable
abbrev pub star : ℕ
star = 42

-- '-', around a word and a node mark
abbrev pub dash : ℕ
dash = 45

-- white space: a space, a tab, a line feed or a carriage return
abbrev pub is_space : ℕ → Bool
is_space b = b == 32 || b == 9 || b == line_feed || b == carriage_return

-- the letter of a variable: one of A to F, of I to N or of U to Z
abbrev pub is_variable_letter : ℕ → Bool
is_variable_letter b = is_in_range 65 70 b || is_in_range 73 78 b || is_in_range 85 90 b

-- no quoted label has one: a line feed or a carriage return
abbrev pub ends_line : ℕ → Bool
ends_line b = b == line_feed || b == carriage_return

-- a character with a meaning of its own outside labels: '#', a quote, a star, a dash, '=' or punctuation
abbrev pub is_sign : ℕ → Bool
is_sign b = list_any (λ sign. b == sign) (codes "#\"*-=(),+./")

-- the list doesn't begin with a byte of this class
abbrev pub BeginsWithNo : (ℕ → Bool) → List ℕ → Type 0
BeginsWithNo p [] = Unit {0}
BeginsWithNo p (b ∷ bs) = IsFalse (p b)

-- each byte of the list is of this class
abbrev pub Each : (ℕ → Bool) → List ℕ → Type 0
Each p [] = Unit {0}
Each p (b ∷ bs) = (p b ≡ true) × Each p bs
