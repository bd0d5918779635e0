-- The names that a reader leaves in front of the tokens that are left.
use Rattle.std.specs.Prelude.{◌≡◌, ℕ, List, ◌++◌}
use Rattle.qs_lex.specs.declared.token.Token.{Token}
use Rattle.qs_reader.specs.Names.{NamesGrow}

-- the texts of the labels among the tokens before the rest come behind the names
abbrev pub NamesGrowUpTo : List ℕ → List Token → List Token → List (List ℕ) → List (List ℕ) → Type 0
NamesGrowUpTo text tokens rest old new =
    (passed : List Token) × (tokens ≡ passed ++ rest) × NamesGrow text passed old new
