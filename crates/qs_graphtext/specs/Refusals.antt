-- Where graphs can't go on.
use Rattle.std.specs.Prelude.{ℕ, List}
use Rattle.qs_lex.specs.declared.token.Token.{Token}
use Rattle.qs_lex.specs.Grammar.{part}
use Rattle.qs_reader.specs.declared.text_end.TextEnd.{TextEnd}
use Rattle.qs_reader.specs.declared.text_end.TextEnd.TheVariants.{Syntax, Memory}
use Rattle.qs_reader.specs.Readers as reader
use Rattle.qs_graphtext.specs.Grammar.{graph, line}

-- the tokens from `from` on, before `at`, begin a graph and are none whole, and with the token at `at`, where there is
-- one, they begin none
abbrev pub CannotGoOn : List Token → ℕ → ℕ → Type 0
CannotGoOn tokens from at = reader.CannotGoOn line (part graph) tokens from at

-- why no graph was read: it can't go on at this place, or there was no memory, which may come at any time
abbrev pub EndsFrom : List Token → ℕ → TextEnd → Type 0
EndsFrom tokens from (Syntax at) = CannotGoOn tokens from at
EndsFrom tokens from Memory = Unit {0}
