-- The versions of texts.
use Rattle.std.proofs.Common.{ℕ, ◌≤◌, Bool, true, false, cond, List, drop, arith, eqb}
use Rattle.std.specs.List.{starts_with}
use Rattle.qs_lex.specs.Spelling.{since, name_of, between_dashes, IsInVersion}
use Rattle.qs_lex.specs.Tokens.{version_of, blank_len}
use Rattle.qs_lex.specs.declared.token.Word.{Word}
use Rattle.qs_lex.specs.declared.token.Kind.{Kind}
use Rattle.qs_lex.specs.declared.token.Kind.TheVariants.{Bare, Quoted, Variable, Node, Word as a_word, Opening, Closing, Comma, Plus, Slash, Equals, Stop}
use Rattle.qs_lex.specs.declared.token.Word.TheVariants.{Systeme, Graphe, Fin, Dans, Hors, Et, Ou, Non, Version, Egal, Unique}

either : (t : Bool) → 1 ≤ cond t 2 1
either true = omega arith
either false = omega arith

-- each text has the words of the first version
pub first_version : (text : List ℕ) → 1 ≤ version_of text
first_version text = either (starts_with eqb (drop (blank_len text) text) (between_dashes (name_of Version)))

-- and version 2 has all words
pub second_version : (w : Word) → since w ≤ 2
second_version Systeme = omega arith
second_version Graphe = omega arith
second_version Fin = omega arith
second_version Dans = omega arith
second_version Hors = omega arith
second_version Et = omega arith
second_version Ou = omega arith
second_version Non = omega arith
second_version Version = omega arith
second_version Egal = omega arith
second_version Unique = omega arith

pub kind_in_second : (k : Kind) → IsInVersion 2 k
kind_in_second Bare = tt
kind_in_second Quoted = tt
kind_in_second (Variable letter number) = tt
kind_in_second (Node n) = tt
kind_in_second (a_word w) = second_version w
kind_in_second Opening = tt
kind_in_second Closing = tt
kind_in_second Comma = tt
kind_in_second Plus = tt
kind_in_second Slash = tt
kind_in_second Equals = tt
kind_in_second Stop = tt
