-- Sorts told apart, and the sorts that the next token isn't of.
use Rattle.std.specs.Prelude.{◌≡◌, ℕ, Bool, false, ◌==◌, List, [], ◌∷◌}
use Rattle.qs_lex.specs.declared.token.Word.{Word}
use Rattle.qs_lex.specs.declared.token.Word.TheVariants.{Systeme, Graphe, Fin, Dans, Hors, Et, Ou, Non, Version, Egal}
use Rattle.qs_lex.specs.declared.token.Word.TheVariants.{Unique}
use Rattle.qs_lex.specs.declared.token.Token.{Token}
use Rattle.qs_lex.specs.Grammar.{Sort, a_label, a_label_variable, a_tree_variable, a_forest_variable, a_node_mark}
use Rattle.qs_lex.specs.Grammar.{the_word, opening, closing, comma, plus, slash, equals, stop, sort_of}

-- sorts told apart by numbers
abbrev pub number_of_word : Word → ℕ
number_of_word Systeme = 12
number_of_word Graphe = 13
number_of_word Fin = 14
number_of_word Dans = 15
number_of_word Hors = 16
number_of_word Et = 17
number_of_word Ou = 18
number_of_word Non = 19
number_of_word Version = 20
number_of_word Egal = 21
number_of_word Unique = 22

abbrev pub number_of : Sort → ℕ
number_of a_label = 0
number_of a_label_variable = 1
number_of a_tree_variable = 2
number_of a_forest_variable = 3
number_of a_node_mark = 4
number_of (the_word w) = number_of_word w
number_of opening = 5
number_of closing = 6
number_of comma = 7
number_of plus = 8
number_of slash = 9
number_of equals = 10
number_of stop = 11

abbrev pub same_sort : Sort → Sort → Bool
same_sort s r = number_of s == number_of r

-- the next token, where there is one, is of none of these sorts
abbrev pub NextIsNo : (Sort → Bool) → List Token → Type 0
NextIsNo p [] = Unit {0}
NextIsNo p (t ∷ ts) = p (sort_of t.kind) ≡ false
