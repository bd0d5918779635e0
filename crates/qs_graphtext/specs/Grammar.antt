-- The parts of a graph, each with its line of the grammar.
use Rattle.qs_lex.specs.Grammar.{a_label, a_node_mark, the_word, opening, closing, comma, plus, stop, one, part, ◌·◌}
use Rattle.qs_lex.specs.Grammar.{optional, repeated, Grammar}
use Rattle.qs_lex.specs.declared.token.Word.TheVariants.{Graphe, Fin}

-- a graph; a chain of it; a tree of a chain, which has no variables
pub data Part : Type 0 where
  graph : Part
  chain : Part
  plain : Part

-- graph = -GRAPHE- chain { chain } -FIN-
-- chain = mark plain { "+" plain } mark "."
-- plain = label [ "(" [ plain { "," plain } ] ")" ]
abbrev pub line : Grammar Part
line graph = one (the_word Graphe) · (part chain · repeated (part chain)) · one (the_word Fin)
line chain = one a_node_mark · (part plain · repeated (one plus · part plain)) · one a_node_mark · one stop
line plain =
    one a_label · optional (one opening · optional (part plain · repeated (one comma · part plain)) · one closing)
