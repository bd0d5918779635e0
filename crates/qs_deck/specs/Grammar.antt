-- The parts of a deck, each with its line of the grammar. (Colmerauer's decks, 1970, in this project's spelling.)
use Rattle.qs_lex.specs.Grammar.{a_label, the_word, stop, Form, one, part, optional, ◌·◌, repeated, renamed, Grammar}
use Rattle.qs_lex.specs.declared.token.Word.TheVariants.{Systeme, Unique}
use Rattle.qs_ruletext.specs.Grammar as rules
use Rattle.qs_graphtext.specs.Grammar as graphs

-- a deck, behind the line of its version; a system, which is a grammar with its name; a part of a rule; a part of a
-- graph
pub data Part : Type 0 where
  deck : Part
  system : Part
  of_rules : rules.Part → Part
  of_graphs : graphs.Part → Part

-- grammars = system { system }
abbrev pub grammars : Form Part
grammars = part system · repeated (part system)

-- deck = grammars graph
-- system = -SYSTEME- label [ -UNIQUE- ] "." { rule }
-- and for the parts of rules and of graphs the lines that they have
abbrev pub line : Grammar Part
line deck = grammars · part (of_graphs graphs.graph)
line system = one (the_word Systeme) · one a_label · optional (one (the_word Unique)) · one stop
    · repeated (part (of_rules rules.rule))
line (of_rules p) = renamed of_rules (rules.line p)
line (of_graphs p) = renamed of_graphs (graphs.line p)
