-- What the private functions of the reader of decks promise.
use Rattle.std.specs.Prelude.{ℕ, ◌≤◌, Bool, List, length}
use Rattle.qs_lex.specs.declared.token.Word.TheVariants.{Systeme, Unique}
use Rattle.qs_lex.specs.Grammar.{Sort, the_word, Form, one, part, optional, repeated}
use Rattle.qs_lex.specs.Expecting.{same_sort}
use Rattle.qs_reader.specs.declared.text_end.TextEnd.{TextEnd}
use Rattle.qs_reader.specs.Readers.{Reading}
use Rattle.qs_reader.specs.working.Readers.{Reads}
use Rattle.qs_reader.specs.working.Readers as reader
use Rattle.qs_ruletext.specs.WrittenRules.{WrittenRule}
use Rattle.qs_ruletext.specs.Grammar as rules
use Rattle.qs_ruletext.specs.Rules.{ReadsRules}
use Rattle.qs_ruletext.specs.working.Readers as rule_readers
use Rattle.qs_graphtext.specs.WrittenChains.{WrittenChain}
use Rattle.qs_graphtext.specs.Grammar as graphs
use Rattle.qs_graphtext.specs.Reading.{ReadsGraph}
use Rattle.qs_graphtext.specs.working.Readers as graph_readers
use Rattle.qs_deck.specs.WrittenDecks.{WrittenSystem, WrittenDeck}
use Rattle.qs_deck.specs.Grammar.{Part, deck, system, of_rules, of_graphs, grammars, line}
use Rattle.qs_deck.specs.Reading.{ReadsMark, ReadsSystem, ReadsSystems, ReadsDeck}

-- which sorts the parts may begin with
abbrev pub table : Part → Sort → Bool
table deck = same_sort (the_word Systeme)
table system = same_sort (the_word Systeme)
table (of_rules p) = rule_readers.table p
table (of_graphs p) = graph_readers.table p

-- what readers do and where they stop, by these lines
abbrev pub IsRead : Form Part → Reads → Reading → Reading → List (List ℕ) → List (List ℕ) → Type 0
IsRead form R r s old new = reader.IsRead line table form R r s old new

abbrev pub IsReadSoFar : Form Part → Form Part → Reads → Reading → Reading → List (List ℕ) → List (List ℕ) → Type 0
IsReadSoFar form member R r s old new = reader.IsReadSoFar line table form member R r s old new

abbrev pub Ends : Form Part → Reading → TextEnd → Type 0
Ends form r end = reader.Ends line table form r end

-- the mark of a system, which may be left out, its rules, the systems of a deck, and its graph
abbrev pub may_be_marked : Form Part
may_be_marked = optional (one (the_word Unique))

abbrev pub some_rules : Form Part
some_rules = repeated (part (of_rules rules.rule))

abbrev pub some_systems : Form Part
some_systems = grammars

abbrev pub one_graph : Form Part
one_graph = part (of_graphs graphs.graph)

-- What is read from the tokens of each part, as a relation of tokens.
abbrev pub Rules : List WrittenRule → Reads
Rules raws names text ts rest = ReadsRules names text ts raws rest

abbrev pub AMark : Bool → Reads
AMark unique names text ts rest = ReadsMark ts unique rest

abbrev pub ASystem : WrittenSystem → Reads
ASystem written names text ts rest = ReadsSystem names text ts written rest

abbrev pub Systems : List WrittenSystem → Reads
Systems systems names text ts rest = (1 ≤ length systems) × ReadsSystems names text ts systems rest

abbrev pub AGraph : List WrittenChain → Reads
AGraph chains names text ts rest = ReadsGraph names text ts chains rest

abbrev pub ADeck : WrittenDeck → Reads
ADeck written names text ts rest = ReadsDeck names text ts written rest
