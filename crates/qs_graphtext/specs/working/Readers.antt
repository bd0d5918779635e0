-- What the private functions of the reader of graphs promise.
use Rattle.std.specs.Prelude.{◌≡◌, ℕ, Bool, List, ◌∷◌}
use Rattle.qs_lex.specs.declared.token.Token.{Token}
use Rattle.qs_lex.specs.declared.token.Kind.TheVariants.{Node}
use Rattle.qs_lex.specs.declared.token.Word.TheVariants.{Graphe}
use Rattle.qs_lex.specs.Grammar.{Sort, a_label, a_node_mark, the_word, opening, closing, comma, Form, one, part, ◌·◌}
use Rattle.qs_lex.specs.Grammar.{optional, repeated}
use Rattle.qs_lex.specs.Expecting.{same_sort}
use Rattle.qs_tree.specs.Trees.{Forest, Tree}
use Rattle.qs_reader.specs.declared.text_end.TextEnd.{TextEnd}
use Rattle.qs_reader.specs.Readers.{Reading, IsPassed}
use Rattle.qs_reader.specs.working.Readers.{Reads}
use Rattle.qs_reader.specs.working.Readers as reader
use Rattle.qs_graphtext.specs.WrittenChains.{WrittenChain}
use Rattle.qs_graphtext.specs.Grammar.{Part, graph, chain, plain, line}
use Rattle.qs_graphtext.specs.Reading.{ReadsPlain, ReadsSubtrees, ReadsPlains, ReadsRooted, ReadsTrees, ReadsChain}
use Rattle.qs_graphtext.specs.Reading.{ReadsChains, ReadsGraph}

-- which sorts the parts may begin with
abbrev pub table : Part → Sort → Bool
table graph = same_sort (the_word Graphe)
table chain = same_sort a_node_mark
table plain = same_sort a_label

-- what readers do and where they stop, by these lines
abbrev pub IsRead : Form Part → Reads → Reading → Reading → List (List ℕ) → List (List ℕ) → Type 0
IsRead form R r s old new = reader.IsRead line table form R r s old new

abbrev pub IsReadSoFar : Form Part → Form Part → Reads → Reading → Reading → List (List ℕ) → List (List ℕ) → Type 0
IsReadSoFar form member R r s old new = reader.IsReadSoFar line table form member R r s old new

abbrev pub Ends : Form Part → Reading → TextEnd → Type 0
Ends form r end = reader.Ends line table form r end

-- the node mark with this number was passed
pub record PassesMark (number : ℕ) (r s : Reading) : Type 0 where
  pub token : Token
  pub passed : IsPassed token r s
  pub is : token.kind ≡ Node number

-- trees with a sign between two, and what may stand in parentheses behind a label
abbrev pub plains_with : Sort → Form Part
plains_with sign = part plain · repeated (one sign · part plain)

abbrev pub in_parentheses : Form Part
in_parentheses = optional (one opening · optional (plains_with comma) · one closing)

-- chains, one behind the other
abbrev pub some_chains : Form Part
some_chains = part chain · repeated (part chain)

pub data AMark (number : ℕ) (names : List (List ℕ)) (text : List ℕ) : List Token → List Token → Type 0 where
  a_mark : {t : Token} {rest : List Token} → t.kind ≡ Node number → AMark number names text (t ∷ rest) rest

-- What is read from the tokens of each part, as a relation of tokens.
abbrev pub APlain : Tree → Reads
APlain tree names text ts rest = ReadsPlain names text ts tree rest

abbrev pub Subtrees : Forest → Reads
Subtrees kids names text ts rest = ReadsSubtrees names text ts kids rest

abbrev pub Plains : Forest → Reads
Plains kids names text ts rest = ReadsPlains names text ts kids rest

abbrev pub ARooted : Tree → ℕ → Reads
ARooted tree byte names text ts rest = ReadsRooted names text ts tree byte rest

abbrev pub Trees : List Tree → List ℕ → Reads
Trees trees at names text ts rest = ReadsTrees names text ts trees at rest

abbrev pub AChain : WrittenChain → Reads
AChain c names text ts rest = ReadsChain names text ts c rest

abbrev pub Chains : List WrittenChain → Reads
Chains chains names text ts rest = ReadsChains names text ts chains rest

abbrev pub AGraph : List WrittenChain → Reads
AGraph chains names text ts rest = ReadsGraph names text ts chains rest
