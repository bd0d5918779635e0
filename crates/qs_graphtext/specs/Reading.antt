-- What is read from the tokens of graphs: one case for each line of the grammar and each alternative in it. In
-- `Reads.. tokens x rest` the tokens before the rest are read as x.
use Rattle.std.specs.Prelude.{◌≡◌, ℕ, List, [], ◌∷◌}
use Rattle.qs_lex.specs.declared.token.Token.{Token}
use Rattle.qs_lex.specs.declared.token.Kind.TheVariants.{Node}
use Rattle.qs_lex.specs.declared.token.Word.TheVariants.{Graphe, Fin}
use Rattle.qs_lex.specs.Grammar.{the_word, opening, closing, comma, plus, stop, IsOf}
use Rattle.qs_tree.specs.declared.cell.Label.{Label}
use Rattle.qs_tree.specs.Lists.{◌∈◌}
use Rattle.qs_tree.specs.Text.{IsNamed}
use Rattle.qs_tree.specs.Trees.{Forest, no_tree, first_tree, Tree}
use Rattle.qs_reader.specs.Names.{IsLabelOf}
use Rattle.qs_graphtext.specs.WrittenChains.{WrittenChain}

mutual
  -- plain = label [ "(" [ plain { "," plain } ] ")" ]
  pub data ReadsPlain (names : List (List ℕ)) (text : List ℕ) : List Token → Tree → List Token → Type 0 where
    reads_plain : {t : Token} {label : Label} {ts rest : List Token} {kids : Forest}
        → IsLabelOf names text t label → ReadsSubtrees names text ts kids rest
        → ReadsPlain names text (t ∷ ts) (record { root = label; subtrees = kids }) rest

  -- what stands behind a label: [ "(" [ plain { "," plain } ] ")" ]. Parentheses with nothing in them leave no trace.
  pub data ReadsSubtrees (names : List (List ℕ)) (text : List ℕ) : List Token → Forest → List Token → Type 0 where
    no_parentheses : {ts : List Token} → ReadsSubtrees names text ts no_tree ts
    nothing_inside : {t u : Token} {rest : List Token} → IsOf opening t → IsOf closing u
        → ReadsSubtrees names text (t ∷ u ∷ rest) no_tree rest
    plains_inside : {t u : Token} {ts rest : List Token} {kids : Forest}
        → IsOf opening t → ReadsPlains names text ts kids (u ∷ rest) → IsOf closing u
        → ReadsSubtrees names text (t ∷ ts) kids rest

  -- plain { "," plain }
  pub data ReadsPlains (names : List (List ℕ)) (text : List ℕ) : List Token → Forest → List Token → Type 0 where
    reads_plains : {ts middle rest : List Token} {first : Tree} {behind : Forest}
        → ReadsPlain names text ts first middle → ReadsMorePlains names text middle behind rest
        → ReadsPlains names text ts (first_tree first.root first.subtrees behind) rest

  pub data ReadsMorePlains (names : List (List ℕ)) (text : List ℕ) : List Token → Forest → List Token → Type 0 where
    no_more_plains : {ts : List Token} → ReadsMorePlains names text ts no_tree ts
    one_more_plain : {t : Token} {ts middle rest : List Token} {next : Tree} {behind : Forest}
        → IsOf comma t → ReadsPlain names text ts next middle → ReadsMorePlains names text middle behind rest
        → ReadsMorePlains names text (t ∷ ts) (first_tree next.root next.subtrees behind) rest

-- a tree of a chain, and the byte of the text at which the label of its root begins
pub data ReadsRooted (names : List (List ℕ)) (text : List ℕ) : List Token → Tree → ℕ → List Token → Type 0 where
  reads_rooted : {t : Token} {ts rest : List Token} {tree : Tree} → ReadsPlain names text (t ∷ ts) tree rest
      → ReadsRooted names text (t ∷ ts) tree t.from rest

-- { "+" plain }, with the bytes of the roots
pub data ReadsMoreTrees (names : List (List ℕ)) (text : List ℕ) : List Token → List Tree → List ℕ → List Token
    → Type 0 where
  no_more_trees : {ts : List Token} → ReadsMoreTrees names text ts [] [] ts
  one_more_tree : {t : Token} {ts middle rest : List Token} {next : Tree} {byte : ℕ} {behind : List Tree} {at : List ℕ}
      → IsOf plus t → ReadsRooted names text ts next byte middle → ReadsMoreTrees names text middle behind at rest
      → ReadsMoreTrees names text (t ∷ ts) (next ∷ behind) (byte ∷ at) rest

-- plain { "+" plain }, with the bytes of the roots
pub data ReadsTrees (names : List (List ℕ)) (text : List ℕ) : List Token → List Tree → List ℕ → List Token
    → Type 0 where
  reads_trees : {ts middle rest : List Token} {first : Tree} {byte : ℕ} {behind : List Tree} {at : List ℕ}
      → ReadsRooted names text ts first byte middle → ReadsMoreTrees names text middle behind at rest
      → ReadsTrees names text ts (first ∷ behind) (byte ∷ at) rest

-- chain = mark plain { "+" plain } mark "."
pub data ReadsChain (names : List (List ℕ)) (text : List ℕ) : List Token → WrittenChain → List Token → Type 0 where
  reads_chain : {t u v : Token} {ts rest : List Token} {from to : ℕ} {trees : List Tree} {at : List ℕ}
      → t.kind ≡ Node from → ReadsTrees names text ts trees at (u ∷ v ∷ rest) → u.kind ≡ Node to → IsOf stop v
      → ReadsChain names text (t ∷ ts) (record { from = from; trees = trees; to = to; at = at }) rest

-- { chain }
pub data ReadsMoreChains (names : List (List ℕ)) (text : List ℕ) : List Token → List WrittenChain → List Token
    → Type 0 where
  no_more_chains : {ts : List Token} → ReadsMoreChains names text ts [] ts
  one_more_chain : {ts middle rest : List Token} {next : WrittenChain} {behind : List WrittenChain}
      → ReadsChain names text ts next middle → ReadsMoreChains names text middle behind rest
      → ReadsMoreChains names text ts (next ∷ behind) rest

-- chain { chain }
pub data ReadsChains (names : List (List ℕ)) (text : List ℕ) : List Token → List WrittenChain → List Token
    → Type 0 where
  reads_chains : {ts middle rest : List Token} {first : WrittenChain} {behind : List WrittenChain}
      → ReadsChain names text ts first middle → ReadsMoreChains names text middle behind rest
      → ReadsChains names text ts (first ∷ behind) rest

-- graph = -GRAPHE- chain { chain } -FIN-
pub data ReadsGraph (names : List (List ℕ)) (text : List ℕ) : List Token → List WrittenChain → List Token → Type 0 where
  reads_graph : {t u : Token} {ts rest : List Token} {chains : List WrittenChain}
      → IsOf (the_word Graphe) t → ReadsChains names text ts chains (u ∷ rest) → IsOf (the_word Fin) u
      → ReadsGraph names text (t ∷ ts) chains rest

-- each label in the trees of these chains is one of the first n
abbrev pub AreNamed : ℕ → List WrittenChain → Type 0
AreNamed n chains = (chain : WrittenChain) → chain ∈ chains → (tree : Tree) → tree ∈ chain.trees → IsNamed n tree

-- the byte is that at which one of these tokens begins
abbrev pub IsByteOf : List Token → ℕ → Type 0
IsByteOf tokens byte = (t : Token) × (t ∈ tokens) × (t.from ≡ byte)
