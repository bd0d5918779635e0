-- Names that hold the texts of others at other numbers, and written chains and grammars with other numbers for their labels.
use Rattle.std.proofs.Common.{◌≡◌, ℕ, List, map, Some, slice_get}
use Rattle.qs_graphtext.specs.Texts.{AreArcsNamed}
use Rattle.qs_graphtext.specs.WrittenChains.{WrittenChain}
use Rattle.qs_clean.specs.Cascades.{Left, a_graph, no_arc, over}
use Rattle.qs_clean.specs.Renaming.{renamed_label, renamed_tree, renamed_rule}
use Rattle.qs_deck.specs.Decks.{Grammar}

-- the text that a number has among the others is that which the number by g has among the names
abbrev pub Carries : (ℕ → ℕ) → List (List ℕ) → List (List ℕ) → Type 0
Carries g others names = (k : ℕ) (text : List ℕ) → slice_get others k ≡ Some text → slice_get names (g k) ≡ Some text

-- a written chain has its trees written so; the numbers of its nodes and the places of its trees stay
abbrev pub renamed_chain : (ℕ → ℕ) → WrittenChain → WrittenChain
renamed_chain g chain = record { from = chain.from; trees = map (renamed_tree g) chain.trees; to = chain.to; at = chain.at }

-- a grammar has its name and its rules written so
abbrev pub renamed_grammar : (ℕ → ℕ) → Grammar → Grammar
renamed_grammar g grammar = record { name = renamed_label g grammar.name; unique = grammar.unique; rules = map (renamed_rule g) grammar.rules }

-- each label in the graph that a grammar left, if it left one, is one of the first n
abbrev pub IsLeftNamed : ℕ → Left → Type 0
IsLeftNamed n (a_graph firings G) = AreArcsNamed n G.arcs
IsLeftNamed n (no_arc firings) = Unit {0}
IsLeftNamed n over = Unit {0}
