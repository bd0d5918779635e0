-- The made deck of a size k: a chain of 2^k words, and a grammar that joins two trees of one level into a tree of the
-- next level, until one tree of level k is left. This deck is this project's own.
use Rattle.std.specs.Prelude.{ℕ, false, ◌+◌, ◌-◌, ◌^◌, List, [], ◌∷◌, ◌++◌, None, map, flat_map, codes, decimal}
use Rattle.std.specs.List.{range_with_len}
use Rattle.std.proofs.Common.{refl, lit≤}
use Rattle.qs_tree.specs.declared.cell.Label.{Label}
use Rattle.qs_tree.specs.Trees.{Tree, node}
use Rattle.qs_pattern.specs.declared.variable.Var.{Var}
use Rattle.qs_pattern.specs.declared.pattern.Head.TheVariants as head
use Rattle.qs_pattern.specs.Patterns.{Patterns, no_pattern, node_first, tree_var_first}
use Rattle.qs_pattern.specs.Rules.{Rule}
use Rattle.qs_graph.specs.Graphs.{QGraph}
use Rattle.qs_graph.specs.Chains.{line_graph}
use Rattle.qs_graphtext.specs.Texts.{line}
use Rattle.qs_deck.specs.Decks.{Grammar}

-- The name of a level, as `T3`, and of a word, as `M12`.
abbrev pub level_name : ℕ → List ℕ
level_name i = codes "T" ++ decimal i

abbrev pub word_name : ℕ → List ℕ
word_name m = codes "M" ++ decimal m

-- The levels go from 0 to k, the words from 1 to 2^k.
abbrev pub levels : ℕ → List ℕ
levels k = range_with_len 0 (k + 1)

abbrev pub words : ℕ → List ℕ
words k = range_with_len 1 (2 ^ k)

-- The names of the labels, in the order in which the text has them first: M, which is the name of the grammar, T0 to
-- Tk, and M1 to M(2^k).
abbrev pub made_names : ℕ → List (List ℕ)
made_names k = codes "M" ∷ (map level_name (levels k) ++ map word_name (words k))

-- The labels with these names, by their places among them.
abbrev pub name_label : Label
name_label = record { 0 = 0 }

abbrev pub level_label : ℕ → Label
level_label i = record { 0 = i + 1 }

abbrev pub word_label : ℕ → ℕ → Label
word_label k m = record { 0 = k + 1 + m }

-- The variables I* and J*, each of which stands for one tree.
abbrev pub first_var : Var
first_var = record { letter = 73; number = 0; known = (refl, lit≤ tt) }

abbrev pub second_var : Var
second_var = record { letter = 74; number = 0; known = (refl, lit≤ tt) }

-- The pattern of a tree of this level with one subtree, as `T0(I*)`, and the patterns behind it.
abbrev pub of_level : ℕ → Var → Patterns → Patterns
of_level i var behind = node_first (head.Label (level_label i)) (tree_var_first var no_pattern) behind

-- The rule that joins two trees of a level: `T0(I*) + T0(J*) == T1(I*).`
abbrev pub level_rule : ℕ → Rule
level_rule i = record {
  left = of_level i first_var (of_level i second_var no_pattern);
  right = of_level (i + 1) first_var no_pattern;
  condition = None;
  unique = false;
}

-- The grammar M has one such rule for each level below k.
abbrev pub made_grammar : ℕ → Grammar
made_grammar k = record { name = name_label; unique = false; rules = map level_rule (range_with_len 0 k) }

-- A word stands in a tree of level 0, as `T0(M1)`.
abbrev pub word_tree : ℕ → ℕ → Tree
word_tree k m = node (level_label 0) (node (word_label k m) [] ∷ [])

-- The graph is the chain of the words from 1 to 2.
abbrev pub made_graph : ℕ → QGraph
made_graph k = line_graph 1 (map (word_tree k) (words k)) 2

-- The text, line by line. A rule: `T0(I*) + T0(J*) == T1(I*).`
abbrev pub level_line : ℕ → List ℕ
level_line i =
    line (level_name i
    ++ (codes "(I*) + " ++ (level_name i ++ (codes "(J*) == " ++ (level_name (i + 1) ++ codes "(I*).")))))

-- The words with a plus sign between two: `T0(M1) + T0(M2)`
abbrev pub word_text : ℕ → List ℕ
word_text m = codes "T0(" ++ (word_name m ++ codes ")")

abbrev pub words_text : ℕ → List ℕ
words_text k = word_text 1 ++ flat_map (λ m. codes " + " ++ word_text m) (range_with_len 2 (2 ^ k - 1))

-- The lines `-SYSTEME- M.`, those of the rules, `-GRAPHE-`, that of the chain and `-FIN-`.
abbrev pub made_text : ℕ → List ℕ
made_text k =
    line (codes "-SYSTEME- M.") ++ (flat_map level_line (range_with_len 0 k)
    ++ (line (codes "-GRAPHE-") ++ (line (codes "-1- " ++ (words_text k ++ codes " -2-.")) ++ line (codes "-FIN-"))))
