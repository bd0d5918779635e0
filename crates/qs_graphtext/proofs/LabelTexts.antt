-- The labels of trees and the texts of tokens: the label tokens of a graph that is read have the texts of the labels of its
-- trees, in the order in which these are written.
use Rattle.std.proofs.Common.{◌≡◌, ℕ, refl, sym, ◌∙◌, ap, List, [], ◌∷◌, ◌++◌, map, append_assoc}
use Rattle.qs_lex.specs.declared.token.Token.{Token}
use Rattle.qs_lex.specs.declared.token.Word.TheVariants.{Graphe, Fin}
use Rattle.qs_lex.specs.Grammar.{a_node_mark, the_word, opening, closing, comma, plus, stop, sort_of}
use Rattle.qs_tree.specs.declared.cell.Label.{Label}
use Rattle.qs_tree.specs.Text.{name_of}
use Rattle.qs_tree.specs.Trees.{Forest, no_tree, first_tree, Tree}
use Rattle.qs_ruletext.proofs.LabelTexts.{HaveTextsUpTo, PassesLabels, passes_nothing, passes_label, passes_sign, passes_both, passes_same, passes_before}
use Rattle.qs_graphtext.specs.WrittenChains.{WrittenChain}
use Rattle.qs_graphtext.specs.GraphOfChains.{trees_in}
use Rattle.qs_graphtext.specs.Reading.{ReadsPlain, reads_plain, ReadsSubtrees, no_parentheses, nothing_inside, plains_inside, ReadsPlains, reads_plains, ReadsMorePlains, no_more_plains, one_more_plain, ReadsRooted, reads_rooted, ReadsTrees, reads_trees, ReadsMoreTrees, no_more_trees, one_more_tree, ReadsChain, reads_chain, ReadsChains, reads_chains, ReadsMoreChains, no_more_chains, one_more_chain, ReadsGraph, reads_graph}

-- the labels of trees in the order in which they are written: that of a root, those of its subtrees, those of the trees behind
abbrev pub labels_in_forest : Forest → List Label
labels_in_forest no_tree = []
labels_in_forest (first_tree l k r) = l ∷ (labels_in_forest k ++ labels_in_forest r)

abbrev pub labels_in_tree : Tree → List Label
labels_in_tree t = t.root ∷ labels_in_forest t.subtrees

abbrev pub labels_in_trees : List Tree → List Label
labels_in_trees [] = []
labels_in_trees (t ∷ ts) = labels_in_tree t ++ labels_in_trees ts

-- those of trees behind trees
pub labels_together : (ts us : List Tree) → labels_in_trees (ts ++ us) ≡ labels_in_trees ts ++ labels_in_trees us
labels_together [] us = refl
labels_together (t ∷ ts) us = ap (λ ls. labels_in_tree t ++ ls) (labels_together ts us) ∙ sym (append_assoc (labels_in_tree t) (labels_in_trees ts) (labels_in_trees us))

mutual
  pub plain_passes : {names : List (List ℕ)} {text : List ℕ} {ts rest : List Token} {t : Tree} → ReadsPlain names text ts t rest → PassesLabels names text ts (labels_in_tree t) rest
  plain_passes (reads_plain is below) = passes_both (passes_label is) (subtrees_pass below)

  subtrees_pass : {names : List (List ℕ)} {text : List ℕ} {ts rest : List Token} {f : Forest} → ReadsSubtrees names text ts f rest → PassesLabels names text ts (labels_in_forest f) rest
  subtrees_pass no_parentheses = passes_nothing
  subtrees_pass (nothing_inside e f) = passes_both (passes_sign opening refl e) (passes_sign closing refl f)
  subtrees_pass (plains_inside e p f) = passes_both (passes_sign opening refl e) (passes_before closing refl (plains_pass p) f)

  plains_pass : {names : List (List ℕ)} {text : List ℕ} {ts rest : List Token} {f : Forest} → ReadsPlains names text ts f rest → PassesLabels names text ts (labels_in_forest f) rest
  plains_pass (reads_plains first more) = passes_both (plain_passes first) (more_plains_pass more)

  more_plains_pass : {names : List (List ℕ)} {text : List ℕ} {ts rest : List Token} {f : Forest} → ReadsMorePlains names text ts f rest → PassesLabels names text ts (labels_in_forest f) rest
  more_plains_pass no_more_plains = passes_nothing
  more_plains_pass (one_more_plain e next more) = passes_both (passes_sign comma refl e) (passes_both (plain_passes next) (more_plains_pass more))

rooted_passes : {names : List (List ℕ)} {text : List ℕ} {ts rest : List Token} {t : Tree} {byte : ℕ} → ReadsRooted names text ts t byte rest → PassesLabels names text ts (labels_in_tree t) rest
rooted_passes (reads_rooted r) = plain_passes r

more_trees_pass : {names : List (List ℕ)} {text : List ℕ} {ts rest : List Token} {trees : List Tree} {at : List ℕ} → ReadsMoreTrees names text ts trees at rest
    → PassesLabels names text ts (labels_in_trees trees) rest
more_trees_pass no_more_trees = passes_nothing
more_trees_pass (one_more_tree e next more) = passes_both (passes_sign plus refl e) (passes_both (rooted_passes next) (more_trees_pass more))

trees_pass : {names : List (List ℕ)} {text : List ℕ} {ts rest : List Token} {trees : List Tree} {at : List ℕ} → ReadsTrees names text ts trees at rest
    → PassesLabels names text ts (labels_in_trees trees) rest
trees_pass (reads_trees first more) = passes_both (rooted_passes first) (more_trees_pass more)

chain_passes : {names : List (List ℕ)} {text : List ℕ} {ts rest : List Token} {c : WrittenChain} → ReadsChain names text ts c rest → PassesLabels names text ts (labels_in_trees c.trees) rest
chain_passes (reads_chain is trees last stops) =
    passes_both (passes_sign a_node_mark refl (ap sort_of is)) (passes_before stop refl (passes_before a_node_mark refl (trees_pass trees) (ap sort_of last)) stops)

more_chains_pass : {names : List (List ℕ)} {text : List ℕ} {ts rest : List Token} {chains : List WrittenChain} → ReadsMoreChains names text ts chains rest
    → PassesLabels names text ts (labels_in_trees (trees_in chains)) rest
more_chains_pass no_more_chains = passes_nothing
more_chains_pass (one_more_chain {next} {behind} chain more) =
    passes_same (sym (labels_together next.trees (trees_in behind))) (passes_both (chain_passes chain) (more_chains_pass more))

chains_pass : {names : List (List ℕ)} {text : List ℕ} {ts rest : List Token} {chains : List WrittenChain} → ReadsChains names text ts chains rest
    → PassesLabels names text ts (labels_in_trees (trees_in chains)) rest
chains_pass (reads_chains {first} {behind} chain more) =
    passes_same (sym (labels_together first.trees (trees_in behind))) (passes_both (chain_passes chain) (more_chains_pass more))

pub graph_passes : {names : List (List ℕ)} {text : List ℕ} {ts rest : List Token} {chains : List WrittenChain} → ReadsGraph names text ts chains rest
    → PassesLabels names text ts (labels_in_trees (trees_in chains)) rest
graph_passes (reads_graph e chains f) = passes_both (passes_sign (the_word Graphe) refl e) (passes_before (the_word Fin) refl (chains_pass chains) f)

-- the label tokens of a graph have the texts of the labels of its trees
pub graph_texts : {names : List (List ℕ)} {text : List ℕ} {ts rest : List Token} {chains : List WrittenChain} → ReadsGraph names text ts chains rest
    → HaveTextsUpTo text ts rest (map (name_of names) (labels_in_trees (trees_in chains)))
graph_texts reads = let found = graph_passes reads in (found.passed, found.are, found.texts)
