-- What is written of names in UTF-8 is in UTF-8: trees and graphs.
use Rattle.std.proofs.Common.{ℕ, refl, List, [], ◌∷◌, ◌++◌, get_or, arith, codes, decimal, IsUtf8}
use Rattle.std.specs.List.{flat_map}
use Rattle.std.proofs.lemmas.Str.{IsUtf8-nil, IsUtf8-append}
use Rattle.qs_tree.specs.declared.cell.Label.{Label}
use Rattle.qs_tree.specs.Text.{name_of, label_text, in_parentheses, behind_comma, forest_text, tree_text}
use Rattle.qs_tree.specs.Trees.{Forest, no_tree, first_tree, Tree}
use Rattle.qs_graph.specs.Graphs.{Arc, QGraph}
use Rattle.qs_ruletext.proofs.NamesInUtf8.{AreUtf8, with_ascii_between}
use Rattle.qs_ruletext.proofs.TextsInUtf8.{with_ascii_first, ascii_is, flat_map_is, decimal_is, label_text_is, name_is}
use Rattle.qs_graphtext.specs.Texts.{line, node_mark, arc_line, graph_text}

-- a line, and the mark of a node, which is ASCII characters alone
pub line_is : (text : List ℕ) → IsUtf8 text → IsUtf8 (line text)
line_is text utf8 = IsUtf8-append text (codes "\n") utf8 (ascii_is (codes "\n") refl)

mark_is : (n : ℕ) → IsUtf8 (node_mark n)
mark_is n = IsUtf8-append (codes "-") (decimal n ++ codes "-") (ascii_is (codes "-") refl) (IsUtf8-append (decimal n) (codes "-") (decimal_is n) (ascii_is (codes "-") refl))

-- trees in parentheses, and behind a comma
inside_is : (kids : Forest) (text : List ℕ) → IsUtf8 text → IsUtf8 (in_parentheses kids text)
inside_is no_tree text utf8 = IsUtf8-nil
inside_is (first_tree l k r) text utf8 = with_ascii_first 40 (text ++ 41 ∷ []) (omega arith) (with_ascii_between text [] 41 (omega arith) utf8 IsUtf8-nil)

behind_is : (trees : Forest) (text : List ℕ) → IsUtf8 text → IsUtf8 (behind_comma trees text)
behind_is no_tree text utf8 = IsUtf8-nil
behind_is (first_tree l k r) text utf8 = with_ascii_first 44 text (omega arith) utf8

module _ (names : List (List ℕ)) (are : AreUtf8 names) where
  -- a label, a list of trees and a tree
  written_is : (l : Label) → IsUtf8 (label_text (name_of names l))
  written_is l = label_text_is (name_of names l) (name_is names l are)

  forest_text_is : (trees : Forest) → IsUtf8 (forest_text names trees)
  forest_text_is no_tree = IsUtf8-nil
  forest_text_is (first_tree l k r) =
      let kids : List ℕ = in_parentheses k (forest_text names k) in
      let others : List ℕ = behind_comma r (forest_text names r) in
      let behind : IsUtf8 (kids ++ others) = IsUtf8-append kids others (inside_is k (forest_text names k) (forest_text_is k)) (behind_is r (forest_text names r) (forest_text_is r)) in
      IsUtf8-append (label_text (name_of names l)) (kids ++ others) (written_is l) behind

  pub tree_text_is : (tree : Tree) → IsUtf8 (tree_text names tree)
  tree_text_is tree =
      let kids : List ℕ = in_parentheses tree.subtrees (forest_text names tree.subtrees) in
      IsUtf8-append (label_text (name_of names tree.root)) kids (written_is tree.root) (inside_is tree.subtrees (forest_text names tree.subtrees) (forest_text_is tree.subtrees))

  -- the line of an arc, and a graph
  arc_line_is : (arc : Arc) → IsUtf8 (arc_line names arc)
  arc_line_is arc =
      let to : List ℕ = node_mark arc.to ++ codes "." in
      let tree : List ℕ = tree_text names arc.tree in
      let from : List ℕ = node_mark arc.from in
      let space : IsUtf8 (codes " ") = ascii_is (codes " ") refl in
      let ends : IsUtf8 to = IsUtf8-append (node_mark arc.to) (codes ".") (mark_is arc.to) (ascii_is (codes ".") refl) in
      let spaced : IsUtf8 (codes " " ++ to) = IsUtf8-append (codes " ") to space ends in
      let follows : IsUtf8 (tree ++ (codes " " ++ to)) = IsUtf8-append tree (codes " " ++ to) (tree_text_is arc.tree) spaced in
      let begins : IsUtf8 (codes " " ++ (tree ++ (codes " " ++ to))) = IsUtf8-append (codes " ") (tree ++ (codes " " ++ to)) space follows in
      line_is (from ++ (codes " " ++ (tree ++ (codes " " ++ to)))) (IsUtf8-append from (codes " " ++ (tree ++ (codes " " ++ to))) (mark_is arc.from) begins)

  pub graph_text_is : (G : QGraph) → IsUtf8 (graph_text names G)
  graph_text_is G =
      let arcs : List ℕ = flat_map (arc_line names) G.arcs in
      let end : IsUtf8 (line (codes "-FIN-")) = line_is (codes "-FIN-") (ascii_is (codes "-FIN-") refl) in
      let lines : IsUtf8 (arcs ++ line (codes "-FIN-")) = IsUtf8-append arcs (line (codes "-FIN-")) (flat_map_is (arc_line names) G.arcs (λ k arc within. arc_line_is (get_or G.arcs k arc))) end in
      IsUtf8-append (line (codes "-GRAPHE-")) (arcs ++ line (codes "-FIN-")) (line_is (codes "-GRAPHE-") (ascii_is (codes "-GRAPHE-") refl)) lines
