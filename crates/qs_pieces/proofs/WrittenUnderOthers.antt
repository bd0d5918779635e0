-- What is written of a thing under some names is what is written under others that hold the same texts, where its labels have
-- the numbers of their texts among these.
use Rattle.std.proofs.Common.{◌≡◌, ℕ, ◌<◌, refl, sym, ◌∙◌, ap, inl, inr, List, [], ◌∷◌, ◌++◌, length, map, flat_map, codes, decimal, get_or, Some, slice_get}
use Rattle.std.specs.Prelude.{unwrap_or}
use Rattle.std.proofs.lemmas.Option.{slice_get-get_or}
use Rattle.qs_tree.specs.declared.cell.Label.{Label}
use Rattle.qs_tree.specs.Lists.{◌∈◌}
use Rattle.qs_tree.specs.Trees.{Forest, no_tree, first_tree, Tree}
use Rattle.qs_tree.specs.Text.{label_text, name_of, in_parentheses, behind_comma, forest_text, tree_text, AreNamed, IsNamed}
use Rattle.qs_graph.specs.Graphs.{Arc, QGraph}
use Rattle.qs_graphtext.specs.Texts.{line, node_mark, arc_line, graph_text, AreArcsNamed}
use Rattle.qs_clean.specs.Cascades.{Left, a_graph, no_arc, over}
use Rattle.qs_clean.specs.Renaming.{renamed_label, renamed_forest, renamed_tree, renamed_arc, renamed_graph, renamed_left}
use Rattle.qs_deck.specs.Decks.{Grammar}
use Rattle.qs_telling.specs.Texts.{title_line, counted_line}
use Rattle.qs_telling.specs.Outcomes.{block, blocks}
use Rattle.qs_pieces.proofs.RenamedGrammars.{Carries, renamed_grammar, IsLeftNamed}

module _ (g : ℕ → ℕ) (others names : List (List ℕ)) (carries : Carries g others names) where
  -- the text of a label is that of the label by g among the names
  pub name_under : (l : Label) → l.0 < length others → name_of names (renamed_label g l) ≡ name_of others l
  name_under l within =
      let there : slice_get others l.0 ≡ Some (get_or others l.0 []) = slice_get-get_or others l.0 [] within in
      ap (λ found. unwrap_or found []) (carries l.0 (get_or others l.0 []) there ∙ sym there)

  -- there are trees in the same places
  same_parentheses : (t : Forest) (text : List ℕ) → in_parentheses (renamed_forest g t) text ≡ in_parentheses t text
  same_parentheses no_tree text = refl
  same_parentheses (first_tree l k r) text = refl

  same_comma : (t : Forest) (text : List ℕ) → behind_comma (renamed_forest g t) text ≡ behind_comma t text
  same_comma no_tree text = refl
  same_comma (first_tree l k r) text = refl

  -- trees
  forest_text_under : (t : Forest) → AreNamed (length others) t → forest_text names (renamed_forest g t) ≡ forest_text others t
  forest_text_under no_tree named = refl
  forest_text_under (first_tree l k r) named =
      let below = same_parentheses k (forest_text names (renamed_forest g k)) ∙ ap (in_parentheses k) (forest_text_under k named.1) in
      let behind = same_comma r (forest_text names (renamed_forest g r)) ∙ ap (behind_comma r) (forest_text_under r named.2) in
      λ i. label_text (name_under l named.0 i) ++ (below i ++ behind i)

  pub tree_text_under : (tree : Tree) → IsNamed (length others) tree → tree_text names (renamed_tree g tree) ≡ tree_text others tree
  tree_text_under tree named =
      let below = same_parentheses tree.subtrees (forest_text names (renamed_forest g tree.subtrees)) ∙ ap (in_parentheses tree.subtrees) (forest_text_under tree.subtrees named.1) in
      λ i. label_text (name_under tree.root named.0 i) ++ below i

  -- graphs
  arc_line_under : (arc : Arc) → IsNamed (length others) arc.tree → arc_line names (renamed_arc g arc) ≡ arc_line others arc
  arc_line_under arc named =
      ap (λ tree. line (node_mark arc.from ++ (codes " " ++ (tree ++ (codes " " ++ (node_mark arc.to ++ codes ".")))))) (tree_text_under arc.tree named)

  arc_lines_under : (arcs : List Arc) → AreArcsNamed (length others) arcs → flat_map (arc_line names) (map (renamed_arc g) arcs) ≡ flat_map (arc_line others) arcs
  arc_lines_under [] named = refl
  arc_lines_under (arc ∷ arcs) named =
      let first = arc_line_under arc (named arc (inl refl)) in
      let behind = arc_lines_under arcs (λ other i. named other (inr i)) in
      λ i. first i ++ behind i

  pub graph_text_under : (G : QGraph) → AreArcsNamed (length others) G.arcs → graph_text names (renamed_graph g G) ≡ graph_text others G
  graph_text_under G named = ap (λ lines. line (codes "-GRAPHE-") ++ (lines ++ line (codes "-FIN-"))) (arc_lines_under G.arcs named)

  -- the blocks of grammars
  title_under : (name : Label) → name.0 < length others → title_line names (renamed_label g name) ≡ title_line others name
  title_under name named = ap (λ text. line (codes "# " ++ label_text text)) (name_under name named)

  counted_under : (name : Label) → name.0 < length others → (firings : ℕ) → counted_line names (renamed_label g name) firings ≡ counted_line others name firings
  counted_under name named firings = ap (λ text. line (codes "# " ++ (label_text text ++ (codes " " ++ decimal firings)))) (name_under name named)

  pub block_under : (limit : ℕ) (name : Label) → name.0 < length others → (left : Left) → IsLeftNamed (length others) left
      → block limit names (renamed_label g name) (renamed_left g left) ≡ block limit others name left
  block_under limit name named (a_graph firings G) of_left =
      let title = counted_under name named firings in
      let arcs = graph_text_under G of_left in
      λ i. title i ++ arcs i
  block_under limit name named (no_arc firings) of_left = ap (λ title. title ++ line (codes "-VIDE-.")) (counted_under name named firings)
  block_under limit name named over of_left = ap (λ title. title ++ line (codes "-LIMITE- " ++ (decimal limit ++ codes "."))) (title_under name named)

  pub blocks_under : (limit : ℕ) (grammars : List Grammar) (lefts : List Left)
      → ((grammar : Grammar) → grammar ∈ grammars → grammar.name.0 < length others)
      → ((left : Left) → left ∈ lefts → IsLeftNamed (length others) left)
      → blocks limit names (map (renamed_grammar g) grammars) (map (renamed_left g) lefts) ≡ blocks limit others grammars lefts
  blocks_under limit [] lefts named of_lefts = refl
  blocks_under limit (grammar ∷ grammars) [] named of_lefts = refl
  blocks_under limit (grammar ∷ grammars) (left ∷ lefts) named of_lefts =
      let first = block_under limit grammar.name (named grammar (inl refl)) left (of_lefts left (inl refl)) in
      let behind = blocks_under limit grammars lefts (λ other i. named other (inr i)) (λ other i. of_lefts other (inr i)) in
      λ i. first i ++ behind i
