-- What is read of the trees of a graph is no higher than its tokens allow, and what is written of them opens as many
-- parentheses as their heights tell, and no more.
use Rattle.std.proofs.Common.{◌≡◌, ℕ, suc, ◌+◌, ◌≤◌, refl, ap, inl, inr, List, [], ◌∷◌, ◌++◌, length, map, arith, codes}
use Rattle.std.specs.Prelude.{max}
use Rattle.std.specs.List.{flat_map}
use Rattle.qs_lex.specs.Limits.{most_open, most_node_number}
use Rattle.qs_lex.specs.declared.token.Token.{Token}
use Rattle.qs_lex.specs.declared.token.Kind.TheVariants.{Comma, Stop, Node, Word as a_word}
use Rattle.qs_lex.specs.declared.token.Word.TheVariants.{Graphe, Fin}
use Rattle.qs_lex.specs.Grammar.{a_node_mark, the_word, comma, plus, stop, sort_of}
use Rattle.qs_tree.specs.Lists.{◌∈◌}
use Rattle.qs_tree.specs.Trees.{Forest, no_tree, first_tree, Tree}
use Rattle.qs_tree.specs.Text.{name_of, label_text, in_parentheses, behind_comma, forest_text, tree_text, AreNamed, IsNamed}
use Rattle.qs_graph.specs.Graphs.{Arc, QGraph}
use Rattle.qs_pattern.specs.declared.pattern.Head.TheVariants as head
use Rattle.qs_ruletext.specs.Written.{AreOnOneLine}
use Rattle.qs_ruletext.proofs.ReadBack.{Goes, turned, space, end_of_line, token, first_version}
use Rattle.qs_ruletext.proofs.Nesting.{Fits}
use Rattle.qs_ruletext.proofs.NestingSteps.{keeps, head_keeps, Shows, shows_less, shows_none, shows_one, shows_both, shows_behind, shows_group, Opens, opens_none}
use Rattle.qs_ruletext.proofs.NestingWritten.{goes_less, none_goes, both_go, one_goes, group_goes, OpensUpTo, head_opens}
use Rattle.qs_graphtext.specs.WrittenChains.{WrittenChain}
use Rattle.qs_graphtext.specs.GraphOfChains.{trees_in}
use Rattle.qs_graphtext.specs.Texts.{line, node_mark, arc_line, graph_text}
use Rattle.qs_graphtext.specs.Reading.{ReadsPlain, reads_plain, ReadsSubtrees, no_parentheses, nothing_inside, plains_inside, ReadsPlains, reads_plains, ReadsMorePlains, no_more_plains, one_more_plain, ReadsRooted, reads_rooted, ReadsMoreTrees, no_more_trees, one_more_tree, ReadsTrees, reads_trees, ReadsChain, reads_chain, ReadsMoreChains, no_more_chains, one_more_chain, ReadsChains, reads_chains, ReadsGraph, reads_graph}
use Rattle.qs_graphtext.proofs.TreesReadBack.{below_closes, plain_closes}
use Rattle.qs_graphtext.proofs.GraphsReadBack.{IsWritable}

-- how many parentheses are open at most in what is written below a label, by how many are within the subtrees: none where there
-- is no subtree
abbrev pub below : Forest → ℕ → ℕ
below no_tree inside = 0
below (first_tree l k r) inside = suc inside

-- how many are open at most in what is written of trees, one behind the other; of a tree; and of the trees of a list
abbrev pub forest_height : Forest → ℕ
forest_height no_tree = 0
forest_height (first_tree l k r) = max (below k (forest_height k)) (forest_height r)

abbrev pub tree_height : Tree → ℕ
tree_height t = below t.subtrees (forest_height t.subtrees)

abbrev pub trees_height : List Tree → ℕ
trees_height [] = 0
trees_height (t ∷ ts) = max (tree_height t) (trees_height ts)

-- there are at most those within and the two around it
below_least : (trees : Forest) (inside : ℕ) → below trees inside ≤ suc inside
below_least no_tree inside = omega arith
below_least (first_tree l k r) inside = omega arith

-- trees behind trees
pub trees_height-append : (ts us : List Tree) → trees_height (ts ++ us) ≡ max (trees_height ts) (trees_height us)
trees_height-append [] us = omega arith
trees_height-append (t ∷ ts) us = omega (arith, trees_height-append ts us)

-- trees
mutual
  pub plain_shows : {names : List (List ℕ)} {text : List ℕ} {ts rest : List Token} {tree : Tree} → ReadsPlain names text ts tree rest → Shows (tree_height tree) ts rest
  plain_shows {names} {text} (reads_plain {t} {label} is subtrees) = shows_behind t (head_keeps names text t (head.Label label) is) (subtrees_show subtrees)

  subtrees_show : {names : List (List ℕ)} {text : List ℕ} {ts rest : List Token} {kids : Forest} → ReadsSubtrees names text ts kids rest → Shows (below kids (forest_height kids)) ts rest
  subtrees_show (no_parentheses {ts}) = shows_none ts
  subtrees_show (nothing_inside {t} {u} {rest} opens closes) = shows_less (shows_group t u opens (shows_none (u ∷ rest)) closes) (omega arith)
  subtrees_show (plains_inside {t} {u} {kids = kids} opens inside closes) = shows_less (shows_group t u opens (plains_show inside) closes) (below_least kids (forest_height kids))

  plains_show : {names : List (List ℕ)} {text : List ℕ} {ts rest : List Token} {trees : Forest} → ReadsPlains names text ts trees rest → Shows (forest_height trees) ts rest
  plains_show (reads_plains first more) = shows_both (plain_shows first) (more_plains_show more)

  more_plains_show : {names : List (List ℕ)} {text : List ℕ} {ts rest : List Token} {trees : Forest} → ReadsMorePlains names text ts trees rest → Shows (forest_height trees) ts rest
  more_plains_show (no_more_plains {ts}) = shows_none ts
  more_plains_show (one_more_plain {t} is next more) = shows_behind t (keeps comma t (λ n. refl) is) (shows_both (plain_shows next) (more_plains_show more))

-- chains
rooted_shows : {names : List (List ℕ)} {text : List ℕ} {ts rest : List Token} {tree : Tree} {byte : ℕ} → ReadsRooted names text ts tree byte rest → Shows (tree_height tree) ts rest
rooted_shows (reads_rooted r) = plain_shows r

more_trees_show : {names : List (List ℕ)} {text : List ℕ} {ts rest : List Token} {trees : List Tree} {at : List ℕ} → ReadsMoreTrees names text ts trees at rest → Shows (trees_height trees) ts rest
more_trees_show (no_more_trees {ts}) = shows_none ts
more_trees_show (one_more_tree {t} is next more) = shows_behind t (keeps plus t (λ n. refl) is) (shows_both (rooted_shows next) (more_trees_show more))

trees_show : {names : List (List ℕ)} {text : List ℕ} {ts rest : List Token} {trees : List Tree} {at : List ℕ} → ReadsTrees names text ts trees at rest → Shows (trees_height trees) ts rest
trees_show (reads_trees first more) = shows_both (rooted_shows first) (more_trees_show more)

chain_shows : {names : List (List ℕ)} {text : List ℕ} {ts rest : List Token} {chain : WrittenChain} → ReadsChain names text ts chain rest → Shows (trees_height chain.trees) ts rest
chain_shows (reads_chain {t} {u} {v} {rest = rest} from trees to stops) =
    shows_less
    (shows_behind t (keeps a_node_mark t (λ n. refl) (ap sort_of from)) (shows_both (trees_show trees) (shows_behind u (keeps a_node_mark u (λ n. refl) (ap sort_of to)) (shows_one v rest (keeps stop v (λ n. refl) stops)))))
    (omega arith)

more_chains_show : {names : List (List ℕ)} {text : List ℕ} {ts rest : List Token} {chains : List WrittenChain} → ReadsMoreChains names text ts chains rest → Shows (trees_height (trees_in chains)) ts rest
more_chains_show (no_more_chains {ts}) = shows_none ts
more_chains_show (one_more_chain {next = next} {behind = behind} chain more) =
    shows_less (shows_both (chain_shows chain) (more_chains_show more)) (omega (arith, trees_height-append next.trees (trees_in behind)))

chains_show : {names : List (List ℕ)} {text : List ℕ} {ts rest : List Token} {chains : List WrittenChain} → ReadsChains names text ts chains rest → Shows (trees_height (trees_in chains)) ts rest
chains_show (reads_chains {first = first} {behind = behind} chain more) =
    shows_less (shows_both (chain_shows chain) (more_chains_show more)) (omega (arith, trees_height-append first.trees (trees_in behind)))

-- graphs
pub graph_shows : {names : List (List ℕ)} {text : List ℕ} {ts rest : List Token} {chains : List WrittenChain} → ReadsGraph names text ts chains rest → Shows (trees_height (trees_in chains)) ts rest
graph_shows (reads_graph {t} {u} {rest = rest} starts chains ends) =
    shows_less
    (shows_behind t (keeps (the_word Graphe) t (λ n. refl) starts) (shows_both (chains_show chains) (shows_one u rest (keeps (the_word Fin) u (λ n. refl) ends))))
    (omega arith)

-- the same in plain words: where the tokens of a graph fit, as many more parentheses as its trees need may be open
pub graph_read_fits : {names : List (List ℕ)} {text : List ℕ} {ts rest : List Token} {chains : List WrittenChain} → ReadsGraph names text ts chains rest
    → (depth : ℕ) → depth ≤ most_open → Fits depth ts → (trees_height (trees_in chains) + depth ≤ most_open) × Fits depth rest
graph_read_fits reads = (graph_shows reads).fits

module _ (text : List ℕ) where
  -- subtrees in parentheses, and trees behind a comma
  inside_go : (kids : Forest) (piece left : List ℕ) → OpensUpTo text (forest_height kids) piece → Goes text (Opens (below kids (forest_height kids))) (in_parentheses kids piece) left
  inside_go no_tree piece left go = none_goes text 0 left
  inside_go (first_tree l k r) piece left go = group_goes text piece left (go (codes ")" ++ left) refl)

  behind_go : (trees : Forest) (piece : List ℕ) → OpensUpTo text (forest_height trees) piece → OpensUpTo text (forest_height trees) (behind_comma trees piece)
  behind_go no_tree piece go left c = none_goes text 0 left
  behind_go (first_tree l k r) piece go left c =
      both_go text (codes ",") piece left (one_goes text _ Comma (codes ",") (codes ",") (piece ++ left) (λ m. refl) (token text Comma tt (codes ",") (piece ++ left) refl tt refl)) (go left c)

  -- something and the end of its line
  pub lined : {n : ℕ} (piece left : List ℕ) → Goes text (Opens n) piece (codes "\n" ++ left) → Goes text (Opens n) (line piece) left
  lined {n} piece left go = both_go text piece (codes "\n") left go (turned text (codes "\n") left (λ ts rest e. opens_none n e) (end_of_line text left))

  -- a space and a node mark open none
  space_goes : (n : ℕ) (left : List ℕ) → Goes text (Opens n) (codes " ") left
  space_goes n left = turned text (codes " ") left (λ ts rest e. opens_none n e) (space text left)

  mark_goes : (n number : ℕ) (left : List ℕ) → (1 ≤ number) × (number ≤ most_node_number) → Goes text (Opens n) (node_mark number) left
  mark_goes n number left fits = one_goes text n (Node number) (node_mark number) (node_mark number) left (λ m. refl) (token text (Node number) tt (node_mark number) left (fits.0, fits.1, refl) tt refl)

  module _ (names : List (List ℕ)) (names_line : AreOnOneLine names) where
    -- trees, a tree, and the arcs that carry them
    forest_opens : (trees : Forest) → AreNamed (length names) trees → OpensUpTo text (forest_height trees) (forest_text names trees)
    forest_opens no_tree named left c = none_goes text 0 left
    forest_opens (first_tree l k r) named left c =
        let name : List ℕ = label_text (name_of names l) in
        let inside : List ℕ = in_parentheses k (forest_text names k) in
        let others : List ℕ = behind_comma r (forest_text names r) in
        both_go text name (inside ++ others) left
        (head_opens text names names_line _ (head.Label l) named.0 tt ((inside ++ others) ++ left) (plain_closes k r (forest_text names k) (forest_text names r) left c))
        (both_go text inside others left
        (goes_less text inside (others ++ left) (inside_go k (forest_text names k) (others ++ left) (forest_opens k named.1)) (omega arith))
        (goes_less text others left (behind_go r (forest_text names r) (forest_opens r named.2) left c) (omega arith)))

    pub tree_opens : (tree : Tree) → IsNamed (length names) tree → OpensUpTo text (tree_height tree) (tree_text names tree)
    tree_opens tree named left c =
        let name : List ℕ = label_text (name_of names tree.root) in
        let inside : List ℕ = in_parentheses tree.subtrees (forest_text names tree.subtrees) in
        both_go text name inside left
        (head_opens text names names_line _ (head.Label tree.root) named.0 tt (inside ++ left) (below_closes tree.subtrees (forest_text names tree.subtrees) left c))
        (inside_go tree.subtrees (forest_text names tree.subtrees) left (forest_opens tree.subtrees named.1))

    arc_opens : (arc : Arc) → IsWritable (length names) arc → (left : List ℕ) → Goes text (Opens (tree_height arc.tree)) (arc_line names arc) left
    arc_opens arc w left =
        let end : List ℕ = codes "\n" ++ left in
        let last : List ℕ = node_mark arc.to ++ codes "." in
        let behind_tree : List ℕ = codes " " ++ last in
        let tree : List ℕ = tree_text names arc.tree in
        let behind_mark : List ℕ = codes " " ++ (tree ++ behind_tree) in
        lined (node_mark arc.from ++ behind_mark) left
        (both_go text (node_mark arc.from) behind_mark end
        (mark_goes _ arc.from (behind_mark ++ end) w.from)
        (both_go text (codes " ") (tree ++ behind_tree) end
        (space_goes _ ((tree ++ behind_tree) ++ end))
        (both_go text tree behind_tree end
        (tree_opens arc.tree w.named (behind_tree ++ end) refl)
        (both_go text (codes " ") last end
        (space_goes _ (last ++ end))
        (both_go text (node_mark arc.to) (codes ".") end
        (mark_goes _ arc.to (codes "." ++ end) w.to)
        (one_goes text _ Stop (codes ".") (codes ".") end (λ m. refl) (token text Stop tt (codes ".") end refl tt refl)))))))

    arcs_open : (arcs : List Arc) → ((arc : Arc) → arc ∈ arcs → IsWritable (length names) arc) → (left : List ℕ)
        → Goes text (Opens (trees_height (map (λ arc. arc.tree) arcs))) (flat_map (arc_line names) arcs) left
    arcs_open [] w left = none_goes text 0 left
    arcs_open (arc ∷ arcs) w left =
        let others : List ℕ = flat_map (arc_line names) arcs in
        both_go text (arc_line names arc) others left
        (goes_less text (arc_line names arc) (others ++ left) (arc_opens arc (w arc (inl refl)) (others ++ left)) (omega arith))
        (goes_less text others left (arcs_open arcs (λ other i. w other (inr i)) left) (omega arith))

    -- whatever follows: a graph ends with the end of a line
    pub graph_opens : (G : QGraph) → ((arc : Arc) → arc ∈ G.arcs → IsWritable (length names) arc) → (left : List ℕ)
        → Goes text (Opens (trees_height (map (λ arc. arc.tree) G.arcs))) (graph_text names G) left
    graph_opens G w left =
        let arcs : List ℕ = flat_map (arc_line names) G.arcs in
        let end : List ℕ = line (codes "-FIN-") in
        both_go text (line (codes "-GRAPHE-")) (arcs ++ end) left
        (lined (codes "-GRAPHE-") ((arcs ++ end) ++ left)
        (one_goes text _ (a_word Graphe) (codes "-GRAPHE-") (codes "-GRAPHE-") (codes "\n" ++ ((arcs ++ end) ++ left)) (λ m. refl) (token text (a_word Graphe) (first_version text) (codes "-GRAPHE-") (codes "\n" ++ ((arcs ++ end) ++ left)) refl tt refl)))
        (both_go text arcs end left
        (arcs_open G.arcs w (end ++ left))
        (lined (codes "-FIN-") left (one_goes text _ (a_word Fin) (codes "-FIN-") (codes "-FIN-") (codes "\n" ++ left) (λ m. refl) (token text (a_word Fin) (first_version text) (codes "-FIN-") (codes "\n" ++ left) refl tt refl))))

-- the same in plain words: where as many more parentheses as the trees need may be open, and what stands behind the graph fits,
-- the graph and what stands behind it do
pub graph_goes_fitting : (names : List (List ℕ)) (text : List ℕ) → AreOnOneLine names → (G : QGraph) → ((arc : Arc) → arc ∈ G.arcs → IsWritable (length names) arc) → (left : List ℕ)
    → Goes text (λ ts rest. (depth : ℕ) → trees_height (map (λ arc. arc.tree) G.arcs) + depth ≤ most_open → Fits depth rest → Fits depth ts) (graph_text names G) left
graph_goes_fitting names text names_line G w left = turned text (graph_text names G) left (λ ts rest o. o.fits) (graph_opens text names names_line G w left)
