-- Graphs that are written are read as chains of their arcs, wherever they stand in a text.
use Rattle.std.proofs.Common.{◌≡◌, ℕ, ◌<◌, ◌≤◌, refl, sym, ap, ◌∙◌, subst, inl, inr, List, [], ◌∷◌, ◌++◌, length, arith, codes}
use Rattle.std.specs.List.{flat_map}
use Rattle.qs_lex.specs.Limits.{most_node_number}
use Rattle.qs_lex.specs.declared.token.Token.{Token}
use Rattle.qs_lex.specs.declared.token.Kind.TheVariants.{Node, Word as a_word, Stop}
use Rattle.qs_lex.specs.declared.token.Word.TheVariants.{Graphe, Fin}
use Rattle.qs_lex.specs.Grammar.{sort_of}
use Rattle.qs_tree.specs.Lists.{◌∈◌}
use Rattle.qs_tree.specs.Text.{tree_text, IsNamed}
use Rattle.qs_graph.specs.Graphs.{Arc, QGraph}
use Rattle.qs_ruletext.specs.Written.{AreOnOneLine}
use Rattle.qs_ruletext.proofs.ReadBack.{Goes, IsOne, Both, both, turned, nothing, space, end_of_line, token, first_version}
use Rattle.qs_graphtext.specs.WrittenChains.{WrittenChain}
use Rattle.qs_graphtext.specs.Texts.{line, node_mark, arc_line, graph_text}
use Rattle.qs_graphtext.specs.ChainsOfArcs.{IsChainOf, AreChainsOf}
use Rattle.qs_graphtext.specs.Reading.{ReadsRooted, reads_trees, no_more_trees, ReadsChain, reads_chain, ReadsMoreChains, no_more_chains, one_more_chain, ReadsChains, reads_chains, ReadsGraph, reads_graph}
use Rattle.qs_graphtext.proofs.TreesReadBack.{tree_goes}

-- what is asked of an arc, so that it can be written
pub record IsWritable (n : ℕ) (arc : Arc) : Type 0 where
  pub from : (1 ≤ arc.from) × (arc.from ≤ most_node_number)
  pub to : (1 ≤ arc.to) × (arc.to ≤ most_node_number)
  pub named : IsNamed n arc.tree

module _ (text : List ℕ) where
  -- something and the end of its line
  pub lined : {Are : List Token → List Token → Type 0} → (piece left : List ℕ) → Goes text Are piece (codes "\n" ++ left) → Goes text Are (line piece) left
  lined {Are} piece left goes =
      turned text (piece ++ codes "\n") left (λ ts rest x. subst (λ us. Are ts us) x.2 x.1) (both text piece (codes "\n") left goes (end_of_line text left))

  mark_goes : (n : ℕ) (left : List ℕ) → (1 ≤ n) × (n ≤ most_node_number) → Goes text (IsOne text (Node n) (node_mark n)) (node_mark n) left
  mark_goes n left fits = token text (Node n) tt (node_mark n) left (fits.0, fits.1, refl) tt refl

module _ (names : List (List ℕ)) (text : List ℕ) where
  -- these tokens are read as the chain of this arc
  abbrev AreArc : Arc → List Token → List Token → Type 0
  AreArc arc ts rest = (chain : WrittenChain) × IsChainOf arc chain × ReadsChain names text ts chain rest

  -- these are read as the chains of these arcs
  abbrev AreArcs : List Arc → List Token → List Token → Type 0
  AreArcs arcs ts rest = (chains : List WrittenChain) × AreChainsOf arcs chains × ReadsMoreChains names text ts chains rest

  -- and these as a graph of the chains of these arcs
  abbrev pub AreGraph : List Arc → List Token → List Token → Type 0
  AreGraph arcs ts rest = (chains : List WrittenChain) × AreChainsOf arcs chains × ReadsGraph names text ts chains rest

  -- a mark, a tree, a mark and a stop
  arc_read : (arc : Arc) (t u v : Token) (ts middle rest : List Token) (byte : ℕ) → t.kind ≡ Node arc.from → ReadsRooted names text ts arc.tree byte middle → middle ≡ u ∷ v ∷ rest
      → u.kind ≡ Node arc.to → v.kind ≡ Stop → AreArc arc (t ∷ ts) rest
  arc_read arc t u v ts middle rest byte from tree e to stops =
      let trees = subst (λ us. ReadsRooted names text ts arc.tree byte us) e tree in (
        record { from = arc.from; trees = arc.tree ∷ []; to = arc.to; at = byte ∷ [] },
        record { from = refl; trees = refl; to = refl },
        reads_chain from (reads_trees trees no_more_trees) to (ap sort_of stops),
      )

  one_arc : (arc : Arc) (arcs : List Arc) (ts rest : List Token) → Both (AreArc arc) (AreArcs arcs) ts rest → AreArcs (arc ∷ arcs) ts rest
  one_arc arc arcs ts rest x = (x.1.0 ∷ x.2.0, (x.1.1, x.2.1), one_more_chain x.1.2 x.2.2)

  some_chains : {ts rest : List Token} (arcs : List Arc) (chains : List WrittenChain) → 0 < length arcs → AreChainsOf arcs chains → ReadsMoreChains names text ts chains rest → ReadsChains names text ts chains rest
  some_chains [] chains some are r = absurd (omega (arith, some))
  some_chains (arc ∷ arcs) [] some are r = absurd are
  some_chains (arc ∷ arcs) (chain ∷ chains) some are (one_more_chain next more) = reads_chains next more

  module _ (names_line : AreOnOneLine names) where
    arc_goes : (arc : Arc) → IsWritable (length names) arc → (left : List ℕ) → Goes text (AreArc arc) (arc_line names arc) left
    arc_goes arc w left =
        let end : List ℕ = codes "\n" ++ left in
        let last : List ℕ = node_mark arc.to ++ codes "." in
        let behind_tree : List ℕ = codes " " ++ last in
        let tree : List ℕ = tree_text names arc.tree in
        let behind_mark : List ℕ = codes " " ++ (tree ++ behind_tree) in
        lined text (node_mark arc.from ++ behind_mark) left
        (turned text (node_mark arc.from ++ behind_mark) end
        (λ ts rest x.
        let from = x.1 in
        let to = x.2.2.2.2.1 in
        let stops = x.2.2.2.2.2 in
        let e = x.2.2.2.1 ∙ to.1 ∙ ap (λ us. to.0 ∷ us) stops.1 in
        subst (λ us. AreArc arc us rest) (sym (from.1 ∙ ap (λ us. from.0 ∷ us) x.2.1))
        (arc_read arc from.0 to.0 stops.0 x.2.0 x.2.2.0 rest x.2.2.1.0 from.2 x.2.2.1.1 e to.2 stops.2))
        (both text (node_mark arc.from) behind_mark end
        (mark_goes text arc.from (behind_mark ++ end) w.from)
        (both text (codes " ") (tree ++ behind_tree) end
        (space text ((tree ++ behind_tree) ++ end))
        (both text tree behind_tree end
        (tree_goes names text names_line arc.tree w.named (behind_tree ++ end) refl)
        (both text (codes " ") last end
        (space text (last ++ end))
        (both text (node_mark arc.to) (codes ".") end
        (mark_goes text arc.to (codes "." ++ end) w.to)
        (token text Stop tt (codes ".") end refl tt refl)))))))

    arcs_go : (arcs : List Arc) → ((arc : Arc) → arc ∈ arcs → IsWritable (length names) arc) → (left : List ℕ) → Goes text (AreArcs arcs) (flat_map (arc_line names) arcs) left
    arcs_go [] w left = turned text [] left (λ ts rest e. ([], tt, subst (λ us. ReadsMoreChains names text ts [] us) e no_more_chains)) (nothing text left)
    arcs_go (arc ∷ arcs) w left =
        let others : List ℕ = flat_map (arc_line names) arcs in
        turned text (arc_line names arc ++ others) left (one_arc arc arcs)
        (both text (arc_line names arc) others left (arc_goes arc (w arc (inl refl)) (others ++ left)) (arcs_go arcs (λ other i. w other (inr i)) left))

    -- whatever follows: a graph ends with the end of a line
    pub graph_goes : (G : QGraph) → 0 < length G.arcs → ((arc : Arc) → arc ∈ G.arcs → IsWritable (length names) arc) → (left : List ℕ) → Goes text (AreGraph G.arcs) (graph_text names G) left
    graph_goes G some w left =
        let arcs : List ℕ = flat_map (arc_line names) G.arcs in
        let end : List ℕ = line (codes "-FIN-") in
        turned text (line (codes "-GRAPHE-") ++ (arcs ++ end)) left
        (λ ts rest x.
        let first = x.1 in
        let chains = x.2.1 in
        let last = x.2.2 in
        let reads = some_chains G.arcs chains.0 some chains.1 (subst (λ us. ReadsMoreChains names text x.0 chains.0 us) last.1 chains.2) in
        (chains.0, chains.1, subst (λ us. ReadsGraph names text us chains.0 rest) (sym first.1) (reads_graph (ap sort_of first.2) reads (ap sort_of last.2))))
        (both text (line (codes "-GRAPHE-")) (arcs ++ end) left
        (lined text (codes "-GRAPHE-") ((arcs ++ end) ++ left) (token text (a_word Graphe) (first_version text) (codes "-GRAPHE-") (codes "\n" ++ ((arcs ++ end) ++ left)) refl tt refl))
        (both text arcs end left
        (arcs_go G.arcs w (end ++ left))
        (lined text (codes "-FIN-") left (token text (a_word Fin) (first_version text) (codes "-FIN-") (codes "\n" ++ left) refl tt refl))))
