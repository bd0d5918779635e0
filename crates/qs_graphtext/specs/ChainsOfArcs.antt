-- Chains that are arcs, as a graph is written: each has one tree.
use Rattle.std.specs.Prelude.{◌≡◌, ℕ, List, [], ◌∷◌}
use Rattle.qs_lex.specs.declared.token.Token.{Token}
use Rattle.qs_graph.specs.Graphs.{Arc, QGraph}
use Rattle.qs_graphtext.specs.WrittenChains.{WrittenChain}
use Rattle.qs_graphtext.specs.Reading.{ReadsGraph}
use Rattle.qs_graphtext.specs.GraphOfChains.{graph_of}

-- The chain leads between the nodes of the arc, and has its tree alone.
pub record IsChainOf (arc : Arc) (chain : WrittenChain) : Type 0 where
  pub from : chain.from ≡ arc.from
  pub trees : chain.trees ≡ arc.tree ∷ []
  pub to : chain.to ≡ arc.to

-- There is one chain for each arc, in the same order.
abbrev pub AreChainsOf : List Arc → List WrittenChain → Type 0
AreChainsOf [] [] = Unit {0}
AreChainsOf [] (chain ∷ chains) = ⊥
AreChainsOf (arc ∷ arcs) [] = ⊥
AreChainsOf (arc ∷ arcs) (chain ∷ chains) = IsChainOf arc chain × AreChainsOf arcs chains

-- The tokens before the rest are read as chains, one for each arc of the graph, and these make the graph.
pub record ReadsBack (names : List (List ℕ)) (text : List ℕ) (tokens : List Token) (G : QGraph)
    (rest : List Token) : Type 0 where
  pub chains : List WrittenChain
  pub reads : ReadsGraph names text tokens chains rest
  pub of_arcs : AreChainsOf G.arcs chains
  pub makes : graph_of chains ≡ G
