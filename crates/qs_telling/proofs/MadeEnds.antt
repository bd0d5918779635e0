-- The made deck has one grammar, and its graph is small.
use Rattle.std.proofs.Common.{◌≡◌, ℕ, ◌^◌, ◌≤◌, List, [], ◌∷◌, length, map, get_or, ◌∙◌, ap, arith}
use Rattle.std.proofs.Math.Pow.{pow_mono}
use Rattle.std.proofs.lemmas.List.FromFn.{length-map-range_with_len}
use Rattle.qs_graph.specs.Graphs.{QGraph}
use Rattle.qs_graph.proofs.Lines.{length-chain}
use Rattle.qs_deck.specs.declared.system.System.{System}
use Rattle.qs_deck.specs.Decks.{Grammar, grammar_of}
use Rattle.qs_deck.specs.MadeDecks.{made_graph, word_tree, words}

-- the made graph is small
pub made_arcs : (k : ℕ) (graph : QGraph) → k ≤ 13 → graph ≡ made_graph k → length graph.arcs ≤ 8192
made_arcs k graph low is =
    omega (arith, ap (λ (G : QGraph). length G.arcs) is, length-chain 1 (map (word_tree k) (words k)) 3 2, length-map-range_with_len (word_tree k) 1 (2 ^ k), pow_mono low)

pub made_nodes : (k : ℕ) (graph : QGraph) → k ≤ 13 → graph ≡ made_graph k → graph.nodes ≤ 8194
made_nodes k graph low is = omega (arith, ap (λ (G : QGraph). G.nodes) is, length-map-range_with_len (word_tree k) 1 (2 ^ k), pow_mono low)

-- the one grammar
pub only_grammar : (systems : List System) (grammar : Grammar) (system : System) → map grammar_of systems ≡ grammar ∷ [] → system ≡ get_or systems 0 system → grammar_of system ≡ grammar
only_grammar [] grammar system same is = absurd (omega (arith, ap length same))
only_grammar (first ∷ others) grammar system same is = ap grammar_of is ∙ ap (λ grammars. get_or grammars 0 grammar) same

pub some_grammar : (systems : List System) (grammar : Grammar) → map grammar_of systems ≡ grammar ∷ [] → 1 ≤ length systems
some_grammar [] grammar same = absurd (omega (arith, ap length same))
some_grammar (first ∷ others) grammar same = omega arith
