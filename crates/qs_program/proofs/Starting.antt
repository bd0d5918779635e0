-- A deck that was read can be run, and what is delivered of it is what is defined.
use Rattle.std.proofs.Common.{◌≡◌, ℕ, ◌≤◌, List, length, map, ap, ◌∙◌, arith}
use Rattle.std.proofs.lemmas.List.{length-map}
use Rattle.qs_graph.specs.Graphs.{QGraph}
use Rattle.qs_graphtext.specs.Texts.{AreArcsNamed}
use Rattle.qs_graphtext.proofs.TreesLaid.{tree_on}
use Rattle.qs_deck.specs.declared.system.System.{System}
use Rattle.qs_deck.specs.WrittenDecks.{WrittenDeck}
use Rattle.qs_deck.specs.Decks.{Grammar, grammar_of, meaning_of, IsDeckOf}
use Rattle.qs_deck.proofs.DecksAccepted.{trees_on_arcs}
use Rattle.qs_telling.specs.working.Cascading.{CanGoOn}
use Rattle.qs_program.proofs.NodesFew.{nodes_few}

module _ {bytes : List ℕ} {version : ℕ} {names : List (List ℕ)} {grammars : List Grammar} {graph : QGraph} (is : IsDeckOf bytes version names grammars graph) where
  abbrev written : WrittenDeck
  written = is.written

  pub systems_few : length grammars ≤ 256
  systems_few = omega (arith, is.checked.few, ap length is.grammars_are, length-map written.systems meaning_of)

  pub arcs_few : length graph.arcs ≤ 65536
  arcs_few = omega (arith, is.few, ap length (trees_on_arcs written.chains graph is.graph_is), length-map graph.arcs tree_on)

  -- its grammars can be run
  pub deck_can_go_on : (systems : List System) → grammars ≡ map grammar_of systems → AreArcsNamed (length names) graph.arcs → CanGoOn names graph (length systems)
  deck_can_go_on systems same named =
      let count : length grammars ≡ length systems = ap length same ∙ length-map systems grammar_of in
      record {
        valid = is.valid;
        named = named;
        arcs = omega (arith, systems_few, arcs_few);
        nodes = omega (arith, systems_few, arcs_few, nodes_few graph is.valid);
      }
