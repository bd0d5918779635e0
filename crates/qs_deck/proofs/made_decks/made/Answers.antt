use Rattle.qs_deck.proofs.MadeLemmas.{systems_named, graph_named}
use Rattle.qs_deck.proofs.made_decks.made.Goals as goal

pub invariant_of-result : goal.invariant_of-result
invariant_of-result c = record {
  systems_named = systems_named c.args.size c.in_ok-names.names c.new-systems.result.items c.push.new.self.items c.in_ok-made_grammar.field-0 c.in_ok-names.ensures c.new-systems.ensures.items c.in_ok-push.ensures.items c.in_ok-made_grammar.ensures;
  graph_named = graph_named c.args.size c.in_ok-names.names c.in_ok-graph.graph c.in_ok-names.ensures c.in_ok-graph.ensures;
}
