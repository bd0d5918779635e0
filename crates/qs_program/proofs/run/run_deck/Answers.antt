use Rattle.std.proofs.Common.{List, map, refl, sym, subst}
use Rattle.qs_deck.specs.declared.system.System.{System}
use Rattle.qs_deck.specs.Decks.{grammar_of, IsDeckOf}
use Rattle.qs_deck.specs.Named.{AreSystemsNamed}
use Rattle.qs_deck.proofs.DecksAccepted.{deck_accepted}
use Rattle.qs_program.specs.working.Cascading.{DeliversCascade}
use Rattle.qs_program.proofs.Starting.{deck_can_go_on}
use Rattle.qs_program.proofs.run.run_deck.Goals as goal

pub cascade-requires-clause-named : goal.cascade-requires-clause-named
cascade-requires-clause-named g c = subst (AreSystemsNamed _) (sym c.deref.ensures.value) c.args.deck.systems_named

pub cascade-requires-clause-accepted : goal.cascade-requires-clause-accepted
cascade-requires-clause-accepted g c =
    deck_accepted (subst (λ (systems : List System). IsDeckOf c.requires.deck.0 c.args.deck.version c.args.deck.names (map grammar_of systems) c.args.deck.graph) (sym c.deref.ensures.value) c.requires.deck.1)

pub cascade-requires-clause-can_go_on : goal.cascade-requires-clause-can_go_on
cascade-requires-clause-can_go_on g c =
    deck_can_go_on (subst (λ (systems : List System). IsDeckOf c.requires.deck.0 c.args.deck.version c.args.deck.names (map grammar_of systems) c.args.deck.graph) (sym c.deref.ensures.value) c.requires.deck.1)
    c.deref.result.now refl c.args.deck.graph_named

pub returns-clause-delivers : goal.returns-clause-delivers
returns-clause-delivers g c =
    subst (λ (systems : List System). DeliversCascade c.args.telling c.args.limit c.args.deck.names c.args.deck.graph (map grammar_of systems) (g.K.Sink.written c.args.sink.now) (g.K.Sink.written c.cascade.new.sink) c.cascade.result) c.deref.ensures.value c.cascade.ensures.delivers
