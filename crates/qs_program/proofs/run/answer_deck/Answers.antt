use Rattle.std.proofs.Common.{List, map, sym, subst}
use Rattle.std.specs.Prelude.{IfOk}
use Rattle.qs_deck.specs.declared.system.System.{System}
use Rattle.qs_deck.specs.Decks.{grammar_of}
use Rattle.qs_deck.specs.Named.{AreSystemsNamed}
use Rattle.qs_telling.specs.LevelTexts.{TellsLevels}
use Rattle.qs_program.proofs.Ending.{cascade_defined, explanation_defined, check_defined, graph_defined, levels_defined, told_defined, written_defined}
use Rattle.qs_program.proofs.run.answer_deck.Goals as goal

pub run_deck-requires-clause-deck : goal.run_deck-requires-clause-deck
run_deck-requires-clause-deck g c = (c.args.bytes.now, c.in-Ok.ensures.deck)

pub returns-in-Run-clause-answered : goal.returns-in-Run-clause-answered
returns-in-Run-clause-answered g c =
    cascade_defined c.args.job.now c.args.bytes.now c.in-Ok.deck.version c.in-Ok.deck.names (map grammar_of c.in-Ok.deck.systems.items) c.in-Ok.deck.graph c.in-Ok.ensures.deck
    _ _ c.run_deck.result c.in-Run.is c.run_deck.ensures.delivers

pub returns-in-Explain-clause-answered : goal.returns-in-Explain-clause-answered
returns-in-Explain-clause-answered g c =
    explanation_defined c.args.job.now c.args.bytes.now c.in-Ok.deck.version c.in-Ok.deck.names (map grammar_of c.in-Ok.deck.systems.items) c.in-Ok.deck.graph c.in-Ok.ensures.deck
    _ _ c.run_deck-in-Explain.result c.in-Explain.is c.run_deck-in-Explain.ensures.delivers

pub returns-in-Check-clause-answered : goal.returns-in-Check-clause-answered
returns-in-Check-clause-answered g c =
    written_defined c.args.job.now c.args.bytes.now _ _ c.write_text-in-Check.result _ _
    (check_defined c.args.job.now c.args.bytes.now c.in-Ok.deck.version c.in-Ok.deck.names (map grammar_of c.in-Ok.deck.systems.items) c.in-Ok.deck.graph c.in-Ok.ensures.deck c.in-Check.is)
    c.deck_text.result c.deck_text.ensures c.write_text-in-Check.ensures.written

pub returns-in-Graph-clause-answered : goal.returns-in-Graph-clause-answered
returns-in-Graph-clause-answered g c =
    written_defined c.args.job.now c.args.bytes.now _ _ c.write_text-in-Graph.result _ _
    (graph_defined c.args.job.now c.args.bytes.now c.in-Ok.deck.version c.in-Ok.deck.names (map grammar_of c.in-Ok.deck.systems.items) c.in-Ok.deck.graph c.in-Ok.ensures.deck c.in-Graph.is)
    c.graph_text.result c.graph_text.ensures c.write_text-in-Graph.ensures.written

pub levels_text-requires : goal.levels_text-requires
levels_text-requires g c = subst (AreSystemsNamed _) (sym c.deref.ensures.value) c.in-Ok.deck.systems_named

pub returns-in-Levels-clause-answered : goal.returns-in-Levels-clause-answered
returns-in-Levels-clause-answered g c =
    told_defined (TellsLevels c.in-Ok.deck.names (map grammar_of c.in-Ok.deck.systems.items)) c.args.job.now c.args.bytes.now _ _ c.write_text-in-Levels.result _
    (levels_defined c.args.job.now c.args.bytes.now c.in-Ok.deck.version c.in-Ok.deck.names (map grammar_of c.in-Ok.deck.systems.items) c.in-Ok.deck.graph c.in-Ok.ensures.deck c.in-Levels.is)
    c.levels_text.result
    (subst (λ (systems : List System). IfOk c.levels_text.result (λ t. TellsLevels c.in-Ok.deck.names (map grammar_of systems) t.items)) c.deref.ensures.value c.levels_text.ensures)
    c.write_text-in-Levels.ensures.written
